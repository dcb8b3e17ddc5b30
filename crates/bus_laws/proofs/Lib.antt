pub mod PortalFollows
pub mod Topologies
