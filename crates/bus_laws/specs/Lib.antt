pub mod Topologies
pub mod Following
