pub mod Cabinets
pub mod Steps
pub mod Calls
pub mod Listings
pub mod Drawing
pub mod Driving
