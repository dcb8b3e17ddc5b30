pub mod Steps
pub mod Runs
pub mod Collecting
pub mod Drawing
pub mod Performing
