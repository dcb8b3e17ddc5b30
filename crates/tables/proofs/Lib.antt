pub mod Setting
pub mod Places
pub mod Sweeps
pub mod Counts
