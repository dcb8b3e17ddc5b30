pub mod Requests
pub mod Lines
