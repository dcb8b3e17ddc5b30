pub mod Parts
pub mod Serving
