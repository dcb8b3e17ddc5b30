pub mod Growing
pub mod Padding
