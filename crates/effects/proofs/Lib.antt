pub mod Joining
pub mod Marks
