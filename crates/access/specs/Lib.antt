pub mod Meaning
pub mod Tables
pub mod Pairs
pub mod Makers
pub mod Stops
