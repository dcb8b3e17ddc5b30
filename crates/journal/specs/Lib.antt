pub mod Areas
pub mod Numbers
pub mod Entries
pub mod Journals
pub mod Reading
pub mod Trips
