pub mod Fronts
pub mod Codes
pub mod Finding
pub mod Entries
pub mod Seen
pub mod Journals
pub mod Writes
pub mod Again
