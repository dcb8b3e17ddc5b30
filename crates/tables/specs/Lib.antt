pub mod Records
pub mod Books
pub mod Searches
pub mod Events
