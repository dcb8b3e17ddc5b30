pub mod Playing
pub mod Answering
