pub mod Targets
pub mod Plays
pub mod Exchanges
pub mod Answers
