pub mod Answers
pub mod Tables
pub mod TablesLemmas
pub mod Held
