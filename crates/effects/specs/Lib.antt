pub mod Account
pub mod Drawn
pub mod Holders
pub mod Lists
pub mod Trace
