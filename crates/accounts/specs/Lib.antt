pub mod Accounts
pub mod Journeys
pub mod Traces
