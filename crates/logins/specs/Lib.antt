pub mod Owners
pub mod Logins
pub mod Checks
pub mod Rows
pub mod Tests
