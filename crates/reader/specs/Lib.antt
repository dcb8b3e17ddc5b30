pub mod Ids
pub mod Refusals
pub mod Quadlets
pub mod Requests
pub mod Blocks
pub mod Links
pub mod Texts
