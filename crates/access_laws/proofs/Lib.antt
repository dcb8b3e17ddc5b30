pub mod FirstChange
pub mod ListFollows
pub mod StopFollows
