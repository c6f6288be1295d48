pub mod Gaps
pub mod Told
pub mod Shortened
