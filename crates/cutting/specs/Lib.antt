pub mod Searching
pub mod Deciding
