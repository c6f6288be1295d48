pub mod Counts
pub mod Members
