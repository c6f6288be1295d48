pub mod Gathered
pub mod Growth
pub mod Merging
