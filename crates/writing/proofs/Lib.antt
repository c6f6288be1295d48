pub mod Back
pub mod Lengths
