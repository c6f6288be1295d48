pub mod Grown
pub mod Lines
pub mod Merges
pub mod Pairs
pub mod Pigeons
pub mod Ready
pub mod Taken
pub mod Whole
