pub mod Few
pub mod Shift
