pub mod Covering
pub mod Completing
