pub mod Rising
pub mod Climbing
pub mod Single
