pub mod Asking
pub mod Escaping
pub mod Surveying
pub mod Turns
