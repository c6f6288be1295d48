pub mod Items
pub mod Groups
pub mod Rises
