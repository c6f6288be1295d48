pub mod Ends
pub mod Missing
pub mod Ordered
pub mod Own
pub mod Spelled
