pub mod Examples
pub mod Grammar
pub mod Numbers
pub mod Reading
pub mod Tokens
