pub mod Fitting
pub mod Items
pub mod Placing
pub mod Written
