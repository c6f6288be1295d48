pub mod Fronts
pub mod Gather
pub mod Items
pub mod Laws
pub mod Numerals
pub mod Plates
pub mod Steps
pub mod Values
