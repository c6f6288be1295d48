pub mod Lacking
pub mod Laws
pub mod Order
pub mod Rises
pub mod Signs
pub mod Spelling
