pub mod States
pub mod Crews
pub mod Frames
pub mod Tables
pub mod CutLists
pub mod Shown
pub mod Laws
pub mod SmallFrames
