pub mod Climbs
pub mod Counts
