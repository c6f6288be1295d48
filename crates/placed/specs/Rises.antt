-- Plates that rise, passed on from the crate groups. Assumes nothing.
pub use Rattle.groups.specs.Rises.{climbing}
