-- What the public contracts rest on.
pub use Rattle.class_labels.specs.Chain
pub use Rattle.class_labels.specs.Labels
pub use Rattle.class_labels.specs.Weight
pub mod Positions
pub mod ClassTable
pub mod Kept
pub mod Resized
pub mod History
pub mod Joined
-- What inner functions promise each other.
pub mod Settled
pub mod Wholeness
pub mod Places
