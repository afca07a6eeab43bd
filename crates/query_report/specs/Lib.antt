-- What the public contracts rest on.
pub mod TokensText
pub mod Order
pub mod Skipped
pub mod Queries
-- What inner functions promise each other.
pub mod Marks
pub mod Paths
