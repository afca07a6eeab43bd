-- What the public contracts rest on.
pub mod Inclusions
pub mod Order
pub mod Unneeded
pub mod Unused
-- What inner functions promise each other.
pub mod Spans
pub mod LastUses
pub mod Lines
