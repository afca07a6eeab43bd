-- What the promise of a new order rests on.
pub mod Reordered
pub mod Reorder
-- What the public contracts rest on.
pub mod Staying
