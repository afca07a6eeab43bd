-- What the public contracts rest on.
pub mod Respelled
pub mod Order
-- What inner functions promise each other.
pub mod Walk
