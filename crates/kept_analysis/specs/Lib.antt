-- What the public contracts rest on.
pub mod Following
-- What inner functions promise each other.
pub mod Edits
