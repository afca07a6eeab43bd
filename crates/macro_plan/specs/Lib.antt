-- What the public contracts rest on.
pub mod Macro
pub mod Kept
-- What inner functions promise each other.
pub mod Edited
