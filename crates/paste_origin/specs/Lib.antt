-- What the public contracts rest on.
pub mod Pasting
pub mod Strings
pub mod Refusals
-- What inner functions promise each other.
pub mod Told
