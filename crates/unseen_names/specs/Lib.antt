-- What the public contracts rest on.
pub mod Pragmas
pub mod Words
pub mod Reach
pub mod Unseen
-- What inner functions promise each other.
pub mod Characters
pub mod Groups
