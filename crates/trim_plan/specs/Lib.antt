-- What the public contracts rest on.
pub mod Left
pub mod Trimmed
pub mod Kept
pub mod Stays
-- What inner functions promise each other.
pub mod Places
pub mod Children
pub mod Second
