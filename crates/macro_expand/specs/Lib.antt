-- What the public contracts rest on.
pub mod Calls
pub mod Expansion
pub mod Renaming
pub mod Laws
pub mod Going
pub mod Following
pub mod Frames
-- Words of the crates below, passed on.
pub mod Below
