-- What the public contracts rest on.
pub mod Frames
pub mod Members
pub mod Initializers
pub mod Entering
pub mod Latest
pub mod Spellings
pub mod Links
pub mod Linked
pub mod Ranks
pub mod Chains
pub mod Places
