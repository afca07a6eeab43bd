-- What the public contracts rest on.
pub mod Generated
pub mod Unfailing
