-- What the public contracts rest on.
pub mod Unnamed
pub mod Lines
