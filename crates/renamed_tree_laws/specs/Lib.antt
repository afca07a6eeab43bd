-- What the public contracts rest on.
pub mod Along
pub mod Respelled
pub mod ReadAlike
pub mod Loose
pub mod TreesAlike
