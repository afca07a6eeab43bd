-- What the public contracts rest on.
pub mod Request
pub mod Asking
pub mod Help
pub mod Message
pub mod Telling
