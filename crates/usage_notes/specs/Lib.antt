-- What the public contracts rest on.
pub mod Forms
pub mod Notes
