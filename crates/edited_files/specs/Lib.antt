-- What the public contracts rest on.
pub mod Edited
pub mod Applying
-- What contracts see of private fields.
pub mod Fields
