-- What the public contracts rest on.
pub mod Clause
pub mod Rows
pub mod Shared
