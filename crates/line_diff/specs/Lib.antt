-- What the public contracts rest on.
pub mod Lines
pub mod Rows
pub mod Hunks
pub mod FileText
pub mod Applied
pub mod Laws
-- What inner functions promise each other.
pub mod Pairs
