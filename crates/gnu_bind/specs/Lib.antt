-- What the public contracts rest on.
pub mod Words
pub mod Senses
pub mod Roles
pub mod Names
pub mod BlockLabels
pub mod Types
pub mod Alone
pub mod OpenLists
pub mod Walk
pub mod Bound
pub mod Standards
pub mod Fronts
-- Words of the crates below, passed on.
pub mod Below
