-- What the public contracts rest on.
pub mod Causes
pub mod Linkage
pub mod Ordinary
pub mod Labels
pub mod Expressions
pub mod Roles
pub mod Walk
pub mod Bound
pub mod Names
pub mod Named
pub mod Moved
pub mod Carried
-- Words of lower floors.
pub mod Below
-- What inner functions promise each other.
pub mod Known
pub mod Marks
pub mod Told
pub mod Braced
