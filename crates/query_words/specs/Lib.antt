-- What the public contracts rest on.
pub mod Attributes
pub mod Patterns
pub mod Queries
pub mod Satisfying
pub mod Reading
pub mod Grammar
pub mod Laws
-- What inner functions promise each other.
pub mod Walk
pub mod Steps
pub mod PlaceMarks
pub mod Telling
