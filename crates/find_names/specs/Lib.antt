-- What the public contracts rest on.
pub mod Keywords
pub mod Question
pub mod Satisfying
pub mod Found
pub mod Refusals
-- What inner functions promise each other.
pub mod FileTokens
pub mod RoleMarks
