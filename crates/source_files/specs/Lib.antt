-- What the public contracts rest on.
pub mod Limits
pub mod Files
pub mod Tables
pub mod Faults
pub mod Search
pub mod HeaderNames
pub mod Opening
pub mod Edited
pub mod KeptFiles
pub mod Answers
pub mod Slots
pub mod Statuses
pub mod FileTableFields
pub mod CacheFields
pub mod Sources
-- Words of the crates below, passed on.
pub mod Below
