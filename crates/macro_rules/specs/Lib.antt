-- What the public contracts rest on.
pub mod Positions
pub mod Files
pub mod Levels
pub mod Macros
pub mod Counting
pub mod Lists
pub mod FileOffences
pub mod Offences
pub mod Edits
-- What inner functions promise each other.
pub mod Class
