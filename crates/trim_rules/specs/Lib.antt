-- What the public contracts rest on.
pub mod Numbers
pub mod Inside
pub mod Defining
pub mod Staying
pub mod Trimmed
pub mod Reasons
pub mod JudgedLines
pub mod Made
-- What inner functions promise each other.
pub mod Lent
pub mod Mentions
pub mod Walks
pub mod Held
pub mod Judging
pub mod Gone
