-- What the public contracts rest on.
pub mod Tokens
pub mod Class
pub mod First
pub mod Answers
pub mod Refusals
pub mod Respelling
pub mod Moves
-- What inner functions promise each other.
pub mod Still
