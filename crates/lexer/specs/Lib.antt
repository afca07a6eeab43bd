-- What the public contracts rest on.
pub mod Characters
pub mod Logical
pub mod Spelling
pub mod Places
pub mod Tokens
pub mod Lines
pub mod Order
pub mod FileText
pub mod Refusal
pub mod OneToken
pub mod Respelling
pub mod KeptTokens
pub mod Inverse
-- What inner functions promise each other.
pub mod Walk
pub mod Front
pub mod Lone
pub mod LineTable
pub mod GoneTable
pub mod Scan
