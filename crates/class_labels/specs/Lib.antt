-- What the public contracts rest on.
pub mod Labels
pub mod Table
pub mod Regrown
-- What a table over these labels says of many steps.
pub mod Chain
pub mod Runs
pub mod Walk
pub mod Weight
-- What inner functions promise each other.
pub mod Links
pub mod Held
