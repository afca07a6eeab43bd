-- What the public contracts rest on.
pub mod Hides
pub mod Macro
pub mod Live
pub mod Defining
pub mod Bodies
pub mod Notes
pub mod Substitution
pub mod Kept
pub mod Faults
pub mod Sound
pub mod BodyParts
pub mod ChainParts
pub mod PlainBodies
pub mod Costs
pub mod Pastable
-- Words of the crates below, passed on.
pub mod Below
