-- What the public contracts rest on.
pub mod State
pub mod Reading
pub mod Alike
pub mod Fronts
-- What inner functions promise each other.
pub mod Again
pub mod FileScope
pub mod Standing
pub mod Children
pub mod Kept
pub mod OpenNode
pub mod Choosing
pub mod Sound
pub mod Levels
pub mod Leading
pub mod Leads
pub mod Operators
pub mod Answer
-- Words of the crates below, passed on.
pub mod Below
