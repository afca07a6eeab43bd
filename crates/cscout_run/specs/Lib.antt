-- What the public contracts rest on.
pub mod Shapes
pub mod Asks
pub mod Trims
pub mod Answer
pub mod Outcome
pub mod Shown
pub mod Noted
pub mod Promise
pub mod Alike
-- What inner functions promise each other.
pub mod Stopping
pub mod Steps
