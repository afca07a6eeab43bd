-- What the public contracts rest on.
pub mod Line
pub mod Reading
pub mod Refusal
pub mod Batch
pub mod Keeping
pub mod Running
-- What inner functions promise each other.
pub mod Standing
pub mod Taking
pub mod Stepping
