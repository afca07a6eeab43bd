-- What the public contracts rest on.
pub mod Workspace
pub mod Lines
pub mod Reading
pub mod Refusal
pub mod Printing
-- What inner functions promise each other.
pub mod Taking
