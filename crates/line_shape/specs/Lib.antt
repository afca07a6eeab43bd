-- What the public contracts rest on.
pub mod Signs
pub mod Directives
pub mod MacroLine
pub mod BadLines
pub mod Items
-- What inner functions promise each other.
pub mod Walk
