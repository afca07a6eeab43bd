-- What the public contracts rest on.
pub mod Telling
pub mod Passing
pub mod Pieces
pub mod Spelled
pub mod Splitting
pub mod Alike
pub mod Portions
pub mod Sections
pub mod Arranging
pub mod Ends
