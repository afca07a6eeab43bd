-- What the promise of a rename rests on.
pub mod Renamed
pub mod Rename
-- What the public contracts rest on.
pub mod Staying
