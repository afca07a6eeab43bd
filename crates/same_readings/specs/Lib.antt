-- What the public contracts rest on.
pub mod Numbers
pub mod SameTrees
pub mod SameNames
pub mod Readings
pub mod Laws
pub mod Alike
pub mod Whole
pub mod AlikeLaws
