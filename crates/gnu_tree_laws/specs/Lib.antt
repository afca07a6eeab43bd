-- What the public contracts rest on.
pub mod GnuPlaces
pub mod GnuNames
