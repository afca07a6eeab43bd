-- What the public contracts rest on.
pub mod Tokens
pub mod Prefixes
pub mod Escapes
pub mod Runs
pub mod Undeclared
pub mod GnuOffences
pub mod LibraryNames
pub mod LibraryPlaces
pub mod Offences
pub mod InUnits
pub mod Renaming
-- What inner functions promise each other.
pub mod GnuTexts
pub mod GnuUnits
pub mod Respellings
pub mod RenamingValue
pub mod FileOrder
-- Words of a crate below, passed on.
pub mod Below
