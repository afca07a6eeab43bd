-- What the public contracts rest on.
pub mod Reordered
pub mod Cuts
pub mod Laws
pub mod Beside
pub mod Seen
pub mod Adding
pub mod Ranges
pub mod Premises
pub mod Moving
pub mod Lasting
pub mod Owned
pub mod Siblings
pub mod Spread
pub mod Going
pub mod BareNames
pub mod ReorderedNames
