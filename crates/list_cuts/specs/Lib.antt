-- What the public contracts rest on.
pub mod Cuts
pub mod Orders
pub mod Spans
pub mod Laws
pub mod CutOf
