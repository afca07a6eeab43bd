-- What the public contracts rest on.
pub mod Linkage
-- What inner functions promise each other.
pub mod Firsts
