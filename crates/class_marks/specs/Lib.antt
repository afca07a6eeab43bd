-- What the public contracts rest on.
pub mod Roles
pub mod Touching
pub mod Marks
pub mod ClassRoles
-- What inner functions promise each other, and those of crates above.
pub mod Keeping
