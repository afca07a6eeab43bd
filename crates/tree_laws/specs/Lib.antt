-- What the public contracts rest on.
pub mod TreesOfTexts
pub mod BoundNames
pub mod RenamedNames
pub mod Shapes
pub mod ReadTexts
pub mod Told
pub mod ToldNames
pub mod Agreeing
pub mod TypedefNames
pub mod Narrowed
