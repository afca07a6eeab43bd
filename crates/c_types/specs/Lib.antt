-- What the public contracts rest on.
pub mod Faults
pub mod Types
pub mod Trees
pub mod Declarations
pub mod Tags
pub mod Lists
pub mod Parameters
pub mod Children
pub mod Shapes
pub mod Fronts
pub mod ParameterShapes
