-- What the public contracts rest on.
pub mod Integers
pub mod Operators
pub mod Arithmetic
pub mod IntegerConstant
pub mod CharConstant
pub mod Reading
pub mod Evaluation
-- What inner functions promise each other.
pub mod Walk
