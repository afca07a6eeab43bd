-- What the public contracts rest on.
pub mod Tree
pub mod Names
pub mod Joined
-- What contracts see of private fields, and how trees and tables are kept.
pub mod TreeCode
pub mod Children
pub mod TreeFalls
pub mod NumberedNames
pub mod KeptNames
pub mod Marks
