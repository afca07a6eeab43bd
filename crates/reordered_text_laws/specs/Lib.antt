-- What the public contracts rest on.
pub mod ByClasses
pub mod Lists
pub mod ReorderedTexts
pub mod Alone
pub mod InOrder
pub mod Fronted
pub mod Joined
pub mod Marks
pub mod MarkedCuts
pub mod Trees
pub mod Runs
pub mod Classes
