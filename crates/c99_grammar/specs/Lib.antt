-- What the public contracts rest on.
pub mod Classes
pub mod Dialects
pub mod Spellings
pub mod Items
pub mod Grammar
pub mod GnuGrammar
pub mod First
pub mod GnuFirst
pub mod TokenClasses
pub mod Starting
pub mod Standard
pub mod FirstSets
pub mod Words
pub mod ItemsOf
