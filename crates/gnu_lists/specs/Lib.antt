-- What the public contracts rest on.
pub mod Words
pub mod Tokens
pub mod Counted
pub mod Lists
pub mod Strings
pub mod WholeWords
