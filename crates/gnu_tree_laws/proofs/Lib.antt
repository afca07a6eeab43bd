pub mod GnuHeld
mod GnuNoted
mod GnuCounted
pub mod GnuSpelled
pub mod GnuOnce
mod GnuKept
mod GnuStandard
pub mod GnuLinked
