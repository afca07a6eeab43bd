pub mod RespellingLemmas
pub mod UnitLemmas
pub mod SpelledLemmas
pub mod OccurrenceLemmas
pub mod InUnitLemmas
pub mod RunLemmas
pub mod SizeLemmas
pub mod PrefixLemmas
pub mod EscapeLemmas
pub mod PlannedLemmas
pub mod EditLemmas
pub mod PathLemmas
pub mod FailingLemmas
mod QuietLemmas
mod CallLemmas
mod GnuLemmas
mod LibraryLemmas
pub mod Below
