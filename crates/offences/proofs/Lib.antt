pub mod AmongLemmas
pub mod AnswerLemmas
pub mod FirstLemmas
pub mod UnitLemmas
pub mod ClassLemmas
pub mod OriginLemmas
mod FileLemmas
pub mod PlaceLemmas
pub mod TiedLemmas
pub mod NamedLemmas
pub mod MemberListLemmas
mod PutLemmas
mod PutPlaceLemmas
mod TokLemmas
mod StillLemmas
mod OtherLemmas
pub mod MovedLemmas
