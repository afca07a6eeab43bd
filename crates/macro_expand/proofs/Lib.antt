pub mod CallLemmas
pub mod StepLemmas
pub mod WholeLemmas
pub mod GoingLemmas
mod CallSound
mod ListSound
mod TurnLemmas
mod FullLemmas
mod FrameLemmas
mod PlainLemmas
-- For crates above: that tokens of files come from somewhere, and what lines items are.
pub mod TracedLemmas
-- Words of the crates below, passed on.
pub mod Below
pub mod PutOutLemmas
