-- What the proofs of this crate rest on.
mod ByteLemmas
mod StillLemmas
mod TextLemmas
mod EditLemmas
mod FollowLemmas
mod AdvanceLemmas
-- For callers.
pub mod PlannedLemmas
