mod TokenLemmas
mod AloneLemmas
mod WalkLemmas
mod BoundLemmas
pub mod StandardLemmas
pub mod Below
mod JoinedLemmas
mod GnuCarried
mod FrontLemmas
