pub mod ChildWalks
pub mod ShapeLemmas
pub mod FrontLemmas
pub mod ParameterLemmas
pub mod TokenLemmas
pub mod JoinedLemmas
