pub mod ConstantLemmas
pub mod WalkLemmas
pub mod AgreementLemmas
pub mod EvalLemmas
pub mod OperatorLemmas
