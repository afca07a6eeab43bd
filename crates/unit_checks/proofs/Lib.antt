pub mod StopLemmas
pub mod HeldLemmas
pub mod UnitLemmas
pub mod CountLemmas
