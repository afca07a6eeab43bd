-- What telling a line does to a sink.
use Rattle.std.specs.Prelude.{ℕ, ◌≡◌, ◌++◌, List, Option}
use Rattle.std.specs.Option.{option_map}
use Rattle.cs_base.specs.Outside.{IsFront, Rose}

-- The sink grew by this line, or by a front of it where a write to it failed: then its count rose.
pub record Told (line : List ℕ) (before now : Option (List ℕ)) (faults faults' : ℕ) : Type 0 where
  pub front : (front : List ℕ) × IsFront front line × (now ≡ option_map (λ bytes. bytes ++ front) before)
  pub whole : ¬ (Rose faults faults') → now ≡ option_map (λ bytes. bytes ++ line) before
