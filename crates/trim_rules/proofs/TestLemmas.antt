-- Tests and elements of lists, as code gives them.
use Rattle.std.proofs.Common.{◌≡◌, Bool, true, false}
use Rattle.std.specs.Prelude.{MatchBool}

-- what a test tells
pub told_true : (b : Bool) (A B : Type 0) → b ≡ true → MatchBool b A B → A
told_true true A B is tells = tells
told_true false A B is tells = absurd (cc)

pub told_false : (b : Bool) (A B : Type 0) → b ≡ false → MatchBool b A B → B
told_false true A B is tells = absurd (cc)
told_false false A B is tells = tells
