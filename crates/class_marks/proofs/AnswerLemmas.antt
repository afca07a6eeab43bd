-- Tests and elements of lists, as code gives them.
use Rattle.std.proofs.Common.{◌≡◌, Bool, true, false, not, Result, Ok, Err, refl}
use Rattle.std.specs.Prelude.{IfOk, MatchBool}

-- a test that says the opposite
pub said_not : (b : Bool) (A B C D : Type 0) → MatchBool b A B → (A → D) → (B → C) → MatchBool (not b) C D
said_not true A B C D h passed failed = passed h
said_not false A B C D h passed failed = failed h

-- a test whose answer is known each way
pub told_not : (b : Bool) (A : Type 0) → (b ≡ true → A → ⊥) → (b ≡ false → A) → MatchBool (not b) A (A → ⊥)
told_not true A passed failed = passed refl
told_not false A passed failed = failed refl

pub if_ok_then : {X E : Type 0} (r : Result X E) (P Q : X → Type 0) → IfOk r P → ((x : X) → P x → Q x) → IfOk r Q
if_ok_then (Ok x) P Q h follows = follows x h
if_ok_then (Err e) P Q h follows = tt

-- the same of a test itself
pub told : (b : Bool) (A : Type 0) → (b ≡ true → A) → (b ≡ false → A → ⊥) → MatchBool b A (A → ⊥)
told true A passed failed = passed refl
told false A passed failed = failed refl

-- what a test tells
pub told_true : (b : Bool) (A B : Type 0) → b ≡ true → MatchBool b A B → A
told_true true A B is tells = tells
told_true false A B is tells = absurd (cc)

pub told_false : (b : Bool) (A B : Type 0) → b ≡ false → MatchBool b A B → B
told_false true A B is tells = absurd (cc)
told_false false A B is tells = tells
