-- Facts on values that may be absent, and on results.
use Rattle.std.proofs.Common.{Bool, None, Ok, Option, Result, Some, ap, false, if◌then◌else◌, refl, true, ℕ, ◌≡◌}
use Rattle.std.specs.Option.{option_map_or, option_or}

pub None≢Some : (x : ℕ) → None ≡ Some x → ⊥
None≢Some x e = cc

pub ok_same : {C D : Type 0} (x y : C) → ◌≡◌ {A = Result C D} (Ok x) (Ok y) → x ≡ y
ok_same x y e = cc

pub some_if : (c : Bool) (o : Option ℕ) (t : ℕ) → (if c then o else None) ≡ Some t → o ≡ Some t
some_if true o t e = e
some_if false o t e = absurd cc

pub option_or-None : {X : Type 0} (a : Option X) → option_or a None ≡ a
option_or-None None = refl
option_or-None (Some x) = refl

pub one_place : (i j : ℕ) → Some i ≡ Some j → i ≡ j
one_place i j e = ap (λ r. option_map_or (λ x. x) r 0) e
