-- New spellings of tokens: what holds no member stays, and what is made of tokens is spelled as they are.
use Rattle.std.proofs.Common.{◌≡◌, ℕ, zero, suc, ◌+◌, ◌<◌, ◌||◌, Bool, true, false, List, [], ◌∷◌, length, Option, None, Some, is_some, refl, arith}
use Rattle.std.specs.Prelude.{slice_get}
use Rattle.std.specs.List.{list_any}
use Rattle.std.proofs.lemmas.Bool.{or_parts}
use Rattle.cs_base.specs.declared.positions.Part.{Part}
use Rattle.cs_base.specs.declared.positions.Pos.{Pos}
use Rattle.lexer.specs.Places.{pos, origins_from}
use Rattle.part_respell.specs.Respelled.{member_over, put_for, spelled_from}
pub use Rattle.rename_rules.proofs.SpelledLemmas.{is_from, for_kept, spelled-kept}

-- characters put one for one are spelled alike
pub record PutAlike (members : List Part) (name : List ℕ) (os ps : List (Option Pos)) : Type 0 where
  pub each : (k : ℕ) (o p : Option Pos) (c : ℕ) → slice_get os k ≡ Some o → slice_get ps k ≡ Some p → put_for members name o c ≡ put_for members name p c

pub spelled-alike : (members : List Part) (name : List ℕ) (os ps : List (Option Pos)) (text : List ℕ) → length os ≡ length text → length ps ≡ length text
    → PutAlike members name os ps → spelled_from members name os text ≡ spelled_from members name ps text
unfolding spelled_from
spelled-alike members name [] [] text e f alike = refl
spelled-alike members name [] (p ∷ ps) [] e f alike = refl
spelled-alike members name [] (p ∷ ps) (c ∷ text) e f alike = absurd (omega (arith, e))
spelled-alike members name (o ∷ os) [] [] e f alike = refl
spelled-alike members name (o ∷ os) [] (c ∷ text) e f alike = absurd (omega (arith, f))
spelled-alike members name (o ∷ os) (p ∷ ps) [] e f alike = refl
spelled-alike members name (o ∷ os) (p ∷ ps) (c ∷ text) e f alike =
    let rest = spelled-alike members name os ps text (omega (arith, e)) (omega (arith, f)) (record { each = λ k x y d at also. alike.each (suc k) x y d at also }) in
    rw (alike.each 0 o p c refl refl, rest) refl

-- no character of a text of a file comes from a member
pub none_from : (members : List Part) (file at n : ℕ) → list_any (is_from members) (origins_from file at n) ≡ false
    → (k : ℕ) → k < n → member_over members (pos file (at + k)) ≡ None
none_from members file at zero none k less = absurd (omega arith)
none_from members file at (suc n) none zero less =
    let both = or_parts (is_from members (Some (pos file at))) (list_any (is_from members) (origins_from file (at + 1) n)) none in
    let same : at + 0 ≡ at = omega arith in
    rw same (nothing (member_over members (pos file at)) both.0)
  where
    nothing : (o : Option Part) → is_some o ≡ false → o ≡ None
    nothing None e = refl
    nothing (Some m) e = absurd (cc)
none_from members file at (suc n) none (suc k) less =
    let both = or_parts (is_from members (Some (pos file at))) (list_any (is_from members) (origins_from file (at + 1) n)) none in
    let same : at + suc k ≡ at + 1 + k = omega arith in
    rw same (none_from members file (at + 1) n both.1 k (omega arith))

-- a character that comes from one
pub from_member : (members : List Part) (file at n k : ℕ) (m : Part) → k < n → member_over members (pos file (at + k)) ≡ Some m
    → list_any (is_from members) (origins_from file at n) ≡ true
from_member members file at zero k m less e = absurd (omega arith)
from_member members file at (suc n) zero m less e =
    let same : at + 0 ≡ at = omega arith in
    let here : member_over members (pos file at) ≡ Some m = rw same at e in
    rw here refl
from_member members file at (suc n) (suc k) m less e =
    let same : at + suc k ≡ at + 1 + k = omega arith in
    let later : member_over members (pos file (at + 1 + k)) ≡ Some m = rw same at e in
    by (is_some (member_over members (pos file at))) (from_member members file (at + 1) n k m (omega arith) later)
  where
    by : (b : Bool) → list_any (is_from members) (origins_from file (at + 1) n) ≡ true → (b || list_any (is_from members) (origins_from file (at + 1) n)) ≡ true
    by true h = refl
    by false h = h
