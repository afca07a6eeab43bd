-- Facts on truth values.
use Rattle.std.proofs.Common.{Bool, ap, arith, false, if◌then◌else◌, not, refl, sym, true, ◌&&◌, ◌||◌, ◌∙◌, ◌≡◌, ◌≤◌}
use Rattle.std.proofs.lemmas.Bool.{false≢true, not-true}

pub not_true : (c : Bool) → not c ≡ true → c ≡ false
not_true true e = sym e
not_true false e = refl

pub or_right : (x y : Bool) → y ≡ true → (x || y) ≡ true
or_right true y e = refl
or_right false y e = e

pub and_false : (b : Bool) → (b && false) ≡ false
and_false true = refl
and_false false = refl

pub not_both : (c : Bool) → c ≡ true → c ≡ false → ⊥
not_both c e f = false≢true (sym f ∙ e)

pub or-false : (b : Bool) → (b || false) ≡ b
or-false true = refl
or-false false = refl

pub or_assoc : (a b c : Bool) → (a || (b || c)) ≡ ((a || b) || c)
or_assoc true b c = refl
or_assoc false b c = refl

pub or_false : (b : Bool) → b ≡ (b || false)
or_false true = refl
or_false false = refl

pub and_none : (b c : Bool) → c ≡ false → (b && c) ≡ false
and_none true c h = h
and_none false c h = refl

pub or_last : (b c : Bool) → c ≡ true → (b || c) ≡ true
or_last true c h = refl
or_last false c h = h

pub or_left : (a b : Bool) → (a || b) ≡ false → a ≡ false
or_left true b e = e
or_left false b e = refl

pub or_right_none : (a b : Bool) → (a || b) ≡ false → b ≡ false
or_right_none true b e = absurd (false≢true (sym e))
or_right_none false b e = e

pub bit_at_most : (c : Bool) → (if c then 1 else 0) ≤ 1
bit_at_most true = omega arith
bit_at_most false = omega arith

pub and_not-false : (a b : Bool) → (a && not b) ≡ true → b ≡ false
and_not-false a b h = grind (arith, h)

pub and_true : (b : Bool) → b ≡ (b && true)
and_true true = refl
and_true false = refl

pub none_and : (b : Bool) → false ≡ (b && false)
none_and true = refl
none_and false = refl

pub and_right : (x y : Bool) → x ≡ true → (x && y) ≡ false → y ≡ false
and_right true y e h = h
and_right false y e h = absurd (false≢true e)

pub declarator_form : (c d : Bool) → (not c || not d) ≡ true → c ≡ true → d ≡ false
declarator_form true d form same = not-true d form
declarator_form false d form same = absurd (false≢true same)

pub no_case : (b : Bool) → (b ≡ true → ⊥) → b ≡ false
no_case true f = absurd (f refl)
no_case false f = refl

pub if_false : {A : Type 0} (c : Bool) (x y : A) → c ≡ false → (if c then x else y) ≡ y
if_false c x y e = ap (λ b. if b then x else y) e

pub or_met : (e h : Bool) → (not e || h) ≡ true → e ≡ true → h ≡ true
or_met true h k w = k
or_met false h k w = absurd (false≢true w)

pub or_first : (a b : Bool) → a ≡ true → (a || b) ≡ true
or_first a b e = ap (λ x. x || b) e

pub if_is : {X : Type 0} (c : Bool) (x y : X) → c ≡ true → (if c then x else y) ≡ x
if_is true x y e = refl
if_is false x y e = absurd (false≢true e)

pub chosen : {A : Type 0} (c : Bool) (x y z : A) → (c ≡ true → x ≡ y) → (if c then x else z) ≡ (if c then y else z)
chosen true x y z f = f refl
chosen false x y z f = refl

pub not_false : (c : Bool) → c ≡ false → not c ≡ true
not_false true e = sym e
not_false false e = refl

pub or_not-first : (own asks : Bool) → (own || not asks) ≡ true → asks ≡ true → own ≡ true
or_not-first true asks e h = refl
or_not-first false true e h = e
or_not-first false false e h = absurd (false≢true h)

pub both_true : (a b : Bool) → a ≡ true → b ≡ true → (a && b) ≡ true
both_true true b e f = f
both_true false b e f = absurd (false≢true e)

pub or_other : (a b : Bool) → (a || b) ≡ true → a ≡ false → b ≡ true
or_other true b e h = absurd (false≢true (sym h))
or_other false b e h = e

pub bool_same : (x y : Bool) → (x ≡ true → y ≡ true) → (y ≡ true → x ≡ true) → x ≡ y
bool_same true y f g = sym (f refl)
bool_same false true f g = g refl
bool_same false false f g = refl

pub and_no : (a b : Bool) → b ≡ false → (a && b) ≡ false
and_no true b is = is
and_no false b is = refl

pub not_and_true : (b : Bool) → not (b && true) ≡ true → b ≡ false
not_and_true true e = absurd (false≢true e)
not_and_true false e = refl
