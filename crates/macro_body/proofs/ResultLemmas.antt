-- One step behind another, each of which may have a fault.
use Rattle.std.proofs.Common.{◌≡◌, Bool, true, false, cond, Result, Ok, Err, refl, subst, sym, ap}
use Rattle.macro_body.specs.Notes.{Fault, onward}

-- two values that are Ok alike
abbrev value_or : {A : Type 0} → A → Result A Fault → A
value_or d (Ok a) = a
value_or d (Err e) = d

pub ok_same : {A : Type 0} (a b : A) → ◌≡◌ {A = Result A Fault} (Ok a) (Ok b) → a ≡ b
ok_same a b e = ap (value_or a) e

abbrev IsFine : {A : Type 0} → Result A Fault → Type 0
IsFine (Ok a) = Unit {0}
IsFine (Err e) = ⊥

pub err_ok : {A : Type 0} {P : Type 0} (f : Fault) (b : A) → ◌≡◌ {A = Result A Fault} (Err f) (Ok b) → P
err_ok f b e = absurd (subst IsFine (sym e) tt)

-- what follows from a step that has no fault
pub onward_ok : {A B : Type 0} (m : Result A Fault) (k : A → Result B Fault) (b : B) → onward m k ≡ Ok b
    → (a : A) × (m ≡ Ok a) × (k a ≡ Ok b)
onward_ok (Ok a) k b e = (a, refl, e)
onward_ok (Err f) k b e = err_ok f b e

-- steps that go on alike give the same
pub onward_agree : {A B : Type 0} (m : Result A Fault) (k k2 : A → Result B Fault) → ((a : A) → m ≡ Ok a → k a ≡ k2 a)
    → onward m k ≡ onward m k2
onward_agree (Ok a) k k2 h = h a refl
onward_agree (Err f) k k2 h = refl

-- a test that was passed
pub cond_ok : {A : Type 0} (b : Bool) (f : Fault) (r : Result A Fault) (a : A) → cond b (Err f) r ≡ Ok a → (b ≡ false) × (r ≡ Ok a)
cond_ok true f r a e = err_ok f a e
cond_ok false f r a e = (refl, e)

pub cond_ok_yes : {A : Type 0} (b : Bool) (f : Fault) (r : Result A Fault) (a : A) → cond b r (Err f) ≡ Ok a → (b ≡ true) × (r ≡ Ok a)
cond_ok_yes true f r a e = (refl, e)
cond_ok_yes false f r a e = err_ok f a e
