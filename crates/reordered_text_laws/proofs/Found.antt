-- What is so of a reading by classes that does not stop.
use Rattle.std.proofs.Common.{ℕ, ◌≡◌, Bool, true, false, if◌then◌else◌, unwrap_or, List, Option, None, Some, refl, ap, ◌∙◌}
use Rattle.std.proofs.lemmas.Bool.{false≢true}
use Rattle.c99_tree.specs.declared.production.Production.{Production}
use Rattle.reordered_text_laws.specs.ByClasses.{joined, Taken, taken, behind_children, then_read, child_of, as_child}

abbrev is_found : Option Taken → Bool
is_found None = false
is_found (Some t) = true

pub stopped : (t : Taken) → None ≡ Some t → ⊥
stopped t e = false≢true (ap is_found e)

pub found_is : (t u : Taken) → Some t ≡ Some u → t ≡ u
found_is t u e = ap (λ o. unwrap_or o t) e

-- what is read first, and what behind it
pub record Between (r : Option Taken) (f : List ℕ → Option Taken) (t : Taken) : Type 0 where
  pub first : Taken
  pub second : Taken
  pub reads : r ≡ Some first
  pub more : f first.left ≡ Some second
  pub whole : taken (joined first.read second.read) second.left ≡ t

pub between : (r : Option Taken) (f : List ℕ → Option Taken) (t : Taken) → then_read r f ≡ Some t → Between r f t
between None f t e = absurd (stopped t e)
between (Some a) f t e = by (f a.left) refl e
  where
    by : (r : Option Taken) → f a.left ≡ r → behind_children a.read r ≡ Some t → Between (Some a) f t
    by None h e = absurd (stopped t e)
    by (Some b) h e = record { first = a; second = b; reads = refl; more = h; whole = found_is (taken (joined a.read b.read) b.left) t e }

pub then_is : (r : Option Taken) (f : List ℕ → Option Taken) (a b : Taken) → r ≡ Some a → f a.left ≡ Some b
    → then_read r f ≡ Some (taken (joined a.read b.read) b.left)
then_is r f a b e h = ap (λ x. then_read x f) e ∙ ap (behind_children a.read) h

-- one of two branches was taken
pub branch : {P : Type 0} (c : Bool) (r r' : Option Taken) (t : Taken) → (c ≡ true → r ≡ Some t → P) → (c ≡ false → r' ≡ Some t → P)
    → (if c then r else r') ≡ Some t → P
branch true r r' t f g e = f refl e
branch false r r' t f g e = g refl e

pub if_yes : (c : Bool) (r r' : Option Taken) → c ≡ true → (if c then r else r') ≡ r
if_yes c r r' e = ap (λ x. if x then r else r') e

pub if_no : (c : Bool) (r r' : Option Taken) → c ≡ false → (if c then r else r') ≡ r'
if_no c r r' e = ap (λ x. if x then r else r') e

-- the children of a child
pub record Inner (p : Production) (n : ℕ) (r : Option Taken) (t : Taken) : Type 0 where
  pub inside : Taken
  pub reads : r ≡ Some inside
  pub whole : taken (child_of p n inside.read) inside.left ≡ t

pub inner_is : (p : Production) (n : ℕ) (r : Option Taken) (t : Taken) → as_child p n r ≡ Some t → Inner p n r t
inner_is p n None t e = absurd (stopped t e)
inner_is p n (Some u) t e = record { inside = u; reads = refl; whole = found_is (taken (child_of p n u.read) u.left) t e }

-- .. and the same one of two others
pub same_branch : (c c' : Bool) (r q r' q' : Option Taken) (t : Taken) (u : Option Taken) → c' ≡ c → (c ≡ true → r ≡ Some t → r' ≡ u) → (c ≡ false → q ≡ Some t → q' ≡ u)
    → (if c then r else q) ≡ Some t → (if c' then r' else q') ≡ u
same_branch true c' r q r' q' t u e f g h = if_yes c' r' q' e ∙ f refl h
same_branch false c' r q r' q' t u e f g h = if_no c' r' q' e ∙ g refl h
