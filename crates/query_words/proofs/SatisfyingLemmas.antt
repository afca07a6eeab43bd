-- The value of a query says whether it is satisfied.
use Rattle.std.proofs.Common.{◌≡◌, ℕ, Bool, true, false, not, ◌&&◌, ◌||◌, List, inl, inr, refl, ⊎_elim}
use Rattle.std.specs.Prelude.{◌⊎◌, MatchBool}
use Rattle.query_words.specs.declared.attributes.Attribute.{Attribute}
use Rattle.query_words.specs.declared.attributes.Facts.{Facts}
use Rattle.query_words.specs.Patterns.{matches}
use Rattle.query_words.specs.Queries.{Query, Either, Both, Not, Is, Named, value}
use Rattle.query_words.specs.Satisfying.{AreFacts, Satisfies}

-- a test tells whether a fact holds
abbrev pub Tells : Bool → Type 0 → Type 0
Tells b P = MatchBool b P (P → ⊥)

tells_either : (b c : Bool) (P Q : Type 0) → Tells b P → Tells c Q → Tells (b || c) (P ⊎ Q)
tells_either true c P Q p q = inl p
tells_either false true P Q p q = inr q
tells_either false false P Q p q = λ x. ⊎_elim p q x

tells_both : (b c : Bool) (P Q : Type 0) → Tells b P → Tells c Q → Tells (b && c) (P × Q)
tells_both true true P Q p q = (p, q)
tells_both true false P Q p q = λ x. q x.1
tells_both false c P Q p q = λ x. p x.0

tells_not : (b : Bool) (P : Type 0) → Tells b P → Tells (not b) (P → ⊥)
tells_not true P p = λ f. f p
tells_not false P p = p

pub tells_itself : (b : Bool) → Tells b (b ≡ true)
tells_itself true = refl
tells_itself false = λ x. cc

pub value_tells : (Says : Attribute → Type 0) (facts : Facts) (spelling : List ℕ) → AreFacts Says facts → (q : Query)
    → Tells (value facts spelling q) (Satisfies Says spelling q)
unfolding value Satisfies
value_tells Says facts spelling are (Either p q) =
    tells_either (value facts spelling p) (value facts spelling q) (Satisfies Says spelling p) (Satisfies Says spelling q)
    (value_tells Says facts spelling are p) (value_tells Says facts spelling are q)
value_tells Says facts spelling are (Both p q) =
    tells_both (value facts spelling p) (value facts spelling q) (Satisfies Says spelling p) (Satisfies Says spelling q)
    (value_tells Says facts spelling are p) (value_tells Says facts spelling are q)
value_tells Says facts spelling are (Not q) =
    tells_not (value facts spelling q) (Satisfies Says spelling q) (value_tells Says facts spelling are q)
value_tells Says facts spelling are (Is attribute) = are attribute
value_tells Says facts spelling are (Named pattern) = tells_itself (matches pattern spelling)
