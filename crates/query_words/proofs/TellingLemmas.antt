-- A query without a `=` says the same of every spelling.
use Rattle.std.proofs.Common.{◌≡◌, ℕ, zero, suc, Bool, true, false, not, ◌&&◌, ◌||◌, List, [], ◌∷◌, ◌++◌, Result, Ok, Err, Option, Some, None, inl, inr, ⊎_elim, refl, sym, ap, ◌∙◌}
use Rattle.std.specs.Prelude.{◌==◌, ◌⊎◌, slice_get}
use Rattle.std.specs.Option.{IfSome}
use Rattle.std.specs.Bool.{OnTrue}
use Rattle.std.specs.List.{list_any}
use Rattle.std.proofs.lemmas.Bool.{false≢true}
use Rattle.std.proofs.lemmas.List.Folds.{list_any-append}
use Rattle.std.proofs.lemmas.Option.{none-some, same_Some}
use Rattle.query_words.specs.declared.attributes.Facts.{Facts}
use Rattle.query_words.specs.declared.faults.QueryFault.{QueryFault}
use Rattle.query_words.specs.declared.told.Said.{Said}
use Rattle.query_words.specs.declared.told.Told.{Told}
use Rattle.query_words.specs.Grammar.{Level, Derives, one_conjunction, either_of, one_operand, both_of, not_of, in_parentheses, an_attribute, a_pattern}
use Rattle.query_words.specs.Queries.{Query, value}
use Rattle.query_words.specs.Reading.{ampersand, bar, closing, equals, parsed}
use Rattle.query_words.specs.Walk.{decided}
use Rattle.query_words.specs.Telling.{said_of, AreTold, AreSameKinds, AreSameNames, AreSameUses}
use Rattle.query_words.proofs.GrammarLemmas.{derives_of_parsed}

or_none : (a b : Bool) → (a || b) ≡ false → (a ≡ false) × (b ≡ false)
or_none true b h = absurd (false≢true (sym h))
or_none false b h = (refl, h)

-- no byte of a joined text is a `=`
none_in : (left right : List ℕ) → list_any (λ b. b == equals) (left ++ right) ≡ false
    → (list_any (λ b. b == equals) left ≡ false) × (list_any (λ b. b == equals) right ≡ false)
none_in left right none =
    or_none (list_any (λ b. b == equals) left) (list_any (λ b. b == equals) right) (sym (list_any-append (λ b. b == equals) left right) ∙ none)

same_value : (facts : Facts) (s t : List ℕ) (level : Level) (room : ℕ) (text : List ℕ) (q : Query) → Derives level room text q
    → list_any (λ b. b == equals) text ≡ false → value facts s q ≡ value facts t q
unfolding value
same_value facts s t level room text q (one_conjunction d) none = same_value facts s t _ room text q d none
same_value facts s t level room text q (either_of {left = left} {right = right} {p = p} {q = r} d e) none =
    let parts = none_in left (bar ∷ right) none in
    ap (λ (b : Bool). b || value facts s r) (same_value facts s t _ room left p d parts.0)
    ∙ ap (λ (b : Bool). value facts t p || b) (same_value facts s t _ room right r e parts.1)
same_value facts s t level room text q (one_operand d) none = same_value facts s t _ room text q d none
same_value facts s t level room text q (both_of {left = left} {right = right} {p = p} {q = r} d e) none =
    let parts = none_in left (ampersand ∷ right) none in
    ap (λ (b : Bool). b && value facts s r) (same_value facts s t _ room left p d parts.0)
    ∙ ap (λ (b : Bool). value facts t p && b) (same_value facts s t _ room right r e parts.1)
same_value facts s t level room text q (not_of {room = inner} {text = rest} {q = r} d) none = ap not (same_value facts s t _ inner rest r d none)
same_value facts s t level room text q (in_parentheses {room = inner} {text = rest} d) none =
    same_value facts s t _ inner rest q d (none_in rest (closing ∷ []) none).0
same_value facts s t level room text q (an_attribute a is) none = refl
same_value facts s t level room text q (a_pattern c pattern all) none = absurd (false≢true (sym none))

pub same_decided : (facts : Facts) (s t query : List ℕ) → list_any (λ b. b == equals) query ≡ false → decided (value facts s) (parsed query) ≡ decided (value facts t) (parsed query)
same_decided facts s t query none = of (parsed query) refl
  where
    of : (found : Result Query QueryFault) → parsed query ≡ found → decided (value facts s) found ≡ decided (value facts t) found
    of (Ok q) is = ap Ok (same_value facts s t _ _ query q (derives_of_parsed query q is) none)
    of (Err fault) is = refl

-- ---- facts

pub same_facts : (x y : Facts) → AreSameKinds x y → AreSameNames x y → AreSameUses x y → x ≡ y
same_facts x y kinds names uses = λ i. record {
  macro_ = kinds.0 i;
  function = kinds.1 i;
  object = kinds.2 i;
  typedef = kinds.3 i;
  parameter = names.0 i;
  enumerator = names.1 i;
  tag = names.2 i;
  member = names.3 i;
  label = names.4 i;
  external = uses.0 i;
  read_only = uses.1 i;
  unused = uses.2 i;
  cut = uses.3 i;
}

pub same_if : (x y : Facts) (b : Bool) → AreSameKinds x y → AreSameNames x y → OnTrue b (AreSameUses x y) → OnTrue b (x ≡ y)
same_if x y true kinds names uses = same_facts x y kinds names uses
same_if x y false kinds names uses = uses

-- ---- what is remembered

pushed_is : {X : Type 0} (xs : List X) (x y : X) (k : ℕ) → slice_get (xs ++ x ∷ []) k ≡ Some y → (slice_get xs k ≡ Some y) ⊎ (y ≡ x)
pushed_is [] x y zero is = inr (sym (same_Some x y is))
pushed_is [] x y (suc k) is = absurd (none-some y is)
pushed_is (z ∷ zs) x y zero is = inl is
pushed_is (z ∷ zs) x y (suc k) is = pushed_is zs x y k is

pub told_more : (query : List ℕ) (told new : Told) (facts : Facts) (b : Bool) (spelling : List ℕ) → told.spelled ≡ false
    → new.said.items ≡ told.said.items ++ said_of facts b ∷ [] → new.spelled ≡ told.spelled → AreTold query told
    → Ok b ≡ decided (value facts spelling) (parsed query) → AreTold query new
told_more query told new facts b spelling silent more same is says = record {
  said = λ k f holds s at.
      ⊎_elim
      (λ before. is.said k f holds s before)
      (λ e.
      ap Ok (ap (λ (x : Said). x.holds) e) ∙ says ∙ is.unspelled silent facts spelling s
      ∙ ap (λ (x : Facts). decided (value x s) (parsed query)) (sym (ap (λ (x : Said). x.facts) e)))
      (pushed_is told.said.items (said_of facts b) (said_of f holds) k (sym (ap (λ (xs : List Said). slice_get xs k) more) ∙ at));
  unspelled = λ none. is.unspelled (sym same ∙ none);
}

pub found_told : (o : Option Bool) (xs : List Said) (told : Told) (facts : Facts) → xs ≡ told.said.items
    → IfSome o (λ holds. (k : ℕ) × (slice_get xs k ≡ Some (said_of facts holds)))
    → IfSome o (λ holds. (query spelling : List ℕ) → AreTold query told → Ok holds ≡ decided (value facts spelling) (parsed query))
found_told None xs told facts same found = found
found_told (Some holds) xs told facts same found = λ query spelling is.
    is.said found.0 facts holds spelling (sym (ap (λ (ys : List Said). slice_get ys found.0) same) ∙ found.1)

pub same_said : (x : Said) (facts : Facts) → x.facts ≡ facts → x ≡ said_of facts x.holds
same_said x facts same = λ i. record { facts = same i; holds = x.holds }
