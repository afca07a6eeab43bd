-- What may stand behind an item of a list: its tests are the same before a comma and before the parenthesis that ends the list.
use Rattle.std.proofs.Common.{ℕ, ◌≡◌, Bool, true, false, ◌&&◌, ◌||◌, not, if◌then◌else◌, List, [], ◌∷◌, ◌++◌, refl, sym, ap, ◌∙◌, inl, inr, ◌⊎◌}
use Rattle.std.specs.List.{list_all, list_any}
use Rattle.std.proofs.lemmas.Bool.{false≢true, and_parts, or_parts, not-true}
use Rattle.c99_tree.specs.declared.production.Production.{Production}
use Rattle.c99_grammar.specs.declared.classes.Class.{Class}
use Rattle.c99_grammar.specs.declared.classes.Class.TheVariants.{Comma, RightParen, End}
use Rattle.c99_grammar.specs.Classes.{among}
use Rattle.c99_grammar.specs.Items.{Item, one, part, end_of_text, act, ◌·◌, choice, maybe, many, deep, Test, own, otherwise, next, next_two, Ask, Alternative}
use Rattle.c99_grammar.specs.Standard.{Grammar}
use Rattle.c99_grammar.specs.Starting.{is_passed, asks, holds, starts, is_pair}
use Rattle.c99_grammar.proofs.PairLemmas.{none_begins, pairs_same}
use Rattle.c99_read.specs.Sound.{never_empty, has_token}
use Rattle.reordered_text_laws.specs.ByClasses.{here, behind, may_read}
use Rattle.reordered_text_laws.specs.Lists.{EndsItem}
use Rattle.reordered_text_laws.proofs.Whole.{has_any}

abbrev same_bool : Bool → Bool → Bool
same_bool true b = b
same_bool false b = not b

same_is : (a b : Bool) → same_bool a b ≡ true → a ≡ b
same_is true true e = refl
same_is true false e = absurd (false≢true e)
same_is false true e = absurd (false≢true e)
same_is false false e = refl

module _ (g : Grammar) where
  -- ---- The token behind the next one

  -- a test says the same where a comma and where a parenthesis stands behind
  abbrev pub test_alike : Test → Bool
  test_alike (next_two a b) = same_bool (asks g b Comma) (asks g b RightParen)
  test_alike _ = true

  -- .. and so does what is asked behind a class with which a production may start
  abbrev pub pair_alike : Class × Ask → Bool
  pair_alike x = same_bool (asks g x.1 Comma) (asks g x.1 RightParen)

  -- .. in the item, which has no end of the text
  abbrev pub item_alike : Item → Bool
  item_alike (a · b) = item_alike a && item_alike b
  item_alike (choice a b) = item_alike a && item_alike b
  item_alike (maybe a) = item_alike a
  item_alike (many t a) = test_alike t && item_alike a
  item_alike (deep a) = item_alike a
  item_alike (part p) = never_empty p && list_all pair_alike (g.pairs p)
  item_alike end_of_text = false
  item_alike _ = true

  abbrev pub alternative_alike : Alternative → Bool
  alternative_alike a = test_alike a.test && item_alike a.body

  holds_alike : (t : Test) (x y : Bool) (c : Class) → test_alike t ≡ true → x ≡ y → holds g t x c Comma ≡ holds g t y c RightParen
  holds_alike own x y c h e = e
  holds_alike otherwise x y c h e = refl
  holds_alike (next a) x y c h e = refl
  holds_alike (next_two a b) x y c h e = ap (λ v. asks g a c && v) (same_is (asks g b Comma) (asks g b RightParen) h)

  either_alike : (p x x' y y' : Bool) → x ≡ x' → y ≡ y' → (if p then (x || y) else x) ≡ (if p then (x' || y') else x')
  either_alike true x x' y y' e f = ap (λ v. v || y) e ∙ ap (λ v. x' || v) f
  either_alike false x x' y y' e f = e

  starts_alike : (a : Item) (c : Class) → item_alike a ≡ true → starts g a c Comma ≡ starts g a c RightParen
  starts_alike (one classes) c h = refl
  starts_alike (part p) c h =
      ap (λ v. among (g.first p) c || v)
      (pairs_same g pair_alike c RightParen c Comma (λ x k. ap (λ v. among (x.0 ∷ []) c && v) (same_is (asks g x.1 Comma) (asks g x.1 RightParen) k))
      (g.pairs p) (and_parts (never_empty p) (list_all pair_alike (g.pairs p)) h).1)
  starts_alike end_of_text c h = refl
  starts_alike (act a) c h = refl
  starts_alike (a · b) c h =
      let both = and_parts (item_alike a) (item_alike b) h in
      either_alike (is_passed a) _ _ _ _ (starts_alike a c both.0) (starts_alike b c both.1)
  starts_alike (choice a b) c h =
      let both = and_parts (item_alike a) (item_alike b) h in
      either_alike true _ _ _ _ (starts_alike a c both.0) (starts_alike b c both.1)
  starts_alike (maybe a) c h = starts_alike a c h
  starts_alike (many t a) c h =
      let both = and_parts (test_alike t) (item_alike a) h in holds_alike t _ _ c both.0 (starts_alike a c both.1)
  starts_alike (deep a) c h = starts_alike a c h

  -- what a test says of two classes
  abbrev says : Test → Item → Class → Class → Bool
  says t a c d = holds g t (starts g a c d) c d

  as_comma : (t : Test) (a : Item) (c d : Class) → test_alike t ≡ true → item_alike a ≡ true → EndsItem d → says t a c d ≡ says t a c Comma
  as_comma t a c d h k (inl e) = ap (says t a c) e
  as_comma t a c d h k (inr e) = ap (says t a c) e ∙ sym (holds_alike t _ _ c h (starts_alike a c k))

  -- ---- The next token

  -- whether a test may hold, whatever stands behind
  abbrev pub could_hold : Test → Bool → Class → Bool
  could_hold own x c = x
  could_hold otherwise x c = true
  could_hold (next a) x c = asks g a c
  could_hold (next_two a b) x c = asks g a c

  abbrev pub could_start : Item → Class → Bool
  could_start (one classes) c = among classes c
  could_start (part p) c = among (g.first p) c || list_any (λ x. among (x.0 ∷ []) c) (g.pairs p)
  could_start end_of_text c = among (End ∷ []) c
  could_start (act a) c = false
  could_start (a · b) c = if is_passed a then could_start a c || could_start b c else could_start a c
  could_start (choice a b) c = could_start a c || could_start b c
  could_start (maybe a) c = could_start a c
  could_start (many t a) c = could_hold t (could_start a c) c
  could_start (deep a) c = could_start a c

  -- the test holds neither of a comma nor of a parenthesis that ends a list
  abbrev pub never : Test → Item → Bool
  never t a = not (could_hold t (could_start a Comma) Comma) && not (could_hold t (could_start a RightParen) RightParen)

  no_and : (x y : Bool) → x ≡ false → (x && y) ≡ false
  no_and x y e = ap (λ v. v && y) e

  holds_no : (t : Test) (x y : Bool) (c d : Class) → could_hold t y c ≡ false → (y ≡ false → x ≡ false) → holds g t x c d ≡ false
  holds_no own x y c d h f = f h
  holds_no otherwise x y c d h f = absurd (false≢true (sym h))
  holds_no (next a) x y c d h f = h
  holds_no (next_two a b) x y c d h f = no_and (asks g a c) (asks g b d) h

  both_no : (p x x' y y' : Bool) → (x' ≡ false → x ≡ false) → (y' ≡ false → y ≡ false) → (if p then (x' || y') else x') ≡ false
      → (if p then (x || y) else x) ≡ false
  both_no true x x' y y' f k e = let parts = or_parts x' y' e in ap (λ v. v || y) (f parts.0) ∙ k parts.1
  both_no false x x' y y' f k e = f e

  starts_no : (a : Item) (c d : Class) → could_start a c ≡ false → starts g a c d ≡ false
  starts_no (one classes) c d h = h
  starts_no (part p) c d h =
      let parts = or_parts (among (g.first p) c) (list_any (λ x. among (x.0 ∷ []) c) (g.pairs p)) h in
      ap (λ v. v || list_any (λ x. is_pair g x c d) (g.pairs p)) parts.0 ∙ none_begins g (g.pairs p) c d parts.1
  starts_no end_of_text c d h = h
  starts_no (act a) c d h = refl
  starts_no (a · b) c d h = both_no (is_passed a) _ (could_start a c) _ (could_start b c) (starts_no a c d) (starts_no b c d) h
  starts_no (choice a b) c d h = both_no true _ (could_start a c) _ (could_start b c) (starts_no a c d) (starts_no b c d) h
  starts_no (maybe a) c d h = starts_no a c d h
  starts_no (many t a) c d h = holds_no t (starts g a c d) (could_start a c) c d h (starts_no a c d)
  starts_no (deep a) c d h = starts_no a c d h

  says_no : (t : Test) (a : Item) (c d : Class) → never t a ≡ true → EndsItem c → says t a c d ≡ false
  says_no t a c d h (inl e) =
      ap (λ x. says t a x d) e
      ∙ holds_no t (starts g a Comma d) (could_start a Comma) Comma d (not-true _ (and_parts (not (could_hold t (could_start a Comma) Comma)) _ h).0) (starts_no a Comma d)
  says_no t a c d h (inr e) =
      ap (λ x. says t a x d) e
      ∙ holds_no t (starts g a RightParen d) (could_start a RightParen) RightParen d
      (not-true _ (and_parts _ (not (could_hold t (could_start a RightParen) RightParen)) h).1) (starts_no a RightParen d)

  -- ---- What ends where a list goes on or ends

  -- the tests at its end hold neither of a comma nor of such a parenthesis; and so it is of the productions that end it
  abbrev pub closes : (Production → Bool) → Item → Bool
  closes ending (one classes) = true
  closes ending (part p) = ending p
  closes ending end_of_text = false
  closes ending (act a) = true
  closes ending (a · b) = closes ending b && (has_token b || closes ending a)
  closes ending (choice a b) = never own a && (never own b && (closes ending a && closes ending b))
  closes ending (maybe a) = never own a && closes ending a
  closes ending (many t a) = never t a && closes ending a
  closes ending (deep a) = never own a && closes ending a

  module _ (class_of : ℕ → Class) where
    -- Two texts that begin alike, as far as tests go; or both with what ends an item, where this is so.
    abbrev pub Same : List ℕ → List ℕ → Type 0
    Same ys zs =
        (here g class_of ys ≡ here g class_of zs)
        × ((behind g class_of ys ≡ behind g class_of zs) ⊎ (EndsItem (behind g class_of ys) × EndsItem (behind g class_of zs)))

    abbrev pub Kin : Type 0 → List ℕ → List ℕ → Type 0
    Kin e ys zs = Same ys zs ⊎ (e × (EndsItem (here g class_of ys) × EndsItem (here g class_of zs)))

    pub kin_front : (e e' : Type 0) (ts ys zs : List ℕ) → (has_any ts ≡ false → e → e') → Kin e ys zs → Kin e' (ts ++ ys) (ts ++ zs)
    kin_front e e' [] ys zs f (inl s) = inl s
    kin_front e e' [] ys zs f (inr k) = inr (f refl k.0, k.1)
    kin_front e e' (i ∷ []) ys zs f (inl s) = inl (refl, inl s.0)
    kin_front e e' (i ∷ []) ys zs f (inr k) = inl (refl, inr k.1)
    kin_front e e' (i ∷ j ∷ ts) ys zs f k = inl (refl, inl refl)

    pub may_alike : (t : Test) (a : Item) (ys zs : List ℕ) → test_alike t ≡ true → item_alike a ≡ true → Kin (never t a ≡ true) ys zs
        → may_read g class_of t a ys ≡ may_read g class_of t a zs
    may_alike t a ys zs h k (inl s) = ap (λ c. says t a c (behind g class_of ys)) s.0 ∙ by s.1
      where
        by : (behind g class_of ys ≡ behind g class_of zs) ⊎ (EndsItem (behind g class_of ys) × EndsItem (behind g class_of zs))
            → says t a (here g class_of zs) (behind g class_of ys) ≡ says t a (here g class_of zs) (behind g class_of zs)
        by (inl e) = ap (says t a (here g class_of zs)) e
        by (inr e) = as_comma t a (here g class_of zs) (behind g class_of ys) h k e.0 ∙ sym (as_comma t a (here g class_of zs) (behind g class_of zs) h k e.1)
    may_alike t a ys zs h k (inr e) =
        says_no t a (here g class_of ys) (behind g class_of ys) e.0 e.1.0 ∙ sym (says_no t a (here g class_of zs) (behind g class_of zs) e.0 e.1.1)
