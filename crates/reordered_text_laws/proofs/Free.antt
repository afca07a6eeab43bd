-- A test that asks nothing behind a parenthesis says there the same, whatever stands behind.
use Rattle.std.proofs.Common.{◌≡◌, Bool, true, false, ◌&&◌, ◌||◌, not, if◌then◌else◌, [], ◌∷◌, refl, sym, ap, ◌∙◌}
use Rattle.std.specs.List.{list_any}
use Rattle.std.proofs.lemmas.Bool.{and_parts, not-true}
use Rattle.c99_grammar.specs.declared.classes.Class.{Class}
use Rattle.c99_grammar.specs.declared.classes.Class.TheVariants.{LeftParen}
use Rattle.c99_grammar.specs.Classes.{among}
use Rattle.c99_grammar.specs.Items.{Item, one, part, end_of_text, act, ◌·◌, choice, maybe, many, deep, own, otherwise, next, next_two, Test}
use Rattle.c99_grammar.specs.Standard.{Grammar}
use Rattle.c99_grammar.specs.Starting.{is_passed, asks, holds, starts, is_pair}
use Rattle.c99_grammar.proofs.PairLemmas.{none_begins}

module _ (g : Grammar) where
  -- what a test says at a parenthesis does not hang on what stands behind
  abbrev pub free_test : Test → Bool
  free_test (next_two a b) = not (asks g a LeftParen)
  free_test _ = true

  abbrev pub free : Item → Bool
  free (part p) = not (list_any (λ x. among (x.0 ∷ []) LeftParen) (g.pairs p))
  free (a · b) = free a && free b
  free (choice a b) = free a && free b
  free (maybe a) = free a
  free (many t a) = free_test t && free a
  free (deep a) = free a
  free _ = true

  -- .. for each test in the item
  abbrev pub tests_free : Item → Bool
  tests_free (a · b) = tests_free a && tests_free b
  tests_free (choice a b) = (free a && free b) && (tests_free a && tests_free b)
  tests_free (maybe a) = free a && tests_free a
  tests_free (many t a) = (free_test t && free a) && tests_free a
  tests_free (deep a) = free a && tests_free a
  tests_free _ = true

  pub free_holds : (t : Test) (u v : Bool) (d e : Class) → free_test t ≡ true → u ≡ v → holds g t u LeftParen d ≡ holds g t v LeftParen e
  free_holds own u v d e h k = k
  free_holds otherwise u v d e h k = refl
  free_holds (next a) u v d e h k = refl
  free_holds (next_two a b) u v d e h k =
      let n = not-true (asks g a LeftParen) h in ap (λ w. w && asks g b d) n ∙ sym (ap (λ w. w && asks g b e) n)

  free_either : (p u u' v v' : Bool) → u ≡ u' → v ≡ v' → (if p then (u || v) else u) ≡ (if p then (u' || v') else u')
  free_either true u u' v v' e f = ap (λ w. w || v) e ∙ ap (λ w. u' || w) f
  free_either false u u' v v' e f = e

  pub free_starts : (a : Item) (d e : Class) → free a ≡ true → starts g a LeftParen d ≡ starts g a LeftParen e
  free_starts (one L) d e h = refl
  free_starts (part p) d e h =
      let n = not-true (list_any (λ x. among (x.0 ∷ []) LeftParen) (g.pairs p)) h in
      let none : (b : Class) → list_any (λ x. is_pair g x LeftParen b) (g.pairs p) ≡ false = λ b. none_begins g (g.pairs p) LeftParen b n in
      ap (λ w. among (g.first p) LeftParen || w) (none d ∙ sym (none e))
  free_starts end_of_text d e h = refl
  free_starts (act a) d e h = refl
  free_starts (a · b) d e h =
      let both = and_parts (free a) (free b) h in free_either (is_passed a) _ _ _ _ (free_starts a d e both.0) (free_starts b d e both.1)
  free_starts (choice a b) d e h =
      let both = and_parts (free a) (free b) h in free_either true _ _ _ _ (free_starts a d e both.0) (free_starts b d e both.1)
  free_starts (maybe a) d e h = free_starts a d e h
  free_starts (many t a) d e h =
      let both = and_parts (free_test t) (free a) h in
      free_holds t (starts g a LeftParen d) (starts g a LeftParen e) d e both.0 (free_starts a d e both.1)
  free_starts (deep a) d e h = free_starts a d e h
