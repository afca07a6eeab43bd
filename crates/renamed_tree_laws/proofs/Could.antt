-- With which classes an item may start, whatever stands behind.
use Rattle.std.proofs.Common.{◌≡◌, Bool, true, false, ◌&&◌, ◌||◌, if◌then◌else◌, [], ◌∷◌, refl, sym, ap, ◌∙◌}
use Rattle.std.specs.List.{list_any}
use Rattle.std.proofs.lemmas.Bool.{false≢true, or_parts}
use Rattle.c99_grammar.specs.declared.classes.Class.{Class}
use Rattle.c99_grammar.specs.declared.classes.Class.TheVariants.{End}
use Rattle.c99_grammar.specs.Classes.{among}
use Rattle.c99_grammar.specs.Items.{Item, one, part, end_of_text, act, ◌·◌, choice, maybe, many, deep, Test, own, otherwise, next, next_two}
use Rattle.c99_grammar.specs.Standard.{Grammar}
use Rattle.c99_grammar.specs.Starting.{asks, holds, is_pair, is_passed, starts}
use Rattle.c99_grammar.proofs.PairLemmas.{none_begins}

module _ (g : Grammar) where
  abbrev pub could_hold : Test → Bool → Class → Bool
  could_hold own x c = x
  could_hold otherwise x c = true
  could_hold (next a) x c = asks g a c
  could_hold (next_two a b) x c = asks g a c

  abbrev pub could_start : Item → Class → Bool
  could_start (one classes) c = among classes c
  could_start (part p) c = among (g.first p) c || list_any (λ x. among (x.0 ∷ []) c) (g.pairs p)
  could_start end_of_text c = among (End ∷ []) c
  could_start (act a) c = false
  could_start (a · b) c = if is_passed a then could_start a c || could_start b c else could_start a c
  could_start (choice a b) c = could_start a c || could_start b c
  could_start (maybe a) c = could_start a c
  could_start (many t a) c = could_hold t (could_start a c) c
  could_start (deep a) c = could_start a c

  no_and : (x y : Bool) → x ≡ false → (x && y) ≡ false
  no_and x y e = ap (λ v. v && y) e

  holds_no : (t : Test) (x y : Bool) (c d : Class) → could_hold t y c ≡ false → (y ≡ false → x ≡ false) → holds g t x c d ≡ false
  holds_no own x y c d h f = f h
  holds_no otherwise x y c d h f = absurd (false≢true (sym h))
  holds_no (next a) x y c d h f = h
  holds_no (next_two a b) x y c d h f = no_and (asks g a c) (asks g b d) h

  both_no : (p x x' y y' : Bool) → (x' ≡ false → x ≡ false) → (y' ≡ false → y ≡ false) → (if p then (x' || y') else x') ≡ false
      → (if p then (x || y) else x) ≡ false
  both_no true x x' y y' f k e = let parts = or_parts x' y' e in ap (λ v. v || y) (f parts.0) ∙ k parts.1
  both_no false x x' y y' f k e = f e

  starts_no : (a : Item) (c d : Class) → could_start a c ≡ false → starts g a c d ≡ false
  starts_no (one classes) c d h = h
  starts_no (part p) c d h =
      let parts = or_parts (among (g.first p) c) (list_any (λ x. among (x.0 ∷ []) c) (g.pairs p)) h in
      ap (λ v. v || list_any (λ x. is_pair g x c d) (g.pairs p)) parts.0 ∙ none_begins g (g.pairs p) c d parts.1
  starts_no end_of_text c d h = h
  starts_no (act a) c d h = refl
  starts_no (a · b) c d h = both_no (is_passed a) _ (could_start a c) _ (could_start b c) (starts_no a c d) (starts_no b c d) h
  starts_no (choice a b) c d h = both_no true _ (could_start a c) _ (could_start b c) (starts_no a c d) (starts_no b c d) h
  starts_no (maybe a) c d h = starts_no a c d h
  starts_no (many t a) c d h = holds_no t (starts g a c d) (could_start a c) c d h (starts_no a c d)
  starts_no (deep a) c d h = starts_no a c d h

  -- what cannot start is not read
  pub may_no : (t : Test) (a : Item) (c d : Class) → could_hold t (could_start a c) c ≡ false → holds g t (starts g a c d) c d ≡ false
  may_no t a c d h = holds_no t (starts g a c d) (could_start a c) c d h (starts_no a c d)
