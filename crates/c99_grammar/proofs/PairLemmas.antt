-- Pairs of a class and of what is asked of the class behind it.
use Rattle.std.proofs.Common.{◌≡◌, Bool, true, false, ◌&&◌, ◌||◌, List, [], ◌∷◌, ◌++◌, refl, ap, ◌∙◌}
use Rattle.std.specs.List.{list_all, list_any}
use Rattle.std.proofs.lemmas.Bool.{and_parts, or_parts}
use Rattle.std.proofs.Math.Bool.{or_assoc}
use Rattle.c99_grammar.specs.declared.classes.Class.{Class}
use Rattle.c99_grammar.specs.Classes.{among}
use Rattle.c99_grammar.specs.Items.{Ask}
use Rattle.c99_grammar.specs.Standard.{Grammar}
use Rattle.c99_grammar.specs.Starting.{asks, is_pair}

module _ (g : Grammar) where
  no_pair : (u v w : Bool) → u ≡ false → w ≡ false → ((u && v) || w) ≡ false
  no_pair u v w e f = ap (λ b. (b && v) || w) e ∙ f

  -- where no pair begins with the class, nothing behind it makes one
  pub none_begins : (pairs : List (Class × Ask)) (c d : Class) → list_any (λ x. among (x.0 ∷ []) c) pairs ≡ false
      → list_any (λ x. is_pair g x c d) pairs ≡ false
  none_begins [] c d h = refl
  none_begins (x ∷ pairs) c d h =
      let parts = or_parts (among (x.0 ∷ []) c) (list_any (λ y. among (y.0 ∷ []) c) pairs) h in
      no_pair (among (x.0 ∷ []) c) (asks g x.1 d) (list_any (λ y. is_pair g y c d) pairs) parts.0 (none_begins pairs c d parts.1)

  -- two classes and two others make the same pairs, where they do so one by one
  pub pairs_same : (P : Class × Ask → Bool) (c d c' d' : Class) → ((x : Class × Ask) → P x ≡ true → is_pair g x c' d' ≡ is_pair g x c d)
      → (pairs : List (Class × Ask)) → list_all P pairs ≡ true → list_any (λ x. is_pair g x c' d') pairs ≡ list_any (λ x. is_pair g x c d) pairs
  pairs_same P c d c' d' f [] h = refl
  pairs_same P c d c' d' f (x ∷ pairs) h =
      let parts = and_parts (P x) (list_all P pairs) h in
      ap (λ b. b || list_any (λ y. is_pair g y c' d') pairs) (f x parts.0)
      ∙ ap (λ b. is_pair g x c d || b) (pairs_same P c d c' d' f pairs parts.1)

  -- a pair of one list or of the other
  pub pairs_append : (xs ys : List (Class × Ask)) (c d : Class)
      → (list_any (λ x. is_pair g x c d) xs || list_any (λ x. is_pair g x c d) ys) ≡ list_any (λ x. is_pair g x c d) (xs ++ ys)
  pairs_append [] ys c d = refl
  pairs_append (x ∷ xs) ys c d =
      or_assoc (is_pair g x c d) (list_any (λ y. is_pair g y c d) xs) (list_any (λ y. is_pair g y c d) ys)
      ∙ ap (λ b. is_pair g x c d || b) (pairs_append xs ys c d)
