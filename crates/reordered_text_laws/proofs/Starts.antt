-- What is read for a production starts it.
use Rattle.std.proofs.Common.{ℕ, suc, zero, ◌+◌, ◌≡◌, true, ◌||◌, List, [], ◌∷◌, Option, Some, ap, ◌∙◌}
use Rattle.std.specs.List.{list_any}
use Rattle.cs_base.proofs.BoolLemmas.{or_right}
use Rattle.c99_grammar.specs.declared.dialects.Dialect.{Dialect}
use Rattle.c99_tree.specs.declared.production.Production.{Production}
use Rattle.c99_grammar.specs.declared.classes.Class.{Class}
use Rattle.c99_grammar.specs.Items.{Alternative}
use Rattle.c99_grammar.specs.Standard.{Grammar, grammar}
use Rattle.c99_grammar.specs.Starting.{production_starts}
use Rattle.c99_grammar.proofs.FirstLemmas.{first_sets}
use Rattle.c99_read.specs.Reading.{Goal, produce}
use Rattle.reordered_text_laws.specs.ByClasses.{Taken, here, behind, may_read, read_first, read_by_classes}
use Rattle.reordered_text_laws.proofs.Found.{stopped, branch}

module _ (g : Grammar) (class_of : ℕ → Class) (below : ℕ → Goal → List ℕ → Option Taken) where
  any_first : (p : Production) (alternatives : List Alternative) (depth n : ℕ) (xs : List ℕ) (t : Taken) → read_first g class_of below depth p n alternatives xs ≡ Some t
      → list_any (λ a. may_read g class_of a.test a.body xs) alternatives ≡ true
  any_first p [] depth n xs t e = absurd (stopped t e)
  any_first p (a ∷ more) depth n xs t e =
      branch (may_read g class_of a.test a.body xs) _ _ t
      (λ c e'. ap (λ v. v || list_any (λ b. may_read g class_of b.test b.body xs) more) c)
      (λ c e'. or_right (may_read g class_of a.test a.body xs) _ (any_first p more depth (n + 1) xs t e'))
      e

pub starts_so : (s : Dialect) (class_of : ℕ → Class) (fuel depth : ℕ) (p : Production) (xs : List ℕ) (t : Taken)
    → read_by_classes (grammar s) class_of fuel depth (produce p) xs ≡ Some t
    → production_starts (grammar s) p (here (grammar s) class_of xs) (behind (grammar s) class_of xs) ≡ true
unfolding read_by_classes
starts_so s class_of zero depth p xs t e = absurd (stopped t e)
starts_so s class_of (suc fuel) depth p xs t e =
    first_sets s p (here (grammar s) class_of xs) (behind (grammar s) class_of xs)
    ∙ any_first (grammar s) class_of (read_by_classes (grammar s) class_of fuel) p ((grammar s).table p) depth 1 xs t e
