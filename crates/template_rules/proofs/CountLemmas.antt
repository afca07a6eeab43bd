-- The first of some declarators.
use Rattle.std.proofs.Common.{◌≡◌, ℕ, ◌+◌, ◌<◌, ◌≤◌, List, [], ◌∷◌, ◌++◌, length, take, get_or, Option, Some, refl, sym, ap, ◌∙◌}
use Rattle.std.specs.List.{flat_map}
use Rattle.std.proofs.lemmas.List.{get_or_default, take_all}
use Rattle.analysis.specs.Below.source_files.Files.{Table}
use Rattle.template_rules.specs.declared.counting.Declarator.{Declarator}
use Rattle.template_rules.specs.Lists.{sooner, soonest}
use Rattle.template_rules.proofs.StepLemmas.{flat_map-more}

module _ (table : Table) where
  pub soonest-none : (best : Option Declarator) → best ≡ soonest table best []
  unfolding soonest
  soonest-none best = refl

  pub soonest-one : (best : Option Declarator) (d : Declarator) → Some (sooner table best d) ≡ soonest table best (d ∷ [])
  unfolding soonest
  soonest-one best d = refl

  pub soonest-append : (best : Option Declarator) (ds es : List Declarator) → soonest table best (ds ++ es) ≡ soonest table (soonest table best ds) es
  unfolding soonest
  soonest-append best [] es = refl
  soonest-append best (d ∷ ds) es = soonest-append (Some (sooner table best d)) ds es

  pub soonest-next : {X : Type 0} (f : X → List Declarator) (xs : List X) (k : ℕ) (x : X) (best now new : Option Declarator) → k < length xs
      → x ≡ get_or xs k x → now ≡ soonest table best (flat_map f (take k xs)) → new ≡ soonest table now (f x)
      → new ≡ soonest table best (flat_map f (take (k + 1) xs))
  soonest-next f xs k x best now new lt is before here =
      here ∙ ap (λ (b : Option Declarator). soonest table b (f x)) before
      ∙ sym (soonest-append best (flat_map f (take k xs)) (f x))
      ∙ ap (λ (ds : List Declarator). soonest table best ds) (sym (flat_map-more f xs k x lt is))

  pub soonest-next_or : {X : Type 0} (f : X → List Declarator) (xs : List X) (k : ℕ) (d : X) (best now new : Option Declarator) → k < length xs
      → now ≡ soonest table best (flat_map f (take k xs)) → new ≡ soonest table now (f (get_or xs k d))
      → new ≡ soonest table best (flat_map f (take (k + 1) xs))
  soonest-next_or f xs k d best now new lt before here =
      soonest-next f xs k (get_or xs k d) best now new lt (get_or_default xs k d (get_or xs k d) lt) before here

  pub soonest-all : {X : Type 0} (f : X → List Declarator) (xs : List X) (k : ℕ) (best now : Option Declarator) → length xs ≤ k
      → now ≡ soonest table best (flat_map f (take k xs)) → now ≡ soonest table best (flat_map f xs)
  soonest-all f xs k best now past is = rw (← take_all k xs past) is
