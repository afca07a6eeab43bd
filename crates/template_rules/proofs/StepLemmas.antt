-- Offences of the elements of a list, one element after another.
use Rattle.std.proofs.Common.{◌≡◌, ℕ, ◌+◌, ◌<◌, ◌≤◌, List, [], ◌∷◌, ◌++◌, length, take, get_or, Option, sym, ap, ◌∙◌, append-nil, refl}
use Rattle.std.specs.List.{flat_map}
use Rattle.std.proofs.lemmas.Grind.{flat_map-append}
use Rattle.std.proofs.lemmas.List.{get_or_default, take_more, take_all}
use Rattle.analysis.specs.Below.source_files.Files.{Table}
use Rattle.offences.specs.declared.firsts.Offence.{Offence}
use Rattle.offences.specs.First.{FirstThen}
use Rattle.offences.proofs.FirstLemmas.{then_both}

-- one element more
pub flat_map-more : {X A : Type 0} (g : X → List A) (xs : List X) (k : ℕ) (x : X) → k < length xs → x ≡ get_or xs k x
    → flat_map g (take (k + 1) xs) ≡ flat_map g (take k xs) ++ g x
flat_map-more {X = X} g xs k x h is =
    let more : take (k + 1) xs ≡ take k xs ++ x ∷ [] = take_more xs k x h ∙ ap (λ (y : X). take k xs ++ y ∷ []) (sym is) in
    rw (more, flat_map-append g (take k xs) (x ∷ []), append-nil (g x)) refl

module _ (table : Table) where
  pub more_next : {X : Type 0} (g : X → List Offence) (xs : List X) (k : ℕ) (x : X) (a b c : Option Offence) → k < length xs → x ≡ get_or xs k x
      → FirstThen table (flat_map g (take k xs)) a b → FirstThen table (g x) b c → FirstThen table (flat_map g (take (k + 1) xs)) a c
  more_next g xs k x a b c h is before here =
      rw (flat_map-more g xs k x h is) (then_both table (flat_map g (take k xs)) (g x) a b c before here)

  pub more_next_or : {X : Type 0} (g : X → List Offence) (xs : List X) (k : ℕ) (d : X) (a b c : Option Offence) → k < length xs
      → FirstThen table (flat_map g (take k xs)) a b → FirstThen table (g (get_or xs k d)) b c → FirstThen table (flat_map g (take (k + 1) xs)) a c
  more_next_or g xs k d a b c h before here =
      more_next g xs k (get_or xs k d) a b c h (get_or_default xs k d (get_or xs k d) h) before here

  pub more_all : {X : Type 0} (g : X → List Offence) (xs : List X) (k : ℕ) (a b : Option Offence) → length xs ≤ k
      → FirstThen table (flat_map g (take k xs)) a b → FirstThen table (flat_map g xs) a b
  more_all g xs k a b h is = rw (← take_all k xs h) is
