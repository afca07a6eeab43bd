-- The first of some macros.
use Rattle.std.proofs.Common.{◌≡◌, ℕ, ◌+◌, ◌<◌, ◌≤◌, List, [], ◌∷◌, ◌++◌, length, take, get_or, Option, Some, refl, sym, ap, ◌∙◌}
use Rattle.std.proofs.lemmas.List.{get_or_default, take_more, take_all}
use Rattle.analysis.specs.Below.source_files.Files.{Table}
use Rattle.macro_rules.specs.declared.heads.Head.{Head}
use Rattle.macro_rules.specs.Counting.{sooner, soonest}

module _ (table : Table) where
  soonest-append : (best : Option Head) (hs gs : List Head) → soonest table best (hs ++ gs) ≡ soonest table (soonest table best hs) gs
  unfolding soonest
  soonest-append best [] gs = refl
  soonest-append best (h ∷ hs) gs = soonest-append (Some (sooner table best h)) hs gs

  soonest-one : (best : Option Head) (h : Head) → soonest table best (h ∷ []) ≡ Some (sooner table best h)
  unfolding soonest
  soonest-one best h = refl

  pub soonest-none : (best : Option Head) → best ≡ soonest table best []
  unfolding soonest
  soonest-none best = refl

  soonest-next : (hs : List Head) (k : ℕ) (h : Head) (best now : Option Head) (new : Head) → k < length hs → h ≡ get_or hs k h
      → now ≡ soonest table best (take k hs) → new ≡ sooner table now h → Some new ≡ soonest table best (take (k + 1) hs)
  soonest-next hs k h best now new lt is before here =
      let more : take (k + 1) hs ≡ take k hs ++ h ∷ [] = take_more hs k h lt ∙ ap (λ (x : Head). take k hs ++ x ∷ []) (sym is) in
      ap Some here ∙ ap (λ (b : Option Head). Some (sooner table b h)) before ∙ sym (soonest-one (soonest table best (take k hs)) h)
      ∙ sym (soonest-append best (take k hs) (h ∷ [])) ∙ ap (soonest table best) (sym more)

  pub soonest-next_or : (hs : List Head) (k : ℕ) (d : Head) (best now : Option Head) (new : Head) → k < length hs
      → now ≡ soonest table best (take k hs) → new ≡ sooner table now (get_or hs k d) → Some new ≡ soonest table best (take (k + 1) hs)
  soonest-next_or hs k d best now new lt before here =
      soonest-next hs k (get_or hs k d) best now new lt (get_or_default hs k d (get_or hs k d) lt) before here

  pub soonest-all : (hs : List Head) (k : ℕ) (best now : Option Head) → length hs ≤ k → now ≡ soonest table best (take k hs) → now ≡ soonest table best hs
  soonest-all hs k best now past is = rw (← take_all k hs past) is
