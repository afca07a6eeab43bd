-- Sizes of files, as far as the limits ask for them.
use Rattle.std.proofs.Common.{◌≡◌, ℕ, ◌+◌, ◌<◌, ◌≤◌, ◌^◌, true, List, [], ◌∷◌, ◌++◌, length, take, drop, get_or, Option, Some, slice_get, nat_lt, refl, sym, ap, ◌∙◌, subst, arith, add-one}
use Rattle.std.specs.Prelude.{min}
use Rattle.std.specs.List.{flat_map, prefix_len}
use Rattle.std.specs.Option.{option_map_or}
use Rattle.std.proofs.lemmas.Bool.{lt-ltb}
use Rattle.std.proofs.lemmas.List.{at_drop_more, at_drop_all, map-append}
use Rattle.std.proofs.lemmas.Option.{same_Some, slice_get-get_or}
use Rattle.cs_base.specs.declared.causes.Cause.TheVariants as cause
use Rattle.cs_base.specs.declared.positions.Part.{Part}
use Rattle.cs_base.proofs.PlaceLemmas.{none_left}
use Rattle.analysis.specs.Below.eclass_map.ClassTable.{nowhere}
use Rattle.analysis.specs.Below.source_files.Files.{Table, Entry, Absent, entry}
use Rattle.analysis.specs.Below.source_files.KeptFiles.{kept_at}
use Rattle.part_respell.specs.Order.{AreInOrder}
use Rattle.analysis.specs.Analysis.{AnalysisValue}
use Rattle.offences.specs.declared.firsts.Offence.{Offence}
use Rattle.offences.specs.First.{offence, standing, FirstThen}
use Rattle.rename_rules.specs.Offences.{full_place, large_place, too_large_places}
use Rattle.rename_rules.specs.Runs.{kept_size, kept_sizes, is_in, most_size, new_size, new_size_of_all, new_sizes, run_length, runs, AreApart}
use Rattle.offences.proofs.FirstLemmas.{then_both, then_none}
use Rattle.rename_rules.proofs.RunLemmas.{run_order, runs-split, runs-none}

kept_sizes-more : (members : List Part) (table : Table) (k : ℕ) → k < length table
    → kept_sizes members k (drop k table) ≡ option_map_or (kept_size members k) (kept_at table k) 0 + kept_sizes members (k + 1) (drop (k + 1) table)
unfolding kept_sizes
kept_sizes-more members table k within =
    let d : Entry = entry [] Absent in
    let found = slice_get-get_or table k d within in
    at_drop_more (kept_sizes members k) table k d within ∙ rw found refl

sum_capped : (total s rest most : ℕ) → min (min (total + min s most) most + rest) most ≡ min (total + (s + rest)) most
sum_capped total s rest most = omega arith

once_capped : (kept rest most : ℕ) → min (min kept most + rest) most ≡ min (kept + rest) most
once_capped kept rest most = omega arith

sum_twice : (total size rest most : ℕ) → min (min (total + size) most + rest) most ≡ min (total + (size + rest)) most
sum_twice total size rest most = omega arith

pub sizes_next : (members : List Part) (table : Table) (k total s more whole : ℕ) → k < length table
    → s ≡ min (option_map_or (kept_size members k) (kept_at table k) 0) most_size → more ≡ min (total + s) most_size
    → min (total + kept_sizes members k (drop k table)) most_size ≡ whole
    → min (more + kept_sizes members (k + 1) (drop (k + 1) table)) most_size ≡ whole
sizes_next members table k total s more whole within is sum so_far =
    let size = option_map_or (kept_size members k) (kept_at table k) 0 in
    let rest = kept_sizes members (k + 1) (drop (k + 1) table) in
    rw (sum, is) (sum_capped total size rest most_size ∙ ap (λ (n : ℕ). min (total + n) most_size) (sym (kept_sizes-more members table k within)) ∙ so_far)

pub sizes_end : (members : List Part) (table : Table) (k total whole : ℕ) → length table ≤ k → total ≤ most_size
    → min (total + kept_sizes members k (drop k table)) most_size ≡ whole → total ≡ whole
unfolding kept_sizes
sizes_end members table k total whole past within so_far =
    let none : kept_sizes members k (drop k table) ≡ 0 = at_drop_all (kept_sizes members k) table k past in
    let end : min (total + 0) most_size ≡ whole = rw none at so_far in
    omega (arith, end, within)

-- ---- too large

abbrev pub no_part : Part
no_part = record { start = nowhere; len = 0 }

pub large_here : (a : AnalysisValue) (name : List ℕ) (run : List Part) (size : ℕ) (x y : Option Offence) → 1 ≤ length run
    → size ≡ min (new_size a name run) most_size → 2 ^ 22 < size
    → FirstThen a.table (offence cause.TooLarge (get_or run 0 no_part).start ∷ []) x y
    → FirstThen a.table (standing cause.TooLarge (large_place a name run)) x y
large_here a name [] size x y some is large then = absurd (omega (arith, some))
large_here a name (m ∷ run) size x y some is large then =
    let test : nat_lt (2 ^ 22) (new_size a name (m ∷ run)) ≡ true = lt-ltb (2 ^ 22) (new_size a name (m ∷ run)) (omega (arith, is, large)) in
    rw test then

pub full_here : (a : AnalysisValue) (name : List ℕ) (members : List Part) (total : ℕ) (x y : Option Offence) → 1 ≤ length members
    → total ≡ min (new_size_of_all a name members) most_size → 2 ^ 28 < total
    → FirstThen a.table (offence cause.TooLarge (get_or members 0 no_part).start ∷ []) x y
    → FirstThen a.table (standing cause.TooLarge (full_place a name members)) x y
full_here a name [] total x y some is large then = absurd (omega (arith, some))
full_here a name (m ∷ members) total x y some is large then =
    let test : nat_lt (2 ^ 28) (new_size_of_all a name (m ∷ members)) ≡ true = lt-ltb (2 ^ 28) (new_size_of_all a name (m ∷ members)) (omega (arith, is, large)) in
    rw test then

-- ---- runs

pub runs_at : (rest : List Part) → 1 ≤ length rest → runs rest ≡ take (run_length rest) rest ∷ runs (drop (run_length rest) rest)
runs_at [] some = absurd (omega (arith, some))
runs_at (m ∷ ms) some = runs-split m ms

at_front : {X : Type 0} (n : ℕ) (x : X) (xs : List X) (y : X) → slice_get (take (n + 1) (x ∷ xs)) 0 ≡ Some y → x ≡ y
at_front n x xs y at = let here : slice_get (x ∷ take n xs) 0 ≡ Some y = rw (add-one n) at at in same_Some x y here

pub front_in_order : (rest : List Part) → AreApart rest → (m : Part) → slice_get (take (run_length rest) rest) 0 ≡ Some m
    → AreInOrder m.start.file 0 (take (run_length rest) rest)
front_in_order [] apart m at = absurd (cc)
front_in_order (n ∷ ns) apart m at =
    let same : n ≡ m = at_front (prefix_len (is_in n.start.file) ns) n ns m at in
    let P : Part → Type 0 = λ p. AreInOrder p.start.file 0 (take (run_length (n ∷ ns)) (n ∷ ns)) in
    subst P same (run_order n ns apart)

-- one run more
pub total_next : (a : AnalysisValue) (name : List ℕ) (rest : List Part) (total more whole : ℕ) → 1 ≤ length rest
    → more ≡ min (total + new_size a name (take (run_length rest) rest)) most_size
    → min (total + new_sizes a name (runs rest)) most_size ≡ whole
    → min (more + new_sizes a name (runs (drop (run_length rest) rest))) most_size ≡ whole
total_next a name rest total more whole some sum so_far =
    let size = new_size a name (take (run_length rest) rest) in
    let later = new_sizes a name (runs (drop (run_length rest) rest)) in
    let all : min (total + (size + later)) most_size ≡ whole = rw (runs_at rest some) at so_far in
    rw sum (sum_twice total size later most_size ∙ all)

pub first_next : (a : AnalysisValue) (name : List ℕ) (rest : List Part) (all : List Offence) (x y z : Option Offence) → 1 ≤ length rest
    → ((last : Option Offence) → FirstThen a.table (standing cause.TooLarge (flat_map (large_place a name) (runs rest))) y last → FirstThen a.table all x last)
    → FirstThen a.table (standing cause.TooLarge (large_place a name (take (run_length rest) rest))) y z
    → (last : Option Offence) → FirstThen a.table (standing cause.TooLarge (flat_map (large_place a name) (runs (drop (run_length rest) rest)))) z last
    → FirstThen a.table all x last
first_next a name rest all x y z some so_far here last later =
    let run = large_place a name (take (run_length rest) rest) in
    let others = flat_map (large_place a name) (runs (drop (run_length rest) rest)) in
    let both : standing cause.TooLarge (flat_map (large_place a name) (runs rest)) ≡ standing cause.TooLarge run ++ standing cause.TooLarge others =
    ap (λ (rs : List (List Part)). standing cause.TooLarge (flat_map (large_place a name) rs)) (runs_at rest some)
    ∙ map-append (offence cause.TooLarge) run others in
    so_far last (rw both (then_both a.table (standing cause.TooLarge run) (standing cause.TooLarge others) y z last here later))

pub total_end : (a : AnalysisValue) (name : List ℕ) (rest : List Part) (total whole : ℕ) → length rest ≡ 0 → total ≤ most_size
    → min (total + new_sizes a name (runs rest)) most_size ≡ whole → total ≡ whole
total_end a name rest total whole none within so_far =
    let end : min (total + 0) most_size ≡ whole = rw (none_left rest none, runs-none) at so_far in
    omega (arith, end, within)

pub first_end : (a : AnalysisValue) (name : List ℕ) (rest : List Part) (all : List Offence) (x y : Option Offence) → length rest ≡ 0
    → ((last : Option Offence) → FirstThen a.table (standing cause.TooLarge (flat_map (large_place a name) (runs rest))) y last → FirstThen a.table all x last)
    → FirstThen a.table all x y
first_end a name rest all x y none so_far = so_far y (rw (none_left rest none, runs-none) (then_none a.table y))

-- ---- all files

pub all_sizes : (a : AnalysisValue) (name : List ℕ) (members : List Part) (kept total : ℕ) → kept ≡ min (kept_sizes members 0 a.table) most_size
    → total ≡ min (kept + new_sizes a name (runs members)) most_size → total ≡ min (new_size_of_all a name members) most_size
unfolding new_size_of_all
all_sizes a name members kept total is sum =
    sum ∙ ap (λ (n : ℕ). min (n + new_sizes a name (runs members)) most_size) is
    ∙ once_capped (kept_sizes members 0 a.table) (new_sizes a name (runs members)) most_size

pub all_large : (a : AnalysisValue) (name : List ℕ) (members : List Part) (x y z : Option Offence)
    → FirstThen a.table (standing cause.TooLarge (flat_map (large_place a name) (runs members))) x y
    → FirstThen a.table (standing cause.TooLarge (full_place a name members)) y z
    → FirstThen a.table (standing cause.TooLarge (too_large_places a members name)) x z
unfolding too_large_places
all_large a name members x y z f g =
    let large = flat_map (large_place a name) (runs members) in
    let full = full_place a name members in
    rw (map-append (offence cause.TooLarge) large full) (then_both a.table (standing cause.TooLarge large) (standing cause.TooLarge full) x y z f g)
