-- Names that would become the prefix of a constant, token by token and file by file.
use Rattle.std.proofs.Common.{◌≡◌, ℕ, zero, suc, ◌+◌, ◌-◌, ◌<◌, ◌≤◌, List, [], ◌∷◌, ◌++◌, length, drop, Option, Some, None, Result, Ok, Err, slice_get, refl, sym, ap, ◌∙◌, arith}
use Rattle.std.specs.Option.{option_map_or}
use Rattle.std.specs.Prelude.{IfOk}
use Rattle.std.proofs.lemmas.List.{at_drop_more, at_drop_all, map-append}
use Rattle.std.proofs.lemmas.Option.{slice_get-get_or}
use Rattle.cs_base.specs.declared.causes.Cause.TheVariants as cause
use Rattle.cs_base.specs.declared.positions.Part.{Part}
use Rattle.cs_base.specs.declared.positions.Pos.{Pos}
use Rattle.cs_base.specs.Token.{Token}
use Rattle.analysis.specs.Below.source_files.Files.{Table, Entry, Absent, entry}
use Rattle.analysis.specs.Below.source_files.KeptFiles.{kept_at}
use Rattle.offences.specs.declared.firsts.Offence.{Offence}
use Rattle.offences.specs.First.{offence, standing, FirstThen}
use Rattle.rename_rules.specs.Prefixes.{prefix_place, prefix_places, prefix_places_in, prefix_places_of}
use Rattle.offences.proofs.FirstLemmas.{then_none, then_both}

-- what stands at these places, and then at those
pub then_also : {E : Type 0} (table : Table) (xs ys : List Pos) (first now : Option Offence) (r : Result (Option Offence) E)
    → FirstThen table (standing cause.Reserved xs) first now → IfOk r (FirstThen table (standing cause.Reserved ys) now)
    → IfOk r (FirstThen table (standing cause.Reserved (xs ++ ys)) first)
then_also table xs ys first now (Ok last) before here =
    rw (map-append (offence cause.Reserved) xs ys)
    (then_both table (standing cause.Reserved xs) (standing cause.Reserved ys) first now last before here)
then_also table xs ys first now (Err e) before here = tt

module _ (members : List Part) (name : List ℕ) where
  abbrev of_toks : List Token → List Pos
  of_toks toks = prefix_places_of members name toks

  -- ---- the tokens of a file

  pairs_more : (toks : List Token) (k : ℕ) (t u : Token) → slice_get toks k ≡ Some t → slice_get toks (suc k) ≡ Some u
      → of_toks (drop k toks) ≡ prefix_place members name t u ++ of_toks (drop (suc k) toks)
  unfolding prefix_places_of
  pairs_more [] zero t u at next = absurd (cc)
  pairs_more [] (suc k) t u at next = absurd (cc)
  pairs_more (x ∷ []) zero t u at next = absurd (cc)
  pairs_more (x ∷ y ∷ toks) zero t u at next =
      let one : x ≡ t = cc in
      let two : y ≡ u = cc in
      rw (one, two) refl
  pairs_more (x ∷ toks) (suc k) t u at next = pairs_more toks k t u at next

  pairs_none : (toks : List Token) (k : ℕ) → length toks ≤ suc k → of_toks (drop k toks) ≡ []
  unfolding prefix_places_of
  pairs_none [] zero past = refl
  pairs_none [] (suc k) past = refl
  pairs_none (x ∷ []) zero past = refl
  pairs_none (x ∷ y ∷ toks) zero past = absurd (omega (arith, past))
  pairs_none (x ∷ toks) (suc k) past = pairs_none toks k (omega (arith, past))

  -- what stands from token k - 1 on comes to what came before
  abbrev pub GoesOn : Table → List Token → ℕ → Option Offence → Option Offence → Type 0
  GoesOn table toks k first now =
      (last : Option Offence) → FirstThen table (standing cause.Reserved (of_toks (drop (k - 1) toks))) now last
      → FirstThen table (standing cause.Reserved (of_toks toks)) first last

  pub pairs_next : (table : Table) (toks : List Token) (k : ℕ) (t u : Token) (first now after : Option Offence) → 0 < k
      → slice_get toks (k - 1) ≡ Some t → slice_get toks k ≡ Some u → GoesOn table toks k first now
      → FirstThen table (standing cause.Reserved (prefix_place members name t u)) now after → GoesOn table toks (k + 1) first after
  pairs_next table toks zero t u first now after some at next before here = absurd (omega (arith, some))
  pairs_next table toks (suc k) t u first now after some at next before here = λ last later.
      let back : suc k - 1 ≡ k = omega arith in
      let on : suc k + 1 - 1 ≡ suc k = omega arith in
      let at' : slice_get toks k ≡ Some t = rw back at at in
      let here_ = prefix_place members name t u in
      let rest = of_toks (drop (suc k) toks) in
      let both : standing cause.Reserved (of_toks (drop (suc k - 1) toks)) ≡ standing cause.Reserved here_ ++ standing cause.Reserved rest =
      ap (λ (i : ℕ). standing cause.Reserved (of_toks (drop i toks))) back ∙ ap (standing cause.Reserved) (pairs_more toks k t u at' next)
      ∙ map-append (offence cause.Reserved) here_ rest in
      let later' : FirstThen table (standing cause.Reserved rest) after last = rw on at later in
      before last (rw both (then_both table (standing cause.Reserved here_) (standing cause.Reserved rest) now after last here later'))

  pub pairs_all : (table : Table) (toks : List Token) (k : ℕ) (first now : Option Offence) → 0 < k → length toks ≤ k
      → GoesOn table toks k first now → FirstThen table (standing cause.Reserved (of_toks toks)) first now
  pairs_all table toks zero first now some past before = absurd (omega (arith, some))
  pairs_all table toks (suc k) first now some past before =
      let back : suc k - 1 ≡ k = omega arith in
      let none : of_toks (drop (suc k - 1) toks) ≡ [] = ap (λ (i : ℕ). of_toks (drop i toks)) back ∙ pairs_none toks k past in
      before now (rw none (then_none table now))

  -- ---- files

  abbrev from : ℕ → Table → List Pos
  from k table = prefix_places members name k table

  files-more : (table : Table) (k : ℕ) → k < length table
      → from k (drop k table) ≡ option_map_or (prefix_places_in members name) (kept_at table k) [] ++ from (k + 1) (drop (k + 1) table)
  unfolding prefix_places
  files-more table k within =
      let d : Entry = entry [] Absent in
      let found = slice_get-get_or table k d within in
      at_drop_more (from k) table k d within ∙ rw found refl

  -- what stands from a file on comes to what came before
  abbrev pub FilesGoOn : Table → ℕ → Option Offence → Option Offence → Type 0
  FilesGoOn table k first now =
      (last : Option Offence) → FirstThen table (standing cause.Reserved (from k (drop k table))) now last
      → FirstThen table (standing cause.Reserved (from 0 table)) first last

  pub files_next : (table : Table) (k : ℕ) (first now after : Option Offence) → k < length table → FilesGoOn table k first now
      → FirstThen table (standing cause.Reserved (option_map_or (prefix_places_in members name) (kept_at table k) [])) now after
      → FilesGoOn table (k + 1) first after
  files_next table k first now after within before here last later =
      let here_ = option_map_or (prefix_places_in members name) (kept_at table k) [] in
      let rest = from (k + 1) (drop (k + 1) table) in
      let both : standing cause.Reserved (from k (drop k table)) ≡ standing cause.Reserved here_ ++ standing cause.Reserved rest =
      ap (standing cause.Reserved) (files-more table k within) ∙ map-append (offence cause.Reserved) here_ rest in
      before last (rw both (then_both table (standing cause.Reserved here_) (standing cause.Reserved rest) now after last here later))

  pub files_all : (table : Table) (k : ℕ) (first now : Option Offence) → length table ≤ k → FilesGoOn table k first now
      → FirstThen table (standing cause.Reserved (from 0 table)) first now
  unfolding prefix_places
  files_all table k first now past before =
      let none : from k (drop k table) ≡ [] = at_drop_all (from k) table k past in
      before now (rw none (then_none table now))
