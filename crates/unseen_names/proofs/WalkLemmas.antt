-- A walk over files, which adds what is found in each.
use Rattle.std.proofs.Common.{◌≡◌, ℕ, ◌+◌, ◌<◌, ◌≤◌, List, [], ◌++◌, length, drop, refl, sym, ap, ◌∙◌, append_assoc, append-nil}
use Rattle.std.specs.Option.{option_map_or}
use Rattle.std.proofs.lemmas.List.{at_drop_more, at_drop_all}
use Rattle.std.proofs.lemmas.Option.{slice_get-get_or}
use Rattle.analysis.specs.Below.source_files.Files.{Table, Entry, Absent, entry}
use Rattle.analysis.specs.Below.source_files.KeptFiles.{KeptValue, kept_at}
use Rattle.unseen_names.specs.Words.{found_from}

module _ {A : Type 0} (find : KeptValue → List A) where
  found-more : (table : Table) (k : ℕ) → k < length table
      → found_from find k (drop k table) ≡ option_map_or find (kept_at table k) [] ++ found_from find (k + 1) (drop (k + 1) table)
  unfolding found_from
  found-more table k within =
      let d : Entry = entry [] Absent in
      let there = slice_get-get_or table k d within in
      at_drop_more (found_from find k) table k d within ∙ rw there refl

  pub files_next : (table : Table) (k : ℕ) (before now whole : List A) → k < length table
      → before ++ found_from find k (drop k table) ≡ whole → now ≡ before ++ option_map_or find (kept_at table k) []
      → now ++ found_from find (k + 1) (drop (k + 1) table) ≡ whole
  files_next table k before now whole within so_far here =
      let one = option_map_or find (kept_at table k) [] in
      let rest = found_from find (k + 1) (drop (k + 1) table) in
      ap (λ (xs : List A). xs ++ rest) here ∙ append_assoc before one rest
      ∙ ap (λ (xs : List A). before ++ xs) (sym (found-more table k within)) ∙ so_far

  pub files_all : (table : Table) (k : ℕ) (now whole : List A) → length table ≤ k
      → now ++ found_from find k (drop k table) ≡ whole → now ≡ whole
  unfolding found_from
  files_all table k now whole past so_far =
      sym (append-nil now) ∙ ap (λ (xs : List A). now ++ xs) (sym (at_drop_all (found_from find k) table k past)) ∙ so_far
