-- Members in read-only files.
use Rattle.std.proofs.Common.{◌≡◌, ℕ, ◌+◌, ◌<◌, ◌≤◌, ◌∷◌, ◌++◌, [], Bool, true, false, List, Some, length, length-append, get_or, slice_get, inl, inr, sym, subst, ◌∙◌, arith}
use Rattle.std.proofs.Math.ListN.{get_or-append}
use Rattle.std.proofs.Math.Seq.{get_or-append_seam}
use Rattle.std.proofs.lemmas.Bool.{cases_Bool}
use Rattle.std.proofs.lemmas.Bool.Decides.{nat_tests}
use Rattle.std.specs.Prelude.{nat_lt}
use Rattle.std.proofs.lemmas.Option.{slice_get_within, slice_get-get_or, get_or_from_slice_get}
use borrow.Author.Count.{below_more}
use Rattle.cs_base.specs.declared.positions.Part.{Part}
use Rattle.analysis.specs.Analysis.{AnalysisValue}
use Rattle.analysis.specs.Parts.{AreMembers}
use Rattle.analysis.specs.Places.{is_read_only}
use Rattle.class_marks.specs.Touching.{AreReadOnly, IsReadOnlyClass}

-- ---- read-only files

abbrev read_only_at : AnalysisValue → Part → Bool
read_only_at a m = is_read_only a.table a.workspace.readonly m.start.file

pub read_only_member : (a : AnalysisValue) (part : Part) (members : List Part) (k : ℕ) (d : Part) → AreMembers a part members → k < length members
    → true ≡ read_only_at a (get_or members k d) → IsReadOnlyClass a part
read_only_member a part members k d are within is = record {
  member = get_or members k d;
  is_member = are.each k (get_or members k d) (slice_get-get_or members k d within);
  kept_from_edits = sym is;
}

pub editable_more : (a : AnalysisValue) (members : List Part) (k : ℕ) (d : Part) → k < length members → false ≡ read_only_at a (get_or members k d)
    → ((j : ℕ) → j < k → (m : Part) → slice_get members j ≡ Some m → read_only_at a m ≡ false)
    → (j : ℕ) → j < k + 1 → (m : Part) → slice_get members j ≡ Some m → read_only_at a m ≡ false
editable_more a members k d within not so_far =
    below_more (λ j. (m : Part) → slice_get members j ≡ Some m → read_only_at a m ≡ false) k so_far
    (λ m at.
    let same : get_or members k d ≡ m = get_or_from_slice_get members k m d at in
    subst (λ (x : Part). read_only_at a x ≡ false) same (sym not))

pub none_read_only : (a : AnalysisValue) (part : Part) (members : List Part) → AreMembers a part members
    → ((j : ℕ) → j < length members → (m : Part) → slice_get members j ≡ Some m → read_only_at a m ≡ false) → IsReadOnlyClass a part → ⊥
none_read_only a part members are all x =
    let found = are.all x.member x.is_member in
    let not = all found.0 (slice_get_within members found.0 x.member found.1) x.member found.1 in
    let passed = x.kept_from_edits in
    cc

-- ---- files by their numbers

pub files_more : (a : AnalysisValue) (files more : List Bool) (number : ℕ) (kept : Bool) → length files ≡ number
    → kept ≡ is_read_only a.table a.workspace.readonly number → more ≡ files ++ kept ∷ [] → AreReadOnly a files → AreReadOnly a more
files_more a files more number kept long is made before n d within =
    rw made (elim (cases_Bool (nat_lt n number)) [
      | inl less ↦
          let old : n < length files = grind (arith, nat_tests, less, long) in
          get_or-append files (kept ∷ []) d n old ∙ before n d old
      | inr other ↦
          let size : length more ≡ number + 1 = rw (made, length-append) (omega (arith, long)) in
          let last : n ≡ length files = grind (arith, nat_tests, other, long, size, within) in
          let read : kept ≡ is_read_only a.table a.workspace.readonly n = rw (last ∙ long) is in
          rw last (get_or-append_seam files kept [] d) ∙ read
    ])
