-- Files that stand in the new order, and units whose lists stand in them, make a workspace in the new order.
use Rattle.analysis.specs.Changed as page
use Rattle.std.proofs.Common.{◌⊎◌, suc, ◌+◌, [], ◌∷◌, inl, inr, arith, ◌≡◌, ℕ, List, Option, Some, refl, ap, sym, subst, ◌∙◌}
use Rattle.std.specs.Prelude.{slice_get}
use Rattle.std.specs.Option.{option_map_or}
use Rattle.source_files.specs.Files.{Source, Found, Lines, Absent, Unopened, Opened, Made, Entry, entry, Table}
use Rattle.edited_unit_laws.proofs.AloneLemmas.{ok-same}
use Rattle.list_cuts.specs.Cuts.{Cut, done, IsOrder, AreOf}
use Rattle.unit_laws.specs.Edited.{Edit, edited_found, edited_files}
use Rattle.unit_laws.specs.Files.{TextStands, ItemsAreAlike, FilesStand, RunsStandInFiles}
use Rattle.unit_laws.specs.Walking.{KeepsTexts}
use Rattle.edited_unit_laws.specs.ReorderedAnalyses.{WorkspaceIsReordered}
use Rattle.edited_unit_laws.specs.Workspaces.{AreEditedAlike, TablesAreOne, PathCuts, found_cut, cuts_in, PathsStand, WorkspacesAreReordered}

keeps_texts : ItemsAreAlike → (edit : Edit) (old : Source) (n : ℕ) (order : List ℕ) (paths : PathCuts) → IsOrder n order → PathsStand edit old n order paths → KeepsTexts edit old
keeps_texts alike edit old n order paths is stand = record {
  sizes = λ path bytes held. (stand path bytes held).size;
  items = λ number path bytes text held read.
      let p = stand path bytes held in
      let t = p.stands number text read in
      (t.0, t.1, alike n order (paths path bytes) text t.0 is p.of t.2);
}

files_stand_by : (edit : Edit) (old : Source) (n : ℕ) (order : List ℕ) (paths : PathCuts) (files : Table) → PathsStand edit old n order paths → FilesStand edit old n order (cuts_in paths files) files
files_stand_by edit old n order paths files stand = record {
  of = λ number path bytes at held.
      let cut : cuts_in paths files number ≡ paths path bytes = ap (λ (o : Option Entry). option_map_or (λ e. found_cut paths e.path e.found) o done) at in
      subst (AreOf n) (sym cut) (stand path bytes held).of;
  opened = λ number path bytes text text2 at held read read2.
      let t = (stand path bytes held).stands number text read in
      let same : t.0 ≡ text2 = ok-same t.0 text2 (sym t.1 ∙ read2) in
      let cut : cuts_in paths files number ≡ paths path bytes = ap (λ (o : Option Entry). option_map_or (λ e. found_cut paths e.path e.found) o done) at in
      subst (λ (c : Cut). TextStands order c text text2) (sym cut) (subst (TextStands order (paths path bytes) text) same t.2);
  made = λ number path bytes at. ap (λ (o : Option Entry). option_map_or (λ e. found_cut paths e.path e.found) o done) at;
}

-- ---- tables

found_one : (one two : List ℕ → List ℕ) (f : Found) → ((bytes : List ℕ) → (f ≡ Unopened bytes) ⊎ (f ≡ Opened bytes) → two bytes ≡ one bytes) → edited_found one f ≡ page.edited_found two f
found_one one two Lines h = refl
found_one one two Absent h = refl
found_one one two (Unopened bytes) h = ap (λ (b : List ℕ). Unopened b) (sym (h bytes (inl refl)))
found_one one two (Opened bytes) h = ap (λ (b : List ℕ). Opened b) (sym (h bytes (inr refl)))
found_one one two (Made bytes) h = refl

-- from a number on
tables_from : (edit : Edit) (editing : page.Editing) (all : Table) (n : ℕ) (t : Table) → AreEditedAlike edit editing all
    → ((k : ℕ) (e : Entry) → slice_get t k ≡ Some e → slice_get all (n + k) ≡ Some e) → edited_files edit t ≡ page.edited_from editing n t
tables_from edit editing all n [] alike there = refl
tables_from edit editing all n (e ∷ t) alike there =
    let same : n + 0 ≡ n = omega arith in
    let at : slice_get all n ≡ Some e = ap (λ (k : ℕ). slice_get all k) (sym same) ∙ there 0 e refl in
    let one : edited_found (edit e.path) e.found ≡ page.edited_found (editing n) e.found =
    found_one (edit e.path) (editing n) e.found (λ bytes or. alike n e.path bytes (elim or [
      | inl is ↦ inl (at ∙ ap (λ (f : Found). Some (entry e.path f)) is)
      | inr is ↦ inr (at ∙ ap (λ (f : Found). Some (entry e.path f)) is)
    ])) in
    ap (λ (f : Found). entry e.path f ∷ edited_files edit t) one
    ∙ ap (λ (l : Table). entry e.path (page.edited_found (editing n) e.found) ∷ l)
    (tables_from edit editing all (suc n) t alike (λ k d is. let next : suc n + k ≡ n + suc k = omega arith in ap (λ (i : ℕ). slice_get all i) next ∙ there (suc k) d is))

pub tables_are_one : TablesAreOne
tables_are_one = λ edit editing files alike. tables_from edit editing files 0 files alike (λ k e is. let same : 0 + k ≡ k = omega arith in ap (λ (i : ℕ). slice_get files i) same ∙ is)

-- ---- workspaces

pub workspaces_are : ItemsAreAlike → RunsStandInFiles → WorkspaceIsReordered → WorkspacesAreReordered
workspaces_are alike runs law = λ edit n order paths cuts old new ws a is news stand h marks reads.
    law edit n order cuts old new ws a is news (keeps_texts alike edit old n order paths is stand) h (record {
      stands = λ u at.
          let m = marks u at in
          record {
            of = m.of;
            lists = m.lists;
            runs = runs edit n order (cuts_in paths a.table) old a.table (cuts u) u.text is (files_stand_by edit old n order paths a.table stand) m.runs;
          };
      reads = reads;
    })
