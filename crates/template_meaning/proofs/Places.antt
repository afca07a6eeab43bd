-- The lists of the functions have places in files, in units and in runs, where nothing stands against a new order and the lists of each
-- file may move.
use Rattle.std.proofs.Common.{ℕ, zero, suc, ◌<◌, ◌≡◌, ◌⊎◌, inl, inr, Bool, true, false, if◌then◌else◌, List, [], ◌∷◌, length, map, Option, None, Some, refl, sym, ap, subst, ◌∙◌}
use Rattle.std.specs.Prelude.{slice_get}
use Rattle.std.specs.Option.{option_map, option_map_or, option_and_then}
use Rattle.std.proofs.lemmas.Bool.{false≢true}
use Rattle.std.proofs.lemmas.Option.{none-some, same_Some}
use Rattle.cs_base.specs.declared.positions.Part.{Part}
use Rattle.cs_base.specs.Token.{Token}
use Rattle.tree_laws.specs.ReadTexts.{ReadParameterListsAreInOrder}
use Rattle.analysis.specs.Tables.{IsPseudoIfMade, MadeArePseudo, MadeFilesArePseudo, PathsStandOnce}
use Rattle.include_tree.specs.PseudoFiles.{is_pseudo}
use Rattle.lexer.specs.Tokens.{tokens_of}
use Rattle.source_files.specs.Files.{Source, Found, Lines, Absent, Unopened, Opened, Made, Entry, Table, number_of}
use Rattle.source_files.specs.KeptFiles.{KeptValue, kept as kept_file, kept_at, kept_bytes, kept_in}
use Rattle.source_files.specs.Tables.{HasEachOnce}
use Rattle.unit_laws.specs.UnitLinks.{IsIn}
use Rattle.ws_file.specs.Workspace.{WorkspaceValue, IsWorkspace}
use Rattle.analysis.specs.Analysis.{UnitAnalysis, AnalysisValue}
use Rattle.edited_unit_laws.proofs.TracedLemmas.{source_of_kept}
use Rattle.list_cuts.specs.Cuts.{Cut, done}
use Rattle.list_cuts.specs.CutOf.{cut_of}
use Rattle.reordered_text_laws.specs.Marks.{spans_by}
use Rattle.reordered_text_laws.proofs.TidyLemmas.{tidied_cuts_arrange}
use Rattle.unit_laws.specs.Files.{TextsStay}
use Rattle.edited_unit_laws.specs.TokenRuns.{WorkspaceTokensAreOfRuns}
use Rattle.edited_unit_laws.specs.Workspaces.{PathCuts, found_cut, cuts_in}
use Rattle.template_rules.specs.FileLists.{all_found, lists_in, begun_before}
use Rattle.template_meaning.specs.Accepted.{IsAccepted}
use Rattle.reordered.specs.Reorder.{HoldsLists}
use Rattle.template_meaning.specs.Prototypes.{DeclaratorsHavePrototypes}
use Rattle.reordered.specs.Reordered.{unit_cut}
use Rattle.template_meaning.specs.Spans.{FileSpans, is_none, cut_at, FilesStandInOrder}
use Rattle.template_meaning.specs.Standing.{ListsHavePlaces, AcceptedListsHavePlaces}
use Rattle.template_meaning.proofs.FilesHeld.{order_is_one, real_file, files_held}
use Rattle.template_meaning.proofs.FilesKept.{files_kept}
use Rattle.template_meaning.proofs.NoneMove.{all_have_places}
use Rattle.template_meaning.proofs.TablesEdited.{number_path}
use Rattle.template_meaning.specs.Files.{file_marks, file_cut, AreCutsOf, FilesHaveLists}
use Rattle.template_meaning.specs.Moves.{FileListsMove}
use Rattle.template_meaning.specs.Units.{run_cut, UnitsHaveLists}

-- ---- Cuts of files

-- the items of the lists in a file, between the tokens that are their marks
abbrev file_spans : List Part → AnalysisValue → FileSpans
file_spans members a f = map spans_by (file_marks members a f.number (tokens_of f.number f.bytes))

made_at : (t : Table) (k : ℕ) (e : Entry) → MadeArePseudo t → slice_get t k ≡ Some e → IsPseudoIfMade e.path e.found
made_at [] k e made at = absurd (none-some e at)
made_at (x ∷ t) zero e made at = subst (λ (y : Entry). IsPseudoIfMade y.path y.found) (same_Some x e at) made.0
made_at (x ∷ t) (suc k) e made at = made_at t k e made.1 at

module _ (source : Source) (ws : WorkspaceValue) (a : AnalysisValue) (members : List Part) (order : List ℕ) (h : IsAccepted source ws a members order) (once : HasEachOnce a.table)
    (made : MadeArePseudo a.table) where
  abbrev paths : PathCuts
  paths = cut_at members a (file_spans members a)

  abbrev lists : ℕ → List (List ℕ)
  lists number = lists_in (all_found members a) number

  -- without lists there is no cut
  none_cut : (toks : List Token) (ls : List (List ℕ)) → is_none ls ≡ true → cut_of (map spans_by (map (map (begun_before toks)) ls)) ≡ done
  unfolding cut_of
  none_cut toks [] e = refl
  none_cut toks (l ∷ ls) e = absurd (false≢true e)

  is_nil : (ls : List (List ℕ)) → is_none ls ≡ true ⊎ (is_none ls ≡ false × (ls ≡ [] → ⊥))
  is_nil [] = inl refl
  is_nil (l ∷ ls) = inr (refl, λ e. absurd (cc))

  module _ (number : ℕ) (f : KeptValue) (kept : kept_at a.table number ≡ Some f) where
    -- the cut of its own marks
    abbrev own : Cut
    own = cut_of (map spans_by (file_marks members a f.number (tokens_of f.number f.bytes)))

    opened_cut : (path bytes : List ℕ) → number_of path a.table ≡ number → paths path bytes ≡ own
    opened_cut path bytes is =
        ap (λ (o : Option KeptValue). option_map_or (λ (g : KeptValue). if is_none (lists g.number) then done else cut_of (file_spans members a g)) o done) (ap (kept_at a.table) is ∙ kept)
        ∙ by (is_none (lists f.number)) refl
      where
        by : (b : Bool) → is_none (lists f.number) ≡ b → (if b then done else own) ≡ own
        by true e = sym (none_cut (tokens_of f.number f.bytes) (lists f.number) e)
        by false e = refl

    made_cut : f.number ≡ number → is_pseudo f.path ≡ true → done ≡ own
    made_cut same pseudo = elim (is_nil (lists f.number)) [
      | inl none ↦ sym (none_cut (tokens_of f.number f.bytes) (lists f.number) none)
      | inr some ↦
          let holds : HoldsLists a members f = record { kept = ap (kept_at a.table) same ∙ kept; some = some.1 } in
          absurd (false≢true (sym (real_file source ws a members order h f holds) ∙ pseudo))
    ]

    of_entry : (e : Entry) → slice_get a.table number ≡ Some e → (x : Found) → e.found ≡ x → option_map (kept_file number e.path) (kept_bytes x) ≡ Some f → found_cut paths e.path x ≡ own
    of_entry e at Lines is k = absurd (none-some f k)
    of_entry e at Absent is k = absurd (none-some f k)
    of_entry e at (Unopened bytes) is k = absurd (none-some f k)
    of_entry e at (Opened bytes) is k = opened_cut e.path bytes (number_path a.table number e once at)
    of_entry e at (Made bytes) is k =
        let same : kept_file number e.path bytes ≡ f = same_Some (kept_file number e.path bytes) f k in
        let pseudo : is_pseudo e.path ≡ true = subst (IsPseudoIfMade e.path) is (made_at a.table number e made at) in
        made_cut (ap (λ (g : KeptValue). g.number) (sym same)) (ap is_pseudo (ap (λ (g : KeptValue). g.path) (sym same)) ∙ pseudo)

    at_number : (o : Option Entry) → slice_get a.table number ≡ o → option_and_then (kept_in number) o ≡ Some f → option_map_or (λ (e : Entry). found_cut paths e.path e.found) o done ≡ own
    at_number None at k = absurd (none-some f k)
    at_number (Some e) at k = of_entry e at e.found refl k

    number_is : (o : Option Entry) → option_and_then (kept_in number) o ≡ Some f → f.number ≡ number
    number_is None k = absurd (none-some f k)
    number_is (Some e) k = by (kept_bytes e.found) k
      where
        by : (r : Option (List ℕ)) → option_map (kept_file number e.path) r ≡ Some f → f.number ≡ number
        by None m = absurd (none-some f m)
        by (Some bytes) m = ap (λ (g : KeptValue). g.number) (sym (same_Some (kept_file number e.path bytes) f m))

    kept_cut : (cuts_in paths a.table number ≡ own) × (f.number ≡ number)
    kept_cut = (at_number (slice_get a.table number) refl kept, number_is (slice_get a.table number) kept)

  are_cuts : AreCutsOf members a (cuts_in paths a.table)
  are_cuts file is =
      let s = source_of_kept a.table file.number file is in
      let k = kept_cut file.number s.kept s.is_kept in
      k.0 ∙ (ap (λ (n : ℕ). file_cut members a n (tokens_of s.kept.number s.kept.bytes)) k.1 ∙ ap (file_cut members a file.number) (sym s.toks))

-- ---- Places

module _ (stay : TextsStay) (of_runs : WorkspaceTokensAreOfRuns) (made : MadeFilesArePseudo) (once : PathsStandOnce) (in_order : ReadParameterListsAreInOrder)
    (units : UnitsHaveLists) (files : FilesHaveLists) (stand : FilesStandInOrder) (prototypes : DeclaratorsHavePrototypes) (move : FileListsMove) where
  some_have_places : (source : Source) (ws : WorkspaceValue) (a : AnalysisValue) (members : List Part) (order : List ℕ) → IsWorkspace ws → IsAccepted source ws a members order
      → 0 < length order → ListsHavePlaces source a members order
  some_have_places source ws a members order is h some =
      let found = (let all = of_runs source ws a h.analysed in all.found) in
      let pseudo = made source ws a h.analysed in
      let kept = files_kept source ws a members order h in
      let held = files_held source ws a members order h found pseudo in
      let ordered = order_is_one source ws a members order h in
      let typed = λ (u : UnitAnalysis) (i : IsIn a.units u). prototypes source ws a members order h u i in
      let runs = files source ws a members order h some typed in
      record {
        paths = cut_at members a (file_spans members a);
        cuts = run_cut members;
        same = λ u i xs. tidied_cuts_arrange order (unit_cut members u) xs;
        stand = stand source a members order (file_spans members a) ordered
            (record { files = kept; held = held; move = λ f holds. move source ws a members order h some f holds });
        marks = λ u i. let has = units source ws a members order h u i (typed u i) in record {
          of = has.each;
          lists = has.stand;
          runs = runs.runs (cuts_in (cut_at members a (file_spans members a)) a.table)
              (are_cuts source ws a members order h (once source ws a is h.analysed) pseudo) u i;
        };
        files = kept;
        ordered = ordered;
        held = held;
      }

  pub accepted_lists_have_places : AcceptedListsHavePlaces
  accepted_lists_have_places = all_have_places stay of_runs made in_order some_have_places
