-- Where the functions have no parameters, nothing changes its place: files stay as they are, and no list has to be found.
use Rattle.std.proofs.Common.{ℕ, ◌<◌, ◌≡◌, Bool, true, false, if◌then◌else◌, ◌==◌, List, [], ◌∷◌, ◌++◌, length, map, Option, None, Some, refl, sym, ap, subst, ◌∙◌, inl, inr, arith, take-append-drop}
use Rattle.std.specs.Prelude.{slice_get, take, drop}
use Rattle.std.specs.Option.{option_map_or}
use Rattle.std.proofs.lemmas.Bool.{cases_Bool, and_parts, eqb-true}
use Rattle.cs_base.specs.declared.positions.Part.{Part}
use Rattle.cs_base.specs.Token.{Token}
use Rattle.tree_laws.specs.ReadTexts.{ReadParameterListsAreInOrder}
use Rattle.analysis.specs.Tables.{MadeFilesArePseudo}
use Rattle.lexer.specs.FileText.{file_text}
use Rattle.lexer.specs.Tokens.{tokens_of}
use Rattle.source_files.specs.Files.{Source, Found, Lines, Absent, Unopened, Opened, Made, Entry, Table, number_of}
use Rattle.ws_file.specs.Workspace.{WorkspaceValue, IsWorkspace}
use Rattle.analysis.specs.Analysis.{UnitAnalysis, AnalysisValue}
use Rattle.expansion_laws.specs.Arranging.{MarksStand, in_lists}
use Rattle.list_cuts.specs.declared.spans.Span.{Span}
use Rattle.list_cuts.specs.Cuts.{Cut, done, keep, list, ended, item, AreOf, count_of, span_of, woven, gaps_of, items_of, arranged}
use Rattle.list_cuts.specs.CutOf.{front, back}
use Rattle.list_cuts.specs.Spans.{fits, rearranged, all_rearranged}
use Rattle.list_cuts.specs.Spans as spans
use Rattle.unit_laws.specs.Files.{RunsMark, TextsStay}
use Rattle.unit_laws.specs.Reordered.{ListsStand, part_of}
use Rattle.edited_unit_laws.specs.TokenRuns.{WorkspaceTokensAreOfRuns}
use Rattle.edited_unit_laws.specs.Workspaces.{PathCuts, found_cut, cuts_in}
use Rattle.template_rules.specs.FileLists.{all_found, lists_in}
use Rattle.template_rules.specs.FileLists as lists
use Rattle.template_meaning.specs.Accepted.{IsAccepted}
use Rattle.template_meaning.specs.Editing.{edit_by}
use Rattle.reordered.specs.Reordered.{unit_cut}
use Rattle.template_meaning.specs.Standing.{ListsHavePlaces, AcceptedListsHavePlaces}
use Rattle.template_meaning.proofs.FilesHeld.{order_is_one, files_held}
use Rattle.template_meaning.proofs.FilesKept.{files_kept}
use Rattle.template_meaning.proofs.UnitCut.{units_are_cut}

-- ---- Elements

arranged_none : {X : Type 0} (c : Cut) (xs : List X) → AreOf 0 c → arranged [] c xs ≡ xs
unfolding arranged items_of gaps_of span_of woven count_of
arranged_none done xs all = refl
arranged_none (keep k c) xs all = ap (λ (ys : List _). take k xs ++ ys) (arranged_none c (drop k xs) all) ∙ take-append-drop k xs
arranged_none (list ended c) xs all = arranged_none c xs all.2
arranged_none (list (item n d gap more) c) xs all = absurd (omega (arith, all.0))

-- ---- Bytes

rearranged_none : {X : Type 0} (l : List Span) (xs : List X) → rearranged [] l xs ≡ xs
unfolding spans.reordered
rearranged_none [] xs = by (fits [] [] (length xs))
  where
    by : (b : Bool) → (if b then xs else xs) ≡ xs
    by true = refl
    by false = refl
rearranged_none (s ∷ more) xs = elim (cases_Bool (fits [] (s ∷ more) (length xs))) [
  | inl e ↦ absurd (omega (arith, eqb-true (length (s ∷ more)) 0 (and_parts (length (s ∷ more) == 0) _ e).0))
  | inr e ↦ ap (λ (b : Bool). if b then spans.reordered [] (s ∷ more) xs else xs) e
]

all_rearranged_none : {X : Type 0} (ls : List (List Span)) (xs : List X) → all_rearranged [] ls xs ≡ xs
unfolding all_rearranged
all_rearranged_none [] xs = refl
all_rearranged_none (l ∷ ls) xs = rearranged_none l (all_rearranged [] ls xs) ∙ all_rearranged_none ls xs

bytes_stay : (members : List Part) (a : AnalysisValue) (path bytes : List ℕ) → edit_by members [] a path bytes ≡ bytes
bytes_stay members a path bytes =
    all_rearranged_none (map (lists.items_of bytes (tokens_of (number_of path a.table) bytes)) (lists_in (all_found members a) (number_of path a.table))) bytes

-- ---- Cuts

abbrev no_cuts : PathCuts
no_cuts path bytes = done

no_cut : (path : List ℕ) (x : Found) → found_cut no_cuts path x ≡ done
no_cut path Lines = refl
no_cut path Absent = refl
no_cut path (Unopened bytes) = refl
no_cut path (Opened bytes) = refl
no_cut path (Made bytes) = refl

no_cut_in : (o : Option Entry) → option_map_or (λ (e : Entry). found_cut no_cuts e.path e.found) o done ≡ done
no_cut_in None = refl
no_cut_in (Some e) = no_cut e.path e.found

no_marks : (c : Cut) (from count before many : ℕ) (run out : List Token) → c ≡ done → MarksStand (part_of c from count) (part_of done before many) run out
unfolding front back
no_marks c from count before many run out e = subst (λ (d : Cut). MarksStand (part_of d from count) (part_of done before many) run out) (sym e) tt

runs_mark : (files : Table) (u : UnitAnalysis) → RunsMark (cuts_in no_cuts files) files done u.text
runs_mark files u file k it run s e cut is =
    no_marks (cuts_in no_cuts files file.number) it.from _ s.before (length e.toks) run _ (no_cut_in (slice_get files file.number))

lists_stand : (u : UnitAnalysis) → ListsStand done u.text
unfolding in_lists
lists_stand u = record { marks = tt; reached = λ r i. refl; lines = λ e name i kind named def word. refl }

-- ---- The workspace

module _ (stay : TextsStay) (of_runs : WorkspaceTokensAreOfRuns) (made : MadeFilesArePseudo) (in_order : ReadParameterListsAreInOrder) where
  none_have_places : (source : Source) (ws : WorkspaceValue) (a : AnalysisValue) (members : List Part) → IsAccepted source ws a members [] → ListsHavePlaces source a members []
  unfolding arranged
  none_have_places source ws a members h = record {
    paths = no_cuts;
    cuts = λ u. done;
    same = λ u i xs. let cut = units_are_cut in_order source ws a members [] h u i in sym (arranged_none (unit_cut members u) xs cut.each);
    stand = λ path bytes held. record {
      size = ap (λ (bs : List ℕ). length bs) (bytes_stay members a path bytes);
      of = tt;
      stands = λ number text is. (text, ap (λ (bs : List ℕ). file_text number bs) (bytes_stay members a path bytes) ∙ is, stay [] text);
    };
    marks = λ u i. record { of = tt; lists = lists_stand u; runs = runs_mark a.table u };
    files = files_kept source ws a members [] h;
    ordered = order_is_one source ws a members [] h;
    held = files_held source ws a members [] h (let all = of_runs source ws a h.analysed in all.found) (made source ws a h.analysed);
  }

  -- so places are known where they are for each order that has a number
  pub all_have_places : ((source : Source) (ws : WorkspaceValue) (a : AnalysisValue) (members : List Part) (order : List ℕ) → IsWorkspace ws → IsAccepted source ws a members order
      → 0 < length order → ListsHavePlaces source a members order) → AcceptedListsHavePlaces
  all_have_places some source ws a members [] is h = none_have_places source ws a members h
  all_have_places some source ws a members (k ∷ ks) is h = some source ws a members (k ∷ ks) is h (omega arith)
