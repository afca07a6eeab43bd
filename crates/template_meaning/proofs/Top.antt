-- Files whose lists are in a new order against which nothing stands have the analysis that they had, reordered.
use Rattle.std.proofs.Common.{◌≡◌, ◌<◌, ℕ, false, List, [], ◌∷◌, length, get_or, map, Some, Ok, Result, refl, sym, ap, subst, ◌∙◌, arith}
use Rattle.std.specs.Prelude.{slice_get}
use Rattle.std.proofs.lemmas.Option.{slice_get_within, slice_get-get_or}
use Rattle.cs_base.specs.declared.positions.Part.{Part}
use Rattle.cs_base.specs.declared.tokens.Kind.{Kind}
use Rattle.cs_base.specs.Token.{Token}
use Rattle.c99_tree.specs.Tree.{Node}
use Rattle.c99_grammar.specs.Dialects.{edition, dialect}
use Rattle.c99_grammar.specs.Standard.{grammar}
use Rattle.c99_read.specs.Reading.{read_of}
use Rattle.scope_bind.specs.Bound.{Bound}
use Rattle.analysis.specs.Below.gnu_bind.Bound.{binding_by}
use Rattle.cs_base.specs.Units.{is_gnu}
use Rattle.cs_base.proofs.OptionLemmas.{ok_same}
use Rattle.tree_laws.specs.ReadTexts.{ReadNamesStandInTheText, ReadParameterListsAreInOrder}
use Rattle.source_files.specs.Files.{Source}
use Rattle.source_files.specs.Tables.{HasEachOnce}
use Rattle.ws_file.specs.Workspace.{WorkspaceValue, IsWorkspace}
use Rattle.analysis.specs.Analysis.{UnitAnalysis, AnalysisValue, analysis_of}
use Rattle.analysis.specs.GnuUnits.{gnu_places}
use Rattle.list_cuts.specs.Cuts.{Cut, arranged}
use Rattle.list_cuts.proofs.CutLemmas.{arranged-map}
use Rattle.reordered_tree_laws.specs.Reordered.{reordered}
use Rattle.unit_laws.specs.Walking.{plains}
use Rattle.edited_unit_laws.specs.ReorderedAnalyses.{ReadsSo, IsReorderedText}
use Rattle.edited_unit_laws.specs.Workspaces.{WorkspacesAreReordered}
use Rattle.template_meaning.specs.Editing.{edit_by}
use Rattle.template_meaning.specs.Kept.{OrdersKeepMeaning, PlansKeepMeaning}
use Rattle.template_meaning.specs.Lists.{IsCut}
use Rattle.reordered.specs.Reordered.{begins_list, unit_cut, moved_in, Plain, plain, NamesMove, IsReorderedUnit}
use Rattle.template_meaning.specs.Standing.{UnitGoesOn, UnitsGoOn, ListsHavePlaces, AcceptedListsHavePlaces}
use Rattle.template_meaning.proofs.ExternalMoved.{IsNamed, external_moved}
use Rattle.template_meaning.proofs.PlansKept as plans
use Rattle.template_meaning.proofs.TablesEdited.{source_edited, table_edited}
use Rattle.template_meaning.proofs.UnitCut.{units_are_cut}
use Rattle.edited_unit_laws.proofs.EditionLemmas.{no_gnu_unit, unit_is_read, IsReadSo, read_by_edition, unit_read_so}
use Rattle.template_meaning.proofs.Editions.{no_gnu_places}

-- ---- One answer

same_ok : {X E : Type 0} (x y : X) (r : Result X E) → r ≡ Ok x → r ≡ Ok y → x ≡ y
same_ok x y r e f = ok_same x y (sym e ∙ f)

-- ---- A unit

pair_plain : Kind × List ℕ → Plain
pair_plain p = record { kind = p.0; text = p.1 }

plain_pairs : (toks : List Token) → map pair_plain (plains toks) ≡ map plain toks
unfolding pair_plain
plain_pairs [] = refl
plain_pairs (t ∷ toks) = ap (λ (ps : List Plain). plain t ∷ ps) (plain_pairs toks)

module _ (members : List Part) (order : List ℕ) (u : UnitAnalysis) (c : Cut) (same : (xs : List (Kind × List ℕ)) → arranged order c xs ≡ arranged order (unit_cut members u) xs)
    (goes : (toks : List Token) → plains toks ≡ arranged order (unit_cut members u) (plains u.text.toks) → UnitGoesOn members order u toks) where
  reads_so : ReadsSo order c u
  reads_so text is =
      let g = goes text.toks (is ∙ same (plains u.text.toks)) in (
        record { standard = u.standard; text = text; tree = reordered order (begins_list members u) u.tree; bound = g.bound },
        refl,
        refl,
        record { reads = g.reads; binds = g.binds },
      )

  unit_is : (v : UnitAnalysis) → IsReorderedText order c u v → IsReorderedUnit members order u v
  unit_is v is =
      let toks : plains v.text.toks ≡ arranged order (unit_cut members u) (plains u.text.toks) = is.toks ∙ same (plains u.text.toks) in
      let g = goes v.text.toks toks in
      let read = is.read in
      let tree : v.tree ≡ reordered order (begins_list members u) u.tree =
      same_ok v.tree (reordered order (begins_list members u) u.tree) (read_of (grammar (dialect v.standard)) v.text.toks) read.reads
      (subst (λ s. read_of (grammar (dialect s)) v.text.toks ≡ Ok (reordered order (begins_list members u) u.tree)) (sym is.standard) g.reads) in
      let bound : v.bound ≡ g.bound =
      same_ok v.bound g.bound (binding_by v.standard v.text.toks v.tree) read.binds
      (subst (λ (t : Node). binding_by v.standard v.text.toks t ≡ Ok g.bound) (sym tree)
      (subst (λ s. binding_by s v.text.toks (reordered order (begins_list members u) u.tree) ≡ Ok g.bound) (sym is.standard) g.binds)) in
      record {
        standard = is.standard;
        tokens = sym (plain_pairs v.text.toks)
            ∙ (ap (λ ps. map pair_plain ps) toks
            ∙ (sym (arranged-map pair_plain order (unit_cut members u) (plains u.text.toks)) ∙ ap (λ (ps : List Plain). arranged order (unit_cut members u) ps) (plain_pairs u.text.toks)));
        tree = tree;
        names = subst (λ (b : Bound). NamesMove (moved_in members order u) (length u.text.toks) u.bound.names b.names) (sym bound) g.names;
      }

-- ---- The workspace

module _ (over : WorkspacesAreReordered) (in_text : ReadNamesStandInTheText) (in_order : ReadParameterListsAreInOrder) (go_on : UnitsGoOn) (places : AcceptedListsHavePlaces)
    (once : (source : Source) (ws : WorkspaceValue) (a : AnalysisValue) → IsWorkspace ws → analysis_of source ws ≡ Ok a → HasEachOnce a.table) where
  named_at : (u : UnitAnalysis) → IsReadSo u → IsNamed u
  named_at u read = in_text (edition u.standard) u.text.toks u.tree u.bound read.reads read.binds

  -- no unit becomes one of GNU C
  still_no : (a b : AnalysisValue) → gnu_places a ≡ [] → length b.units ≡ length a.units
      → ((n : ℕ) (u v : UnitAnalysis) → slice_get a.units n ≡ Some u → slice_get b.units n ≡ Some v → v.standard ≡ u.standard) → (n : ℕ) (v : UnitAnalysis)
      → slice_get b.units n ≡ Some v → is_gnu v.standard ≡ false
  still_no a b none many same n v at =
      let within : n < length a.units = omega (arith, many, slice_get_within b.units n v at) in
      let u : UnitAnalysis = get_or a.units n v in
      let was : slice_get a.units n ≡ Some u = slice_get-get_or a.units n v within in
      ap is_gnu (same n u v was at) ∙ no_gnu_unit a none u (n, was)

  pub orders_keep_meaning : OrdersKeepMeaning
  orders_keep_meaning before now ws a members order is h files =
      let p : ListsHavePlaces before a members order = places before ws a members order is h in
      let each_once : HasEachOnce a.table = once before ws a is h.analysed in
      let order_is : (u : UnitAnalysis) → (k : ℕ) → slice_get a.units k ≡ Some u → IsCut members order u = λ u k at. units_are_cut in_order before ws a members order h u (k, at) in
      let r = over (edit_by members order a) (length order) order p.paths p.cuts before now ws a p.ordered
      (source_edited members order a before now each_once p.files files) p.stand h.analysed p.marks
      (λ u i. reads_so members order u (p.cuts u) (p.same u i) (go_on before ws a members order h u i)) in
      let b : AnalysisValue = r.0 in
      let are = r.4 in
      let units : (n : ℕ) (u v : UnitAnalysis) → slice_get a.units n ≡ Some u → slice_get b.units n ≡ Some v → IsReorderedUnit members order u v =
      λ n u v at at2. unit_is members order u (p.cuts u) (p.same u (n, at)) (go_on before ws a members order h u (n, at)) v (are.units n u v at at2) in
      let none : gnu_places a ≡ [] = no_gnu_places before ws a members order h in
      let workspace : b.workspace ≡ a.workspace = r.2 ∙ sym r.3 in (
        b,
        r.1,
        record {
          workspace = workspace;
          many = are.many;
          units = units;
          table = are.table ∙ table_edited members order a each_once;
          external = external_moved members order a b workspace are.many units (λ n u at. order_is u n at)
              (λ n u at. named_at u (unit_read_so before ws a h.analysed none u (n, at)))
              (λ n v at. named_at v (read_by_edition v (still_no a b none are.many (λ m x y i j. (units m x y i j).standard) n v at) (unit_is_read now ws b r.1 v (n, at))));
        },
      )

  pub plans_keep_meaning : PlansKeepMeaning
  plans_keep_meaning =
      plans.plans_keep_meaning orders_keep_meaning (λ source ws a members order is h f holds. let p = places source ws a members order is h in p.held f holds) once
