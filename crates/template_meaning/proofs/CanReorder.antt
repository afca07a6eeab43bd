-- The lists of the functions in each unit can get the order, where nothing stands against it.
use Rattle.std.proofs.Common.{◌≡◌, ℕ, false, List, length}
use Rattle.cs_base.specs.declared.positions.Part.{Part}
use Rattle.c99_grammar.specs.declared.dialects.Edition.{Edition}
use Rattle.c99_tree.specs.Tree.{Forest, none, token, node}
use Rattle.c99_grammar.specs.Dialects.{edition}
use Rattle.c99_grammar.specs.Standard.{iso}
use Rattle.c_types.specs.declared.lists.List.{List as NameList}
use Rattle.c_types.specs.Parameters.{parameters_in}
use Rattle.name_chains.specs.Frames.{outermost}
use Rattle.tree_laws.specs.ReadTexts.{ReadParameterListsAreInOrder}
use Rattle.tree_laws.proofs.Lookups as tree
use Rattle.tree_laws.proofs.OfTexts.{trees_of_texts}
use Rattle.tree_laws.specs.Told.{AreTold}
use Rattle.tree_laws.specs.ToldNames.{AnonymousBegin, IdentifiersAreTold}
use Rattle.source_files.specs.Files.{Source}
use Rattle.ws_file.specs.Workspace.{WorkspaceValue}
use Rattle.analysis.specs.Analysis.{UnitAnalysis, AnalysisValue}
use Rattle.edited_unit_laws.proofs.ListLemmas.{In}
use Rattle.reordered_tree_laws.specs.Premises.{CanReorder}
use Rattle.template_rules.specs.Lists.{parameters_of, arguments_of}
use Rattle.template_meaning.specs.Accepted.{IsAccepted}
use Rattle.template_meaning.specs.CanReorder.{UnitsCanReorder}
use Rattle.template_meaning.specs.Children.{EachNode, IsOfAlternative}
use Rattle.template_meaning.specs.Clear.{IsOwn, UnitIsClear}
use Rattle.reordered.specs.Reordered.{begins_list}
use Rattle.template_meaning.proofs.Children.{each_below}
use Rattle.template_meaning.proofs.FitWalk.{rest_begins, trees_have_forms}
use Rattle.template_meaning.proofs.UnitCut.{clear, read, declared, called, units_are_cut, no_list_is_first}
use Rattle.template_meaning.proofs.UnitReorder.{unit_items, unit_apart, unit_bracketed, unit_fresh, unit_outer}
use Rattle.edited_unit_laws.proofs.EditionLemmas.{IsReadSo}

anonymous_begin : (s : Edition) (f : Forest) → EachNode (IsOfAlternative (iso s)) f → AnonymousBegin f
anonymous_begin s none each = tt
anonymous_begin s (token i rest) each = anonymous_begin s rest each
anonymous_begin s (node m first under rest) each = (rest_begins s m under each.0, anonymous_begin s under each.1, anonymous_begin s rest each.2)

module _ (in_order : ReadParameterListsAreInOrder) (are_told : IdentifiersAreTold) (source : Source) (ws : WorkspaceValue) (a : AnalysisValue) (members : List Part) (order : List ℕ)
    (h : IsAccepted source ws a members order) (u : UnitAnalysis) (i : In u a.units) where
  is_read : IsReadSo u
  is_read = read in_order source ws a members order h u i

  pub is_clear : UnitIsClear a members u
  is_clear = clear in_order source ws a members order h u i

  pub all_told : AreTold u.bound.names u.text.toks false false (outermost 0).label u.tree.under
  all_told =
      let r = is_read in
      are_told u.text.toks u.tree u.bound (trees_of_texts (edition u.standard) u.text.toks u.tree r.reads)
      (anonymous_begin (edition u.standard) u.tree.under (each_below (edition u.standard) u.text.toks u.tree r.reads)) r.binds

  can_reorder : CanReorder order (begins_list members u) u.text.toks u.tree u.bound
  can_reorder =
      let r = is_read in
      let cut = units_are_cut in_order source ws a members order h u i in
      let of_declarators : (l : NameList) → tree.In l u.bound.declarators → IsOwn members u l → parameters_of (parameters_in u.tree.under) l.name ≡ length order =
      declared in_order source ws a members order h u i in
      let of_calls : (l : NameList) → tree.In l u.bound.calls → IsOwn members u l → arguments_of l ≡ length order = called in_order source ws a members order h u i in
      record {
        first = no_list_is_first in_order source ws a members order h u i;
        many = cut.order_is;
        each = cut.each;
        formed = trees_have_forms (edition u.standard) u.text.toks u.tree (begins_list members u) r.reads
            (unit_bracketed (edition u.standard) members u a (length order) r.reads r.binds in_order of_declarators of_calls is_clear all_told)
            (unit_outer (edition u.standard) members u a (length order) r.reads r.binds in_order of_declarators of_calls is_clear all_told);
        items = unit_items (edition u.standard) members u a (length order) r.reads r.binds in_order of_declarators of_calls is_clear all_told;
        apart = unit_apart (edition u.standard) members u a (length order) r.reads r.binds in_order of_declarators of_calls is_clear all_told;
        fresh = unit_fresh (edition u.standard) members u a (length order) r.reads r.binds in_order of_declarators of_calls is_clear all_told;
      }

pub units_can_reorder : ReadParameterListsAreInOrder → IdentifiersAreTold → UnitsCanReorder
units_can_reorder in_order are_told source ws a members order h u i = can_reorder in_order are_told source ws a members order h u i
