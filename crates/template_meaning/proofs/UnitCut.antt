-- In a unit against which nothing stands each list has as many items as the order has numbers.
use Rattle.std.proofs.Common.{◌≡◌, ℕ, ◌<◌, List, length, sym, subst, ◌∙◌}
use Rattle.std.specs.Prelude.{◌==◌}
use Rattle.std.proofs.lemmas.Bool.{and_parts, eqb-true}
use Rattle.cs_base.specs.declared.positions.Part.{Part}
use Rattle.c99_grammar.specs.Dialects.{edition}
use Rattle.c_types.specs.declared.lists.List.{List as NameList}
use Rattle.c_types.specs.Parameters.{parameters_in}
use Rattle.tree_laws.proofs.Lookups as tree
use Rattle.source_files.specs.Files.{Source}
use Rattle.ws_file.specs.Workspace.{WorkspaceValue}
use Rattle.analysis.specs.Analysis.{UnitAnalysis, AnalysisValue}
use Rattle.edited_unit_laws.proofs.ListLemmas.{In}
use Rattle.tree_laws.specs.ReadTexts.{ReadParameterListsAreInOrder}
use Rattle.list_cuts.specs.Cuts.{IsOrder}
use Rattle.list_cuts.proofs.OrderLemmas.{orders_permute}
use Rattle.template_rules.specs.Lists.{parameters_of, arguments_of, count_of}
use Rattle.template_meaning.specs.Accepted.{IsAccepted}
use Rattle.template_meaning.specs.Children.{EachNode}
use Rattle.template_meaning.specs.Clear.{IsOwn, UnitIsClear}
use Rattle.template_meaning.specs.Forms.{IsBracketed, UnitListsAreBracketed, NoListIsFirst}
use Rattle.reordered.specs.Reordered.{begins_list}
use Rattle.template_meaning.specs.Lists.{IsCut, UnitsAreCut}
use Rattle.template_meaning.proofs.Clear.{units_are_clear}
use Rattle.template_meaning.proofs.UnitLists.{index_of, unit_many, unit_brackets, unit_first}
use Rattle.template_meaning.proofs.Editions.{no_gnu_places}
use Rattle.edited_unit_laws.proofs.EditionLemmas.{IsReadSo, unit_read_so}

module _ (in_order : ReadParameterListsAreInOrder) (source : Source) (ws : WorkspaceValue) (a : AnalysisValue) (members : List Part) (order : List ℕ) (h : IsAccepted source ws a members order)
    (u : UnitAnalysis) (i : In u a.units) where
  count_is : count_of a members ≡ length order
  count_is = sym (eqb-true (length order) (count_of a members) (and_parts (length order == count_of a members) _ h.ordered).0)

  pub clear : UnitIsClear a members u
  clear = units_are_clear source ws a members order h u i

  pub read : IsReadSo u
  read = unit_read_so source ws a h.analysed (no_gnu_places source ws a members order h) u i

  pub declared : (l : NameList) → tree.In l u.bound.declarators → IsOwn members u l → parameters_of (parameters_in u.tree.under) l.name ≡ length order
  declared l w own = let c = clear in let d = c.declarators l (index_of l u.bound.declarators w) own in let list = d.list in list.many ∙ count_is

  pub called : (l : NameList) → tree.In l u.bound.calls → IsOwn members u l → arguments_of l ≡ length order
  called l w own = let c = clear in let d = c.calls l (index_of l u.bound.calls w) own in let list = d.list in list.many ∙ count_is

  is_cut : IsCut members order u
  is_cut = let r = read in record {
    order_is = subst (λ (k : ℕ). IsOrder k order) count_is (orders_permute (count_of a members) order h.ordered);
    each = unit_many (edition u.standard) members u (length order) r.reads r.binds in_order declared called;
  }

  is_bracketed_unit : 0 < length order → EachNode (IsBracketed (begins_list members u)) u.tree.under
  is_bracketed_unit some = let r = read in unit_brackets (edition u.standard) members u (length order) r.reads r.binds in_order declared called some

pub units_are_cut : ReadParameterListsAreInOrder → UnitsAreCut
units_are_cut in_order source ws a members order h u i = is_cut in_order source ws a members order h u i

pub unit_lists_are_bracketed : ReadParameterListsAreInOrder → UnitListsAreBracketed
unit_lists_are_bracketed in_order source ws a members order h some u i = is_bracketed_unit in_order source ws a members order h u i some

pub no_list_is_first : ReadParameterListsAreInOrder → NoListIsFirst
no_list_is_first in_order source ws a members order h u i =
    let r = read in_order source ws a members order h u i in
    unit_first (edition u.standard) members u (length order) r.reads r.binds in_order (declared in_order source ws a members order h u i) (called in_order source ws a members order h u i)
