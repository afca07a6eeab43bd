-- Each declarator of a function has a prototype, since its name declares it.
use Rattle.std.proofs.Common.{◌≡◌, ℕ, zero, suc, true, false, List, [], ◌∷◌, length, Option, Some, inl, inr, sym, ap, subst, ◌∙◌}
use Rattle.std.specs.Prelude.{slice_get}
use Rattle.std.specs.Option.{option_map_or}
use Rattle.std.proofs.lemmas.Bool.{and_from}
use Rattle.std.proofs.lemmas.Option.{same_Some}
use Rattle.cs_base.specs.declared.positions.Part.{Part}
use Rattle.c99_grammar.specs.Dialects.{edition}
use Rattle.c_types.specs.declared.lists.List.{List as NameList}
use Rattle.c_types.specs.Parameters.{parameters_in}
use Rattle.name_chains.specs.Frames.{outermost}
use Rattle.scope_bind.specs.declared.bound.Name.{Name}
use Rattle.scope_bind.specs.Names.{entity_at}
use Rattle.tree_laws.specs.ReadTexts.{ReadParameterListsAreInOrder}
use Rattle.tree_laws.proofs.EntityNames.{entities_are_names}
use Rattle.tree_laws.proofs.Lookups as tree
use Rattle.tree_laws.proofs.OfTexts.{trees_of_texts}
use Rattle.tree_laws.specs.ToldNames.{IdentifiersAreTold}
use Rattle.tree_laws.specs.Told.{is_ordinary, DeclaresAt}
use Rattle.source_files.specs.Files.{Source}
use Rattle.ws_file.specs.Workspace.{WorkspaceValue}
use Rattle.analysis.specs.Analysis.{UnitAnalysis, AnalysisValue}
use Rattle.edited_unit_laws.proofs.ListLemmas.{In}
use Rattle.template_rules.specs.Functions.{is_function}
use Rattle.template_rules.specs.NameOffences.{has_prototype}
use Rattle.template_meaning.specs.Accepted.{IsAccepted}
use Rattle.template_meaning.specs.Clear.{IsOwn, UnitIsClear}
use Rattle.template_meaning.specs.Prototypes.{DeclaratorsHavePrototypes}
use Rattle.template_meaning.proofs.CanReorder.{is_clear, all_told}
use Rattle.template_meaning.proofs.UnitCut.{read, declared, called}
use Rattle.template_meaning.proofs.UnitItems.{pairs_declare}
use Rattle.template_meaning.proofs.UnitLists.{declarator_is}
use Rattle.template_meaning.proofs.Units.{all_of_in}
use Rattle.edited_unit_laws.proofs.EditionLemmas.{IsReadSo}

in_of : {X : Type 0} (x : X) (xs : List X) (k : ℕ) → slice_get xs k ≡ Some x → tree.In x xs
in_of x [] k e = absurd (cc)
in_of x (y ∷ xs) zero e = inl (same_Some y x e)
in_of x (y ∷ xs) (suc k) e = inr (in_of x xs k e)

module _ (in_order : ReadParameterListsAreInOrder) (are_told : IdentifiersAreTold) (source : Source) (ws : WorkspaceValue) (a : AnalysisValue) (members : List Part) (order : List ℕ)
    (h : IsAccepted source ws a members order) (u : UnitAnalysis) (i : In u a.units) (l : NameList) (j : In l u.bound.declarators) (own : IsOwn members u l) where
  abbrev names : List Name
  names = u.bound.names

  is_read : IsReadSo u
  is_read = read in_order source ws a members order h u i

  clear : UnitIsClear a members u
  clear = is_clear in_order are_told source ws a members order h u i

  declares : DeclaresAt names is_ordinary l.name
  declares =
      let r = is_read in
      let p = declarator_is (edition u.standard) members u (length order) r.reads r.binds in_order (declared in_order source ws a members order h u i) (called in_order source ws a members order h u i) l
      (in_of l u.bound.declarators j.0 j.1) in
      subst (λ (k : ℕ). DeclaresAt names is_ordinary k) (ap (λ (q : NameList). q.name) p.2)
      (pairs_declare names u.text.toks u.tree.under false false (outermost 0).label p.0 (all_told in_order are_told source ws a members order h u i) p.1)

  abbrev name : Name
  name = let d = declares in d.name

  at : name.index ≡ l.name
  at = let d = declares in d.index

  entity : entity_at names name.index ≡ Some name.entity
  entity =
      let r = is_read in
      let d = declares in
      (all_of_in (λ (m : Name). (entity_at names m.index ≡ Some m.entity) × (entity_at names m.entity ≡ Some m.entity)) names
      (entities_are_names u.text.toks u.tree u.bound (trees_of_texts (edition u.standard) u.text.toks u.tree r.reads) r.binds) name d.is).0

  of_function : is_function members u.text.toks names name.entity ≡ true
  of_function = sym (ap (λ (o : Option ℕ). option_map_or (is_function members u.text.toks names) o false) (ap (λ (k : ℕ). entity_at names k) (sym at) ∙ entity)) ∙ own

  has : has_prototype (parameters_in u.tree.under) l.name ≡ true
  has =
      let d = declares in
      let c = clear in
      let m = c.names name d.is in
      ap (λ (k : ℕ). has_prototype (parameters_in u.tree.under) k) (sym at) ∙ m.prototype (and_from name.declares (is_function members u.text.toks names name.entity) d.declares of_function)

pub declarators_have_prototypes : ReadParameterListsAreInOrder → IdentifiersAreTold → DeclaratorsHavePrototypes
declarators_have_prototypes in_order are_told source ws a members order h u i l j own = has in_order are_told source ws a members order h u i l j own
