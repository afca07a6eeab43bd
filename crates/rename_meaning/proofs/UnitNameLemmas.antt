-- Names of a unit, and the tokens that name their entities, by whatever standard it is read and bound.
use Rattle.std.proofs.Common.{◌≡◌, ℕ, zero, suc, true, false, List, [], ◌∷◌, Option, None, Some, Ok, inl, inr, refl, sym, ap, ◌∙◌}
use Rattle.std.specs.Prelude.{slice_get}
use Rattle.std.specs.List.{All}
use Rattle.std.specs.Option.{option_map_or}
use Rattle.std.proofs.lemmas.Bool.{cases_Bool, false≢true, and_parts}
use Rattle.std.proofs.lemmas.Option.{same_Some}
use Rattle.cs_base.specs.declared.positions.Part.{Part}
use Rattle.cs_base.specs.declared.ws_units.Standard.{Standard}
use Rattle.cs_base.specs.declared.ws_units.Standard.TheVariants as standard
use Rattle.cs_base.specs.Token.{Token}
use Rattle.cs_base.specs.Units.{is_gnu}
use Rattle.line_shape.specs.Signs.{is_name}
use Rattle.c99_tree.specs.Tree.{Node}
use Rattle.analysis.specs.Below.c99_grammar.declared.dialects.Dialect.TheVariants.{Gnu}
use Rattle.analysis.specs.Below.c99_grammar.Dialects.{edition, dialect}
use Rattle.analysis.specs.Below.c99_grammar.Standard.{iso, grammar}
use Rattle.analysis.specs.Below.c99_read.Reading.{read_of}
use Rattle.analysis.specs.Below.c99_read.State.{base_at, is_identifier}
use Rattle.analysis.specs.Below.c_types.Declarations.{alike, has_linkage}
use Rattle.analysis.specs.Below.scope_bind.declared.bound.Name.{Name}
use Rattle.analysis.specs.Below.scope_bind.Bound.{Bound}
use Rattle.analysis.specs.Below.scope_bind.Names.{entity_at, linkage_at}
use Rattle.analysis.specs.Below.gnu_bind.Bound.{binding_by, gnu_binding_of}
use Rattle.tree_laws.proofs.EntityNames.{entities_are_names}
use Rattle.tree_laws.proofs.HeldNames.{spelled_as_entities}
use Rattle.tree_laws.proofs.LinkedNames.{linked_once}
use Rattle.tree_laws.proofs.OfTexts.{trees_by_dialect}
use Rattle.gnu_tree_laws.proofs.GnuSpelled.{spelled_as_entities as gnu_spelled}
use Rattle.gnu_tree_laws.proofs.GnuOnce.{entities_are_names as gnu_entities}
use Rattle.gnu_tree_laws.proofs.GnuLinked.{linked_once as gnu_linked}
use Rattle.analysis.specs.Analysed.{Analysed}
use Rattle.analysis.specs.Analysis.{UnitAnalysis}
use Rattle.rename_rules.specs.GnuOffences.{are_identifiers}
use Rattle.edited_unit_laws.specs.Analyses.{IsRead}
use Rattle.edited_unit_laws.proofs.EditionLemmas.{read_by_edition, unit_is_read}
use Rattle.edited_unit_laws.proofs.ListLemmas.{In, all_at}
use Rattle.rename_meaning.specs.Allowed.{IsAllowed}
use Rattle.rename_meaning.proofs.LinkedNameLemmas.{all_listed, named_token}
use Rattle.rename_meaning.proofs.NoneLemmas.{gnu_kept}
use Rattle.rename_meaning.proofs.ReadNameLemmas.{names_identify}

-- ---- by each standard

spelled_by : (s : Standard) (toks : List Token) (tree : Node) (b : Bound) → binding_by s toks tree ≡ Ok b
    → All (λ (n : Name). alike toks n.index n.entity ≡ true) b.names
spelled_by standard.C99 toks tree b binds = spelled_as_entities toks tree b binds
spelled_by standard.C11 toks tree b binds = spelled_as_entities toks tree b binds
spelled_by standard.Gnu99 toks tree b binds = gnu_spelled toks tree b binds
spelled_by standard.Gnu11 toks tree b binds = gnu_spelled toks tree b binds

entities_by : (s : Standard) (toks : List Token) (tree : Node) (b : Bound) → read_of (grammar (dialect s)) toks ≡ Ok tree → binding_by s toks tree ≡ Ok b
    → All (λ (n : Name). (entity_at b.names n.index ≡ Some n.entity) × (entity_at b.names n.entity ≡ Some n.entity)) b.names
entities_by standard.C99 toks tree b reads binds = entities_are_names toks tree b (trees_by_dialect (dialect standard.C99) toks tree reads) binds
entities_by standard.C11 toks tree b reads binds = entities_are_names toks tree b (trees_by_dialect (dialect standard.C11) toks tree reads) binds
entities_by standard.Gnu99 toks tree b reads binds = gnu_entities toks tree b (trees_by_dialect Gnu toks tree reads) binds
entities_by standard.Gnu11 toks tree b reads binds = gnu_entities toks tree b (trees_by_dialect Gnu toks tree reads) binds

linked_by : (s : Standard) (toks : List Token) (tree : Node) (b : Bound) → read_of (grammar (dialect s)) toks ≡ Ok tree → binding_by s toks tree ≡ Ok b
    → (j k : ℕ) → has_linkage (linkage_at b.names j) ≡ true → has_linkage (linkage_at b.names k) ≡ true → alike toks j k ≡ true → j ≡ k
linked_by standard.C99 toks tree b reads binds = linked_once toks tree b (trees_by_dialect (dialect standard.C99) toks tree reads) binds
linked_by standard.C11 toks tree b reads binds = linked_once toks tree b (trees_by_dialect (dialect standard.C11) toks tree reads) binds
linked_by standard.Gnu99 toks tree b reads binds = gnu_linked toks tree b (trees_by_dialect Gnu toks tree reads) binds
linked_by standard.Gnu11 toks tree b reads binds = gnu_linked toks tree b (trees_by_dialect Gnu toks tree reads) binds

-- what is read and bound by GNU C is so by each of its standards
pub gnu_by : (s : Standard) (toks : List Token) (tree : Node) (b : Bound) → is_gnu s ≡ true
    → (read_of (grammar Gnu) toks ≡ Ok tree) × (gnu_binding_of toks tree ≡ Ok b)
    → (read_of (grammar (dialect s)) toks ≡ Ok tree) × (binding_by s toks tree ≡ Ok b)
gnu_by standard.C99 toks tree b h is = absurd (false≢true h)
gnu_by standard.C11 toks tree b h is = absurd (false≢true h)
gnu_by standard.Gnu99 toks tree b h is = is
gnu_by standard.Gnu11 toks tree b h is = is

-- ---- identifiers

abbrev IsIdentifierAt : List Token → ℕ → Type 0
IsIdentifierAt toks k = (t : Token) × (slice_get toks k ≡ Some t) × (is_name t ≡ true)

identifier_in : (o : Option Token) → option_map_or is_name o false ≡ true → (t : Token) × (o ≡ Some t) × (is_name t ≡ true)
identifier_in None h = absurd (false≢true h)
identifier_in (Some t) h = (t, refl, h)

identifier_at : (toks : List Token) (names : List Name) (n : Name) → In n names → are_identifiers toks names ≡ true → IsIdentifierAt toks n.index
identifier_at toks [] n i h = absurd (let at = i.1 in cc)
identifier_at toks (m ∷ names) n (zero, at) h =
    let same : m.index ≡ n.index = ap (λ (x : Name). x.index) (same_Some m n at) in
    let t = identifier_in (slice_get toks m.index) (and_parts (option_map_or is_name (slice_get toks m.index) false) (are_identifiers toks names) h).0 in
    (t.0, ap (slice_get toks) (sym same) ∙ t.1, t.2)
identifier_at toks (m ∷ names) n (suc k, at) h =
    identifier_at toks names n (k, at) (and_parts (option_map_or is_name (slice_get toks m.index) false) (are_identifiers toks names) h).1

-- ---- a unit of an analysis, under a renaming against which nothing stands

module _ (a : Analysed) (members : List Part) (name : List ℕ) (h : IsAllowed a members name) (u : UnitAnalysis) (i : In u a.value.units) where
  pub is_read : IsRead u
  is_read = unit_is_read h.source h.workspace a.value h.accepted u i

  -- a name is an identifier
  pub name_token : (n : Name) → In n u.bound.names → IsIdentifierAt u.text.toks n.index
  name_token n j = elim (cases_Bool (is_gnu u.standard)) [
    | inl gnu ↦
        let kept = gnu_kept a members name h u i gnu in
        identifier_at u.text.toks u.bound.names n j
        (and_parts (are_identifiers u.text.toks u.bound.names) _ kept).0
    | inr iso_ ↦
        let is = read_by_edition u iso_ is_read in
        let one = all_at (λ (m : Name). (is_identifier (base_at (iso (edition u.standard)) u.text.toks m.index) ≡ true) × (is_identifier (base_at (iso (edition u.standard)) u.text.toks m.entity) ≡ true)) u.bound.names
        (all_listed _ u.bound.names (names_identify (edition u.standard) u.text.toks u.tree u.bound is.reads is.binds)) n j in
        named_token (edition u.standard) u.text.toks n.index one.0
  ]

  -- it is a name of its entity, and so is the token that names this
  pub name_entity : (n : Name) → In n u.bound.names → (entity_at u.bound.names n.index ≡ Some n.entity) × (entity_at u.bound.names n.entity ≡ Some n.entity)
  name_entity n j =
      let is = is_read in
      all_at (λ (m : Name). (entity_at u.bound.names m.index ≡ Some m.entity) × (entity_at u.bound.names m.entity ≡ Some m.entity)) u.bound.names
      (all_listed _ u.bound.names (entities_by u.standard u.text.toks u.tree u.bound is.reads is.binds)) n j

  -- both are spelled alike
  pub name_alike : (n : Name) → In n u.bound.names → alike u.text.toks n.index n.entity ≡ true
  name_alike n j =
      let is = is_read in
      all_at (λ (m : Name). alike u.text.toks m.index m.entity ≡ true) u.bound.names
      (all_listed _ u.bound.names (spelled_by u.standard u.text.toks u.tree u.bound is.binds)) n j

  -- two that name entities of linkage and are spelled alike are one
  pub name_linked : (j k : ℕ) → has_linkage (linkage_at u.bound.names j) ≡ true → has_linkage (linkage_at u.bound.names k) ≡ true → alike u.text.toks j k ≡ true → j ≡ k
  name_linked = let is = is_read in linked_by u.standard u.text.toks u.tree u.bound is.reads is.binds
