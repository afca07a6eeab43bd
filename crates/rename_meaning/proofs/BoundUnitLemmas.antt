-- The renamed tokens of a unit are bound as before.
use Rattle.std.proofs.Common.{◌≡◌, ℕ, true, List, map, Option, Some, sym, ap, subst, ◌∙◌}
use Rattle.std.specs.Prelude.{slice_get}
use Rattle.cs_base.specs.declared.positions.Part.{Part}
use Rattle.cs_base.proofs.FileMapLemmas.{bytes_eq-equal}
use Rattle.cs_base.proofs.ListLemmas.{spelled_same as alike_from}
use Rattle.cs_base.specs.Token.{Token}
use Rattle.line_shape.specs.Signs.{is_name}
use Rattle.unit_steps.specs.Below.macro_expand.Renaming.{Renaming, renamed}
use Rattle.analysis.specs.Below.scope_bind.declared.bound.Name.{Name}
use Rattle.analysis.specs.Below.c_types.Declarations.{spelling_at, alike}
use Rattle.analysis.specs.Below.scope_bind.Names.{entity_at}
use Rattle.tree_laws.specs.RenamedNames.{StaysApart, NamesAreRenamed}
use Rattle.tree_laws.proofs.RenamedWalk.{renamed_bind_alike}
use Rattle.part_respell.specs.Respelled.{spelled}
use Rattle.analysis.specs.Analysed.{Analysed}
use Rattle.analysis.specs.Analysis.{UnitAnalysis}
use Rattle.rename_meaning.specs.Allowed.{IsAllowed}
use Rattle.rename_meaning.specs.KeptTokens.{Spells}
use Rattle.rename_meaning.specs.Renamings.{KeepsUnedited, renaming}
use Rattle.rename_meaning.proofs.LinkLemmas.{linked_stay_alike}
use Rattle.edited_unit_laws.proofs.ListLemmas.{In, all_of}
use Rattle.rename_meaning.proofs.RenamingLemmas.{renamings_spell}
use Rattle.rename_meaning.proofs.UneditedLemmas.{renamings_keep_unedited}
use Rattle.rename_meaning.specs.BoundUnits.{NamesBindAsBefore, UnitsAreRenamedWhole, UnitsBindAsBefore}
use Rattle.rename_meaning.proofs.LinkedNameLemmas.{all_said, all_pass, bound_name, IsFirst, first_bound, first_entity, joined, names_linked}
use Rattle.rename_meaning.proofs.NamedLemmas.{each_spelled, old_at, new_at, words_kept, apart_kept, as_long}
use Rattle.rename_meaning.proofs.UnitNameLemmas.{name_token, name_entity, name_alike}
use Rattle.edited_unit_laws.proofs.EditionLemmas.{read_by_edition, unit_is_read}

module _ (a : Analysed) (members : List Part) (name : List ℕ) (r : Renaming) (h : IsAllowed a members name) (spells : Spells members name r)
    (keeps : KeepsUnedited r) (u : UnitAnalysis) (i : In u a.value.units) where
  abbrev toks : List Token
  toks = u.text.toks

  abbrev names : List Name
  names = u.bound.names

  -- An identifier that is bound to an entity, and is spelled as the token that names it.
  record BoundAt (k e : ℕ) : Type 0 where
    token : Token
    there : slice_get toks k ≡ Some token
    named : is_name token ≡ true
    entity : entity_at names k ≡ Some e
    alike_entity : spelling_at toks k ≡ spelling_at toks e

  name_bound : (n : Name) → In n names → BoundAt n.index n.entity
  name_bound n j =
      let entity = name_entity a members name h u i n j in
      let same = name_alike a members name h u i n j in
      let t = name_token a members name h u i n j in
      record {
        token = t.0;
        there = t.1;
        named = t.2;
        entity = entity.0;
        alike_entity = bytes_eq-equal (spelling_at toks n.index) (spelling_at toks n.entity) same;
      }

  -- the same of each token that is bound
  token_bound : (k e : ℕ) → entity_at names k ≡ Some e → BoundAt k e
  token_bound k e at =
      let n = bound_name names k e at in
      let P : ℕ → Type 0 = λ j. BoundAt j n.0.entity in
      subst (BoundAt k) n.3 (subst P n.2 (name_bound n.0 n.1))

  -- it is spelled anew as the first occurrence is
  new_first : (k e : ℕ) → BoundAt k e → (f : IsFirst names e 0 toks) → spelling_at (map (renamed r) toks) k ≡ spelled members name f.token
  new_first k e b f =
      let g = token_bound f.place e (first_entity names e toks f) in
      let same_token : Some g.token ≡ Some f.token = sym g.there ∙ f.there in
      let also : is_name f.token ≡ true = named_first g.token f.token same_token g.named in
      let same : b.token.text ≡ f.token.text =
      sym (old_at a members name r h spells keeps u i k b.token b.there) ∙ b.alike_entity ∙ sym g.alike_entity
      ∙ old_at a members name r h spells keeps u i f.place f.token f.there in
      let linked = names_linked a.value u i k e b.token b.there b.entity f b.named also (alike_from b.token.text f.token.text same) in
      new_at a members name r h spells keeps u i k b.token b.there
      ∙ each_spelled a members name r h spells keeps u i b.token (k, b.there)
      ∙ linked_stay_alike a members name h (joined b.token f.token) linked
    where
      named_first : (x y : Token) → ◌≡◌ {A = Option Token} (Some x) (Some y) → is_name x ≡ true → is_name y ≡ true
      named_first x y e' n = let s : x ≡ y = cc in ap is_name (sym s) ∙ n

  pub name_together : (n : Name) → In n names → alike (map (renamed r) toks) n.index n.entity ≡ true
  name_together n j =
      let b = name_bound n j in
      let entity = name_entity a members name h u i n j in
      let c = token_bound n.entity n.entity entity.1 in
      let f = first_bound names n.entity toks n.index b.token b.there b.entity in
      alike_from (spelling_at (map (renamed r) toks) n.index) (spelling_at (map (renamed r) toks) n.entity)
      (new_first n.index n.entity b f ∙ sym (new_first n.entity n.entity c f))

  unit_renamed : NamesAreRenamed toks (map (renamed r) toks) names
  unit_renamed = record {
    as_long = as_long a members name r h spells keeps u i;
    words = λ word k own. words_kept a members name r h spells keeps u i word k own;
    apart = all_said (λ (n : Name). StaysApart toks (map (renamed r) toks) n.index) names (λ n j.
        let b = name_bound n j in
        apart_kept a members name r h spells keeps u i n.index (record { token = b.token; there = b.there; named = b.named }));
    together = all_pass (λ (n : Name). alike (map (renamed r) toks) n.index n.entity) names
        (all_of (λ (n : Name). alike (map (renamed r) toks) n.index n.entity ≡ true) names name_together);
  }

pub units_are_renamed_whole : UnitsAreRenamedWhole
units_are_renamed_whole = λ a members name r h spells keeps u i. unit_renamed a members name r h spells keeps u i

pub names_bind_as_before : NamesBindAsBefore
names_bind_as_before = λ a members name r h spells keeps u i iso_.
    let is = read_by_edition u iso_ (unit_is_read h.source h.workspace a.value h.accepted u i) in
    renamed_bind_alike u.text.toks (map (renamed r) u.text.toks) u.tree u.bound is.binds (unit_renamed a members name r h spells keeps u i)

pub units_bind_as_before : UnitsBindAsBefore
units_bind_as_before = λ a members name h u i iso_.
    names_bind_as_before a members name (renaming a.value members name u.text) h (renamings_spell a.value members name u.text)
    (renamings_keep_unedited a members name u.text h) u i iso_
