-- Which names are of a group, and the characters that they come from.
use Rattle.std.proofs.Common.{◌≡◌, ℕ, ◌+◌, ◌<◌, ◌≤◌, Bool, true, false, ◌||◌, not, List, [], ◌∷◌, Option, Some, None, length, drop, get_or, refl, sym, ap, ◌∙◌}
use Rattle.std.specs.List.{list_any}
use Rattle.std.specs.Option.{option_map_or}
use Rattle.std.proofs.Math.Bool.{or_assoc, or-false}
use Rattle.std.proofs.lemmas.List.{at_drop_more, at_drop_all}
use Rattle.cs_base.specs.declared.positions.Pos.{Pos}
use Rattle.cs_base.specs.Token.{Token}
use Rattle.analysis.specs.Below.scope_bind.declared.bound.Name.{Name}
use Rattle.analysis.specs.Below.scope_bind.Names.{entity_at, kind_at, linkage_at}
use Rattle.analysis.specs.Below.c_types.declared.entity.EntityKind.{EntityKind}
use Rattle.analysis.specs.Below.c_types.declared.entity.EntityKind.TheVariants as kind
use Rattle.class_marks.specs.declared.roles.Role.{Role}
use Rattle.class_marks.specs.Roles.{does_declare, is_external, is_kind, occurrence_has, token_has}
use Rattle.unseen_names.specs.declared.names.Group.{Group}
use Rattle.unseen_names.specs.declared.names.Group.TheVariants as group
use Rattle.unseen_names.specs.Characters.{is_marked, Adds}
use Rattle.unseen_names.specs.Groups.{in_tokens, is_wide_found, occurrence_wanted, roles_of, token_wanted, wanted_token}
use Rattle.unseen_names.specs.Unseen.{comes_from}
use Rattle.unseen_names.proofs.SwapLemmas.{any-alike, any-none}

-- ---- which names

-- a name declares or uses
stated_always : (b : Bool) → true ≡ (b || (not b || false))
stated_always true = refl
stated_always false = refl

wide_kinds : (found : Option EntityKind) → is_wide_found found
    ≡ (is_kind kind.Member found || (is_kind kind.Function found || (is_kind kind.Typedef found || (is_kind kind.Enumerator found || (is_kind kind.Tag found || false)))))
wide_kinds None = refl
wide_kinds (Some kind.Object) = refl
wide_kinds (Some kind.Function) = refl
wide_kinds (Some kind.Typedef) = refl
wide_kinds (Some kind.Parameter) = refl
wide_kinds (Some kind.Enumerator) = refl
wide_kinds (Some kind.Tag) = refl
wide_kinds (Some kind.Member) = refl
wide_kinds (Some kind.Label) = refl

module _ (g : Group) (names : List Name) (k : ℕ) where
  pub stated_wanted : (entity : ℕ) → g ≡ group.Stated → true ≡ occurrence_wanted g names k entity
  stated_wanted entity is = rw is (stated_always (does_declare names k entity))

  pub wide_wanted : (entity : ℕ) (wide : Bool) → g ≡ group.Wide → wide ≡ (is_external (linkage_at names entity) || is_wide_found (kind_at names entity))
      → wide ≡ occurrence_wanted g names k entity
  wide_wanted entity wide is same =
      rw is (same ∙ ap (λ (b : Bool). is_external (linkage_at names entity) || b) (wide_kinds (kind_at names entity)))

  pub wanted_bound : (entity : ℕ) → entity_at names k ≡ Some entity → occurrence_wanted g names k entity ≡ token_wanted g names k
  wanted_bound entity is =
      any-alike (λ r. occurrence_has r names k entity) (λ r. token_has r names k) (roles_of g)
      (λ r. sym (ap (λ (e : Option ℕ). option_map_or (occurrence_has r names k) e false) is))

  pub wanted_free : entity_at names k ≡ None → false ≡ token_wanted g names k
  wanted_free is =
      sym (any-none (roles_of g))
      ∙ any-alike (λ (r : Role). false) (λ r. token_has r names k) (roles_of g) (λ r. sym (ap (λ (e : Option ℕ). option_map_or (occurrence_has r names k) e false) is))

-- ---- their characters

-- one token, and nothing
pub in_one : (p : Pos) (t : Token) → comes_from p t ≡ list_any (comes_from p) (t ∷ [])
in_one p t = sym (or-false (comes_from p t))

-- Marks that are those in the end once the tokens that are left have theirs.
pub record Lacks (g : Group) (names : List Name) (k : ℕ) (toks : List Token) (whole : Pos → Bool) (marks : List (List Bool)) : Type 0 where
  pub each : (p : Pos) → (is_marked marks p || in_tokens g p names k toks) ≡ whole p

module _ (g : Group) (names : List Name) (whole : Pos → Bool) where
  pub lacks_less : (k : ℕ) (toks : List Token) (t : Token) (old new : List (List Bool)) → k < length toks → t ≡ get_or toks k t
      → Adds (λ p. list_any (comes_from p) (wanted_token (token_wanted g names k) t)) old new → Lacks g names k (drop k toks) whole old
      → Lacks g names (k + 1) (drop (k + 1) toks) whole new
  unfolding in_tokens
  lacks_less k toks t old new within is adds lacks = record {
    each = λ p.
        let here = list_any (comes_from p) (wanted_token (token_wanted g names k) t) in
        let later = in_tokens g p names (k + 1) (drop (k + 1) toks) in
        let next : in_tokens g p names k (drop k toks) ≡ (here || later) =
        at_drop_more (in_tokens g p names k) toks k t within
        ∙ ap (λ (x : Token). list_any (comes_from p) (wanted_token (token_wanted g names k) x) || later) (sym is) in
        ap (λ (b : Bool). b || later) (adds.each p) ∙ or_assoc (is_marked old p) here later ∙ ap (λ (b : Bool). is_marked old p || b) (sym next) ∙ lacks.each p;
  }

  pub lacks_none : (k : ℕ) (toks : List Token) (marks : List (List Bool)) → length toks ≤ k → Lacks g names k (drop k toks) whole marks
      → (p : Pos) → is_marked marks p ≡ whole p
  unfolding in_tokens
  lacks_none k toks marks past lacks p =
      let none : in_tokens g p names k (drop k toks) ≡ false = at_drop_all (in_tokens g p names k) toks k past in
      sym (or-false (is_marked marks p)) ∙ ap (λ (b : Bool). is_marked marks p || b) (sym none) ∙ lacks.each p
