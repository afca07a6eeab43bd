-- What marks on the characters of names tell of a class.
use Rattle.std.proofs.Common.{◌≡◌, ℕ, zero, suc, ◌-◌, Bool, true, false, List, Option, Some, None, slice_get, refl, sym, ap, ◌∙◌, subst}
use Rattle.std.specs.Prelude.{MatchBool, not}
use Rattle.std.specs.List.{list_all, list_any}
use Rattle.std.specs.Option.{option_and_then}
use Rattle.std.proofs.lemmas.Option.{none-some, same_Some}
use Rattle.cs_base.specs.declared.positions.Part.{Part}
use Rattle.cs_base.specs.declared.positions.Pos.{Pos}
use Rattle.cs_base.specs.Token.{Token}
use Rattle.cs_base.proofs.ListLemmas.{any_at as any_from, passes_at}
use Rattle.eclass_map.specs.Positions.{along, holds}
use Rattle.eclass_map.proofs.TokenFacts.{along_of, holding, holds_along}
use Rattle.analysis.specs.Below.c_types.declared.entity.EntityKind.{EntityKind}
use Rattle.analysis.specs.Below.c_types.declared.entity.EntityKind.TheVariants as kind
use Rattle.analysis.specs.Analysis.{AnalysisValue}
use Rattle.analysis.specs.Parts.{AreMembers}
use Rattle.class_marks.proofs.RoleLemmas.{some_passes}
use Rattle.class_marks.specs.declared.roles.Role.{Role}
use Rattle.class_marks.specs.declared.roles.Role.TheVariants as role
use Rattle.class_marks.specs.Roles.{names_with}
use Rattle.class_marks.specs.Touching.{HasRole}
use Rattle.unseen_names.specs.declared.names.Group.{Group}
use Rattle.unseen_names.specs.declared.names.Group.TheVariants as group
use Rattle.unseen_names.specs.Characters.{is_marked, AnyMarked}
use Rattle.unseen_names.specs.Groups.{is_in_group, roles_of, HasGroup}
use Rattle.unseen_names.specs.Reach.{is_wide_kind, is_wide_role, IsWide}
use Rattle.unseen_names.specs.Unseen.{comes_from, stands_at, IsUnstated}
use Rattle.unseen_names.proofs.SpanMarks.{stands, stands_there}
use Rattle.unseen_names.proofs.SwapLemmas.{in_roles}

-- ---- characters of tokens

origin_found : (t : Token) (k : ℕ) (p : Pos) (o : Option (Option Pos)) → slice_get t.origins k ≡ o → option_and_then (λ origin. origin) o ≡ Some p
    → slice_get t.origins k ≡ Some (Some p)
origin_found t k p None at is = absurd (none-some p is)
origin_found t k p (Some origin) at is = at ∙ ap (λ (q : Option Pos). Some q) is

-- ---- marks on the characters of names

module _ (g : Group) (a : AnalysisValue) (part : Part) (members : List Part) (are : AreMembers a part members) (marks : List (List Bool))
    (of : (p : Pos) → is_marked marks p ≡ is_in_group g a p) where
  pub marked_has : AnyMarked marks members → HasGroup g a part
  marked_has x =
      let p : Pos = along x.part.start x.holds.offset in
      let told : list_any (λ r. list_any (comes_from p) (names_with r a)) (roles_of g) ≡ true = sym (in_roles g p a) ∙ (sym (of p) ∙ x.holds.marked) in
      let r = some_passes (λ (r : Role). list_any (comes_from p) (names_with r a)) (roles_of g) told in
      let n = some_passes (comes_from p) (names_with r.element a) r.passed in
      let o = some_passes (stands_at p) n.element.origins n.passed in
      record {
        number = r.number;
        role = r.element;
        among = r.at;
        has = record {
          number = n.number;
          name = n.element;
          listed = n.at;
          touches = record {
            character = o.number;
            at = p;
            member = x.part;
            origin = ap (option_and_then (λ (q : Option Pos). q)) o.at ∙ stands p o.element o.passed;
            is_member = are.each x.number x.part x.at;
            held = holds_along x.part x.holds.offset x.holds.within;
          };
        };
      }

  pub has_marked : HasGroup g a part → AnyMarked marks members
  has_marked h =
      let t = h.has.touches in
      let here = are.all t.member t.is_member in
      let held = holding t.member t.at t.held in
      let found = origin_found h.has.name t.character t.at (slice_get h.has.name.origins t.character) refl t.origin in
      let comes : comes_from t.at h.has.name ≡ true = any_from (stands_at t.at) h.has.name.origins t.character (Some t.at) found (stands_there t.at) in
      let named : list_any (comes_from t.at) (names_with h.role a) ≡ true =
      any_from (comes_from t.at) (names_with h.role a) h.has.number h.has.name h.has.listed comes in
      let told : is_in_group g a t.at ≡ true =
      in_roles g t.at a ∙ any_from (λ (r : Role). list_any (comes_from t.at) (names_with r a)) (roles_of g) h.number h.role h.among named in
      record {
        number = here.0;
        part = t.member;
        at = here.1;
        holds = record {
          offset = t.at.at - t.member.start.at;
          within = held.less;
          marked = subst (λ (p : Pos). is_marked marks p ≡ true) (sym (along_of t.member t.at held)) (of t.at ∙ told);
        };
      }

-- ---- the two groups

stated_role : (a : AnalysisValue) (part : Part) (r : Role) (k : ℕ) → slice_get (roles_of group.Stated) k ≡ Some r → HasRole a r part → IsUnstated a part → ⊥
stated_role a part r zero at has none = none.undeclared (subst (λ (q : Role). HasRole a q part) (sym (same_Some role.Declares r at)) has)
stated_role a part r (suc zero) at has none = none.unused (subst (λ (q : Role). HasRole a q part) (sym (same_Some role.Uses r at)) has)
stated_role a part r (suc (suc k)) at has none = none-some r at

-- nothing marked: no name declares or uses the class
pub told_unstated : (a : AnalysisValue) (part : Part) (members : List Part) (marks : List (List Bool)) (is : Bool) → AreMembers a part members
    → ((p : Pos) → is_marked marks p ≡ is_in_group group.Stated a p)
    → MatchBool is (AnyMarked marks members) (AnyMarked marks members → ⊥) → MatchBool (not is) (IsUnstated a part) (IsUnstated a part → ⊥)
told_unstated a part members marks true are of some = λ none.
    let h = marked_has group.Stated a part members are marks of some in
    stated_role a part h.role h.number h.among h.has none
told_unstated a part members marks false are of nothing = record {
  undeclared = λ has. nothing (has_marked group.Stated a part members are marks of (record { number = 0; role = role.Declares; among = refl; has = has }));
  unused = λ has. nothing (has_marked group.Stated a part members are marks of (record { number = 1; role = role.Uses; among = refl; has = has }));
}

all_wide : list_all is_wide_role (roles_of group.Wide) ≡ true
all_wide = refl

-- the place of a role among those that reach past a function
abbrev IsAmong : Role → Type 0
IsAmong r = (k : ℕ) × (slice_get (roles_of group.Wide) k ≡ Some r)

kind_among : (k : EntityKind) → is_wide_kind k ≡ true → IsAmong (role.OfKind k)
kind_among kind.Object is = absurd (cc)
kind_among kind.Function is = (3, refl)
kind_among kind.Typedef is = (4, refl)
kind_among kind.Parameter is = absurd (cc)
kind_among kind.Enumerator is = (5, refl)
kind_among kind.Tag is = (6, refl)
kind_among kind.Member is = (2, refl)
kind_among kind.Label is = absurd (cc)

role_among : (r : Role) → is_wide_role r ≡ true → IsAmong r
role_among role.Declares is = absurd (cc)
role_among role.Uses is = absurd (cc)
role_among role.Defines is = (1, refl)
role_among (role.OfKind k) is = kind_among k is
role_among role.External is = (0, refl)

pub told_wide : (a : AnalysisValue) (part : Part) (members : List Part) (marks : List (List Bool)) (is : Bool) → AreMembers a part members
    → ((p : Pos) → is_marked marks p ≡ is_in_group group.Wide a p)
    → MatchBool is (AnyMarked marks members) (AnyMarked marks members → ⊥) → MatchBool is (IsWide a part) (IsWide a part → ⊥)
told_wide a part members marks true are of some =
    let h = marked_has group.Wide a part members are marks of some in
    record { role = h.role; wide = passes_at is_wide_role (roles_of group.Wide) h.number h.role all_wide h.among; has = h.has }
told_wide a part members marks false are of nothing = λ w.
    let k = role_among w.role w.wide in
    nothing (has_marked group.Wide a part members are marks of (record { number = k.0; role = w.role; among = k.1; has = w.has }))
