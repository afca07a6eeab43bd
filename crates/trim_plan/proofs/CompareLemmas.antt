-- What is compared of two units.
use Rattle.std.proofs.Common.{◌≡◌, ℕ, ◌+◌, ◌<◌, Bool, true, false, cond, List, Option, Some, None, length, slice_get, sym, ap, subst, ◌∙◌, inl, inr, arith}
use Rattle.std.specs.Option.{option_map}
use Rattle.std.specs.Str.{bytes_eq}
use Rattle.std.specs.Cmp.Lexicographic.{bytes_decides}
use Rattle.std.proofs.lemmas.Bool.{cases_Bool}
use Rattle.std.proofs.lemmas.Option.{same_Some}
use Rattle.cs_base.specs.declared.tokens.Kind.{Kind}
use Rattle.cs_base.specs.Token.{Token}
use Rattle.analysis.specs.Below.scope_bind.declared.bound.Name.{Name}
use Rattle.analysis.specs.Below.scope_bind.Names.{entity_at, declares_at, kind_at, linkage_at}
use Rattle.analysis.specs.Analysis.{UnitAnalysis}
use Rattle.analysis.specs.Below.c99_tree.Tree.{Node}
use Rattle.analysis.specs.Below.scope_bind.Bound.{Bound}
use Rattle.analysis.specs.Below.source_files.Files.{Table, absent_at}
use Rattle.analysis.specs.Below.unit_steps.Texts.{UnitTextValue}
use Rattle.cs_base.specs.declared.positions.Pos.{Pos}
use Rattle.trim_plan.specs.declared.left.Left.{Left}
use Rattle.trim_plan.specs.Children.{IsPrunedBy}
use Rattle.trim_plan.specs.Left.{is_gone, place, pruned}
use Rattle.trim_plan.specs.Places.{mark_at, IsLeftOf, IsLeftNameAt, IsSameLeft, IsAlike, IsCompared, AreAbsent}
use Rattle.trim_plan.specs.Trimmed.{plain, IsLeftEntity, IsLeftName, WasAbsent}
use Rattle.trim_plan.proofs.PlaceLemmas.{place-at}
use Rattle.trim_rules.proofs.NumberLemmas.{less-or-not}

pub tok-left : (gone : ℕ → Bool) (count : ℕ) (l : Left) (new : List Token) (k at : ℕ) (o : Option (Kind × List ℕ)) → IsLeftOf gone count l
    → slice_get l.places.items k ≡ Some at → option_map plain (slice_get new at) ≡ o → option_map plain (slice_get new (place gone k)) ≡ o
tok-left gone count l new k at o is there same =
    let own : at ≡ place gone k = place-at gone count l k at is there in
    subst (λ (n : ℕ). option_map plain (slice_get new n) ≡ o) own same

pub entity-left : (gone : ℕ → Bool) (count : ℕ) (l : Left) (old new : List Name) (e f : ℕ) → IsLeftOf gone count l → mark_at l.gone.items e ≡ false
    → slice_get l.places.items e ≡ Some f → kind_at new f ≡ kind_at old e → linkage_at new f ≡ linkage_at old e
    → (f ≡ place gone e) × IsLeftEntity gone old new e
entity-left gone count l old new e f is marked there kind linkage =
    let own : f ≡ place gone e = place-at gone count l e f is there in (
      own,
      record {
        left = sym (is.marks.each e) ∙ marked;
        kind = subst (λ (n : ℕ). kind_at new n ≡ kind_at old e) own kind;
        linkage = subst (λ (n : ℕ). linkage_at new n ≡ linkage_at old e) own linkage;
      },
    )

pub name-none : (gone : ℕ → Bool) (old new : List Name) (k at : ℕ) → declares_at new at ≡ declares_at old k → entity_at old k ≡ None → entity_at new at ≡ None
    → IsLeftNameAt gone old new k at
name-none gone old new k at declares had has = record {
  entity = has ∙ sym (ap (option_map (place gone)) had);
  declares = declares;
  own = λ e is. absurd (cc);
}

pub name-some : (gone : ℕ → Bool) (old new : List Name) (k at e : ℕ) → declares_at new at ≡ declares_at old k → entity_at old k ≡ Some e
    → (entity_at new at ≡ Some (place gone e)) × IsLeftEntity gone old new e → IsLeftNameAt gone old new k at
name-some gone old new k at e declares had own = record {
  entity = own.0 ∙ sym (ap (option_map (place gone)) had);
  declares = declares;
  own = λ g is.
      let same : e ≡ g = same_Some e g (sym had ∙ is) in
      subst (IsLeftEntity gone old new) same own.1;
}

pub name-left : (gone : ℕ → Bool) (count : ℕ) (l : Left) (old new : List Name) (k at : ℕ) → IsLeftOf gone count l → slice_get l.places.items k ≡ Some at
    → IsLeftNameAt gone old new k at → IsLeftName gone old new k
name-left gone count l old new k at is there h =
    let own : at ≡ place gone k = place-at gone count l k at is there in
    record {
      entity = subst (λ (n : ℕ). entity_at new n ≡ option_map (place gone) (entity_at old k)) own h.entity;
      declares = subst (λ (n : ℕ). declares_at new n ≡ declares_at old k) own h.declares;
      own = h.own;
    }

-- ---- one token

pub alike-gone : (gone : ℕ → Bool) (count : ℕ) (l : Left) (u v : UnitAnalysis) (k : ℕ) → IsLeftOf gone count l → mark_at l.gone.items k ≡ true → IsAlike gone u v k
alike-gone gone count l u v k is marked = λ differs. clash (gone k) (sym (is.marks.each k) ∙ marked) differs
  where
    clash : (b : Bool) → b ≡ true → b ≡ false → IsSameLeft gone u v k
    clash true x y = absurd (cc)
    clash false x y = absurd (cc)

pub alike-left : (gone : ℕ → Bool) (u v : UnitAnalysis) (k : ℕ) (had has : UnitTextValue) (old new : List Token) (names others : Bound) → had ≡ u.text → has ≡ v.text
    → old ≡ had.toks → new ≡ has.toks → names ≡ u.bound → others ≡ v.bound
    → option_map plain (slice_get new (place gone k)) ≡ option_map plain (slice_get old k) → IsLeftName gone names.names others.names k → IsAlike gone u v k
alike-left gone u v k had has old new names others had_is has_is old_is new_is names_is others_is tok name = λ left. record {
  tok =
      let own : old ≡ u.text.toks = old_is ∙ ap (λ (t : UnitTextValue). t.toks) had_is in
      let other : new ≡ v.text.toks = new_is ∙ ap (λ (t : UnitTextValue). t.toks) has_is in
      sym (ap (λ (ts : List Token). option_map plain (slice_get ts (place gone k))) other) ∙ tok ∙ ap (λ (ts : List Token). option_map plain (slice_get ts k)) own;
  name =
      let here : IsLeftName gone u.bound.names others.names k = subst (λ (b : Bound). IsLeftName gone b.names others.names k) names_is name in
      subst (λ (b : Bound). IsLeftName gone u.bound.names b.names k) others_is here;
}

-- ---- one unit

pub unit-compared : (lines : List Pos) (u v : UnitAnalysis) (text other : UnitTextValue) (toks others : List Token) (count : ℕ) (l : Left) (old new : Node)
    → text ≡ u.text → other ≡ v.text → toks ≡ text.toks → others ≡ other.toks → count ≡ length toks → IsLeftOf (is_gone lines text) count l
    → slice_get l.places.items count ≡ Some (length others) → ((k : ℕ) → k < count → IsLeftOf (is_gone lines u.text) count l → IsAlike (is_gone lines u.text) u v k)
    → old ≡ u.tree → new ≡ v.tree → IsPrunedBy l old new → IsCompared (is_gone lines u.text) u v
unit-compared lines u v text other toks others count l old new text_is other_is toks_is others_is counted left many alike old_is new_is pruned_is =
    let gone = is_gone lines u.text in
    let is : IsLeftOf gone count l = subst (λ (t : UnitTextValue). IsLeftOf (is_gone lines t) count l) text_is left in
    let own : toks ≡ u.text.toks = toks_is ∙ ap (λ (t : UnitTextValue). t.toks) text_is in
    let their : others ≡ v.text.toks = others_is ∙ ap (λ (t : UnitTextValue). t.toks) other_is in
    let all : count ≡ length u.text.toks = counted ∙ ap (λ (ts : List Token). length ts) own in
    record {
      many =
          sym (ap (λ (ts : List Token). length ts) their) ∙ place-at gone count l count (length others) is many ∙ ap (place gone) all;
      each = λ k below. alike k (omega (arith, below, all)) is;
      tree =
          sym new_is ∙ pruned_is gone count is ∙ ap (pruned gone) old_is;
    }

-- ---- what was asked for

pub absent-more : (table : Table) (old new : List ℕ → Bool) (path : List ℕ) (number : ℕ) → AreAbsent table old → absent_at table number ≡ Some path
    → ((x : List ℕ) → new x ≡ cond (bytes_eq path x) true (old x)) → AreAbsent table new
absent-more table old new path number are at more = λ x has. elim (cases_Bool (bytes_eq path x)) [
  | inl same ↦ (number, at ∙ ap (λ (p : List ℕ). Some p) ((bytes_decides path x).0 same))
  | inr other ↦ are x (sym (more x ∙ ap (λ (b : Bool). cond b true (old x)) other) ∙ has)
]

pub absent-none : (table : Table) (has : List ℕ → Bool) → ((path : List ℕ) → has path ≡ false) → AreAbsent table has
absent-none table has none path is = clash (has path) (none path) is
  where
    clash : (b : Bool) → b ≡ false → b ≡ true → WasAbsent table path
    clash true x y = absurd (cc)
    clash false x y = absurd (cc)

pub known-one : (has : List ℕ → Bool) (b : Bool) (path : List ℕ) (o : Option (List ℕ)) (x : List ℕ) → o ≡ Some path → o ≡ Some x → b ≡ has path → b ≡ true
    → has x ≡ true
known-one has b path o x own at told passed =
    let same : path ≡ x = same_Some path x (sym own ∙ at) in
    subst (λ (p : List ℕ). has p ≡ true) same (sym told ∙ passed)

pub known-none : (has : List ℕ → Bool) (o : Option (List ℕ)) (x : List ℕ) → o ≡ None → o ≡ Some x → has x ≡ true
known-none has None x none at = absurd (cc)
known-none has (Some y) x none at = absurd (cc)

-- what is so below a number and at it is so below the next
pub below-next : (P : ℕ → Type 0) (k j : ℕ) → j < k + 1 → ((i : ℕ) → i < k → P i) → P k → P j
below-next P k j below before here = elim (less-or-not j k) [
  | inl less ↦ before j less.1
  | inr more ↦
      let same : k ≡ j = omega (arith, more.1, below) in
      subst P same here
]
