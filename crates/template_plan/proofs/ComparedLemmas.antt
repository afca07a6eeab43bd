-- What is compared of two units and their files.
use Rattle.std.proofs.Common.{◌≡◌, ℕ, ◌+◌, ◌<◌, List, length, Some, slice_get, ap, subst, ◌∙◌, inl, inr, arith}
use Rattle.std.specs.Option.{option_map}
use Rattle.std.proofs.lemmas.Bool.{cases_lt}
use Rattle.cs_base.specs.Token.{Token}
use Rattle.analysis.specs.Analysis.{UnitAnalysis}
use Rattle.analysis.specs.Below.scope_bind.Bound.{Bound}
use Rattle.analysis.specs.Below.scope_bind.Names.{entity_at, declares_at, kind_at, linkage_at}
use Rattle.template_meaning.specs.Below.reordered.Reordered.{plain}
use Rattle.analysis.specs.Below.c99_tree.Tree.{Node}
use Rattle.template_meaning.specs.Compared.{AreNamed, ArePlaces, AreWithin, IsAlikeAt, IsComparedUnit, IsPlaceOf}
use Rattle.template_meaning.specs.Matched.{EachHas, IsTurnedTree}

pub below-next : (P : ℕ → Type 0) (k j : ℕ) → j < k + 1 → ((i : ℕ) → i < k → P i) → P k → P j
below-next P k j below before here = elim (cases_lt j k) [
  | inl less ↦ before j less
  | inr more ↦
      let same : k ≡ j = omega (arith, more, below) in
      subst P same here
]

pub alike : (u v : UnitAnalysis) (places : List ℕ) (k at : ℕ) (toks others : List Token) (bound other : Bound) → toks ≡ u.text.toks → others ≡ v.text.toks
    → bound ≡ u.bound → other ≡ v.bound → option_map plain (slice_get others at) ≡ option_map plain (slice_get toks k)
    → IsPlaceOf places (entity_at bound.names k) (entity_at other.names at) → declares_at other.names at ≡ declares_at bound.names k
    → kind_at other.names at ≡ kind_at bound.names k → linkage_at other.names at ≡ linkage_at bound.names k → IsAlikeAt u v places k at
alike u v places k at toks others bound other toks_are others_are bound_is other_is tok entity declares kind linkage = record {
  tok = rw (toks_are, others_are) at tok;
  entity = rw (bound_is, other_is) at entity;
  declares = rw (bound_is, other_is) at declares;
  kind = rw (bound_is, other_is) at kind;
  linkage = rw (bound_is, other_is) at linkage;
}

pub named : (u v : UnitAnalysis) (toks others : List Token) (bound other : Bound) → toks ≡ u.text.toks → others ≡ v.text.toks → bound ≡ u.bound → other ≡ v.bound
    → length others ≡ length toks → AreWithin (length toks) bound.names → AreWithin (length others) other.names → AreNamed u v
named u v toks others bound other toks_are others_are bound_is other_is many names rest = record {
  many = rw (toks_are, others_are) at many;
  names = rw (toks_are, bound_is) at names;
  others = rw (others_are, other_is) at rest;
}

pub compared : (order begins perm places : List ℕ) (u v : UnitAnalysis) (old new : Node) → old ≡ u.tree → new ≡ v.tree → IsTurnedTree order begins old new perm
    → EachHas (length order) begins old.under → ArePlaces perm places → ((k at : ℕ) → slice_get places k ≡ Some at → IsAlikeAt u v places k at) → AreNamed u v
    → IsComparedUnit order begins perm places u v
compared order begins perm places u v old new old_is new_is tree items placed each names = record {
  tree = rw (old_is, new_is) at tree;
  items = rw old_is at items;
  placed = placed;
  each = each;
  named = names;
}
