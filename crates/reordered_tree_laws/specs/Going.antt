-- Lists that go along in a new order, where what is known in front of them names no token of theirs (ISO/IEC 9899:1999, 6.2.1).
use Rattle.std.specs.Prelude.{ℕ, ◌+◌, ◌≤◌, ◌≡◌, Bool, true, false, ◌&&◌, not, nat_lt, List, length, None}
use Rattle.std.specs.List.{All, list_all}
use Rattle.cs_base.specs.Token.{Token}
use Rattle.c99_tree.specs.Tree.{Forest, none, token, node}
use Rattle.c99_tree.specs.declared.production.Label.{Label}
use Rattle.c_types.specs.declared.entity.EntityKind.TheVariants.{Member}
use Rattle.c_types.specs.declared.entity.Linkage.TheVariants.{Absent}
use Rattle.name_chains.specs.Entering.{is_member}
use Rattle.name_chains.specs.Frames.{State}
use Rattle.scope_bind.specs.Named.{Declaration, Occurrence}
use Rattle.scope_bind.specs.Walk.{walked}
use Rattle.tree_laws.specs.TreesOfTexts.{token_count, AreFrom, have_forms}
use Rattle.list_cuts.specs.Cuts.{done, AreOf}
use Rattle.reordered_tree_laws.specs.Reordered.{is_among, permuted, numbered}
use Rattle.reordered_tree_laws.specs.Cuts.{cut_then}
use Rattle.reordered_tree_laws.specs.Premises.{is_bracketed, is_fit, lists_pass, tags_in, is_item, are_apart}
use Rattle.reordered_tree_laws.specs.Moving.{AreMovedTo, StatesGo}
use Rattle.reordered_tree_laws.specs.Owned.{IsOwnState}

-- the token is one from this place on, and not the first one of the unit
abbrev pub from_on : ℕ → ℕ → Bool
from_on lo k = nat_lt 0 k && not (nat_lt k lo)

-- what is known names no token from this place on
abbrev pub IsLow : ℕ → State → Type 0
IsLow lo s = IsOwnState (from_on lo) s

-- a member has that kind, and no linkage
abbrev pub IsToldMember : Declaration → Type 0
IsToldMember d = is_member d.space ≡ true → (d.kind ≡ Member) × (d.linkage ≡ Absent)

-- What is known at two places in two texts names no token from there on, and members are told as such.
pub record IsKnown (lo there : ℕ) (s t : State) : Type 0 where
  pub low : IsLow lo s
  pub over : IsLow there t
  pub members : All IsToldMember s.facts.declared
  pub others : All IsToldMember t.facts.declared

-- nothing is at fault, and nothing is declared that is barred
pub record IsFineEnd (barred : ℕ → Bool) (s : State) : Type 0 where
  pub clean : s.facts.fault ≡ None
  pub fresh : All (λ (o : Occurrence). (o.declares && barred o.index) ≡ false) s.facts.occurrences

-- The children of the parentheses of a list, or of a node around lists: each item has its form and asks for no other one, and no tag
-- or enumerator in it may be declared, since it is barred. Perhaps these stand in an item themselves.
pub record AreFineLists (toks : List Token) (lists barred : ℕ → Bool) (listed inside : Bool) (l : Label) (k : ℕ) (f : Forest) : Type 0 where
  pub items : lists_pass lists (list_all is_item) listed f ≡ true
  pub apart : lists_pass lists (are_apart toks) listed f ≡ true
  pub tags : list_all barred (tags_in lists listed inside l k f) ≡ true

module _ (m : ℕ → ℕ) (old new : List Token) (order : List ℕ) (lists barred : ℕ → Bool) where
  -- A list in its parentheses goes along: from states that go together at its `(`, where nothing is at fault in it, what is
  -- known behind its `)` in the new order goes together with what is known there in the old one.
  abbrev pub ListGoes : Label → Forest → Type 0
  ListGoes l under =
      (keeps inside : Bool) (lo there : ℕ) (s t : State) → 1 ≤ lo → s.frame.label ≡ l → s.frame.nth ≡ 0 → AreFrom lo under
      → AreMovedTo m there (permuted order lists true under) → have_forms under ≡ true → is_fit lists l false 0 s.frame.scope keeps under ≡ true
      → is_bracketed under ≡ true → AreOf (length order) (cut_then lists true under done) → AreFineLists old lists barred true inside l 0 under
      → IsKnown lo there s t → IsFineEnd barred (walked old under s) → StatesGo m old new false keeps lo there s t
      → StatesGo m old new false false (lo + token_count under) (there + token_count under) (walked old under s)
      (walked new (numbered there (permuted order lists true under)) t)

  -- so does each list below some children that stands in no other one
  abbrev pub ListsGo : Forest → Type 0
  ListsGo none = Unit {0}
  ListsGo (token i rest) = ListsGo rest
  ListsGo (node l first under rest) =
      (is_among lists l under ≡ true → ListGoes l under) × (is_among lists l under ≡ false → ListsGo under) × ListsGo rest
