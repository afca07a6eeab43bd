-- The items of one list: each adds what it adds alone, whatever the others declare, and what they declare stands beside it
-- (this project's, over ISO/IEC 9899:1999, 6.2.1, 6.5.2.2 and 6.7.5.3).
use Rattle.std.specs.Prelude.{ℕ, ◌+◌, ◌≤◌, ◌<◌, ◌≡◌, ◌⊎◌, Bool, true, false, ◌&&◌, ◌||◌, not, nat_lt, List, [], ◌∷◌, ◌++◌, None, Some}
use Rattle.std.specs.List.{All, list_all}
use Rattle.cs_base.specs.Token.{Token}
use Rattle.c99_tree.specs.Tree.{Forest, none, token, node, Node, node_of}
use Rattle.c99_tree.specs.declared.production.Label.{Label}
use Rattle.c99_tree.specs.declared.production.Production.TheVariants.{SuRest, EnRest}
use Rattle.c_types.specs.Trees.{is_node}
use Rattle.c_types.specs.Declarations.{Facts, is_in, is_space}
use Rattle.c_types.specs.Lists.{bare_at, bare_in}
use Rattle.name_chains.specs.Frames.{State, state}
use Rattle.scope_bind.specs.Named.{Declaration, Occurrence, Frame, Scope, ordinary}
use Rattle.scope_bind.specs.Walk.{walked}
use Rattle.tree_laws.specs.TreesOfTexts.{token_count, AreFrom, have_forms}
use Rattle.reordered_tree_laws.specs.Beside.{is_beside, is_free_use, is_apart}
use Rattle.reordered_tree_laws.specs.Adding.{IsNamedIn}
use Rattle.reordered_tree_laws.specs.Ranges.{has_range}
use Rattle.reordered_tree_laws.specs.Reordered.{nodes_in}
use Rattle.reordered_tree_laws.specs.Premises.{is_items, is_spaced, declared_name, is_item, is_unasked_in, are_apart}
use Rattle.reordered_tree_laws.specs.Lasting.{tags_pass, IsLast}
use Rattle.reordered_tree_laws.specs.Owned.{IsOwnState}
use Rattle.reordered_tree_laws.specs.Spread.{tokens_pass}

-- ---- What the items in front declare

-- a declaration with a range has ended behind these tokens, or is an ordinary identifier with such a name in the scope of the list
abbrev pub IsAside : (ℕ → Bool) → ℕ → ℕ → Declaration → Type 0
IsAside named depth behind d = has_range d.space ≡ true → (d.to ≤ behind) ⊎ IsLast named depth d

-- An item asks for none of the declarations of items in front of it, whose names it does not use; and no name in it that is a
-- parameter only since it is no typedef name is one of them (6.7.5.3 paragraph 11).
abbrev pub SiblingsAreApart : Type 0
SiblingsAreApart =
    (toks : List Token) (foreign named : ℕ → Bool) (n : Node) (at : ℕ) (scope : Scope) (ds : List Declaration) → AreFrom at n.under
    → is_item n ≡ true → tokens_pass (λ i. not (foreign i)) n.under ≡ true
    → ((j : ℕ) → named j ≡ true → is_unasked_in toks n j ≡ true) → All (IsAside named scope.depth at) ds
    → (is_apart foreign toks ds n.label 0 scope n.under ≡ true)
    × (list_all (is_free_use foreign toks ds) (bare_at n.label n.under ++ bare_in n.under) ≡ true)

-- ---- What an item adds

-- the frame around some children, once they are read that leave nothing in it
abbrev pub frame_behind : Forest → Frame → Frame
frame_behind none fr = fr
frame_behind (token i rest) fr = frame_behind rest (record fr { nth = fr.nth + 1; token = i })
frame_behind (node m first under rest) fr = frame_behind rest (record fr { nth = fr.nth + 1 })

-- what is known behind a child that is read from what is known in front of all of them
abbrev pub read_alone : List Token → Facts → Frame → Label → ℕ → Forest → Facts
read_alone toks f fr m first under = (walked toks (node m first under none) (state f fr)).facts

pub record Gain : Type 0 where
  pub declared : List Declaration
  pub occurrences : List Occurrence

-- what some items add, one after another
abbrev pub gained : List Gain → List Declaration
gained [] = []
gained (a ∷ gs) = gained gs ++ a.declared

abbrev pub noted : List Gain → List Occurrence
noted [] = []
noted (a ∷ gs) = noted gs ++ a.occurrences

-- the token is one from this number on and before another
abbrev pub is_between : ℕ → ℕ → ℕ → Bool
is_between lo hi k = not (nat_lt k lo) && nat_lt k hi

-- it stands in an item
abbrev pub in_items : ℕ → Forest → ℕ → Bool
in_items lo none k = false
in_items lo (token i rest) k = in_items (lo + 1) rest k
in_items lo (node m first under rest) k = is_between lo (lo + token_count under) k || in_items (lo + token_count under) rest k

-- the name that an item declares in the scope of its list, with which it ends
pub record IsItsName (n : Node) (scope : Scope) (d : Declaration) : Type 0 where
  pub space : is_space d.space ordinary ≡ true
  pub name : declared_name n ≡ Some d.name_at
  pub depth : d.depth ≡ scope.depth
  pub to : d.to ≡ scope.to

-- its range ends among these tokens, or at the end, in a scope inside that of the list, or it is the name of the item
abbrev pub HasEnded : Node → Scope → ℕ → ℕ → Declaration → Type 0
HasEnded n scope lo hi d =
    has_range d.space ≡ true → ((lo ≤ d.to) × (d.to ≤ hi) × (scope.depth + 1 ≤ d.depth)) ⊎ IsItsName n scope d

-- What an item with these tokens adds where it is read alone: names of its own tokens, members of its own structures, and nothing
-- with a range that lasts but for its name. `g` is known behind the whole list: what has begun and is complete of the
-- item's own is so there.
pub record ItemGains (toks : List Token) (f g : Facts) (fr : Frame) (lo hi : ℕ) (n : Node) (a : Gain) : Type 0 where
  pub declared : (read_alone toks f fr n.label n.first n.under).declared ≡ a.declared ++ f.declared
  pub noted : (read_alone toks f fr n.label n.first n.under).occurrences ≡ a.occurrences ++ f.occurrences
  pub fault : (read_alone toks f fr n.label n.first n.under).fault ≡ None
  pub jumps : (read_alone toks f fr n.label n.first n.under).jumps ≡ f.jumps
  pub beside : All (λ d. is_beside (is_between lo hi) d ≡ true) a.declared
  pub names : All (IsNamedIn lo hi) a.declared
  pub indices : All (λ (o : Occurrence). (lo ≤ o.index) × (o.index < hi)) a.occurrences
  pub ends : All (HasEnded n fr.scope lo hi) a.declared
  pub begun : (k : ℕ) → is_between lo hi k ≡ false → is_in (read_alone toks f fr n.label n.first n.under).begun k ≡ is_in f.begun k
  pub complete : (k : ℕ) → is_between lo hi k ≡ false → is_in (read_alone toks f fr n.label n.first n.under).complete k ≡ is_in f.complete k
  pub begun_behind : (k : ℕ) → is_between lo hi k ≡ true → is_in g.begun k ≡ is_in (read_alone toks f fr n.label n.first n.under).begun k
  pub complete_behind : (k : ℕ) → is_between lo hi k ≡ true → is_in g.complete k ≡ is_in (read_alone toks f fr n.label n.first n.under).complete k

-- so do some items, one after another
abbrev pub ItemsGain : List Token → Facts → Facts → Frame → ℕ → Forest → List Gain → Type 0
ItemsGain toks f g fr lo none [] = Unit {0}
ItemsGain toks f g fr lo none (a ∷ gs) = ⊥
ItemsGain toks f g fr lo (token i rest) gs = ItemsGain toks f g (record fr { nth = fr.nth + 1; token = i }) (lo + 1) rest gs
ItemsGain toks f g fr lo (node m first under rest) [] = ⊥
ItemsGain toks f g fr lo (node m first under rest) (a ∷ gs) =
    ItemGains toks f g fr lo (lo + token_count under) (node_of m first under) a
    × ItemsGain toks f g (record fr { nth = fr.nth + 1 }) (lo + token_count under) rest gs

-- ---- One after another

-- Behind a list is known what its items add alone, and nothing else.
pub record ListGains (toks : List Token) (u : Forest) (lo : ℕ) (s : State) : Type 0 where
  pub gains : List Gain
  pub each : ItemsGain toks s.facts (walked toks u s).facts s.frame lo u gains
  pub declared : (walked toks u s).facts.declared ≡ gained gains ++ s.facts.declared
  pub noted : (walked toks u s).facts.occurrences ≡ noted gains ++ s.facts.occurrences
  pub jumps : (walked toks u s).facts.jumps ≡ s.facts.jumps
  pub fault : (walked toks u s).facts.fault ≡ None
  pub begun : (k : ℕ) → in_items lo u k ≡ false → is_in (walked toks u s).facts.begun k ≡ is_in s.facts.begun k
  pub complete : (k : ℕ) → in_items lo u k ≡ false → is_in (walked toks u s).facts.complete k ≡ is_in s.facts.complete k
  pub frame : (walked toks u s).frame ≡ frame_behind u s.frame

-- no identifier of some is declared that is barred
abbrev pub AreFresh : (ℕ → Bool) → List Occurrence → Type 0
AreFresh barred os = All (λ (o : Occurrence). (o.declares && barred o.index) ≡ false) os

-- each item by itself has no fault and declares nothing that is barred
abbrev pub AlonesClear : List Token → (ℕ → Bool) → Facts → Frame → Forest → Type 0
AlonesClear toks barred f fr none = Unit {0}
AlonesClear toks barred f fr (token i rest) = AlonesClear toks barred f (record fr { nth = fr.nth + 1; token = i }) rest
AlonesClear toks barred f fr (node m first under rest) =
    (((read_alone toks f fr m first under).fault ≡ None) × AreFresh barred (read_alone toks f fr m first under).occurrences)
    × AlonesClear toks barred f (record fr { nth = fr.nth + 1 }) rest

-- What follows the word of a structure, union or enumeration follows a token of its node: so it is with the children of a
-- node in which perhaps one has been read (6.7.2.1, 6.7.2.2).
abbrev pub tags_follow : Bool → Forest → Bool
tags_follow read none = true
tags_follow read (token i rest) = tags_follow true rest
tags_follow read (node m first under rest) =
    (read || not (is_node m SuRest || is_node m EnRest)) && (tags_follow false under && tags_follow read rest)

abbrev pub has_signs : Node → Bool
has_signs n = tags_follow false n.under

-- A list whose items have their forms and are apart, in a state in its node in which nothing is known of its tokens: those begin
-- at `lo`. Its tags are barred.
pub record IsFineList (toks : List Token) (barred : ℕ → Bool) (u : Forest) (lo : ℕ) (s : State) : Type 0 where
  pub begins : 1 ≤ lo
  pub items : is_items s.frame.label ≡ true
  pub from : AreFrom lo u
  pub forms : have_forms u ≡ true
  pub spaced : is_spaced false u ≡ true
  pub signs : list_all has_signs (nodes_in u) ≡ true
  pub each : list_all is_item (nodes_in u) ≡ true
  pub apart : are_apart toks (nodes_in u) ≡ true
  pub own : IsOwnState (λ k. not (nat_lt k lo)) s
  pub tags : tags_pass barred s.frame.label s.frame.nth u ≡ true
  pub clean : s.facts.fault ≡ None

-- A list gains what its items gain where each is clear by itself.
abbrev pub ItemsStandBeside : Type 0
ItemsStandBeside =
    (toks : List Token) (barred : ℕ → Bool) (u : Forest) (lo : ℕ) (s : State) → IsFineList toks barred u lo s
    → AlonesClear toks barred s.facts s.frame u → ListGains toks u lo s

-- Each is, where the list as a whole is.
abbrev pub WholesAreClear : Type 0
WholesAreClear =
    (toks : List Token) (barred : ℕ → Bool) (u : Forest) (lo : ℕ) (s : State) → IsFineList toks barred u lo s
    → AreFresh barred (walked toks u s).facts.occurrences → (walked toks u s).facts.fault ≡ None → AlonesClear toks barred s.facts s.frame u
