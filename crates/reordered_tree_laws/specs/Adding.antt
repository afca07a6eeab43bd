-- What a part of a unit adds to what is known: all of it stands beside, where its tokens do (ISO/IEC 9899:1999, 6.2.1).
use Rattle.std.specs.Prelude.{ℕ, ◌≡◌, Bool, true, false, ◌&&◌, ◌||◌, not, List, ◌+◌, ◌<◌, ◌≤◌, ◌++◌, is_some}
use Rattle.std.specs.List.{All}
use Rattle.std.specs.Option.{option_map_or}
use Rattle.cs_base.specs.Token.{Token}
use Rattle.c99_tree.specs.Tree.{Forest, none, token, node}
use Rattle.c99_tree.specs.declared.production.Label.{Label}
use Rattle.c99_tree.specs.declared.production.Production.{Production}
use Rattle.c99_tree.specs.declared.production.Production.TheVariants.{ExtRest, InitDecl, FunBody, SuRest, EnRest, Members, MemRest, Mdecl, Enumerators, Declarator, Param, Pdecl, Statement}
use Rattle.c_types.specs.Trees.{is_at, has_node, name_below}
use Rattle.c_types.specs.Tags.{number_in}
use Rattle.c_types.specs.Declarations.{Facts, has_linkage}
use Rattle.name_chains.specs.Entering.{is_member}
use Rattle.name_chains.specs.Frames.{State, state}
use Rattle.scope_bind.specs.Named.{Declaration, Occurrence, Frame}
use Rattle.scope_bind.specs.Walk.{walked}
use Rattle.tree_laws.specs.TreesOfTexts.{token_count, AreFrom, have_forms}
use Rattle.reordered_tree_laws.specs.Beside.{beside_of, seen_of, is_apart, IsOwnDeclaration, IsOwnFrame, AreBeside, StandBeside}

-- a structure, union or enumeration without a tag, and one with a tag
abbrev pub is_untagged : Label → Bool
is_untagged l = is_at l SuRest 2 || is_at l EnRest 2

abbrev pub is_tagged : Label → Bool
is_tagged l = is_at l SuRest 1 || is_at l EnRest 1

-- one with a tag has no list in braces
abbrev pub has_no_list : Label → Forest → Bool
has_no_list l under = not (is_tagged l && (has_node Members under || has_node Enumerators under))

-- the children of a node of the production stand among the members of a structure or union
abbrev pub within_of : Production → Bool → Bool
within_of Members within = true
within_of _ within = within

module _ (foreign : ℕ → Bool) where
  abbrev pub names_foreign : Label → Forest → Bool
  names_foreign l under = option_map_or foreign (name_below l under) true

  -- no statement stands here, whose labels belong to the function
  abbrev pub is_adding_token : Production → Bool
  is_adding_token Statement = false
  is_adding_token _ = true

  -- A child of a node of the production, perhaps among the members of a structure or union: no object or function with
  -- linkage and no body is declared, members are those of a structure or union without a tag, and names are tokens here.
  abbrev pub is_adding_declarator : Production → Bool → Label → Forest → Bool
  is_adding_declarator ExtRest within l under = false
  is_adding_declarator InitDecl within l under = false
  is_adding_declarator Mdecl within l under = within && names_foreign l under
  is_adding_declarator _ within l under = true

  abbrev pub is_adding_parameter : Production → Label → Forest → Bool
  is_adding_parameter Param l under = names_foreign l under
  is_adding_parameter _ l under = true

  abbrev pub is_adding_node : Production → Label → Bool → Label → Forest → Bool
  is_adding_node Declarator around within l under = is_adding_declarator around.production within l under
  is_adding_node Pdecl around within l under = is_adding_parameter around.production l under
  is_adding_node MemRest around within l under = within
  is_adding_node Members around within l under = is_untagged around
  is_adding_node Enumerators around within l under = is_untagged around
  is_adding_node FunBody around within l under = false
  is_adding_node _ around within l under = true

  -- the children of a node add nothing but what stands beside
  abbrev pub is_adding : Bool → Label → Forest → Bool
  is_adding within l none = true
  is_adding within l (token i rest) = foreign i && (is_adding_token l.production && is_adding within l rest)
  is_adding within l (node m first under rest) =
      foreign first && (is_adding_node m.production l within m under && (has_no_list m under
      && (is_adding (within_of m.production within) m under && is_adding within l rest)))

  -- in a node, perhaps among members: the last token stands beside, and so does the structure, union or enumeration whose
  -- list this is
  pub record IsAddingFrame (within : Bool) (f : Frame) : Type 0 where
    pub token : foreign f.token ≡ true
    pub untagged : is_untagged f.label ≡ true → foreign (number_in f.found) ≡ true
    pub owner : within ≡ true → foreign f.owner ≡ true
    pub tagged : is_tagged f.label ≡ true → f.has_body ≡ false

-- What such a part adds stands beside: what is known behind it, without a fault more, differs by that alone.
abbrev pub PartsAddBeside : Type 0
PartsAddBeside =
    (toks : List Token) (foreign : ℕ → Bool) (within : Bool) (f : Forest) (s : State) → IsAddingFrame foreign within s.frame
    → is_adding foreign within s.frame.label f ≡ true → All (IsOwnDeclaration foreign) (seen_of foreign s.facts.declared)
    → (walked toks f s).facts.fault ≡ s.facts.fault
    → AreBeside foreign (beside_of foreign s.facts.declared) (beside_of foreign (walked toks f s).facts.declared)
    s.facts.occurrences (walked toks f s).facts.occurrences s.facts (walked toks f s).facts

-- An item binds behind other items of its list as it does without them: `t` is a state in which what is known behind them
-- is known, and the item asks for nothing that they declare.
abbrev pub ItemsBindAlike : Type 0
ItemsBindAlike =
    (toks : List Token) (foreign : ℕ → Bool) (front item : Forest) (s t : State) → foreign 0 ≡ false → IsAddingFrame foreign false s.frame
    → is_adding foreign false s.frame.label front ≡ true → All (IsOwnDeclaration foreign) (seen_of foreign s.facts.declared)
    → (walked toks front s).facts.fault ≡ s.facts.fault → t.facts ≡ (walked toks front s).facts → IsOwnFrame foreign t.frame
    → is_apart foreign toks (beside_of foreign s.facts.declared) t.frame.label t.frame.nth t.frame.scope item ≡ true
    → is_apart foreign toks (beside_of foreign t.facts.declared) t.frame.label t.frame.nth t.frame.scope item ≡ true
    → StandBeside foreign (beside_of foreign s.facts.declared) (beside_of foreign t.facts.declared) s.facts.occurrences t.facts.occurrences
    (walked toks item (state s.facts t.frame)) (walked toks item t)

-- ---- What a part only adds

-- the token of a name that is no member is one of those from one on and before another, and it has no linkage
abbrev pub IsNamedIn : ℕ → ℕ → Declaration → Type 0
IsNamedIn lo hi d = is_member d.space ≡ false → ((lo ≤ d.name_at) × (d.name_at < hi)) × (has_linkage d.linkage ≡ false)

-- What is known has been added in front to what was known: names of these tokens, and identifiers that are these tokens; a
-- fault stays.
pub record IsAddedIn (lo hi : ℕ) (f g : Facts) : Type 0 where
  pub declared : List Declaration
  pub front : g.declared ≡ declared ++ f.declared
  pub names : All (IsNamedIn lo hi) declared
  pub occurrences : List Occurrence
  pub noted : g.occurrences ≡ occurrences ++ f.occurrences
  pub indices : All (λ (o : Occurrence). (lo ≤ o.index) × (o.index < hi)) occurrences
  pub jumps : g.jumps ≡ f.jumps
  pub fault : is_some f.fault ≡ true → is_some g.fault ≡ true

-- A part of a unit with no object, function, statement or body of its own only adds names of its own to what is known.
abbrev pub PartsOnlyAdd : Type 0
PartsOnlyAdd =
    (toks : List Token) (f : Forest) (within : Bool) (lo : ℕ) (s : State) → AreFrom lo f → have_forms f ≡ true
    → is_adding (λ i. true) within s.frame.label f ≡ true → IsAddedIn lo (lo + token_count f) s.facts (walked toks f s).facts
