-- Declarations that stand beside a part of a unit: known around it, and not asked for in it (ISO/IEC 9899:1999, 6.2.1).
use Rattle.std.specs.Prelude.{ℕ, ◌+◌, ◌≡◌, ◌==◌, Bool, true, false, ◌&&◌, not, if◌then◌else◌, ◌%◌, List, ◌++◌, filter}
use Rattle.std.specs.List.{All, list_any}
use Rattle.std.specs.Option.{option_map_or}
use Rattle.cs_base.specs.Token.{Token}
use Rattle.c99_tree.specs.Tree.{Forest, none, token, node}
use Rattle.c99_tree.specs.declared.production.Label.{Label}
use Rattle.c99_tree.specs.declared.production.Production.{Production}
use Rattle.c99_tree.specs.declared.production.Production.TheVariants.{ExtRest, FunBody, InitDecl, Main, Enumerator, Declarator, Params, Param, Pdecl, Primary, SuRest, EnRest}
use Rattle.c_types.specs.declared.declarations.Space.TheVariants.{Ordinary as ordinary, Tags as tags, Members as members, Inner as inner, Unnamed as unnamed, Labels as labels}
use Rattle.c_types.specs.Types.{CType}
use Rattle.c_types.specs.Tags.{number_in}
use Rattle.c_types.specs.Trees.{name_below, last_token}
use Rattle.c_types.specs.Declarations.{Facts, is_in, is_named, is_live}
use Rattle.name_chains.specs.Frames.{State}
use Rattle.name_chains.specs.Entering.{scope_in}
use Rattle.scope_bind.specs.Named.{Space, Declaration, Occurrence, Frame, Scope}
use Rattle.scope_bind.specs.Walk.{walked}

-- ---- What stands beside

module _ (foreign : ℕ → Bool) where
  -- a name in the name space stands beside, where these tokens do: an ordinary identifier and a tag by itself, and a member
  -- by its structure or union; labels never do
  abbrev pub beside_in : Space → ℕ → Bool
  beside_in ordinary i = foreign i
  beside_in tags i = foreign i
  beside_in (members n) i = foreign n
  beside_in (inner n) i = foreign n
  beside_in (unnamed n) i = foreign n
  beside_in (labels n) i = false

  abbrev pub is_beside : Declaration → Bool
  is_beside d = beside_in d.space d.name_at

  -- of some declarations those that stand beside, and the others
  abbrev pub beside_of : List Declaration → List Declaration
  beside_of ds = filter is_beside ds

  abbrev pub seen_of : List Declaration → List Declaration
  seen_of ds = filter (λ d. not (is_beside d)) ds

  -- ---- What a part asks for

  module _ (toks : List Token) (ds : List Declaration) where
    -- an identifier that is used does not denote one of these declarations
    abbrev pub is_free_use : ℕ → Bool
    is_free_use i = not (list_any (λ d. is_named toks ordinary i d && is_live i d) ds)

    -- a tag that is read does not
    abbrev pub is_free_tag : ℕ → Bool
    is_free_tag i = not (list_any (λ d. is_named toks tags i d && is_live i d) ds)

    -- one that is declared in the scope, to the last token of its declarator, is none of them, and declares none of them anew
    abbrev pub is_free_name : Scope → ℕ → ℕ → Bool
    is_free_name scope i last =
        not (foreign i) && not (list_any (λ d. is_named toks ordinary i d && (is_live last d && (d.depth == scope.depth))) ds)

    -- a token of a node of the production and the alternative: identifiers that are used in expressions and as type names,
    -- tags, and those in an identifier list
    abbrev pub is_free_token : Production → ℕ → ℕ → Scope → ℕ → Bool
    is_free_token Primary a k scope i = if a == 1 then is_free_use i else true
    is_free_token Main a k scope i = if (a == 4) && (k == 0) then is_free_use i else true
    is_free_token SuRest a k scope i = if (a == 1) && (k == 0) then is_free_tag i else true
    is_free_token EnRest a k scope i = if (a == 1) && (k == 0) then is_free_tag i else true
    is_free_token Params a k scope i = if (a == 1) && (k % 2 == 0) then is_free_name scope i i else true
    is_free_token _ a k scope i = true

    -- a child of a node of the production, as far as it declares an ordinary identifier: no object or function with
    -- linkage, and no body
    abbrev pub is_free_declarator : Production → Label → Forest → Bool
    is_free_declarator ExtRest l under = false
    is_free_declarator InitDecl l under = false
    is_free_declarator _ l under = option_map_or (λ i. not (foreign i)) (name_below l under) true

    abbrev pub is_free_parameter : Production → Label → Forest → Scope → Bool
    is_free_parameter Param l under scope = option_map_or (λ i. is_free_name scope i (last_token under i)) (name_below l under) true
    is_free_parameter _ l under scope = true

    abbrev pub is_free_node : Production → Production → Label → ℕ → Forest → Scope → Bool
    is_free_node Declarator p l first under scope = is_free_declarator p l under
    is_free_node Pdecl p l first under scope = is_free_parameter p l under scope
    is_free_node Enumerator p l first under scope = is_free_name scope first (last_token under first)
    is_free_node FunBody p l first under scope = false
    is_free_node _ p l first under scope = true

    -- The children of a node, in a scope, ask for none of the declarations; so many children stand before them.
    abbrev pub is_apart : Label → ℕ → Scope → Forest → Bool
    is_apart l k scope none = true
    is_apart l k scope (token i rest) =
        not (foreign i) && (is_free_token l.production l.alternative k scope i && is_apart l (k + 1) scope rest)
    is_apart l k scope (node m first under rest) =
        not (foreign first) && (is_free_node m.production l.production m first under scope
        && (is_apart m 0 (scope_in m.production m under scope) under && is_apart l (k + 1) scope rest))

  -- ---- States that differ by what stands beside

  -- the structure, union or enumeration of the type does not stand beside
  abbrev pub IsOwn : CType → Type 0
  IsOwn t = foreign (number_in t) ≡ false

  pub record IsOwnDeclaration (d : Declaration) : Type 0 where
    pub ctype : IsOwn d.ctype
    pub entity : foreign d.entity ≡ false

  pub record IsOwnFrame (f : Frame) : Type 0 where
    pub base : IsOwn f.base
    pub given : IsOwn f.given
    pub found : IsOwn f.found
    pub token : foreign f.token ≡ false
    pub owner : foreign f.owner ≡ false

  -- Two lists of declarations have the same ones but for those that stand beside, which are these and those; of none that
  -- does not, type or entity stands beside. What does not stand beside has begun in both or in neither, and so it is complete; the same is at fault; and the same identifiers have been bound behind what was bound before.
  pub record AreBeside (ds es : List Declaration) (bs cs : List Occurrence) (f g : Facts) : Type 0 where
    pub seen : seen_of g.declared ≡ seen_of f.declared
    pub first : beside_of f.declared ≡ ds
    pub second : beside_of g.declared ≡ es
    pub owned : All IsOwnDeclaration (seen_of f.declared)
    pub begun : (n : ℕ) → foreign n ≡ false → is_in g.begun n ≡ is_in f.begun n
    pub complete : (n : ℕ) → foreign n ≡ false → is_in g.complete n ≡ is_in f.complete n
    pub fault : g.fault ≡ f.fault
    pub own : List Occurrence
    pub bound : f.occurrences ≡ own ++ bs
    pub again : g.occurrences ≡ own ++ cs

  -- the same of states in one node
  pub record StandBeside (ds es : List Declaration) (bs cs : List Occurrence) (s t : State) : Type 0 where
    pub facts : AreBeside ds es bs cs s.facts t.facts
    pub frame : t.frame ≡ s.frame
    pub owned : IsOwnFrame s.frame

-- A part of a unit binds alike whatever stands beside it that it does not ask for.
abbrev pub PartsBindAlike : Type 0
PartsBindAlike =
    (toks : List Token) (foreign : ℕ → Bool) (ds es : List Declaration) (bs cs : List Occurrence) (f : Forest) (s t : State)
    → foreign 0 ≡ false → StandBeside foreign ds es bs cs s t
    → is_apart foreign toks ds s.frame.label s.frame.nth s.frame.scope f ≡ true
    → is_apart foreign toks es s.frame.label s.frame.nth s.frame.scope f ≡ true
    → StandBeside foreign ds es bs cs (walked toks f s) (walked toks f t)
