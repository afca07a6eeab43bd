-- The walk of binding, as far as the ordinary names and their ranges go.
use Rattle.std.proofs.Common.{ℕ, ◌+◌, Bool, true, false, ◌&&◌, ◌||◌, not, if◌then◌else◌, ◌==◌, ◌%◌, List, [], ◌∷◌, ◌++◌, Option, None, Some}
use Rattle.std.specs.Prelude.{find, nat_lt}
use Rattle.std.specs.Option.{option_map_or}
use Rattle.c99_grammar.specs.declared.dialects.Edition.{Edition}
use Rattle.cs_base.specs.Token.{Token}
use Rattle.c99_tree.specs.Tree.{Forest, none, token, node}
use Rattle.c99_tree.specs.declared.production.Label.{Label}
use Rattle.c99_tree.specs.declared.production.Production.{Production}
use Rattle.c99_tree.specs.declared.production.Production.TheVariants.{ExtRest, FunBody, InitDecl, Main, Params, Primary, Pdirect, Specs, Enumerator, Declarator, Param, Pdecl}
use Rattle.c99_grammar.specs.Standard.{iso}
use Rattle.c99_read.specs.State.{base_at, is_identifier}
use Rattle.scope_bind.specs.Named.{Scope}
use Rattle.c_types.specs.Trees.{is_node, is_at, last_token, name_below, has_mod, first_list}
use Rattle.c_types.specs.Declarations.{alike}
use Rattle.name_chains.specs.Entering.{scope_in}

-- a declaration of an ordinary identifier: its name, whether it is one of a typedef name, its scope, its range, and
-- whether it is one of a member, which none is
pub record Entry : Type 0 where
  pub name_at : ℕ
  pub typedef : Bool
  pub depth : ℕ
  pub from : ℕ
  pub to : ℕ
  pub member : Bool

abbrev pub entry : ℕ → Bool → ℕ → ℕ → ℕ → Entry
entry i t depth from to = record { name_at = i; typedef = t; depth = depth; from = from; to = to; member = false }

-- What is known inside a node: the declarations, the latest first, the label of the node and how many of its children
-- were read, its scope, whether its specifiers have the word `typedef`, and the list that a body would begin with.
pub record Outline : Type 0 where
  pub entries : List Entry
  pub label : Label
  pub nth : ℕ
  pub scope : Scope
  pub typedef : Bool
  pub kept : Option ℕ

-- one more declaration in the scope
abbrev pub added : Outline → ℕ → Bool → ℕ → List Entry → List Entry
added o i t last es = entry i t o.scope.depth (last + 1) o.scope.to ∷ es

abbrev pub is_listing : Production → ℕ → ℕ → Bool
is_listing Params a k = (a == 1) && (k % 2 == 0)
is_listing _ a k = false

abbrev pub token_entries : ℕ → Outline → List Entry
token_entries i o =
    if is_listing o.label.production o.label.alternative o.nth then added o i false i o.entries else o.entries

-- a token is read
abbrev pub stepped : ℕ → Outline → Outline
stepped i o = record o { entries = token_entries i o; nth = o.nth + 1 }

-- the declarations of a list, once more with another range
abbrev pub copies : ℕ → ℕ → ℕ → ℕ → List Entry → List Entry
copies list depth from to [] = []
copies list depth from to (e ∷ es) =
    if (e.to == list) && ((e.depth == depth) && not e.member) then (record e { from = from; to = to } ∷ copies list depth from to es) else copies list depth from to es

abbrev pub kept_entries : Option ℕ → ℕ → ℕ → ℕ → List Entry → List Entry
kept_entries None depth from to es = es
kept_entries (Some list) depth from to es = copies list depth from to es ++ es

-- of what is known around a node: the list that was kept, the depth of the scope, and the declarations
abbrev pub entries_in : Production → ℕ → Forest → Option ℕ → ℕ → List Entry → List Entry
entries_in FunBody first under kept depth es = kept_entries kept (depth + 1) first (last_token under 0) es
entries_in _ first under kept depth es = es

-- a node is entered
abbrev pub begun : Label → ℕ → Forest → Outline → Outline
begun l first under o = record {
  entries = entries_in l.production first under o.kept o.scope.depth o.entries;
  label = l;
  nth = 0;
  scope = scope_in l.production l under o.scope;
  typedef = o.typedef;
  kept = o.kept;
}

abbrev pub named_entries : Outline → Option ℕ → Forest → List Entry → List Entry
named_entries o None under es = es
named_entries o (Some i) under es = added o i o.typedef (last_token under i) es

abbrev pub in_declaration : Production → Outline → Label → Forest → List Entry → List Entry
in_declaration ExtRest o l under es = named_entries o (name_below l under) under es
in_declaration InitDecl o l under es = named_entries o (name_below l under) under es
in_declaration _ o l under es = es

abbrev pub in_parameter : Production → Outline → Label → Forest → List Entry → List Entry
in_parameter Param o l under es = named_entries o (name_below l under) under es
in_parameter _ o l under es = es

abbrev pub entries_after : Production → ℕ → Outline → Label → Forest → List Entry → List Entry
entries_after Declarator first o l under es = in_declaration o.label.production o l under es
entries_after Pdecl first o l under es = in_parameter o.label.production o l under es
entries_after Enumerator first o l under es = added o first false (last_token under first) es
entries_after _ first o l under es = es

-- a node is left
abbrev pub ended : Label → ℕ → Forest → Outline → Outline → Outline
ended l first under o o' = record o {
  entries = entries_after l.production first o l under o'.entries;
  nth = o.nth + 1;
  typedef = if is_node l Specs then has_mod 1 under else o.typedef;
  kept = if is_node l Declarator then first_list under else o.kept;
}

-- the children, one after another
abbrev pub outlined : Forest → Outline → Outline
outlined none o = o
outlined (token i rest) o = outlined rest (stepped i o)
outlined (node l first under rest) o = outlined rest (ended l first under o (outlined under (begun l first under o)))

-- ---- What is read as it is bound

abbrev pub is_open : ℕ → Entry → Bool
is_open k e = not (nat_lt k e.from) && nat_lt k e.to

module _ (std : Edition) where
  module _ (toks : List Token) where
    abbrev pub typedef_among : ℕ → List Entry → Bool
    typedef_among i es = option_map_or (λ e. e.typedef) (find (λ e. alike toks i e.name_at && is_open i e) es) false

    abbrev pub token_agrees : Production → ℕ → ℕ → ℕ → List Entry → Bool
    token_agrees Main a k i es = if (a == 4) && (k == 0) then typedef_among i es else true
    token_agrees Primary a k i es = if a == 1 then not (typedef_among i es) else true
    token_agrees Params a k i es = if (a == 1) && (k % 2 == 0) then not (typedef_among i es) else true
    token_agrees _ a k i es = true

    abbrev pub node_agrees : Label → ℕ → List Entry → Bool
    node_agrees l first es = if is_at l Pdirect 2 then not (is_identifier (base_at (iso std) toks (first + 1))) || not (typedef_among (first + 1) es) else true

    abbrev pub all_agree : Forest → Outline → Bool
    all_agree none o = true
    all_agree (token i rest) o =
        token_agrees o.label.production o.label.alternative o.nth i o.entries && all_agree rest (stepped i o)
    all_agree (node l first under rest) o =
        node_agrees l first o.entries &&
        (all_agree under (begun l first under o) && all_agree rest (ended l first under o (outlined under (begun l first under o))))
