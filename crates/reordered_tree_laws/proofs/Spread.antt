-- An item adds what its own tokens name, and asks for nothing of nothing.
use Rattle.std.proofs.Common.{ℕ, ◌+◌, ◌≡◌, Bool, true, false, ◌&&◌, not, if◌then◌else◌, ◌==◌, List, [], Option, None, Some, refl}
use Rattle.std.specs.Prelude.{◌%◌}
use Rattle.std.specs.Option.{option_map_or}
use Rattle.std.proofs.lemmas.Bool.{and_parts, and_from}
use Rattle.cs_base.specs.Token.{Token}
use Rattle.c99_tree.specs.Tree.{Forest, none, token, node}
use Rattle.c99_tree.specs.declared.production.Label.{Label}
use Rattle.c99_tree.specs.declared.production.Production.{Production}
use Rattle.c99_tree.specs.declared.production.Production.TheVariants.{ExtRest, InitDecl, FunBody, Main, Params, Primary, SuRest, EnRest, MemRest, Mdecl, Members, Enumerators, Enumerator, Declarator, Param, Pdecl}
use Rattle.c_types.specs.Trees.{holds_name, has_name, name_below, last_token}
use Rattle.name_chains.specs.Entering.{scope_in}
use Rattle.scope_bind.specs.Named.{Scope}
use Rattle.reordered_tree_laws.specs.Adding.{has_no_list, within_of, names_foreign, is_adding_token, is_adding_declarator, is_adding_parameter, is_adding_node, is_adding}
use Rattle.reordered_tree_laws.specs.Beside.{is_free_use, is_free_tag, is_free_name, is_free_token, is_free_declarator, is_free_parameter, is_free_node, is_apart}
use Rattle.reordered_tree_laws.specs.Spread.{tokens_pass, ItemsAddTheirTokens, NothingIsAskedFor}

-- the name of a declarator is one of its tokens
pub name_passes : (test : ℕ → Bool) (l : Label) (f : Forest) → tokens_pass test f ≡ true → option_map_or test (name_below l f) true ≡ true
name_passes test l none e = refl
name_passes test l (token i rest) e =
    let p = and_parts (test i) (tokens_pass test rest) e in
    by (has_name l) p.0 (name_passes test l rest p.1)
  where
    by : (c : Bool) → test i ≡ true → option_map_or test (name_below l rest) true ≡ true → option_map_or test (if c then Some i else name_below l rest) true ≡ true
    by true h k = h
    by false h k = k
name_passes test l (node m first under rest) e =
    let p = and_parts (test first) (tokens_pass test under && tokens_pass test rest) e in
    let q = and_parts (tokens_pass test under) (tokens_pass test rest) p.1 in
    by (holds_name m.production) (name_passes test m under q.0) (name_passes test l rest q.1)
  where
    by : (c : Bool) → option_map_or test (name_below m under) true ≡ true → option_map_or test (name_below l rest) true ≡ true
        → option_map_or test (if c then name_below m under else name_below l rest) true ≡ true
    by true h k = h
    by false h k = k

module _ (foreign : ℕ → Bool) where
  abbrev every : ℕ → Bool
  every i = true

  declarator_spreads : (p : Production) (within : Bool) (l : Label) (under : Forest) → is_adding_declarator every p within l under ≡ true → tokens_pass foreign under ≡ true
      → is_adding_declarator foreign p within l under ≡ true
  declarator_spreads ExtRest within l under e h = e
  declarator_spreads InitDecl within l under e h = e
  declarator_spreads Mdecl within l under e h =
      and_from within (names_foreign foreign l under) ((and_parts within (names_foreign every l under) e).0) (name_passes foreign l under h)
  declarator_spreads _ within l under e h = refl

  parameter_spreads : (p : Production) (l : Label) (under : Forest) → tokens_pass foreign under ≡ true → is_adding_parameter foreign p l under ≡ true
  parameter_spreads Param l under h = name_passes foreign l under h
  parameter_spreads _ l under h = refl

  node_spreads : (p : Production) (around : Label) (within : Bool) (l : Label) (under : Forest) → is_adding_node every p around within l under ≡ true
      → tokens_pass foreign under ≡ true → is_adding_node foreign p around within l under ≡ true
  node_spreads Declarator around within l under e h = declarator_spreads around.production within l under e h
  node_spreads Pdecl around within l under e h = parameter_spreads around.production l under h
  node_spreads MemRest around within l under e h = e
  node_spreads Members around within l under e h = e
  node_spreads Enumerators around within l under e h = e
  node_spreads FunBody around within l under e h = e
  node_spreads _ around within l under e h = refl

  token_spreads : (p : Production) → is_adding_token every p ≡ true → is_adding_token foreign p ≡ true
  token_spreads p e = e

  spreads : (within : Bool) (l : Label) (f : Forest) → is_adding every within l f ≡ true → tokens_pass foreign f ≡ true → is_adding foreign within l f ≡ true
  spreads within l none e h = refl
  spreads within l (token i rest) e h =
      let p = and_parts (is_adding_token every l.production) (is_adding every within l rest) e in
      let q = and_parts (foreign i) (tokens_pass foreign rest) h in
      and_from (foreign i) (is_adding_token foreign l.production && is_adding foreign within l rest) q.0
      (and_from (is_adding_token foreign l.production) (is_adding foreign within l rest) (token_spreads l.production p.0) (spreads within l rest p.1 q.1))
  spreads within l (node m first under rest) e h =
      let here : Bool = is_adding_node every m.production l within m under in
      let below : Bool = is_adding every (within_of m.production within) m under in
      let more : Bool = is_adding every within l rest in
      let p = and_parts here (has_no_list m under && (below && more)) e in
      let q = and_parts (has_no_list m under) (below && more) p.1 in
      let r = and_parts below more q.1 in
      let t = and_parts (foreign first) (tokens_pass foreign under && tokens_pass foreign rest) h in
      let u = and_parts (tokens_pass foreign under) (tokens_pass foreign rest) t.1 in
      let here' : Bool = is_adding_node foreign m.production l within m under in
      let below' : Bool = is_adding foreign (within_of m.production within) m under in
      let more' : Bool = is_adding foreign within l rest in
      and_from (foreign first) (here' && (has_no_list m under && (below' && more'))) t.0
      (and_from here' (has_no_list m under && (below' && more')) (node_spreads m.production l within m under p.0 u.0)
      (and_from (has_no_list m under) (below' && more') q.0
      (and_from below' more' (spreads (within_of m.production within) m under r.0 u.0) (spreads within l rest r.1 u.1))))

  -- ---- Nothing is asked for

  module _ (toks : List Token) where
    abbrev own : ℕ → Bool
    own i = not (foreign i)

    name_free : (i : ℕ) (scope : Scope) (last : ℕ) → own i ≡ true → is_free_name foreign toks [] scope i last ≡ true
    name_free i scope last h = and_from (own i) true h refl

    if_free : (c : Bool) (x : Bool) → x ≡ true → (if c then x else true) ≡ true
    if_free true x h = h
    if_free false x h = refl

    token_free : (p : Production) (a k : ℕ) (scope : Scope) (i : ℕ) → own i ≡ true → is_free_token foreign toks [] p a k scope i ≡ true
    token_free Primary a k scope i h = if_free (a == 1) (is_free_use foreign toks [] i) refl
    token_free Main a k scope i h = if_free ((a == 4) && (k == 0)) (is_free_use foreign toks [] i) refl
    token_free SuRest a k scope i h = if_free ((a == 1) && (k == 0)) (is_free_tag foreign toks [] i) refl
    token_free EnRest a k scope i h = if_free ((a == 1) && (k == 0)) (is_free_tag foreign toks [] i) refl
    token_free Params a k scope i h = if_free ((a == 1) && (k % 2 == 0)) (is_free_name foreign toks [] scope i i) (name_free i scope i h)
    token_free _ a k scope i h = refl

    declarator_free : (p : Production) (within : Bool) (l : Label) (under : Forest) → is_adding_declarator every p within l under ≡ true → tokens_pass own under ≡ true
        → is_free_declarator foreign toks [] p l under ≡ true
    declarator_free ExtRest within l under e h = e
    declarator_free InitDecl within l under e h = e
    declarator_free _ within l under e h = name_passes own l under h

    named_free : (name : Option ℕ) (under : Forest) (scope : Scope) → option_map_or own name true ≡ true
        → option_map_or (λ i. is_free_name foreign toks [] scope i (last_token under i)) name true ≡ true
    named_free None under scope h = refl
    named_free (Some i) under scope h = name_free i scope (last_token under i) h

    parameter_free : (p : Production) (l : Label) (under : Forest) (scope : Scope) → tokens_pass own under ≡ true → is_free_parameter foreign toks [] p l under scope ≡ true
    parameter_free Param l under scope h = named_free (name_below l under) under scope (name_passes own l under h)
    parameter_free _ l under scope h = refl

    node_free : (p : Production) (around : Label) (within : Bool) (l : Label) (first : ℕ) (under : Forest) (scope : Scope)
        → is_adding_node every p around within l under ≡ true → own first ≡ true → tokens_pass own under ≡ true
        → is_free_node foreign toks [] p around.production l first under scope ≡ true
    node_free Declarator around within l first under scope e w h = declarator_free around.production within l under e h
    node_free Pdecl around within l first under scope e w h = parameter_free around.production l under scope h
    node_free Enumerator around within l first under scope e w h = name_free first scope (last_token under first) w
    node_free FunBody around within l first under scope e w h = e
    node_free _ around within l first under scope e w h = refl

    apart_from_none : (f : Forest) (within : Bool) (l : Label) (k : ℕ) (scope : Scope) → is_adding every within l f ≡ true → tokens_pass own f ≡ true
        → is_apart foreign toks [] l k scope f ≡ true
    apart_from_none none within l k scope e h = refl
    apart_from_none (token i rest) within l k scope e h =
        let p = and_parts (is_adding_token every l.production) (is_adding every within l rest) e in
        let q = and_parts (own i) (tokens_pass own rest) h in
        let free : Bool = is_free_token foreign toks [] l.production l.alternative k scope i in
        let more : Bool = is_apart foreign toks [] l (k + 1) scope rest in
        and_from (own i) (free && more) q.0
        (and_from free more (token_free l.production l.alternative k scope i q.0) (apart_from_none rest within l (k + 1) scope p.1 q.1))
    apart_from_none (node m first under rest) within l k scope e h =
        let here : Bool = is_adding_node every m.production l within m under in
        let below : Bool = is_adding every (within_of m.production within) m under in
        let more : Bool = is_adding every within l rest in
        let p = and_parts here (has_no_list m under && (below && more)) e in
        let q = and_parts (has_no_list m under) (below && more) p.1 in
        let r = and_parts below more q.1 in
        let t = and_parts (own first) (tokens_pass own under && tokens_pass own rest) h in
        let u = and_parts (tokens_pass own under) (tokens_pass own rest) t.1 in
        let free : Bool = is_free_node foreign toks [] m.production l.production m first under scope in
        let inside : Bool = is_apart foreign toks [] m 0 (scope_in m.production m under scope) under in
        let later : Bool = is_apart foreign toks [] l (k + 1) scope rest in
        and_from (own first) (free && (inside && later)) t.0
        (and_from free (inside && later) (node_free m.production l within m first under scope p.0 t.0 u.0)
        (and_from inside later (apart_from_none under (within_of m.production within) m 0 (scope_in m.production m under scope) r.0 u.0)
        (apart_from_none rest within l (k + 1) scope r.1 u.1)))

pub items_add_their_tokens : ItemsAddTheirTokens
items_add_their_tokens foreign within l f e h = spreads foreign within l f e h

pub nothing_is_asked_for : NothingIsAskedFor
nothing_is_asked_for toks foreign f within l k scope e h = apart_from_none foreign toks f within l k scope e h
