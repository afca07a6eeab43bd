-- What begins and is complete in a part has the numbers of its own tokens, where a structure, union or enumeration follows a
-- token of its node.
use Rattle.std.proofs.Common.{ℕ, ◌+◌, ◌≤◌, ◌<◌, ◌≡◌, Bool, true, false, ◌&&◌, ◌||◌, not, ◌==◌, List, Option, None, Some, refl, sym, ap, ◌∙◌, arith}
use Rattle.std.specs.Option.{option_map_or}
use Rattle.std.proofs.lemmas.Bool.{false≢true, and_parts, and_from}
use Rattle.cs_base.specs.Token.{Token}
use Rattle.cs_base.proofs.BoolLemmas.{or_not-first as read_then}
use Rattle.c99_tree.specs.Tree.{Forest, none, token, node}
use Rattle.c99_tree.specs.declared.production.Label.{Label}
use Rattle.c99_tree.specs.declared.production.Production.{Production}
use Rattle.c99_tree.specs.declared.production.Production.TheVariants.{ExtRest, InitDecl, FunBody, SuRest, EnRest, Members, MemRest, Mdecl, Enumerators, Enumerator, Declarator, Param, Pdecl}
use Rattle.c99_tree.specs.contracts.production.ProductionPartialEq.TheImpl.{ghosts}
use Rattle.c_types.specs.Trees.{is_node, name_below}
use Rattle.c_types.specs.Tags.{number_in}
use Rattle.name_chains.specs.Frames.{State}
use Rattle.name_chains.specs.Entering.{entered}
use Rattle.scope_bind.specs.Named.{Frame}
use Rattle.scope_bind.specs.Walk.{passed, left, walked}
use Rattle.tree_laws.specs.TreesOfTexts.{token_count, AreFrom, has_form, have_forms}
use Rattle.tree_laws.proofs.TokenEnds.{begins_some}
use Rattle.reordered_tree_laws.specs.Adding.{is_untagged, is_tagged, has_no_list, within_of, names_foreign, is_adding_token, is_adding_declarator, is_adding_parameter, is_adding_node, is_adding}
use Rattle.reordered_tree_laws.specs.Siblings.{tags_follow}
use Rattle.reordered_tree_laws.proofs.Adding.{Added, added_none, added_both, add_token, found_stays, after_stays, found_foreign, enter, no_list_in, add_after, owner_foreign}
use Rattle.reordered_tree_laws.proofs.OnlyAdding.{name_in}

either_sign : (x y c d : Bool) → ((x && c) || (y && d)) ≡ true → (x || y) ≡ true
either_sign true y c d e = refl
either_sign false y c d e = (and_parts y d e).0

module _ (toks : List Token) (foreign : ℕ → Bool) (lo hi : ℕ) (mine : (i : ℕ) → lo ≤ i → i < hi → foreign i ≡ true) where
  abbrev every : ℕ → Bool
  every i = true

  -- in a node of which perhaps a token has been read, and perhaps among members
  record IsSigned (read within : Bool) (f : Frame) : Type 0 where
    token : read ≡ true → foreign f.token ≡ true
    untagged : is_untagged f.label ≡ true → foreign (number_in f.found) ≡ true
    owner : within ≡ true → foreign f.owner ≡ true
    tagged : is_tagged f.label ≡ true → f.has_body ≡ false

  named : (name : Option ℕ) → ((i : ℕ) → name ≡ Some i → (lo ≤ i) × (i < hi)) → option_map_or foreign name true ≡ true
  named None h = refl
  named (Some i) h = let x = h i refl in mine i x.0 x.1

  declarator_signed : (p : Production) (within : Bool) (l : Label) (under : Forest) → is_adding_declarator every p within l under ≡ true → names_foreign foreign l under ≡ true
      → is_adding_declarator foreign p within l under ≡ true
  declarator_signed ExtRest within l under e h = e
  declarator_signed InitDecl within l under e h = e
  declarator_signed Mdecl within l under e h = and_from within (names_foreign foreign l under) ((and_parts within (names_foreign every l under) e).0) h
  declarator_signed _ within l under e h = refl

  parameter_signed : (p : Production) (l : Label) (under : Forest) → names_foreign foreign l under ≡ true → is_adding_parameter foreign p l under ≡ true
  parameter_signed Param l under h = h
  parameter_signed _ l under h = refl

  node_signed : (p : Production) (around : Label) (within : Bool) (l : Label) (under : Forest) → is_adding_node every p around within l under ≡ true
      → names_foreign foreign l under ≡ true → is_adding_node foreign p around within l under ≡ true
  node_signed Declarator around within l under e h = declarator_signed around.production within l under e h
  node_signed Pdecl around within l under e h = parameter_signed around.production l under h
  node_signed MemRest around within l under e h = e
  node_signed Members around within l under e h = e
  node_signed Enumerators around within l under e h = e
  node_signed FunBody around within l under e h = e
  node_signed _ around within l under e h = refl

  enumerator_form : (p : Production) (under : Forest) (at first : ℕ) → first ≡ at → lo ≤ at → at + token_count under ≤ hi → has_form p under ≡ true
      → ghosts.eq p Enumerator ≡ true → foreign first ≡ true
  enumerator_form Enumerator under at first same low high form e = mine first (omega (arith, same, low)) (omega (arith, same, high, begins_some under form))
  enumerator_form _ under at first same low high form e = absurd (false≢true e)

  walk_signed : (f : Forest) (read within : Bool) (at : ℕ) (s : State) → IsSigned read within s.frame → AreFrom at f → lo ≤ at → at + token_count f ≤ hi → have_forms f ≡ true
      → is_adding every within s.frame.label f ≡ true → tags_follow read f ≡ true → Added toks foreign s.facts (walked toks f s).facts
  unfolding walked
  walk_signed none read within at s h w low high forms e signs = added_none toks foreign s.facts
  walk_signed (token i rest) read within at s h w low high forms e signs =
      let l : Label = s.frame.label in
      let p = and_parts (is_adding_token every l.production) (is_adding every within l rest) e in
      let here : foreign i ≡ true = mine i (omega (arith, w.0, low)) (omega (arith, w.0, high)) in
      let s1 : State = passed toks i s in
      let h1 : IsSigned true within s1.frame =
      record {
        token = λ r. here;
        untagged = λ u. ap (λ t. foreign (number_in t)) (found_stays toks foreign s.frame i s.facts l.production l.alternative s.frame.nth u) ∙ h.untagged u;
        owner = h.owner;
        tagged = h.tagged;
      } in
      added_both toks foreign s.facts s1.facts (walked toks rest s1).facts
      (add_token toks foreign s.frame i s.facts l.production l.alternative s.frame.nth h.tagged here p.0)
      (walk_signed rest true within (at + 1) s1 h1 w.1 (omega (arith, low)) (omega (arith, high)) forms p.1 signs)
  walk_signed (node l first under rest) read within at s h w low high forms e signs =
      let around : Label = s.frame.label in
      let fs = and_parts (has_form l.production under) (have_forms under && have_forms rest) forms in
      let gs = and_parts (have_forms under) (have_forms rest) fs.1 in
      let here : Bool = is_adding_node every l.production around within l under in
      let below : Bool = is_adding every (within_of l.production within) l under in
      let later : Bool = is_adding every within around rest in
      let p = and_parts here (has_no_list l under && (below && later)) e in
      let q = and_parts (has_no_list l under) (below && later) p.1 in
      let t = and_parts below later q.1 in
      let sign : Bool = is_node l SuRest || is_node l EnRest in
      let x = and_parts (read || not sign) (tags_follow false under && tags_follow read rest) signs in
      let y = and_parts (tags_follow false under) (tags_follow read rest) x.1 in
      let s1 : State = entered toks l first under s in
      let s2 : State = walked toks under s1 in
      let s3 : State = left toks l first under s s2 in
      let node : is_adding_node foreign l.production around within l under ≡ true =
      node_signed l.production around within l under p.0
      (named (name_below l under) (λ i same. name_in l under at i lo hi w.1 low (omega (arith, high)) same)) in
      let h1 : IsSigned false (within_of l.production within) s1.frame =
      record {
        token = λ r. absurd (false≢true r);
        untagged = λ u. found_foreign toks foreign s.frame l s.facts l.production l.alternative
            (h.token (read_then read sign x.0 (either_sign (is_node l SuRest) (is_node l EnRest) (l.alternative == 2) (l.alternative == 2) u))) u;
        owner = λ inside. owner_foreign toks foreign l.production s.frame s.frame.label l within under refl h.owner h.untagged node inside;
        tagged = λ u. no_list_in toks foreign l under q.0 u;
      } in
      let h3 : IsSigned read within s3.frame =
      record {
        token = h.token;
        untagged = λ u. ap (λ (z : _). foreign (number_in z)) (after_stays toks foreign s.frame l under s2.frame around.production around.alternative u) ∙ h.untagged u;
        owner = h.owner;
        tagged = h.tagged;
      } in
      added_both toks foreign s.facts s3.facts (walked toks rest s3).facts
      (added_both toks foreign s.facts s2.facts s3.facts
      (added_both toks foreign s.facts s1.facts s2.facts (enter toks foreign l.production around l within first under s.frame s.facts node)
      (walk_signed under false (within_of l.production within) at s1 h1 w.1 low (omega (arith, high)) gs.0 t.0 y.0))
      (add_after toks foreign l.production s.frame within l first under s2.frame.body s2.facts h.owner h.untagged
      (enumerator_form l.production under at first w.0 low (omega (arith, high)) fs.0) node))
      (walk_signed rest read within (at + token_count under) s3 h3 w.2 (omega (arith, low)) (omega (arith, high)) gs.1 t.1 y.1)

-- A part that begins in a node without a sign adds what its own tokens name, whatever the last token in front of it is.
pub part_adds : (toks : List Token) (foreign : ℕ → Bool) (lo : ℕ) (f : Forest) (s : State) → ((i : ℕ) → lo ≤ i → i < lo + token_count f → foreign i ≡ true)
    → AreFrom lo f → have_forms f ≡ true → is_adding (λ i. true) false s.frame.label f ≡ true → tags_follow false f ≡ true
    → is_untagged s.frame.label ≡ false → is_tagged s.frame.label ≡ false → Added toks foreign s.facts (walked toks f s).facts
part_adds toks foreign lo f s mine w forms e signs plain untagged =
    walk_signed toks foreign lo (lo + token_count f) mine f false false lo s
    (record {
      token = λ r. absurd (false≢true r);
      untagged = λ u. no (is_untagged s.frame.label) plain u;
      owner = λ r. absurd (false≢true r);
      tagged = λ u. no (is_tagged s.frame.label) untagged u;
    }) w (omega arith) (omega arith) forms e signs
  where
    no : {X : Type 0} (b : Bool) → b ≡ false → b ≡ true → X
    no true e h = absurd (false≢true (sym e))
    no false e h = absurd (false≢true h)
