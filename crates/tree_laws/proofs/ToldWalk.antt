-- The binding of a text tells of each identifier in its tree what its place says.
use Rattle.std.proofs.Common.{ℕ, ◌+◌, ◌≡◌, Bool, true, false, ◌&&◌, ◌||◌, not, if◌then◌else◌, ◌==◌, List, [], length, Option, ◌⊎◌, inl, inr, refl, sym, ap, subst, ◌∙◌, arith}
use Rattle.std.specs.Prelude.{codes}
use Rattle.std.specs.Option.{option_map_or}
use Rattle.std.specs.Str.{bytes_eq}
use Rattle.std.proofs.lemmas.Bool.{false≢true, and_parts, and_from, eqb-true}
use Rattle.cs_base.specs.Token.{Token}
use Rattle.c99_tree.specs.Tree.{Forest, none, token, node}
use Rattle.c99_tree.specs.declared.production.Label.{Label}
use Rattle.c99_tree.specs.declared.production.Production.{Production}
use Rattle.c99_tree.specs.declared.production.Production.TheVariants.{ExtRest, InitDecl, FunBody, Declaration as DeclarationNode, Specs, Main, SuRest, EnRest, Enumerator, Declarator, Suffix, Params, Param, Pdecl, Primary}
use Rattle.c99_tree.specs.contracts.production.ProductionPartialEq.TheImpl.{ghosts}
use Rattle.c_types.specs.Trees.{is_node, words_of, name_below, last_token}
use Rattle.c_types.specs.Declarations.{Facts, spelling_at}
use Rattle.c_types.specs.Tags.{with_tag, with_enumeration}
use Rattle.c_types.specs.declared.frames.Words.{Words}
use Rattle.name_chains.specs.Frames.{State, at_first, outermost}
use Rattle.name_chains.specs.Entering.{inner, body_in, listing_in, entered}
use Rattle.scope_bind.specs.declared.bound.Name.{Name}
use Rattle.scope_bind.specs.Named.{Body, Frame, Scope}
use Rattle.scope_bind.specs.Bound.{Bound}
use Rattle.scope_bind.specs.Ordinary.{used, named_facts, with_object}
use Rattle.scope_bind.specs.Roles.{role_of}
use Rattle.scope_bind.specs.Walk.{facts_at, passed, declared_in, facts_after, left, walked}
use Rattle.tree_laws.specs.TreesOfTexts.{token_count, AreFrom}
use Rattle.tree_laws.specs.BoundNames.{EachTokenIsOneName}
use Rattle.tree_laws.proofs.HeldNames.{binding_is}
use Rattle.tree_laws.specs.Told.{UsesAt, TagTold, TypeNameTold, ParameterTold, PrimaryTold, ListTold, NodeTold, AreTold}
use Rattle.tree_laws.specs.ToldNames.{IdentifiersAreTold}
use Rattle.tree_laws.proofs.Walking.{Places}
use Rattle.tree_laws.proofs.Grown.{Grown, grown_same, grown_then, walked_grown, passed_grown, left_grown}
use Rattle.tree_laws.proofs.Finish.{IsFinal, names, last, final_places, first_sorted, is_final}
use Rattle.tree_laws.proofs.ToldSteps.{used_told, named_told, tag_told, enumeration_told, object_told, enumerator_told}
use Rattle.tree_laws.proofs.ToldLists.{U, Stands, sorted_walked, sorted_passed, sorted_entered, sorted_left, after_parameter, scope_params, scope_list, parameter_slip, param_named, list_walk}

-- ---- Frames by their productions

body_is : (p : Production) (under : Forest) (around : Option Body) (body : Bool) → option_map_or (λ b. true) around false ≡ body
    → option_map_or (λ b. true) (body_in p under around) false ≡ (ghosts.eq p FunBody || body)
body_is FunBody under around body e = refl
body_is _ under around body e = e

listing_is : (p : Production) (f : Frame) (listing : Bool) → f.listing ≡ listing → listing_in p f ≡ (if ghosts.eq p DeclarationNode then is_node f.label FunBody else listing)
listing_is DeclarationNode f listing e = refl
listing_is _ f listing e = e

declared_at : (toks : List Token) (q : Production) (f : Frame) (m : Label) (under : Forest) (facts : Facts) → (ghosts.eq q ExtRest || ghosts.eq q InitDecl) ≡ true
    → declared_in toks q f m under facts ≡ with_object toks f under (name_below m under) facts
declared_at toks ExtRest f m under facts e = refl
declared_at toks InitDecl f m under facts e = refl
declared_at toks _ f m under facts e = absurd (false≢true e)

words_if : (c : Bool) (x y : Words) → c ≡ true → x.has_typedef ≡ true → (if c then x else y).has_typedef ≡ true
words_if true x y e h = h
words_if false x y e h = absurd (false≢true e)

module _ (toks : List Token) (F : Facts) (final : IsFinal F) where
  abbrev Ns : List Name
  Ns = names F final

  -- ---- A token at the beginning of a node

  module _ (f : Frame) (i : ℕ) (facts : Facts) where
    tag_at : (p : Production) (a : ℕ) → p ≡ SuRest → (a == 1) ≡ true → facts_at toks (role_of p a 0) i f facts ≡ with_tag toks f i facts
    tag_at p a e h =
        subst (λ q. facts_at toks (role_of q a 0) i f facts ≡ with_tag toks f i facts) (sym e)
        (subst (λ b. facts_at toks (role_of SuRest b 0) i f facts ≡ with_tag toks f i facts) (sym (eqb-true a 1 h)) refl)

    enumeration_at : (p : Production) (a : ℕ) → p ≡ EnRest → (a == 1) ≡ true → facts_at toks (role_of p a 0) i f facts ≡ with_enumeration toks f i facts
    enumeration_at p a e h =
        subst (λ q. facts_at toks (role_of q a 0) i f facts ≡ with_enumeration toks f i facts) (sym e)
        (subst (λ b. facts_at toks (role_of EnRest b 0) i f facts ≡ with_enumeration toks f i facts) (sym (eqb-true a 1 h)) refl)

    primary_at : (p : Production) (a : ℕ) → p ≡ Primary → (a == 1) ≡ true → facts_at toks (role_of p a 0) i f facts ≡ named_facts toks f i facts
    primary_at p a e h =
        subst (λ q. facts_at toks (role_of q a 0) i f facts ≡ named_facts toks f i facts) (sym e)
        (subst (λ b. facts_at toks (role_of Primary b 0) i f facts ≡ named_facts toks f i facts) (sym (eqb-true a 1 h)) refl)

    type_name_at : (p : Production) (a : ℕ) → p ≡ Main → (a == 4) ≡ true → facts_at toks (role_of p a 0) i f facts ≡ used toks i facts
    type_name_at p a e h =
        subst (λ q. facts_at toks (role_of q a 0) i f facts ≡ used toks i facts) (sym e)
        (subst (λ b. facts_at toks (role_of Main b 0) i f facts ≡ used toks i facts) (sym (eqb-true a 4 h)) refl)

  -- ---- A node by its first token

  tag_node : (m : Label) (first : ℕ) (under : Forest) (s : State) → m.production ≡ SuRest → Grown (walked toks under (entered toks m first under s)).facts F → TagTold Ns m under
  unfolding walked
  tag_node m first none s e g = tt
  tag_node m first (node l second below more) s e g = tt
  tag_node m first (token i more) s e g = λ one_.
      let before : State = entered toks m first (token i more) s in
      let here : State = passed toks i before in
      tag_told toks F final before.frame i before.facts
      (subst (λ x. Grown x F) (tag_at before.frame i before.facts m.production m.alternative e one_)
      (grown_then here.facts (walked toks more here).facts F (walked_grown toks more here) g))

  enumeration_node : (m : Label) (first : ℕ) (under : Forest) (s : State) → m.production ≡ EnRest → Grown (walked toks under (entered toks m first under s)).facts F → TagTold Ns m under
  unfolding walked
  enumeration_node m first none s e g = tt
  enumeration_node m first (node l second below more) s e g = tt
  enumeration_node m first (token i more) s e g = λ one_.
      let before : State = entered toks m first (token i more) s in
      let here : State = passed toks i before in
      enumeration_told toks F final before.frame i before.facts
      (subst (λ x. Grown x F) (enumeration_at before.frame i before.facts m.production m.alternative e one_)
      (grown_then here.facts (walked toks more here).facts F (walked_grown toks more here) g))

  type_name_node : (m : Label) (first : ℕ) (under : Forest) (s : State) → m.production ≡ Main → Grown (walked toks under (entered toks m first under s)).facts F → TypeNameTold Ns m under
  unfolding walked
  type_name_node m first none s e g = tt
  type_name_node m first (node l second below more) s e g = tt
  type_name_node m first (token i more) s e g = λ four.
      let before : State = entered toks m first (token i more) s in
      let here : State = passed toks i before in
      used_told toks F final i before.facts
      (subst (λ x. Grown x F) (type_name_at before.frame i before.facts m.production m.alternative e four)
      (grown_then here.facts (walked toks more here).facts F (walked_grown toks more here) g))

  either_use : (i : ℕ) (is inside c : Bool) → is ≡ inside → ((is && c) ≡ true) ⊎ UsesAt Ns i → ((inside && c) ≡ true) ⊎ UsesAt Ns i
  either_use i is inside c e (inl h) = inl (sym (ap (λ d. d && c) e) ∙ h)
  either_use i is inside c e (inr u) = inr u

  primary_node : (inside : Bool) (m : Label) (first : ℕ) (under : Forest) (s : State) → m.production ≡ Primary
      → (option_map_or (λ b. true) (body_in m.production under s.frame.body) false && not (listing_in m.production s.frame)) ≡ inside
      → Grown (walked toks under (entered toks m first under s)).facts F → PrimaryTold Ns toks inside m under
  unfolding walked
  primary_node inside m first none s e h g = tt
  primary_node inside m first (node l second below more) s e h g = tt
  primary_node inside m first (token i more) s e h g = λ one_.
      let before : State = entered toks m first (token i more) s in
      let here : State = passed toks i before in
      either_use i (option_map_or (λ b. true) before.frame.body false && not before.frame.listing) inside (bytes_eq (spelling_at toks i) (codes "__func__")) h
      (named_told toks F final before.frame i before.facts
      (subst (λ x. Grown x F) (primary_at before.frame i before.facts m.production m.alternative e one_)
      (grown_then here.facts (walked toks more here).facts F (walked_grown toks more here) g)))

  -- ---- A parameter

  param_node : (m : Label) (first : ℕ) (under : Forest) (s : State) → ghosts.eq m.production Param ≡ true → Places (U toks F final) under → Stands toks F final s.facts
      → Grown (walked toks under (entered toks m first under s)).facts F → ParameterTold Ns under
  unfolding walked
  param_node m first none s e places sorted g = tt
  param_node m first (token i more) s e places sorted g = tt
  param_node m first (node a second specs none) s e places sorted g = tt
  param_node m first (node a second specs (token i more)) s e places sorted g = tt
  param_node m first (node a second specs (node p third pd more)) s e places sorted g = λ both has.
      let under : Forest = node a second specs (node p third pd more) in
      let before : State = entered toks m first under s in
      let s1 : State = walked toks specs (entered toks a second specs before) in
      let after1 : State = left toks a second specs before s1 in
      let s2 : State = walked toks pd (entered toks p third pd after1) in
      let after2 : State = left toks p third pd after1 s2 in
      let nodes = and_parts (is_node a Specs) (is_node p Pdecl) both in
      let sorted1 : Stands toks F final after1.facts = sorted_left toks F final a second specs (node p third pd more) before places (sorted_entered toks F final m first under s sorted) in
      let sorted2 : Stands toks F final s2.facts = sorted_walked toks F final pd (entered toks p third pd after1) places.2.1 (sorted_entered toks F final p third pd after1 sorted1) in
      parameter_slip toks F final after1.frame pd (name_below p pd) s2.facts
      (subst (λ x. Grown x F) (after_parameter toks p.production third after1.frame p pd s2.frame.body s2.facts nodes.1 e)
      (grown_then after2.facts (walked toks more after2).facts F (walked_grown toks more after2) g)) sorted2
      (words_if (is_node a Specs) (words_of specs) before.frame.words nodes.0 has)

  -- ---- A parameter list

  list_node : (m : Label) (first : ℕ) (under : Forest) (s : State) (j : ℕ) → ghosts.eq m.production Suffix ≡ true → AreFrom j under → Places (U toks F final) under → Stands toks F final s.facts
      → Grown (walked toks under (entered toks m first under s)).facts F → ListTold Ns toks m under
  unfolding walked
  list_node m first none s j e w places sorted g = tt
  list_node m first (node l second below more) s j e w places sorted g = tt
  list_node m first (token i none) s j e w places sorted g = tt
  list_node m first (token i (token k more)) s j e w places sorted g = tt
  list_node m first (token i (node p second items none)) s j e w places sorted g = tt
  list_node m first (token i (node p second items (node l third below more))) s j e w places sorted g = tt
  list_node m first (token i (node p second items (token q (token k more)))) s j e w places sorted g = tt
  list_node m first (token i (node p second items (token q (node l third below more)))) s j e w places sorted g = tt
  list_node m first (token i (node p second items (token q none))) s j e w places sorted g = λ both.
      let under : Forest = token i (node p second items (token q none)) in
      let before : State = entered toks m first under s in
      let s1 : State = passed toks i before in
      let s2 : State = entered toks p second items s1 in
      let s3 : State = walked toks items s2 in
      let after : State = left toks p second items s1 s3 in
      let end : State = passed toks q after in
      let parts = and_parts (m.alternative == 2) (is_node p Params) both in
      let scope : Scope = inner s.frame.scope q in
      let same : s2.frame.scope ≡ scope =
      scope_params p.production p items s1.frame.scope parts.1 ∙ scope_list m.production m under s.frame.scope e (and_from (is_node m Suffix) (m.alternative == 2) e parts.0) in
      let after_end : Grown after.facts end.facts = passed_grown toks q after in
      list_walk toks F final scope items s2 [] (j + 1) same places.1
      (sorted_entered toks F final p second items s1 (sorted_passed toks F final i before (sorted_entered toks F final m first under s sorted)))
      (grown_then s3.facts after.facts F (left_grown toks p second items s1 s3) (grown_then after.facts end.facts F after_end g))
      w.1.1 (omega (arith, w.1.2.0)) tt

  -- ---- The walk

  node_told : (q : Production) (body listing inside : Bool) (m : Label) (first : ℕ) (under rest : Forest) (s : State) (j : ℕ) → m.production ≡ q → AreFrom j under
      → Places (U toks F final) (node m first under rest) → Stands toks F final s.facts
      → (option_map_or (λ b. true) (body_in m.production under s.frame.body) false && not (listing_in m.production s.frame)) ≡ inside
      → Grown (walked toks under (entered toks m first under s)).facts F
      → Grown (left toks m first under s (walked toks under (entered toks m first under s))).facts F → NodeTold Ns toks q inside s.frame.label m first under
  node_told SuRest body listing inside m first under rest s j e w places sorted flag g g' = tag_node m first under s e g
  node_told EnRest body listing inside m first under rest s j e w places sorted flag g g' = enumeration_node m first under s e g
  node_told Enumerator body listing inside m first under rest s j e w places sorted flag g g' =
      let s' : State = walked toks under (entered toks m first under s) in
      enumerator_told toks F final s.frame first (last_token under first) s'.facts (subst (λ q. Grown (facts_after toks q first s.frame m under s'.frame.body s'.facts) F) e g')
  node_told Primary body listing inside m first under rest s j e w places sorted flag g g' = primary_node inside m first under s e flag g
  node_told Main body listing inside m first under rest s j e w places sorted flag g g' = type_name_node m first under s e g
  node_told Declarator body listing inside m first under rest s j e w places sorted flag g g' = λ declaring.
      let s' : State = walked toks under (entered toks m first under s) in
      object_told toks F final s.frame under (name_below m under) s'.facts
      (subst (λ x. Grown x F) (declared_at toks s.frame.label.production s.frame m under s'.facts declaring)
      (subst (λ q. Grown (facts_after toks q first s.frame m under s'.frame.body s'.facts) F) e g'))
  node_told Param body listing inside m first under rest s j e w places sorted flag g g' =
      let is : ghosts.eq m.production Param ≡ true = subst (λ q. ghosts.eq q Param ≡ true) (sym e) refl in
      (param_node m first under s is places.1 sorted g, param_named toks F final under (entered toks m first under s) is g)
  node_told Suffix body listing inside m first under rest s j e w places sorted flag g g' =
      list_node m first under s j (subst (λ q. ghosts.eq q Suffix ≡ true) (sym e) refl) w places.1 sorted g
  node_told _ body listing inside m first under rest s j e w places sorted flag g g' = tt

  told_walk : (f : Forest) (s : State) (j : ℕ) (body listing : Bool) → AreFrom j f → Places (U toks F final) f → Stands toks F final s.facts → Grown (walked toks f s).facts F
      → option_map_or (λ b. true) s.frame.body false ≡ body → s.frame.listing ≡ listing → AreTold Ns toks body listing s.frame.label f
  unfolding walked
  told_walk none s j body listing w places sorted g b l = tt
  told_walk (token i rest) s j body listing w places sorted g b l =
      told_walk rest (passed toks i s) (j + 1) body listing w.1 places (sorted_passed toks F final i s sorted) g b l
  told_walk (node m first under rest) s j body listing w places sorted g b l =
      let before : State = entered toks m first under s in
      let inside : State = walked toks under before in
      let after : State = left toks m first under s inside in
      let g' : Grown after.facts F = grown_then after.facts (walked toks rest after).facts F (walked_grown toks rest after) g in
      let g'' : Grown inside.facts F = grown_then inside.facts after.facts F (left_grown toks m first under s inside) g' in
      let eb = body_is m.production under s.frame.body body b in
      let el = listing_is m.production s.frame listing l in (
        node_told m.production body listing ((is_node m FunBody || body) && not (if is_node m DeclarationNode then is_node s.frame.label FunBody else listing)) m first under rest s j refl w.1 places
            sorted (ap (λ c. c && not (listing_in m.production s.frame)) eb ∙ ap (λ c. (is_node m FunBody || body) && not c) el) g'' g',
        told_walk under before j (is_node m FunBody || body) (if is_node m DeclarationNode then is_node s.frame.label FunBody else listing) w.1 places.1
            (sorted_entered toks F final m first under s sorted) g'' eb el,
        told_walk rest after (j + token_count under) body listing w.2 places.2 (sorted_left toks F final m first under rest s places sorted) g b l,
      )

pub identifiers_told : EachTokenIsOneName → IdentifiersAreTold
identifiers_told apart toks tree b t begins binds =
    let F : Facts = last apart toks tree b t begins binds in
    let final : IsFinal F = is_final apart toks tree b t begins binds in
    subst (λ (x : Bound). AreTold x.names toks false false (outermost 0).label tree.under) (sym (binding_is toks tree b binds))
    (told_walk toks F final tree.under (at_first (length toks)) 0 false false t.tokens (final_places apart toks tree b t begins binds) (first_sorted apart toks tree b t begins binds) (grown_same F) refl refl)
