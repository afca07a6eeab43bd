-- What stays true with each thing that is noted stays true along the walk.
use Rattle.std.proofs.Common.{ℕ, ◌+◌, ◌≡◌, Bool, true, false, ◌&&◌, if◌then◌else◌, ◌==◌, List, [], Option, refl}
use Rattle.cs_base.specs.Token.{Token}
use Rattle.c99_tree.specs.Tree.{Forest, none, token, node}
use Rattle.c99_tree.specs.declared.production.Label.{Label}
use Rattle.c99_tree.specs.declared.production.Production.{Production}
use Rattle.c99_tree.specs.declared.production.Production.TheVariants.{ExtRest, FunBody, InitDecl, Members, MemRest, Mdecl, Enumerators, Enumerator, Declarator, Param, Pdecl}
use Rattle.c99_tree.specs.contracts.production.ProductionPartialEq.TheImpl.{ghosts}
use Rattle.c_types.specs.declared.entity.EntityKind.TheVariants.{Parameter, Enumerator as Constant}
use Rattle.c_types.specs.Types.{arithmetic, target_of}
use Rattle.c_types.specs.Trees.{is_at, last_token, name_below}
use Rattle.c_types.specs.Declarations.{Facts}
use Rattle.name_chains.specs.Frames.{State}
use Rattle.name_chains.specs.Entering.{facts_in, entered}
use Rattle.name_chains.specs.Members.{with_anonymous}
use Rattle.scope_bind.specs.Named.{Fault, Declaration, Occurrence, Body, Frame, Role, by_role}
use Rattle.scope_bind.specs.Ordinary.{is_func, used, plain_name}
use Rattle.scope_bind.specs.Roles.{role_of}
use Rattle.scope_bind.specs.Walk.{facts_at, passed, declared_in, parameter_in, facts_after, left, walked}
use Rattle.tree_laws.proofs.Moves.{StaysTrue, At, either_moved, declared_moved, used_moved, object_moved, parameter_moved, tag_moved, enumeration_moved, member_moved, anonymous_moved, member_used_moved, designated_moved, label_moved, labels_moved, kept_moved}

-- the place of each anonymous member is one of these tokens
abbrev pub Places : (ℕ → Type 0) → Forest → Type 0
Places U none = Unit {0}
Places U (token i rest) = Places U rest
Places U (node m first under rest) = (is_at m MemRest 1 ≡ true → U first) × Places U under × Places U rest

module _ (toks : List Token) (U : ℕ → Type 0) (P : List Declaration → List Occurrence → Option Fault → Type 0) (law : StaysTrue U P) where
  abbrev Stands : Facts → Type 0
  Stands facts = At toks U P law facts

  pub facts_in_moved : (p : Production) (first : ℕ) (under : Forest) (f : Frame) (facts : Facts) → Stands facts → Stands (facts_in p first under f facts)
  facts_in_moved FunBody first under f facts h =
      kept_moved toks U P law f.kept (f.scope.depth + 1) first (last_token under 0) (record facts { jumps = [] }) h
  facts_in_moved _ first under f facts h = h

  named_moved : (c : Bool) (i : ℕ) (facts : Facts) → Stands facts → Stands (if c then facts else used toks i facts)
  named_moved c i facts h = either_moved toks U P law c facts (used toks i facts) h (used_moved toks U P law i facts h)

  pub facts_at_moved : (i : ℕ) (f : Frame) (facts : Facts) → Stands facts → (r : Role) → Stands (facts_at toks r i f facts)
  facts_at_moved i f facts h =
      by_role (λ r. Stands (facts_at toks r i f facts))
      h
      (named_moved (is_func toks f i) i facts h)
      (used_moved toks U P law i facts h)
      (tag_moved toks U P law f i facts h)
      (enumeration_moved toks U P law f i facts h)
      (declared_moved toks U P law f.scope (plain_name toks i i Parameter arithmetic true) facts refl h)
      (member_used_moved toks U P law f.given i facts h)
      (member_used_moved toks U P law (target_of f.given) i facts h)
      (designated_moved toks U P law f.given i facts h)
      (label_moved toks U P law f.body i facts h)
      h

  declared_in_moved : (p : Production) (f : Frame) (l : Label) (under : Forest) (facts : Facts) → Stands facts → Stands (declared_in toks p f l under facts)
  declared_in_moved ExtRest f l under facts h = object_moved toks U P law f under (name_below l under) facts h
  declared_in_moved InitDecl f l under facts h = object_moved toks U P law f under (name_below l under) facts h
  declared_in_moved Mdecl f l under facts h = member_moved toks U P law f under (name_below l under) facts h
  declared_in_moved _ f l under facts h = h

  parameter_in_moved : (p : Production) (f : Frame) (l : Label) (under : Forest) (facts : Facts) → Stands facts → Stands (parameter_in toks p f l under facts)
  parameter_in_moved Param f l under facts h = parameter_moved toks U P law f under (name_below l under) facts h
  parameter_in_moved _ f l under facts h = h

  rest_moved : (c : Bool) (first : ℕ) (f : Frame) (facts : Facts) → (c ≡ true → U first) → Stands facts → Stands (if c then with_anonymous toks f first facts else facts)
  rest_moved true first f facts u h = anonymous_moved toks U P law f first facts (u refl) h
  rest_moved false first f facts u h = h

  pub facts_after_moved : (p : Production) (first : ℕ) (f : Frame) (l : Label) (under : Forest) (body : Option Body) (facts : Facts)
      → ((ghosts.eq p MemRest && (l.alternative == 1)) ≡ true → U first) → Stands facts → Stands (facts_after toks p first f l under body facts)
  facts_after_moved Declarator first f l under body facts u h = declared_in_moved f.label.production f l under facts h
  facts_after_moved Pdecl first f l under body facts u h = parameter_in_moved f.label.production f l under facts h
  facts_after_moved Enumerator first f l under body facts u h =
      declared_moved toks U P law f.scope (plain_name toks first (last_token under first) Constant arithmetic false) facts refl h
  facts_after_moved MemRest first f l under body facts u h = rest_moved (l.alternative == 1) first f facts u h
  facts_after_moved Members first f l under body facts u h = h
  facts_after_moved Enumerators first f l under body facts u h = h
  facts_after_moved FunBody first f l under body facts u h = labels_moved toks U P law body facts h
  facts_after_moved _ first f l under body facts u h = h

  pub walked_moved : (f : Forest) (s : State) → Places U f → Stands s.facts → Stands (walked toks f s).facts
  unfolding walked
  walked_moved none s w h = h
  walked_moved (token i rest) s w h =
      walked_moved rest (passed toks i s) w
      (facts_at_moved i s.frame s.facts h (role_of s.frame.label.production s.frame.label.alternative s.frame.nth))
  walked_moved (node l first under rest) s w h =
      let before : State = entered toks l first under s in
      let inside : State = walked toks under before in
      walked_moved rest (left toks l first under s inside) w.2
      (facts_after_moved l.production first s.frame l under inside.frame.body inside.facts w.0
      (walked_moved under before w.1 (facts_in_moved l.production first under s.frame s.facts h)))
