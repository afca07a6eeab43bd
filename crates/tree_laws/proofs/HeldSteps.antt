-- The relation holds after each step of the walk.
use Rattle.std.proofs.Common.{ℕ, ◌+◌, ◌≡◌, Bool, true, false, if◌then◌else◌, ◌==◌, List, [], Option, None, refl}
use Rattle.std.specs.Prelude.{IfSome}
use Rattle.cs_base.specs.Token.{Token}
use Rattle.c99_tree.specs.Tree.{Forest, none, token, node}
use Rattle.c99_tree.specs.declared.production.Label.{Label}
use Rattle.c99_tree.specs.declared.production.Production.{Production}
use Rattle.c99_tree.specs.declared.production.Production.TheVariants.{ExtRest, FunBody, InitDecl, Members, MemRest, Mdecl, Enumerators, Enumerator, Declarator, Param, Pdecl}
use Rattle.c_types.specs.declared.entity.EntityKind.TheVariants.{Parameter, Enumerator as Constant}
use Rattle.scope_bind.specs.Named.{Occurrence, Body, Frame, Role, is_plain_role, by_role}
use Rattle.c_types.specs.Types.{arithmetic, target_of}
use Rattle.c_types.specs.Trees.{last_token, name_below}
use Rattle.c_types.specs.Declarations.{Facts}
use Rattle.name_chains.specs.Frames.{State}
use Rattle.scope_bind.specs.Ordinary.{is_func, used, plain_name}
use Rattle.c_types.specs.Tags.{number_in}
use Rattle.scope_bind.specs.Labels.{with_jump}
use Rattle.name_chains.specs.Entering.{facts_in, entered}
use Rattle.scope_bind.specs.Roles.{role_of}
use Rattle.scope_bind.specs.Walk.{facts_at, passed, declared_in, parameter_in, facts_after, left, walked}
use Rattle.tree_laws.proofs.Noted.{declares, is_parameter, told_name}
use Rattle.tree_laws.proofs.Holding.{GoesOn, Holds, complete_held, kept_held}
use Rattle.tree_laws.proofs.HeldTags.{tag_named_case, anonymous_held, declared_held, used_held, object_held, parameter_held, tag_held, enumeration_held, member_declared_held, member_used_held, designated_held, label_held, labels_held, jump_more}

-- ---- Which tokens there are

-- each token below some children that is bound by itself is one, and so is each name that is declared once a node is
-- left; the first of the children has this number
abbrev pub Tokens : (ℕ → Type 0) → Label → ℕ → Forest → Type 0
Tokens S l k none = Unit {0}
Tokens S l k (token i rest) = (is_plain_role (role_of l.production l.alternative k) ≡ false → S i) × Tokens S l (k + 1) rest
Tokens S l k (node m first under rest) =
    IfSome (told_name m.production l.production first m under) S × Tokens S m 0 under × Tokens S l (k + 1) rest

-- ---- Steps

module _ (toks : List Token) (S : ℕ → Type 0) (R : List Occurrence → ℕ → ℕ → Type 0) (law : GoesOn toks S R) where
  pub facts_in_held : (p : Production) (first : ℕ) (under : Forest) (f : Frame) (facts : Facts) → Holds S R facts → Holds S R (facts_in p first under f facts)
  facts_in_held FunBody first under f facts h =
      kept_held S R f.kept (f.scope.depth + 1) first (last_token under 0) (record facts { jumps = [] })
      (record { declared = h.declared; occurrences = h.occurrences; jumps = λ j w. absurd w; fault = h.fault })
  facts_in_held _ first under f facts h = h

  pub named_held : (c : Bool) (i : ℕ) (facts : Facts) → S i → Holds S R facts → Holds S R (if c then facts else used toks i facts)
  named_held true i facts s h = h
  named_held false i facts s h = used_held toks S R law i facts s h

  pub jump_held : (i : ℕ) (facts : Facts) → S i → Holds S R facts → Holds S R (with_jump i facts)
  jump_held i facts s h = record {
    declared = h.declared;
    occurrences = h.occurrences;
    jumps = λ j. jump_more toks S R law i j facts.jumps s h.jumps;
    fault = h.fault;
  }

  pub facts_at_held : (i : ℕ) (f : Frame) (facts : Facts) → Holds S R facts → (r : Role) → (is_plain_role r ≡ false → S i) → Holds S R (facts_at toks r i f facts)
  facts_at_held i f facts h =
      by_role (λ r. (is_plain_role r ≡ false → S i) → Holds S R (facts_at toks r i f facts))
      (λ s. h)
      (λ s. named_held (is_func toks f i) i facts (s refl) h)
      (λ s. used_held toks S R law i facts (s refl) h)
      (λ s. tag_held toks S R law f i facts (s refl) h)
      (λ s. enumeration_held toks S R law f i facts (s refl) h)
      (λ s. declared_held toks S R law f.scope (plain_name toks i i Parameter arithmetic true) facts (s refl) h)
      (λ s. member_used_held toks S R law f.given i facts (s refl) h)
      (λ s. member_used_held toks S R law (target_of f.given) i facts (s refl) h)
      (λ s. designated_held toks S R law f.given i facts (s refl) h)
      (λ s. label_held toks S R law f.body i facts (s refl) h)
      (λ s. jump_held i facts (s refl) h)

  declared_in_held : (p : Production) (f : Frame) (l : Label) (under : Forest) (facts : Facts) → IfSome (if declares p then name_below l under else None) S
      → Holds S R facts → Holds S R (declared_in toks p f l under facts)
  declared_in_held ExtRest f l under facts w h = object_held toks S R law f under (name_below l under) facts w h
  declared_in_held InitDecl f l under facts w h = object_held toks S R law f under (name_below l under) facts w h
  declared_in_held Mdecl f l under facts w h = member_declared_held toks S R law f under (name_below l under) facts w h
  declared_in_held _ f l under facts w h = h

  parameter_in_held : (p : Production) (f : Frame) (l : Label) (under : Forest) (facts : Facts) → IfSome (if is_parameter p then name_below l under else None) S
      → Holds S R facts → Holds S R (parameter_in toks p f l under facts)
  parameter_in_held Param f l under facts w h = parameter_held toks S R law f under (name_below l under) facts w h
  parameter_in_held _ f l under facts w h = h

  pub facts_after_held : (p : Production) (first : ℕ) (f : Frame) (l : Label) (under : Forest) (body : Option Body) (facts : Facts)
      → IfSome (told_name p f.label.production first l under) S → Holds S R facts → Holds S R (facts_after toks p first f l under body facts)
  facts_after_held Declarator first f l under body facts w h = declared_in_held f.label.production f l under facts w h
  facts_after_held Pdecl first f l under body facts w h = parameter_in_held f.label.production f l under facts w h
  facts_after_held Enumerator first f l under body facts w h =
      declared_held toks S R law f.scope (plain_name toks first (last_token under first) Constant arithmetic false) facts w h
  facts_after_held MemRest first f l under body facts w h =
      tag_named_case toks S R law (l.alternative == 1) facts _ _ (anonymous_held toks S R law f first facts h) h
  facts_after_held Members first f l under body facts w h = complete_held S R (number_in f.found) facts h
  facts_after_held Enumerators first f l under body facts w h = complete_held S R (number_in f.found) facts h
  facts_after_held FunBody first f l under body facts w h = labels_held toks S R law body facts h
  facts_after_held _ first f l under body facts w h = h

  pub walked_held : (f : Forest) (s : State) → Tokens S s.frame.label s.frame.nth f → Holds S R s.facts → Holds S R (walked toks f s).facts
  unfolding walked
  walked_held none s w h = h
  walked_held (token i rest) s w h =
      walked_held rest (passed toks i s) w.1
      (facts_at_held i s.frame s.facts h (role_of s.frame.label.production s.frame.label.alternative s.frame.nth) w.0)
  walked_held (node l first under rest) s w h =
      let before : State = entered toks l first under s in
      let inside : State = walked toks under before in
      walked_held rest (left toks l first under s inside) w.2
      (facts_after_held l.production first s.frame l under inside.frame.body inside.facts w.0
      (walked_held under before w.1 (facts_in_held l.production first under s.frame s.facts h)))
