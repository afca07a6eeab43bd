-- What each step of the standards keeps, the walk over a unit of GNU C keeps.
use Rattle.std.proofs.Common.{ℕ, ◌+◌, ◌≡◌, Bool, true, false, ◌&&◌, ◌||◌, not, if◌then◌else◌, ◌==◌, List, [], ◌∷◌, Option, None, Some, ◌⊎◌, inl, inr, refl, sym, ap, subst}
use Rattle.std.specs.Prelude.{IfSome, is_some}
use Rattle.std.proofs.lemmas.Bool.{false≢true}
use Rattle.c99_tree.specs.contracts.production.ProductionPartialEq.TheImpl.{ghosts}
use Rattle.cs_base.specs.Token.{Token}
use Rattle.c99_tree.specs.Tree.{Forest, none, token, node}
use Rattle.c99_tree.specs.declared.production.Label.{Label}
use Rattle.c99_tree.specs.declared.production.Production.{Production}
use Rattle.c99_tree.specs.declared.production.Production.TheVariants.{AutoDecl}
use Rattle.gnu_bind.specs.Below.c_types.Trees.{last_token}
use Rattle.gnu_bind.specs.Below.c_types.Tags.{number_in}
use Rattle.gnu_bind.specs.Below.c_types.Declarations.{Facts, has_linkage, is_in, is_live, with_fault, with_use, with_begun, in_scope, visible, linked}
use Rattle.gnu_bind.specs.Below.scope_bind.Below.name_chains.Frames.{State}
use Rattle.gnu_bind.specs.Below.scope_bind.Named.{Declaration, Occurrence, Frame, Scope, Role, no_label, redeclared, ordinary, is_plain_role}
use Rattle.gnu_bind.specs.Below.scope_bind.Walk.{facts_at, facts_after}
use Rattle.gnu_bind.specs.Below.scope_bind.Ordinary.{is_func, named_facts}
use Rattle.gnu_bind.specs.Below.scope_bind.Below.name_chains.Members.{member_used}
use Rattle.gnu_bind.specs.Below.c_types.Declarations.{spelling_at}
use Rattle.gnu_bind.specs.declared.senses.Special.{Special}
use Rattle.gnu_bind.specs.declared.senses.Sense.{Sense}
use Rattle.gnu_bind.specs.declared.roles.GnuRole.{GnuRole}
use Rattle.gnu_bind.specs.declared.roles.GnuRole.TheVariants.{Standard, Name, BlockLabel, Label as ALabel, Jump, Address, Path, Brace}
use Rattle.gnu_bind.specs.Words.{is_path_sign}
use Rattle.gnu_bind.specs.Roles.{role_in}
use Rattle.gnu_bind.specs.Senses.{sense_in, away}
use Rattle.gnu_bind.specs.Names.{names_function, is_word, implied_entity, implied_function, is_implied, implied, denoting, name_read, path_read}
use Rattle.gnu_bind.specs.BlockLabels.{block_labels, block_label, block_label_used, function_jump, with_block_label, block_label_at, function_label, labelled_by, labelled, jumped_by, jumped}
use Rattle.gnu_bind.specs.Walk.{auto_name, auto_declared, with_auto, facts_by, read, begun, facts_ended, ended, walked}
use Rattle.gnu_tree_laws.specs.GnuPlaces.{is_noted}
use Rattle.tree_laws.proofs.Noted.{told_name}
use Rattle.tree_laws.proofs.Holding.{name_noted, GoesOn, Holds, noted_still, fault_held, occurrence_held, declaration_held, silent_held, begun_held, complete_held, looked_up_held}
use Rattle.tree_laws.proofs.HeldTags.{declared_held, member_used_held, label_held}
use Rattle.tree_laws.proofs.HeldSteps.{named_held, jump_held, facts_in_held, facts_at_held, facts_after_held}

-- what a node declares once it is left
abbrev pub gnu_told_name : Production → Production → ℕ → Label → Forest → Option ℕ
gnu_told_name AutoDecl q first l under = Some (auto_name under)
gnu_told_name p q first l under = told_name p q first l under

-- `__auto_type` alone is no node of the standards
pub auto_or : (p : Production) → (p ≡ AutoDecl) ⊎ (ghosts.eq p AutoDecl ≡ false)
auto_or AutoDecl = inl refl
auto_or _ = inr refl

pub other_told : (p q : Production) (first : ℕ) (l : Label) (under : Forest) → ghosts.eq p AutoDecl ≡ false
    → gnu_told_name p q first l under ≡ told_name p q first l under
other_told AutoDecl q first l under e = absurd (false≢true (sym e))
other_told _ q first l under e = refl

pub other_ended : (toks : List Token) (p : Production) (first : ℕ) (f : Frame) (l : Label) (under : Forest) (child : Frame) (facts : Facts) → ghosts.eq p AutoDecl ≡ false
    → facts_ended toks p first f l under child facts ≡ facts_after toks p first f l under child.body facts
other_ended toks AutoDecl first f l under child facts e = absurd (false≢true (sym e))
other_ended toks _ first f l under child facts e = refl

-- each token below some children that is bound by itself is one, and so is each name that is declared once a node is left
abbrev pub GnuTokens : List Token → (ℕ → Type 0) → Label → ℕ → Forest → Type 0
GnuTokens toks S l k none = Unit {0}
GnuTokens toks S l k (token i rest) = (is_noted toks (role_in l.production l.alternative k) i ≡ true → S i) × GnuTokens toks S l (k + 1) rest
GnuTokens toks S l k (node m first under rest) =
    IfSome (gnu_told_name m.production l.production first m under) S × GnuTokens toks S m 0 under × GnuTokens toks S l (k + 1) rest

module _ (toks : List Token) (S : ℕ → Type 0) (R : List Occurrence → ℕ → ℕ → Type 0) (law : GoesOn toks S R) where
  either_held : (c : Bool) (f g : Facts) → Holds S R f → Holds S R g → Holds S R (if c then f else g)
  either_held true f g h k = h
  either_held false f g h k = k

  -- ---- Names

  implied_noted : (i : ℕ) (r : Option Declaration) (facts : Facts) → S i → IfSome r (λ d. R facts.occurrences i d.entity)
      → R (name_noted i (implied_entity i r) false ∷ facts.occurrences) i (implied_entity i r)
  implied_noted i None facts s r = law.itself facts.occurrences i false s
  implied_noted i (Some d) facts s r = law.more (name_noted i d.entity false) facts.occurrences i d.entity r

  implied_held : (scope : Scope) (i : ℕ) (facts : Facts) → S i → Holds S R facts → Holds S R (implied toks scope i facts)
  implied_held scope i facts s h =
      let link : Option Declaration = linked toks i facts in
      let e : ℕ = implied_entity i link in
      let r : R (name_noted i e false ∷ facts.occurrences) i e =
      implied_noted i link facts s (looked_up_held toks S R law ordinary i (λ d. has_linkage d.linkage) facts s h) in
      silent_held S R (implied_function scope i e) (with_use i e facts) (λ _. (s, r)) (occurrence_held S R law.more i e false facts r h)

  denoting_held : (f : Frame) (i : ℕ) (facts : Facts) → S i → Holds S R facts → Holds S R (denoting toks f i facts)
  denoting_held f i facts s h =
      either_held (is_implied toks f i facts) (implied toks f.scope i facts) (named_facts toks f i facts) (implied_held f.scope i facts s h)
      (named_held toks S R law (is_func toks f i) i facts s h)

  name_held : (s : Special) (f : Frame) (i : ℕ) (facts : Facts) → S i → Holds S R facts → Holds S R (name_read toks s f i facts)
  name_held s f i facts w h =
      either_held (names_function toks f i || is_word toks s i facts) facts (denoting toks f i facts) h (denoting_held f i facts w h)

  path_held : (f : Frame) (i : ℕ) (facts : Facts) → (not (is_path_sign (spelling_at toks i)) ≡ true → S i) → Holds S R facts → Holds S R (path_read toks f i facts)
  path_held f i facts w h = by (is_path_sign (spelling_at toks i)) w
    where
      by : (c : Bool) → (not c ≡ true → S i) → Holds S R (if c then facts else member_used toks f.found i facts)
      by true v = h
      by false v = member_used_held toks S R law f.found i facts (v refl) h

  -- ---- Labels

  use_noted : (i e : ℕ) (facts : Facts) → R facts.occurrences i e → Holds S R facts → Holds S R (with_use i e facts)
  use_noted i e facts r h = occurrence_held S R law.more i e false facts (law.more (name_noted i e false) facts.occurrences i e r) h

  block_label_held : (scope : Scope) (i : ℕ) (facts : Facts) → S i → Holds S R facts → Holds S R (with_block_label toks scope i facts)
  block_label_held scope i facts s h =
      let twice : Bool = is_some (in_scope toks block_labels scope.depth i i facts) in
      let before : Facts = with_fault twice redeclared i facts in
      declaration_held S R law.more (block_label scope i) before s (law.itself before.occurrences i true s) (fault_held S R twice redeclared i facts s h)

  found_by : (c : Bool) (i : ℕ) (facts : Facts) → S i → Holds S R facts
      → IfSome (if c then visible toks block_labels i i facts else None) (λ d. R facts.occurrences i d.entity)
  found_by true i facts s h = looked_up_held toks S R law block_labels i (is_live i) facts s h
  found_by false i facts s h = tt

  function_label_held : (s : Sense) (f : Frame) (i : ℕ) (facts : Facts) → S i → Holds S R facts → Holds S R (function_label toks s f i facts)
  function_label_held s f i facts w h = either_held s.homeless _ _ (fault_held S R true no_label i facts w h) (label_held toks S R law f.body i facts w h)

  labelled_by_held : (r : Option Declaration) (s : Sense) (f : Frame) (i : ℕ) (facts : Facts) → S i → IfSome r (λ d. R facts.occurrences i d.entity) → Holds S R facts
      → Holds S R (labelled_by toks r s f i facts)
  labelled_by_held None s f i facts w r h = function_label_held s f i facts w h
  labelled_by_held (Some d) s f i facts w r h =
      let twice : Bool = is_in facts.begun d.entity in
      let before : Facts = with_fault twice redeclared i facts in
      begun_held S R true d.entity (with_use i d.entity before)
      (use_noted i d.entity before (noted_still (λ os. R os i d.entity) twice redeclared i facts r) (fault_held S R twice redeclared i facts w h))

  labelled_held : (s : Sense) (f : Frame) (i : ℕ) (facts : Facts) → S i → Holds S R facts → Holds S R (labelled toks s f i facts)
  labelled_held s f i facts w h = labelled_by_held (block_label_at toks s i facts) s f i facts w (found_by s.labels i facts w h) h

  jumped_by_held : (r : Option Declaration) (s : Sense) (i : ℕ) (facts : Facts) → S i → IfSome r (λ d. R facts.occurrences i d.entity) → Holds S R facts
      → Holds S R (jumped_by toks r s i facts)
  jumped_by_held None s i facts w r h = either_held s.homeless _ _ (fault_held S R true no_label i facts w h) (jump_held toks S R law i facts w h)
  jumped_by_held (Some d) s i facts w r h = use_noted i d.entity facts r h

  jumped_held : (s : Sense) (i : ℕ) (facts : Facts) → S i → Holds S R facts → Holds S R (jumped toks s i facts)
  jumped_held s i facts w h = jumped_by_held (block_label_at toks s i facts) s i facts w (found_by s.labels i facts w h) h

  -- ---- The walk

  standard_held : (i : ℕ) (f : Frame) (facts : Facts) → Holds S R facts → (r : Role) → (not (is_plain_role r) ≡ true → S i) → Holds S R (facts_at toks r i f facts)
  standard_held i f facts h r w = facts_at_held toks S R law i f facts h r (λ e. w (ap not e))

  facts_by_held : (s : Sense) (i : ℕ) (f : Frame) (facts : Facts) → Holds S R facts → (r : GnuRole) → (is_noted toks r i ≡ true → S i)
      → Holds S R (facts_by toks r s i f facts)
  facts_by_held s i f facts h (Standard r) w = standard_held i f facts h r w
  facts_by_held s i f facts h Name w = name_held s.special f i facts (w refl) h
  facts_by_held s i f facts h BlockLabel w = block_label_held f.scope i facts (w refl) h
  facts_by_held s i f facts h ALabel w = labelled_held s f i facts (w refl) h
  facts_by_held s i f facts h Jump w = jumped_held s i facts (w refl) h
  facts_by_held s i f facts h Address w = jumped_held (away s f) i facts (w refl) h
  facts_by_held s i f facts h Path w = path_held f i facts w h
  facts_by_held s i f facts h Brace w = complete_held S R (number_in f.found) facts h

  facts_ended_held : (p : Production) (first : ℕ) (f : Frame) (l : Label) (under : Forest) (child : Frame) (facts : Facts)
      → IfSome (gnu_told_name p f.label.production first l under) S → Holds S R facts → Holds S R (facts_ended toks p first f l under child facts)
  facts_ended_held p first f l under child facts w h = elim (auto_or p) [
    | inl same ↦
        let told : IfSome (gnu_told_name AutoDecl f.label.production first l under) S =
        subst (λ (q : Production). IfSome (gnu_told_name q f.label.production first l under) S) same w in
        subst (λ (q : Production). Holds S R (facts_ended toks q first f l under child facts)) (sym same)
        (declared_held toks S R law f.scope (auto_declared f (auto_name under) (last_token under 0) child.found) facts told h)
    | inr other ↦
        subst (λ (new : Facts). Holds S R new) (sym (other_ended toks p first f l under child facts other))
        (facts_after_held toks S R law p first f l under child.body facts
        (subst (λ (o : Option ℕ). IfSome o S) (other_told p f.label.production first l under other) w) h)
  ]

  pub walked_held : (f : Forest) (s : Sense) (t : State) → GnuTokens toks S t.frame.label t.frame.nth f → Holds S R t.facts → Holds S R (walked toks s f t).facts
  unfolding walked
  walked_held none s t w h = h
  walked_held (token i rest) s t w h =
      walked_held rest s (read toks s i t) w.1
      (facts_by_held s i t.frame t.facts h (role_in t.frame.label.production t.frame.label.alternative t.frame.nth) w.0)
  walked_held (node l first under rest) s t w h =
      let below : Sense = sense_in toks l.production under t.frame s in
      let before : State = begun toks l first under below t in
      let inside : State = walked toks below under before in
      walked_held rest s (ended toks s l first under t inside) w.2
      (facts_ended_held l.production first t.frame l under inside.frame inside.facts w.0
      (walked_held under below before w.1 (facts_in_held toks S R law l.production first under t.frame t.facts h)))
