-- A walk notes a token as a name as often as the tree shows at most.
use Rattle.std.proofs.Common.{ℕ, ◌+◌, ◌≤◌, ◌≡◌, Bool, true, false, ◌||◌, not, if◌then◌else◌, ◌==◌, List, [], ◌∷◌, ◌++◌, Option, None, Some, inl, inr, refl, sym, ap, subst, ◌∙◌, arith}
use Rattle.std.proofs.lemmas.Bool.{cases_Bool, not-true, or_parts, and_parts, false≢true}
use Rattle.cs_base.specs.Token.{Token}
use Rattle.c99_tree.specs.Tree.{Forest, none, token, node}
use Rattle.c99_tree.specs.declared.production.Label.{Label}
use Rattle.c99_tree.specs.declared.production.Production.{Production}
use Rattle.c99_tree.specs.declared.production.Production.TheVariants.{ExtRest, FunBody, InitDecl, Members, MemRest, Mdecl, Enumerators, Enumerator, Declarator, Param, Pdecl}
use Rattle.c99_tree.specs.contracts.production.ProductionPartialEq.TheImpl.{ghosts}
use Rattle.c_types.specs.declared.entity.EntityKind.TheVariants.{Parameter, Enumerator as Constant}
use Rattle.scope_bind.specs.Named.{labels, Declaration, Body, Frame, Role, by_role}
use Rattle.c_types.specs.Types.{arithmetic, target_of}
use Rattle.c_types.specs.Trees.{is_node, last_token, name_below}
use Rattle.c_types.specs.Declarations.{Facts, anywhere}
use Rattle.name_chains.specs.Frames.{State}
use Rattle.scope_bind.specs.Ordinary.{is_func, used, plain_name}
use Rattle.scope_bind.specs.Labels.{with_jump, jump_to, with_jumps, with_labels}
use Rattle.name_chains.specs.Entering.{facts_in, with_kept, entered}
use Rattle.name_chains.specs.Members.{with_anonymous}
use Rattle.scope_bind.specs.Roles.{role_of}
use Rattle.scope_bind.specs.Walk.{facts_at, passed, declared_in, parameter_in, facts_after, left, walked}
use Rattle.tree_laws.specs.TreesOfTexts.{has_token, has_body, has_form, have_forms}
use Rattle.tree_laws.proofs.Noted.{hit, hits, role_hit, declares, is_parameter, told_name, noted, form_here, forms_under, forms_behind}
use Rattle.tree_laws.proofs.Adding.{count_in, Adds, adds_none, either_adds, anonymous_adds, declared_adds, used_adds, object_adds, parameter_adds, tag_adds, enumeration_adds, member_adds, member_used_adds, designated_adds, label_adds, jump_to_adds}

pub outside_body : (b c d : Bool) → c ≡ true → (b ≡ true → (c || d) ≡ false) → b ≡ false
outside_body true c d e h = absurd (false≢true (sym ((or_parts c d (h refl)).0) ∙ e))
outside_body false c d e h = refl

-- how often the token is among the numbers
abbrev pub times : ℕ → List ℕ → ℕ
times t [] = 0
times t (x ∷ xs) = hit t x + times t xs

times_push : (t x : ℕ) (xs : List ℕ) → times t (xs ++ x ∷ []) ≡ times t xs + hit t x
times_push t x [] = omega arith
times_push t x (y ∷ xs) = omega (arith, times_push t x xs)

-- how often the token is noted; in a function its `goto`s count too
abbrev pub total : Bool → ℕ → Facts → ℕ
total b t facts = count_in t facts.occurrences + (if b then times t facts.jumps else 0)

pub total_adds : (b : Bool) (t m : ℕ) (old new : Facts) → Adds t m old new → total b t new ≤ total b t old + m
total_adds true t m old new a = omega (arith, a.names, ap (times t) a.jumps)
total_adds false t m old new a = omega (arith, a.names)

pub jump_counts : (b : Bool) (t i : ℕ) (facts : Facts) → total b t (with_jump i facts) ≤ total b t facts + hit t i
jump_counts true t i facts = omega (arith, times_push t i facts.jumps)
jump_counts false t i facts = omega arith

-- ---- The end of a body

module _ (toks : List Token) (t : ℕ) where
  jumps_count : (b : Body) (jumps : List ℕ) (facts : Facts) → count_in t (with_jumps toks b jumps facts).occurrences ≤ count_in t facts.occurrences + times t jumps
  jumps_count b [] facts = omega arith
  jumps_count b (i ∷ later) facts =
      let r : Option Declaration = anywhere toks (labels b.from) i facts in
      omega (arith, jumps_count b later (jump_to toks i r facts), (jump_to_adds toks t i r facts).names)

  labels_count : (body : Option Body) (facts : Facts) → total false t (with_labels toks body facts) ≤ total true t facts
  labels_count None facts = omega arith
  labels_count (Some b) facts = omega (arith, jumps_count b facts.jumps facts)

  -- ---- A token

  pub named_adds : (c : Bool) (i : ℕ) (facts : Facts) → Adds t (hit t i) facts (if c then facts else used toks i facts)
  named_adds true i facts = adds_none t (hit t i) facts
  named_adds false i facts = used_adds toks t i facts

  pub token_counts : (b : Bool) (i : ℕ) (f : Frame) (facts : Facts) (r : Role) → total b t (facts_at toks r i f facts) ≤ total b t facts + role_hit r t i
  token_counts b i f facts =
      by_role (λ r. total b t (facts_at toks r i f facts) ≤ total b t facts + role_hit r t i)
      (omega arith)
      (total_adds b t (hit t i) facts _ (named_adds (is_func toks f i) i facts))
      (total_adds b t (hit t i) facts _ (used_adds toks t i facts))
      (total_adds b t (hit t i) facts _ (tag_adds toks t f i facts))
      (total_adds b t (hit t i) facts _ (enumeration_adds toks t f i facts))
      (total_adds b t (hit t i) facts _ (declared_adds toks t f.scope (plain_name toks i i Parameter arithmetic true) facts))
      (total_adds b t (hit t i) facts _ (member_used_adds toks t f.given i facts))
      (total_adds b t (hit t i) facts _ (member_used_adds toks t (target_of f.given) i facts))
      (total_adds b t (hit t i) facts _ (designated_adds toks t f.given i facts))
      (total_adds b t (hit t i) facts _ (label_adds toks t f.body i facts))
      (jump_counts b t i facts)

  -- ---- A node

  declared_in_adds : (q : Production) (f : Frame) (l : Label) (under : Forest) (facts : Facts)
      → Adds t (hits t (if declares q then name_below l under else None)) facts (declared_in toks q f l under facts)
  declared_in_adds ExtRest f l under facts = object_adds toks t f under (name_below l under) facts
  declared_in_adds InitDecl f l under facts = object_adds toks t f under (name_below l under) facts
  declared_in_adds Mdecl f l under facts = member_adds toks t f under (name_below l under) facts
  declared_in_adds _ f l under facts = adds_none t 0 facts

  parameter_in_adds : (q : Production) (f : Frame) (l : Label) (under : Forest) (facts : Facts)
      → Adds t (hits t (if is_parameter q then name_below l under else None)) facts (parameter_in toks q f l under facts)
  parameter_in_adds Param f l under facts = parameter_adds toks t f under (name_below l under) facts
  parameter_in_adds _ f l under facts = adds_none t 0 facts

  pub after_adds : (p : Production) (first : ℕ) (f : Frame) (l : Label) (under : Forest) (body : Option Body) (facts : Facts) → ghosts.eq p FunBody ≡ false
      → Adds t (hits t (told_name p f.label.production first l under)) facts (facts_after toks p first f l under body facts)
  after_adds Declarator first f l under body facts other = declared_in_adds f.label.production f l under facts
  after_adds Pdecl first f l under body facts other = parameter_in_adds f.label.production f l under facts
  after_adds Enumerator first f l under body facts other =
      declared_adds toks t f.scope (plain_name toks first (last_token under first) Constant arithmetic false) facts
  after_adds MemRest first f l under body facts other =
      either_adds t 0 (l.alternative == 1) facts (with_anonymous toks f first facts) facts (anonymous_adds toks t f first facts) (adds_none t 0 facts)
  after_adds Members first f l under body facts other = record { names = omega arith; jumps = refl }
  after_adds Enumerators first f l under body facts other = record { names = omega arith; jumps = refl }
  after_adds FunBody first f l under body facts other = absurd (false≢true (sym other))
  after_adds _ first f l under body facts other = adds_none t 0 facts

  pub before_counts : (b : Bool) (p : Production) (first : ℕ) (under : Forest) (f : Frame) (facts : Facts) → ghosts.eq p FunBody ≡ false
      → total b t (facts_in p first under f facts) ≤ total b t facts
  before_counts b FunBody first under f facts other = absurd (false≢true (sym other))
  before_counts b _ first under f facts other = omega arith

  kept_counts : (list : Option ℕ) (depth from to : ℕ) (facts : Facts) → total true t (with_kept list depth from to (record facts { jumps = [] })) ≤ total false t facts
  kept_counts None depth from to facts = omega arith
  kept_counts (Some list) depth from to facts = omega arith

  pub body_begins : (p : Production) (first : ℕ) (under : Forest) (f : Frame) (facts : Facts) → ghosts.eq p FunBody ≡ true
      → total true t (facts_in p first under f facts) ≤ total false t facts
  body_begins FunBody first under f facts same = kept_counts f.kept (f.scope.depth + 1) first (last_token under 0) facts
  body_begins _ first under f facts same = absurd (false≢true same)

  pub body_ends : (p : Production) (first : ℕ) (f : Frame) (l : Label) (under : Forest) (body : Option Body) (facts : Facts) → ghosts.eq p FunBody ≡ true
      → total false t (facts_after toks p first f l under body facts) ≤ total true t facts
  body_ends FunBody first f l under body facts same = labels_count body facts
  body_ends _ first f l under body facts same = absurd (false≢true same)

pub body_holds_none : (p : Production) (under : Forest) → ghosts.eq p FunBody ≡ true → has_form p under ≡ true → has_body under ≡ false
body_holds_none FunBody under same form = not-true (has_body under) ((and_parts (has_token under) (not (has_body under)) form).1)
body_holds_none _ under same form = absurd (false≢true same)

-- ---- The walk

-- inside a function, where no other one begins below
abbrev pub Inside : Bool → Forest → Type 0
Inside b f = b ≡ true → has_body f ≡ false

module _ (toks : List Token) (t : ℕ) where
  pub counted : (b : Bool) (f : Forest) (s : State) → Inside b f → have_forms f ≡ true
      → total b t (walked toks f s).facts ≤ total b t s.facts + noted t s.frame.label s.frame.nth f
  unfolding walked
  counted b none s inside forms = omega arith
  counted b (token i rest) s inside forms =
      let r : Role = role_of s.frame.label.production s.frame.label.alternative s.frame.nth in
      omega (arith, token_counts toks t b i s.frame s.facts r, counted b rest (passed toks i s) inside forms)
  counted b (node l first under rest) s inside forms =
      let p : Production = l.production in
      let before : State = entered toks l first under s in
      let within : State = walked toks under before in
      let after : State = left toks l first under s within in
      let behind : total b t (walked toks rest after).facts ≤ total b t after.facts + noted t s.frame.label (s.frame.nth + 1) rest =
      counted b rest after (λ e. (or_parts (has_body under) (has_body rest) ((or_parts (is_node l FunBody) (has_body under || has_body rest) (inside e)).1)).1)
      (forms_behind p under rest forms) in
      elim (cases_Bool (ghosts.eq p FunBody)) [
        | inl same ↦
            let b_is : b ≡ false = outside_body b (is_node l FunBody) (has_body under || has_body rest) same inside in
            let below : total true t within.facts ≤ total true t before.facts + noted t l 0 under =
            counted true under before (λ _. body_holds_none p under same (form_here p under rest forms)) (forms_under p under rest forms) in
            let begins : total true t before.facts ≤ total false t s.facts = body_begins toks t p first under s.frame s.facts same in
            let ends : total false t after.facts ≤ total true t within.facts = body_ends toks t p first s.frame l under within.frame.body within.facts same in
            omega (arith, behind, below, begins, subst (λ c. total c t after.facts ≤ total true t within.facts) (sym b_is) ends, ap (λ c. total c t s.facts) b_is)
        | inr other ↦
            let below : total b t within.facts ≤ total b t before.facts + noted t l 0 under =
            counted b under before (λ e. (or_parts (has_body under) (has_body rest) ((or_parts (is_node l FunBody) (has_body under || has_body rest) (inside e)).1)).0)
            (forms_under p under rest forms) in
            let begins : total b t before.facts ≤ total b t s.facts = before_counts toks t b p first under s.frame s.facts other in
            let ends : total b t after.facts ≤ total b t within.facts + hits t (told_name p s.frame.label.production first l under) =
            total_adds b t (hits t (told_name p s.frame.label.production first l under)) within.facts after.facts
            (after_adds toks t p first s.frame l under within.frame.body within.facts other) in
            omega (arith, behind, below, begins, ends)
      ]
