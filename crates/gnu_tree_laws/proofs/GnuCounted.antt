-- The walk over GNU C notes a token as a name as often as the tree shows at most.
use Rattle.std.proofs.Common.{ℕ, ◌+◌, ◌≤◌, ◌≡◌, Bool, true, false, ◌||◌, if◌then◌else◌, List, [], Option, None, Some, ◌⊎◌, inl, inr, refl, sym, ap, subst, ◌∙◌, arith}
use Rattle.std.specs.Prelude.{is_some}
use Rattle.std.proofs.lemmas.Bool.{false≢true, cases_Bool, or_parts}
use Rattle.cs_base.specs.Token.{Token}
use Rattle.c99_tree.specs.Tree.{Forest, none, token, node}
use Rattle.c99_tree.specs.declared.production.Label.{Label}
use Rattle.c99_tree.specs.declared.production.Production.{Production}
use Rattle.c99_tree.specs.declared.production.Production.TheVariants.{FunBody, AutoDecl}
use Rattle.c99_tree.specs.contracts.production.ProductionPartialEq.TheImpl.{ghosts}
use Rattle.gnu_bind.specs.Below.c_types.Trees.{is_node, last_token}
use Rattle.gnu_bind.specs.Below.c_types.Declarations.{Facts, is_in, with_fault, with_use, with_begun, with_declaration, spelling_at, visible, in_scope}
use Rattle.gnu_bind.specs.Below.scope_bind.Below.name_chains.Frames.{State}
use Rattle.gnu_bind.specs.Below.scope_bind.Below.name_chains.Members.{member_used}
use Rattle.gnu_bind.specs.Below.scope_bind.Named.{Declaration, Frame, Scope, no_label, redeclared}
use Rattle.gnu_bind.specs.Below.scope_bind.Ordinary.{is_func, named_facts}
use Rattle.gnu_bind.specs.Below.scope_bind.Labels.{with_jump}
use Rattle.gnu_bind.specs.Below.scope_bind.Walk.{facts_after}
use Rattle.gnu_bind.specs.declared.senses.Special.{Special}
use Rattle.gnu_bind.specs.declared.senses.Sense.{Sense}
use Rattle.gnu_bind.specs.declared.roles.GnuRole.{GnuRole}
use Rattle.gnu_bind.specs.declared.roles.GnuRole.TheVariants.{Standard, Name, BlockLabel, Label as ALabel, Jump, Address, Path, Brace}
use Rattle.gnu_bind.specs.Words.{is_path_sign}
use Rattle.gnu_bind.specs.Roles.{role_in}
use Rattle.gnu_bind.specs.Senses.{sense_in, away}
use Rattle.gnu_bind.specs.Names.{names_function, is_word, is_implied, implied, denoting, name_read, path_read}
use Rattle.gnu_bind.specs.BlockLabels.{block_labels, block_label, with_block_label, block_label_at, function_label, labelled_by, labelled, jumped_by, jumped}
use Rattle.gnu_bind.specs.Walk.{auto_name, auto_declared, facts_by, read, begun, facts_ended, ended, walked}
use Rattle.tree_laws.specs.TreesOfTexts.{has_body, has_form, have_forms}
use Rattle.tree_laws.proofs.Noted.{hit, hits, told_name, form_here, forms_under, forms_behind}
use Rattle.tree_laws.proofs.Adding.{Adds, adds_none, either_adds, declared_adds, member_used_adds, label_adds}
use Rattle.tree_laws.proofs.Counted.{outside_body, total, total_adds, jump_counts, named_adds, token_counts, after_adds, before_counts, body_begins, body_ends, body_holds_none, Inside}
use Rattle.gnu_tree_laws.proofs.GnuHeld.{gnu_told_name, auto_or, other_ended, other_told}
use Rattle.gnu_tree_laws.proofs.GnuNoted.{gnu_hit, gnu_noted}

no_auto : (p : Production) → ghosts.eq p FunBody ≡ true → ghosts.eq p AutoDecl ≡ false
no_auto FunBody same = refl
no_auto _ same = absurd (false≢true same)

module _ (toks : List Token) (t : ℕ) where
  -- ---- A token

  implied_adds : (scope : Scope) (i : ℕ) (facts : Facts) → Adds t (hit t i) facts (implied toks scope i facts)
  implied_adds scope i facts = record { names = omega arith; jumps = refl }

  denoting_adds : (f : Frame) (i : ℕ) (facts : Facts) → Adds t (hit t i) facts (denoting toks f i facts)
  denoting_adds f i facts =
      either_adds t (hit t i) (is_implied toks f i facts) facts (implied toks f.scope i facts) (named_facts toks f i facts)
      (implied_adds f.scope i facts) (named_adds toks t (is_func toks f i) i facts)

  name_adds : (s : Special) (f : Frame) (i : ℕ) (facts : Facts) → Adds t (hit t i) facts (name_read toks s f i facts)
  name_adds s f i facts =
      either_adds t (hit t i) (names_function toks f i || is_word toks s i facts) facts facts (denoting toks f i facts)
      (adds_none t (hit t i) facts) (denoting_adds f i facts)

  path_adds : (f : Frame) (i : ℕ) (facts : Facts) → Adds t (hit t i) facts (path_read toks f i facts)
  path_adds f i facts =
      either_adds t (hit t i) (is_path_sign (spelling_at toks i)) facts facts (member_used toks f.found i facts)
      (adds_none t (hit t i) facts) (member_used_adds toks t f.found i facts)

  declared_label : (scope : Scope) (i : ℕ) (facts : Facts) (c : Bool) → Adds t (hit t i) facts (with_declaration (block_label scope i) (with_fault c redeclared i facts))
  declared_label scope i facts true = record { names = omega arith; jumps = refl }
  declared_label scope i facts false = record { names = omega arith; jumps = refl }

  block_label_adds : (scope : Scope) (i : ℕ) (facts : Facts) → Adds t (hit t i) facts (with_block_label toks scope i facts)
  block_label_adds scope i facts = declared_label scope i facts (is_some (in_scope toks block_labels scope.depth i i facts))

  function_label_adds : (s : Sense) (f : Frame) (i : ℕ) (facts : Facts) → Adds t (hit t i) facts (function_label toks s f i facts)
  function_label_adds s f i facts =
      either_adds t (hit t i) s.homeless facts (with_fault true no_label i facts) _ (record { names = omega arith; jumps = refl }) (label_adds toks t f.body i facts)

  used_label : (i e : ℕ) (facts : Facts) (c : Bool) → Adds t (hit t i) facts (with_begun true e (with_use i e (with_fault c redeclared i facts)))
  used_label i e facts true = record { names = omega arith; jumps = refl }
  used_label i e facts false = record { names = omega arith; jumps = refl }

  labelled_by_adds : (r : Option Declaration) (s : Sense) (f : Frame) (i : ℕ) (facts : Facts) → Adds t (hit t i) facts (labelled_by toks r s f i facts)
  labelled_by_adds None s f i facts = function_label_adds s f i facts
  labelled_by_adds (Some d) s f i facts = used_label i d.entity facts (is_in facts.begun d.entity)

  labelled_adds : (s : Sense) (f : Frame) (i : ℕ) (facts : Facts) → Adds t (hit t i) facts (labelled toks s f i facts)
  labelled_adds s f i facts = labelled_by_adds (block_label_at toks s i facts) s f i facts

  either_counts : (b c : Bool) (m : ℕ) (facts x y : Facts) → total b t x ≤ total b t facts + m → total b t y ≤ total b t facts + m
      → total b t (if c then x else y) ≤ total b t facts + m
  either_counts b true m facts x y h k = h
  either_counts b false m facts x y h k = k

  fault_counts : (b : Bool) (i : ℕ) (facts : Facts) → total b t (with_fault true no_label i facts) ≤ total b t facts + hit t i
  fault_counts b i facts = total_adds b t (hit t i) facts (with_fault true no_label i facts) (record { names = omega arith; jumps = refl })

  jumped_by_counts : (b : Bool) (r : Option Declaration) (s : Sense) (i : ℕ) (facts : Facts) → total b t (jumped_by toks r s i facts) ≤ total b t facts + hit t i
  jumped_by_counts b None s i facts =
      either_counts b s.homeless (hit t i) facts (with_fault true no_label i facts) (with_jump i facts) (fault_counts b i facts) (jump_counts b t i facts)
  jumped_by_counts b (Some d) s i facts = total_adds b t (hit t i) facts (with_use i d.entity facts) (record { names = omega arith; jumps = refl })

  gnu_token_counts : (b : Bool) (s : Sense) (i : ℕ) (f : Frame) (facts : Facts) (r : GnuRole) → total b t (facts_by toks r s i f facts) ≤ total b t facts + gnu_hit r t i
  gnu_token_counts b s i f facts (Standard r) = token_counts toks t b i f facts r
  gnu_token_counts b s i f facts Name = total_adds b t (hit t i) facts _ (name_adds s.special f i facts)
  gnu_token_counts b s i f facts BlockLabel = total_adds b t (hit t i) facts _ (block_label_adds f.scope i facts)
  gnu_token_counts b s i f facts ALabel = total_adds b t (hit t i) facts _ (labelled_adds s f i facts)
  gnu_token_counts b s i f facts Jump = jumped_by_counts b (block_label_at toks s i facts) s i facts
  gnu_token_counts b s i f facts Address = jumped_by_counts b (block_label_at toks (away s f) i facts) (away s f) i facts
  gnu_token_counts b s i f facts Path = total_adds b t (hit t i) facts _ (path_adds f i facts)
  gnu_token_counts b s i f facts Brace = total_adds b t 0 facts (facts_by toks Brace s i f facts) (record { names = omega arith; jumps = refl })

  -- ---- A node

  gnu_after_adds : (p : Production) (first : ℕ) (f : Frame) (l : Label) (under : Forest) (child : Frame) (facts : Facts) → ghosts.eq p FunBody ≡ false
      → Adds t (hits t (gnu_told_name p f.label.production first l under)) facts (facts_ended toks p first f l under child facts)
  gnu_after_adds p first f l under child facts other = elim (auto_or p) [
    | inl same ↦
        subst (λ (q : Production). Adds t (hits t (gnu_told_name q f.label.production first l under)) facts (facts_ended toks q first f l under child facts)) (sym same)
        (declared_adds toks t f.scope (auto_declared f (auto_name under) (last_token under 0) child.found) facts)
    | inr no_auto_here ↦
        subst (λ (o : Option ℕ). Adds t (hits t o) facts (facts_ended toks p first f l under child facts)) (sym (other_told p f.label.production first l under no_auto_here))
        (subst (λ (new : Facts). Adds t (hits t (told_name p f.label.production first l under)) facts new) (sym (other_ended toks p first f l under child facts no_auto_here))
        (after_adds toks t p first f l under child.body facts other))
  ]

  gnu_body_ends : (p : Production) (first : ℕ) (f : Frame) (l : Label) (under : Forest) (child : Frame) (facts : Facts) → ghosts.eq p FunBody ≡ true
      → total false t (facts_ended toks p first f l under child facts) ≤ total true t facts
  gnu_body_ends p first f l under child facts same =
      subst (λ (new : Facts). total false t new ≤ total true t facts) (sym (other_ended toks p first f l under child facts (no_auto p same)))
      (body_ends toks t p first f l under child.body facts same)

  -- ---- The walk

  pub gnu_counted : (b : Bool) (f : Forest) (s : Sense) (u : State) → Inside b f → have_forms f ≡ true
      → total b t (walked toks s f u).facts ≤ total b t u.facts + gnu_noted t u.frame.label u.frame.nth f
  unfolding walked
  gnu_counted b none s u inside forms = omega arith
  gnu_counted b (token i rest) s u inside forms =
      let r : GnuRole = role_in u.frame.label.production u.frame.label.alternative u.frame.nth in
      omega (arith, gnu_token_counts b s i u.frame u.facts r, gnu_counted b rest s (read toks s i u) inside forms)
  gnu_counted b (node l first under rest) s u inside forms =
      let p : Production = l.production in
      let inner : Sense = sense_in toks p under u.frame s in
      let before : State = begun toks l first under inner u in
      let within : State = walked toks inner under before in
      let after : State = ended toks s l first under u within in
      let behind : total b t (walked toks s rest after).facts ≤ total b t after.facts + gnu_noted t u.frame.label (u.frame.nth + 1) rest =
      gnu_counted b rest s after (λ e. (or_parts (has_body under) (has_body rest) ((or_parts (is_node l FunBody) (has_body under || has_body rest) (inside e)).1)).1)
      (forms_behind p under rest forms) in
      elim (cases_Bool (ghosts.eq p FunBody)) [
        | inl same ↦
            let b_is : b ≡ false = outside_body b (is_node l FunBody) (has_body under || has_body rest) same inside in
            let below : total true t within.facts ≤ total true t before.facts + gnu_noted t l 0 under =
            gnu_counted true under inner before (λ _. body_holds_none p under same (form_here p under rest forms)) (forms_under p under rest forms) in
            let begins : total true t before.facts ≤ total false t u.facts = body_begins toks t p first under u.frame u.facts same in
            let ends : total false t after.facts ≤ total true t within.facts = gnu_body_ends p first u.frame l under within.frame within.facts same in
            omega (arith, behind, below, begins, subst (λ c. total c t after.facts ≤ total true t within.facts) (sym b_is) ends, ap (λ c. total c t u.facts) b_is)
        | inr other ↦
            let below : total b t within.facts ≤ total b t before.facts + gnu_noted t l 0 under =
            gnu_counted b under inner before (λ e. (or_parts (has_body under) (has_body rest) ((or_parts (is_node l FunBody) (has_body under || has_body rest) (inside e)).1)).0)
            (forms_under p under rest forms) in
            let begins : total b t before.facts ≤ total b t u.facts = before_counts toks t b p first under u.frame u.facts other in
            let ends : total b t after.facts ≤ total b t within.facts + hits t (gnu_told_name p u.frame.label.production first l under) =
            total_adds b t (hits t (gnu_told_name p u.frame.label.production first l under)) within.facts after.facts
            (gnu_after_adds p first u.frame l under within.frame within.facts other) in
            omega (arith, behind, below, begins, ends)
      ]
