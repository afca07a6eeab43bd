-- Each declaration of GNU C that has linkage is one of an ordinary identifier, and those of one spelling are one entity.
use Rattle.std.proofs.Common.{ℕ, ◌≡◌, Bool, true, false, ◌&&◌, ◌||◌, if◌then◌else◌, List, [], Option, None, Some, ◌⊎◌, inl, inr, refl, sym, subst, ◌∙◌}
use Rattle.std.specs.Prelude.{is_some}
use Rattle.std.specs.Str.{bytes_eq}
use Rattle.std.proofs.lemmas.Bool.{and_parts, false≢true}
use Rattle.cs_base.specs.Token.{Token}
use Rattle.c99_tree.specs.Tree.{Forest, none, token, node}
use Rattle.c99_tree.specs.declared.production.Label.{Label}
use Rattle.c99_tree.specs.declared.production.Production.{Production}
use Rattle.c99_tree.specs.declared.production.Production.TheVariants.{AutoDecl}
use Rattle.gnu_bind.specs.Below.c_types.Trees.{last_token}
use Rattle.gnu_bind.specs.Below.c_types.Declarations.{Facts, has_linkage, alike, is_named, is_in, with_fault, with_use, with_begun, with_declaration, spelling_at, visible, in_scope, linked}
use Rattle.gnu_bind.specs.Below.scope_bind.Below.name_chains.Frames.{State, state}
use Rattle.gnu_bind.specs.Below.scope_bind.Below.name_chains.Members.{member_used}
use Rattle.gnu_bind.specs.Below.scope_bind.Named.{Declaration, Frame, Scope, Role, no_label, redeclared, ordinary}
use Rattle.gnu_bind.specs.Below.scope_bind.declared.roles.Role.TheVariants.{Primary as APrimary, Member as AMember}
use Rattle.gnu_bind.specs.Below.scope_bind.Ordinary.{named_facts}
use Rattle.gnu_bind.specs.Below.scope_bind.Labels.{with_label, with_jump}
use Rattle.gnu_bind.specs.Below.scope_bind.Walk.{facts_after}
use Rattle.gnu_bind.specs.declared.senses.Special.{Special}
use Rattle.gnu_bind.specs.declared.senses.Sense.{Sense}
use Rattle.gnu_bind.specs.declared.roles.GnuRole.{GnuRole}
use Rattle.gnu_bind.specs.declared.roles.GnuRole.TheVariants.{Standard, Name, BlockLabel, Label as ALabel, Jump, Address, Path, Brace}
use Rattle.gnu_bind.specs.Words.{is_path_sign}
use Rattle.gnu_bind.specs.Roles.{role_in}
use Rattle.gnu_bind.specs.Senses.{sense_in, away}
use Rattle.gnu_bind.specs.Names.{names_function, is_word, implied_entity, implied_function, is_implied, implied, denoting}
use Rattle.gnu_bind.specs.BlockLabels.{block_labels, block_label, with_block_label, block_label_at, function_label, labelled_by, jumped_by}
use Rattle.gnu_bind.specs.Walk.{auto_name, auto_declared, facts_by, read, begun, facts_ended, ended, walked}
use Rattle.tree_laws.specs.RenamedNames.{is_own_word}
use Rattle.tree_laws.proofs.Lookups.{In, found_in, found_passes, none_passes}
use Rattle.tree_laws.proofs.Renaming.{Good, Kept, IsLinked, occurrence, fault_back, fault_goes, occurrence_back, declaration_back, kept_occurrence, kept_declaration, kept_silent, unlinked_ordinary, joins_unlinked}
use Rattle.tree_laws.proofs.RenamedNames.{relinked, declared_back, declared_kept}
use Rattle.tree_laws.proofs.RenamedMembers.{with_label_back, with_label_kept}
use Rattle.tree_laws.proofs.RenamedSteps.{entered_back, entered_kept, passed_back, passed_kept, left_back, left_kept}
use Rattle.gnu_tree_laws.proofs.GnuHeld.{auto_or, other_ended}

module _ (toks : List Token) where
  abbrev pub Clean : Facts → Type 0
  Clean facts = Good toks toks facts

  same_words : (word : List ℕ) (k : ℕ) → is_own_word word ≡ true → bytes_eq (spelling_at toks k) word ≡ bytes_eq (spelling_at toks k) word
  same_words word k h = refl

  -- ---- What is clean behind a step was so before it

  either_back : (c : Bool) (facts x : Facts) → (Clean x → Clean facts) → Clean (if c then facts else x) → Clean facts
  either_back true facts x back h = h
  either_back false facts x back h = back h

  homeless_back : (c : Bool) (i : ℕ) (facts x : Facts) → (Clean x → Clean facts) → Clean (if c then with_fault true no_label i facts else x) → Clean facts
  homeless_back true i facts x back h = absurd (false≢true (sym (fault_back toks toks true no_label i facts h)))
  homeless_back false i facts x back h = back h

  name_back : (f : Frame) (i : ℕ) (facts : Facts) → Clean (named_facts toks f i facts) → Clean facts
  name_back f i facts h = passed_back toks toks same_words APrimary i (state facts f) h

  implied_back : (scope : Scope) (i : ℕ) (facts : Facts) → Clean (implied toks scope i facts) → Clean facts
  implied_back scope i facts h =
      occurrence_back toks toks i (implied_entity i (linked toks i facts)) false facts (record { clean = h.clean; good = h.good; apart = h.apart })

  denoting_back : (f : Frame) (i : ℕ) (facts : Facts) → Clean (denoting toks f i facts) → Clean facts
  denoting_back f i facts = by (is_implied toks f i facts)
    where
      by : (c : Bool) → Clean (if c then implied toks f.scope i facts else named_facts toks f i facts) → Clean facts
      by true h = implied_back f.scope i facts h
      by false h = name_back f i facts h

  path_back : (f : Frame) (i : ℕ) (facts : Facts) → Clean (member_used toks f.found i facts) → Clean facts
  path_back f i facts h = passed_back toks toks same_words AMember i (state facts (record f { given = f.found })) h

  begun_back : (e : ℕ) (facts : Facts) → Clean (with_begun true e facts) → Clean facts
  begun_back e facts h = record { clean = h.clean; good = h.good; apart = h.apart }

  jump_back : (i : ℕ) (facts : Facts) → Clean (with_jump i facts) → Clean facts
  jump_back i facts h = record { clean = h.clean; good = h.good; apart = h.apart }

  labelled_back : (r : Option Declaration) (s : Sense) (f : Frame) (i : ℕ) (facts : Facts) → Clean (labelled_by toks r s f i facts) → Clean facts
  labelled_back None s f i facts h = homeless_back s.homeless i facts (with_label toks f.body i facts) (λ g. with_label_back toks toks f.body i facts g) h
  labelled_back (Some d) s f i facts h =
      let twice : Bool = is_in facts.begun d.entity in
      let before : Facts = with_fault twice redeclared i facts in
      fault_goes toks toks twice redeclared i facts
      (occurrence_back toks toks i d.entity false before (begun_back d.entity (with_use i d.entity before) h))

  jumped_back : (r : Option Declaration) (s : Sense) (i : ℕ) (facts : Facts) → Clean (jumped_by toks r s i facts) → Clean facts
  jumped_back None s i facts h = homeless_back s.homeless i facts (with_jump i facts) (λ g. jump_back i facts g) h
  jumped_back (Some d) s i facts h = occurrence_back toks toks i d.entity false facts h

  block_label_back : (scope : Scope) (i : ℕ) (facts : Facts) → Clean (with_block_label toks scope i facts) → Clean facts
  block_label_back scope i facts h =
      let twice : Bool = is_some (in_scope toks block_labels scope.depth i i facts) in
      fault_goes toks toks twice redeclared i facts (declaration_back toks toks (block_label scope i) (with_fault twice redeclared i facts) h)

  read_back : (r : GnuRole) (s : Sense) (i : ℕ) (f : Frame) (facts : Facts) → Clean (facts_by toks r s i f facts) → Clean facts
  read_back (Standard r) s i f facts h = passed_back toks toks same_words r i (state facts f) h
  read_back Name s i f facts h =
      either_back (names_function toks f i || is_word toks s.special i facts) facts (denoting toks f i facts) (λ g. denoting_back f i facts g) h
  read_back BlockLabel s i f facts h = block_label_back f.scope i facts h
  read_back ALabel s i f facts h = labelled_back (block_label_at toks s i facts) s f i facts h
  read_back Jump s i f facts h = jumped_back (block_label_at toks s i facts) s i facts h
  read_back Address s i f facts h = jumped_back (block_label_at toks (away s f) i facts) (away s f) i facts h
  read_back Path s i f facts h =
      either_back (is_path_sign (spelling_at toks i)) facts (member_used toks f.found i facts) (λ g. path_back f i facts g) h
  read_back Brace s i f facts h = record { clean = h.clean; good = h.good; apart = h.apart }

  ended_back : (l : Label) (first : ℕ) (under : Forest) (t t' : State) → Clean (facts_ended toks l.production first t.frame l under t'.frame t'.facts) → Clean t'.facts
  ended_back l first under t t' h = elim (auto_or l.production) [
    | inl same ↦
        declared_back toks toks t.frame.scope (auto_declared t.frame (auto_name under) (last_token under 0) t'.frame.found) t'.facts
        (subst (λ (p : Production). Clean (facts_ended toks p first t.frame l under t'.frame t'.facts)) same h)
    | inr other ↦
        left_back toks toks same_words l first under t t'
        (subst (λ (new : Facts). Clean new) (other_ended toks l.production first t.frame l under t'.frame t'.facts other) h)
  ]

  pub walked_back : (f : Forest) (s : Sense) (t : State) → Clean (walked toks s f t).facts → Clean t.facts
  unfolding walked
  walked_back none s t h = h
  walked_back (token i rest) s t h =
      read_back (role_in t.frame.label.production t.frame.label.alternative t.frame.nth) s i t.frame t.facts (walked_back rest s (read toks s i t) h)
  walked_back (node l first under rest) s t h =
      let below : Sense = sense_in toks l.production under t.frame s in
      let before : State = begun toks l first under below t in
      let inside : State = walked toks below under before in
      entered_back toks toks same_words l first under t
      (walked_back under below before (ended_back l first under t inside (walked_back rest s (ended toks s l first under t inside) h)))

  -- ---- What is kept before a step is kept behind it

  fault_kept : (c : Bool) (i : ℕ) (facts : Facts) → Kept toks facts → Kept toks (with_fault c redeclared i facts)
  fault_kept true i facts k = record { covered = k.covered; linked = k.linked; one = k.one }
  fault_kept false i facts k = k

  either_kept : (c : Bool) (facts x : Facts) → Kept toks facts → (Clean x → Kept toks x) → Clean (if c then facts else x) → Kept toks (if c then facts else x)
  either_kept true facts x k go h = k
  either_kept false facts x k go h = go h

  homeless_kept : (c : Bool) (i : ℕ) (facts x : Facts) → Kept toks facts → (Clean x → Kept toks x) → Clean (if c then with_fault true no_label i facts else x)
      → Kept toks (if c then with_fault true no_label i facts else x)
  homeless_kept true i facts x k go h = record { covered = k.covered; linked = k.linked; one = k.one }
  homeless_kept false i facts x k go h = go h

  labelled_kept : (r : Option Declaration) (s : Sense) (f : Frame) (i : ℕ) (facts : Facts) → Kept toks facts → Clean (labelled_by toks r s f i facts)
      → Kept toks (labelled_by toks r s f i facts)
  labelled_kept None s f i facts k h =
      homeless_kept s.homeless i facts (with_label toks f.body i facts) k (λ g. with_label_kept toks toks f.body i facts k g) h
  labelled_kept (Some d) s f i facts k h =
      let twice : Bool = is_in facts.begun d.entity in
      let before : Facts = with_fault twice redeclared i facts in
      let used : Kept toks (with_use i d.entity before) = kept_occurrence toks i d.entity false before (fault_kept twice i facts k) in
      record { covered = used.covered; linked = used.linked; one = used.one }

  jumped_kept : (r : Option Declaration) (s : Sense) (i : ℕ) (facts : Facts) → Kept toks facts → Clean (jumped_by toks r s i facts) → Kept toks (jumped_by toks r s i facts)
  jumped_kept None s i facts k h =
      homeless_kept s.homeless i facts (with_jump i facts) k (λ g. record { covered = k.covered; linked = k.linked; one = k.one }) h
  jumped_kept (Some d) s i facts k h = kept_occurrence toks i d.entity false facts k

  block_label_kept : (scope : Scope) (i : ℕ) (facts : Facts) → Kept toks facts → Kept toks (with_block_label toks scope i facts)
  block_label_kept scope i facts k =
      let twice : Bool = is_some (in_scope toks block_labels scope.depth i i facts) in
      let before : Facts = with_fault twice redeclared i facts in
      kept_declaration toks (block_label scope i) before (fault_kept twice i facts k) (unlinked_ordinary (block_label scope i) refl)
      (joins_unlinked toks (block_label scope i) before refl)

  -- the function is of the entity of each declaration of its spelling that has linkage
  implied_joins : (i : ℕ) (facts : Facts) → Kept toks facts → (r : Option Declaration) → linked toks i facts ≡ r → (e : Declaration)
      → In e facts.declared → IsLinked toks i e → implied_entity i r ≡ e.entity
  implied_joins i facts k None found e within l =
      absurd (false≢true (sym (none_passes (λ d. is_named toks ordinary i d && has_linkage d.linkage) facts.declared e found within) ∙ l))
  implied_joins i facts k (Some d) found e within l =
      let passes : Declaration → Bool = λ d. is_named toks ordinary i d && has_linkage d.linkage in
      k.one i d e (found_in passes facts.declared d found) within (found_passes passes facts.declared d found) l

  implied_kept : (scope : Scope) (i : ℕ) (facts : Facts) → Kept toks facts → Kept toks (implied toks scope i facts)
  implied_kept scope i facts k =
      let link : Option Declaration = linked toks i facts in
      let e : ℕ = implied_entity i link in
      kept_silent toks (implied_function scope i e) (with_use i e facts) (kept_occurrence toks i e false facts k) (λ _. inr (inl refl)) (λ _. refl)
      (λ j d within l m. implied_joins i facts k link refl d within (relinked toks j i d ((and_parts (alike toks j i) true l).0) m))

  denoting_kept : (f : Frame) (i : ℕ) (facts : Facts) → Kept toks facts → Clean (denoting toks f i facts) → Kept toks (denoting toks f i facts)
  denoting_kept f i facts k = by (is_implied toks f i facts)
    where
      by : (c : Bool) → Clean (if c then implied toks f.scope i facts else named_facts toks f i facts)
          → Kept toks (if c then implied toks f.scope i facts else named_facts toks f i facts)
      by true h = implied_kept f.scope i facts k
      by false h = passed_kept toks toks same_words APrimary i (state facts f) k h

  read_kept : (r : GnuRole) (s : Sense) (i : ℕ) (f : Frame) (facts : Facts) → Kept toks facts → Clean (facts_by toks r s i f facts) → Kept toks (facts_by toks r s i f facts)
  read_kept (Standard r) s i f facts k h = passed_kept toks toks same_words r i (state facts f) k h
  read_kept Name s i f facts k h =
      either_kept (names_function toks f i || is_word toks s.special i facts) facts (denoting toks f i facts) k (λ g. denoting_kept f i facts k g) h
  read_kept BlockLabel s i f facts k h = block_label_kept f.scope i facts k
  read_kept ALabel s i f facts k h = labelled_kept (block_label_at toks s i facts) s f i facts k h
  read_kept Jump s i f facts k h = jumped_kept (block_label_at toks s i facts) s i facts k h
  read_kept Address s i f facts k h = jumped_kept (block_label_at toks (away s f) i facts) (away s f) i facts k h
  read_kept Path s i f facts k h =
      either_kept (is_path_sign (spelling_at toks i)) facts (member_used toks f.found i facts) k
      (λ g. passed_kept toks toks same_words AMember i (state facts (record f { given = f.found })) k g) h
  read_kept Brace s i f facts k h = record { covered = k.covered; linked = k.linked; one = k.one }

  ended_kept : (l : Label) (first : ℕ) (under : Forest) (t t' : State) → Kept toks t'.facts → Clean (facts_ended toks l.production first t.frame l under t'.frame t'.facts)
      → Kept toks (facts_ended toks l.production first t.frame l under t'.frame t'.facts)
  ended_kept l first under t t' k h = elim (auto_or l.production) [
    | inl same ↦
        subst (λ (p : Production). Kept toks (facts_ended toks p first t.frame l under t'.frame t'.facts)) (sym same)
        (declared_kept toks toks t.frame.scope (auto_declared t.frame (auto_name under) (last_token under 0) t'.frame.found) t'.facts k
        (subst (λ (p : Production). Clean (facts_ended toks p first t.frame l under t'.frame t'.facts)) same h))
    | inr other ↦
        let e = other_ended toks l.production first t.frame l under t'.frame t'.facts other in
        subst (λ (new : Facts). Kept toks new) (sym e)
        (left_kept toks toks same_words l first under t t' k (subst (λ (new : Facts). Clean new) e h))
  ]

  pub walked_kept : (f : Forest) (s : Sense) (t : State) → Kept toks t.facts → Clean (walked toks s f t).facts → Kept toks (walked toks s f t).facts
  unfolding walked
  walked_kept none s t k h = k
  walked_kept (token i rest) s t k h =
      let next : State = read toks s i t in
      walked_kept rest s next
      (read_kept (role_in t.frame.label.production t.frame.label.alternative t.frame.nth) s i t.frame t.facts k (walked_back rest s next h)) h
  walked_kept (node l first under rest) s t k h =
      let below : Sense = sense_in toks l.production under t.frame s in
      let before : State = begun toks l first under below t in
      let inside : State = walked toks below under before in
      let after : State = ended toks s l first under t inside in
      let g : Clean after.facts = walked_back rest s after h in
      let inner : Kept toks inside.facts =
      walked_kept under below before (entered_kept toks toks same_words l first under t k) (ended_back l first under t inside g) in
      walked_kept rest s after (ended_kept l first under t inside inner g) h
