-- Tags, members and labels under a renaming.
use Rattle.std.proofs.Common.{ℕ, ◌≡◌, Bool, true, false, not, if◌then◌else◌, List, [], ◌∷◌, Option, None, Some, inl, inr, refl, sym, ap, subst, ◌∙◌}
use Rattle.std.specs.Prelude.{IfSome, is_some, filter}
use Rattle.std.specs.List.{All}
use Rattle.std.proofs.lemmas.List.Elements.{All-head, All-tail}
use Rattle.std.specs.Option.{option_map_or}
use Rattle.std.proofs.lemmas.Bool.{false_from_ne_true, not-false, false≢true}
use Rattle.cs_base.specs.Token.{Token}
use Rattle.cs_base.proofs.BoolLemmas.{if_is as if_true}
use Rattle.c99_tree.specs.Tree.{Forest}
use Rattle.scope_bind.specs.Named.{Space, Declaration, Body, Frame, undeclared, no_member, no_label, redeclared, tag_redefined, designator_after_elision, tags, members, labels}
use Rattle.c_types.specs.declared.entity.Linkage.TheVariants.{Absent}
use Rattle.c_types.specs.Types.{CType}
use Rattle.c_types.specs.Trees.{last_token, declarator_type}
use Rattle.c_types.specs.Declarations.{Facts, with_fault, with_use, with_declaration, with_begun, has_linkage, alike, visible, anywhere, is_live}
use Rattle.c_types.specs.Tags.{number_in, renumbered, is_same_tag, tag_entity, is_declaring, tag_declaration, tag_named, is_prior_tag, with_tag_after, prior_tag, with_tag, tag_type, is_complete, is_sort, enumeration_used}
use Rattle.name_chains.specs.Members.{member_declaration, is_found_in, lifted, found_of, unnamed_declaration, with_silent, with_lifted, with_anonymous, is_known, with_member, member_at, member_used_as, member_used}
use Rattle.scope_bind.specs.Labels.{label_declaration, with_label, jump_to, with_jumps, with_labels}
use Rattle.tree_laws.proofs.Unnamed.{found_named, member_apart}
use Rattle.tree_laws.proofs.Lookups.{In}
use Rattle.tree_laws.proofs.InLists.{In as AnElement, all_reversed, all_filtered}
use Rattle.tree_laws.proofs.Renaming.{IsNoted, Good, Kept, kept_silent, fault_back, fault_goes, fault_none, occurrence_back, occurrence_good, declaration_back, declaration_good, kept_declaration, kept_occurrence, joins_unlinked, unlinked_ordinary, found_again}

no_some : {X : Type 0} (P : X → Type 0) (r : Option X) → is_some r ≡ false → IfSome r P
no_some P None e = tt
no_some P (Some x) e = absurd (false≢true (sym e))

-- an element by either word
turned : {X : Type 0} (x : X) (xs : List X) → AnElement x xs → In x xs
turned x [] w = w
turned x (y ∷ xs) (inl e) = inl e
turned x (y ∷ xs) (inr w) = inr (turned x xs w)

module _ (a b : List Token) where
  -- ---- Tags

  begun_back : (c : Bool) (e : ℕ) (facts : Facts) → Good a b (with_begun c e facts) → Good a b facts
  begun_back true e facts h = record { clean = h.clean; good = h.good; apart = h.apart }
  begun_back false e facts h = h

  kept_begun : (c : Bool) (e : ℕ) (facts : Facts) → Kept a facts → Kept a (with_begun c e facts)
  kept_begun true e facts k = record { covered = k.covered; linked = k.linked; one = k.one }
  kept_begun false e facts k = k

  module _ (f : Frame) (i : ℕ) (facts : Facts) where
    abbrev tag_new : ℕ → Declaration
    tag_new e = tag_declaration f.scope i e (renumbered f.found e)

    named_back : (declares : Bool) (e u : ℕ)
        → Good a b (if declares then with_begun f.has_body e (with_declaration (tag_new e) facts) else with_use i u facts) → Good a b facts
    named_back true e u h = declaration_back a b (tag_new e) facts (begun_back f.has_body e _ h)
    named_back false e u h = occurrence_back a b i u false facts h

    named_good : (declares : Bool) (e u : ℕ)
        → Good a b (if declares then with_begun f.has_body e (with_declaration (tag_new e) facts) else with_use i u facts)
        → alike b i (if declares then e else u) ≡ true
    named_good true e u h = declaration_good a b (tag_new e) facts (begun_back f.has_body e _ h)
    named_good false e u h = occurrence_good a b i u false facts h

    named_kept : (declares : Bool) (e u : ℕ) → Kept a facts
        → Kept a (if declares then with_begun f.has_body e (with_declaration (tag_new e) facts) else with_use i u facts)
    named_kept true e u k = kept_begun f.has_body e _ (kept_declaration a (tag_new e) facts k (unlinked_ordinary (tag_new e) refl) (joins_unlinked a (tag_new e) facts refl))
    named_kept false e u k = kept_occurrence a i u false facts k

    same_either : (c : Bool) (x y : ℕ) → x ≡ y → (if c then x else y) ≡ y
    same_either true x y e = e
    same_either false x y e = refl

    -- a fault stands where the tag is of another type
    redefined : Option Declaration → Bool
    redefined r = option_map_or (λ d. not (is_same_tag f facts d)) r false

    tag_back : (r : Option Declaration) → Good a b (with_tag_after f i r facts) → Good a b facts
    tag_back r h =
        named_back (is_declaring f r) (tag_entity f i facts r) (option_map_or (λ d. d.entity) r i)
        (fault_goes a b (option_map_or (λ d. not (is_same_tag f facts d)) r false) tag_redefined i _ h)

    tag_alike : (r : Option Declaration) → Good a b (with_tag_after f i r facts) → IfSome r (λ d. alike b i d.entity ≡ true)
    tag_alike None h = tt
    tag_alike (Some d) h =
        let same : is_same_tag f facts d ≡ true =
        not-false (is_same_tag f facts d) (fault_back a b (not (is_same_tag f facts d)) tag_redefined i _ h) in
        let inner : Good a b (tag_named f i (Some d) (tag_entity f i facts (Some d)) facts) =
        fault_goes a b (not (is_same_tag f facts d)) tag_redefined i _ h in
        subst (λ e. alike b i e ≡ true)
        (same_either (is_declaring f (Some d)) (tag_entity f i facts (Some d)) d.entity (if_true (is_same_tag f facts d) d.entity i same))
        (named_good (is_declaring f (Some d)) (tag_entity f i facts (Some d)) d.entity inner)

    tag_kept : (r : Option Declaration) → Kept a facts → Good a b (with_tag_after f i r facts) → Kept a (with_tag_after f i r facts)
    tag_kept r k h =
        subst (Kept a)
        (sym (fault_none (option_map_or (λ d. not (is_same_tag f facts d)) r false) tag_redefined i _
        (fault_back a b (option_map_or (λ d. not (is_same_tag f facts d)) r false) tag_redefined i _ h)))
        (named_kept (is_declaring f r) (tag_entity f i facts r) (option_map_or (λ d. d.entity) r i) k)

    pub with_tag_back : Good a b (with_tag a f i facts) → Good a b facts
    with_tag_back h = tag_back (prior_tag a f i facts) h

    pub with_tag_kept : Kept a facts → Good a b (with_tag a f i facts) → Kept a (with_tag a f i facts)
    with_tag_kept k h = tag_kept (prior_tag a f i facts) k h

    pub prior_tag_same : Kept a facts → Good a b (with_tag a f i facts) → prior_tag b f i facts ≡ prior_tag a f i facts
    prior_tag_same k h = found_again a b facts k (with_tag_back h) tags i (is_prior_tag f i) (tag_alike (prior_tag a f i facts) h)

    -- ---- Enumerations without a list

    enumeration_back : (r : Option Declaration) → Good a b (enumeration_used f i r facts) → Good a b facts
    enumeration_back None h = fault_goes a b true undeclared i facts h
    enumeration_back (Some d) h =
        fault_goes a b (not (is_sort d.ctype f.found)) tag_redefined i facts
        (fault_goes a b (not (is_complete facts d)) undeclared i _ (occurrence_back a b i d.entity false _ h))

    enumeration_alike : (r : Option Declaration) → Good a b (enumeration_used f i r facts) → IfSome r (λ d. alike b i d.entity ≡ true)
    enumeration_alike None h = tt
    enumeration_alike (Some d) h = occurrence_good a b i d.entity false _ h

    enumeration_kept : (r : Option Declaration) → Kept a facts → Good a b (enumeration_used f i r facts) → Kept a (enumeration_used f i r facts)
    enumeration_kept None k h = absurd (false≢true (sym (fault_back a b true undeclared i facts h)))
    enumeration_kept (Some d) k h =
        let outer : Good a b (with_fault (not (is_complete facts d)) undeclared i (with_fault (not (is_sort d.ctype f.found)) tag_redefined i facts)) =
        occurrence_back a b i d.entity false _ h in
        let inner : Good a b (with_fault (not (is_sort d.ctype f.found)) tag_redefined i facts) =
        fault_goes a b (not (is_complete facts d)) undeclared i _ outer in
        subst (λ x. Kept a (with_use i d.entity x))
        (sym (fault_none (not (is_complete facts d)) undeclared i _ (fault_back a b (not (is_complete facts d)) undeclared i _ outer)
        ∙ fault_none (not (is_sort d.ctype f.found)) tag_redefined i facts (fault_back a b (not (is_sort d.ctype f.found)) tag_redefined i facts inner)))
        (kept_occurrence a i d.entity false facts k)

    pub either_back : (c : Bool) → Good a b (if c then with_tag a f i facts else enumeration_used f i (visible a tags i i facts) facts) → Good a b facts
    either_back true h = with_tag_back h
    either_back false h = enumeration_back (visible a tags i i facts) h

    pub either_kept : (c : Bool) → Kept a facts → Good a b (if c then with_tag a f i facts else enumeration_used f i (visible a tags i i facts) facts)
        → Kept a (if c then with_tag a f i facts else enumeration_used f i (visible a tags i i facts) facts)
    either_kept true k h = with_tag_kept k h
    either_kept false k h = enumeration_kept (visible a tags i i facts) k h

    pub either_same : (c : Bool) → Kept a facts → Good a b (if c then with_tag a f i facts else enumeration_used f i (visible a tags i i facts) facts)
        → (if c then with_tag b f i facts else enumeration_used f i (visible b tags i i facts) facts)
        ≡ (if c then with_tag a f i facts else enumeration_used f i (visible a tags i i facts) facts)
    either_same true k h = ap (λ r. with_tag_after f i r facts) (prior_tag_same k h)
    either_same false k h =
        ap (λ r. enumeration_used f i r facts)
        (found_again a b facts k (enumeration_back (visible a tags i i facts) h) tags i (is_live i) (enumeration_alike (visible a tags i i facts) h))

    pub either_type : (c : Bool) → Kept a facts → Good a b (if c then with_tag a f i facts else enumeration_used f i (visible a tags i i facts) facts)
        → (if c then tag_type b f i facts else f.found) ≡ (if c then tag_type a f i facts else f.found)
    either_type true k h = ap (λ r. renumbered f.found (tag_entity f i facts r)) (prior_tag_same k h)
    either_type false k h = refl

  -- ---- A name that is declared once: members and labels

  module _ (space : Space) (i : ℕ) (d : Declaration) (facts : Facts) where
    abbrev twice : Bool
    twice = is_some (anywhere a space i facts)

    pub once_back : Good a b (with_declaration d (with_fault twice redeclared i facts)) → Good a b facts
    once_back h = fault_goes a b twice redeclared i facts (declaration_back a b d _ h)

    once_none : Good a b (with_declaration d (with_fault twice redeclared i facts)) → twice ≡ false
    once_none h = fault_back a b twice redeclared i facts (declaration_back a b d _ h)

    pub once_kept : d.linkage ≡ Absent → Kept a facts → Good a b (with_declaration d (with_fault twice redeclared i facts))
        → Kept a (with_declaration d (with_fault twice redeclared i facts))
    once_kept e k h =
        subst (λ x. Kept a (with_declaration d x)) (sym (fault_none twice redeclared i facts (once_none h)))
        (kept_declaration a d facts k (unlinked_ordinary d (ap has_linkage e)) (joins_unlinked a d facts (ap has_linkage e)))

    pub once_same : Kept a facts → Good a b (with_declaration d (with_fault twice redeclared i facts))
        → with_declaration d (with_fault (is_some (anywhere b space i facts)) redeclared i facts) ≡ with_declaration d (with_fault twice redeclared i facts)
    once_same k h =
        ap (λ r. with_declaration d (with_fault (is_some r) redeclared i facts))
        (found_again a b facts k (once_back h) space i (λ x. true)
        (no_some (λ x. alike b i x.entity ≡ true) (anywhere a space i facts) (once_none h)))

  -- ---- Members

  member_back : (i : ℕ) (r : Option Declaration) (facts : Facts) → Good a b (member_used_as a i r facts) → Good a b facts
  member_back i None facts h = fault_goes a b true no_member i facts h
  member_back i (Some d) facts h = occurrence_back a b i d.entity false facts h

  member_alike : (i : ℕ) (r : Option Declaration) (facts : Facts) → Good a b (member_used_as a i r facts) → IfSome r (λ d. alike b i d.entity ≡ true)
  member_alike i None facts h = tt
  member_alike i (Some d) facts h = occurrence_good a b i d.entity false facts h

  member_kept : (i : ℕ) (r : Option Declaration) (facts : Facts) → Kept a facts → Good a b (member_used_as a i r facts) → Kept a (member_used_as a i r facts)
  member_kept i None facts k h = absurd (false≢true (sym (fault_back a b true no_member i facts h)))
  member_kept i (Some d) facts k h = kept_occurrence a i d.entity false facts k

  at_same : (c : Bool) (space : Space) (i : ℕ) (facts : Facts) → Kept a facts → Good a b facts
      → IfSome (if c then anywhere a space i facts else None) (λ d. alike b i d.entity ≡ true)
      → (if c then anywhere b space i facts else None) ≡ (if c then anywhere a space i facts else None)
  at_same true space i facts k g h = found_again a b facts k g space i (λ x. true) h
  at_same false space i facts k g h = refl

  module _ (t : CType) (i : ℕ) (facts : Facts) where
    pub member_used_back : Good a b (member_used a t i facts) → Good a b facts
    member_used_back h = member_back i (member_at a t i facts) facts h

    pub member_used_kept : Kept a facts → Good a b (member_used a t i facts) → Kept a (member_used a t i facts)
    member_used_kept k h = member_kept i (member_at a t i facts) facts k h

    pub member_at_same : Kept a facts → Good a b (member_used a t i facts) → member_at b t i facts ≡ member_at a t i facts
    member_at_same k h =
        at_same (is_known t facts) (members (number_in t)) i facts k (member_used_back h) (member_alike i (member_at a t i facts) facts h)

    pub designated_back : (c : Bool) → Good a b (if c then with_fault true designator_after_elision i facts else member_used a t i facts) → Good a b facts
    designated_back true h = fault_goes a b true designator_after_elision i facts h
    designated_back false h = member_used_back h

    pub designated_kept : (c : Bool) → Kept a facts → Good a b (if c then with_fault true designator_after_elision i facts else member_used a t i facts)
        → Kept a (if c then with_fault true designator_after_elision i facts else member_used a t i facts)
    designated_kept true k h = absurd (false≢true (sym (fault_back a b true designator_after_elision i facts h)))
    designated_kept false k h = member_used_kept k h

    pub designated_same : (c : Bool) → Kept a facts → Good a b (if c then with_fault true designator_after_elision i facts else member_used a t i facts)
        → member_at b t i facts ≡ member_at a t i facts
    designated_same true k h = absurd (false≢true (sym (fault_back a b true designator_after_elision i facts h)))
    designated_same false k h = member_at_same k h

  pub with_member_back : (f : Frame) (under : Forest) (name : Option ℕ) (facts : Facts) → Good a b (with_member a f under name facts) → Good a b facts
  with_member_back f under None facts h = h
  with_member_back f under (Some i) facts h =
      once_back (members f.owner) i (member_declaration f i (last_token under i) (declarator_type f.base under)) facts h

  pub with_member_kept : (f : Frame) (under : Forest) (name : Option ℕ) (facts : Facts) → Kept a facts → Good a b (with_member a f under name facts)
      → Kept a (with_member a f under name facts)
  with_member_kept f under None facts k h = k
  with_member_kept f under (Some i) facts k h =
      once_kept (members f.owner) i (member_declaration f i (last_token under i) (declarator_type f.base under)) facts refl k h

  pub with_member_same : (f : Frame) (under : Forest) (name : Option ℕ) (facts : Facts) → Kept a facts → Good a b (with_member a f under name facts)
      → with_member b f under name facts ≡ with_member a f under name facts
  with_member_same f under None facts k h = refl
  with_member_same f under (Some i) facts k h =
      once_same (members f.owner) i (member_declaration f i (last_token under i) (declarator_type f.base under)) facts k h

  -- ---- Anonymous members

  -- these are names of what is declared already, and have no linkage
  abbrev Covered : Facts → Declaration → Type 0
  Covered facts d = IsNoted d facts.occurrences × (has_linkage d.linkage ≡ false)

  module _ (owner : ℕ) where
    abbrev again : Declaration → Facts → Bool
    again d facts = is_some (anywhere a (members owner) d.name_at facts)

    abbrev faulted : Declaration → Facts → Facts
    faulted d facts = with_fault (again d facts) redeclared d.name_at facts

    abbrev next : Declaration → Facts → Facts
    next d facts = with_silent (lifted owner d) (faulted d facts)

    lifted_back : (ds : List Declaration) (facts : Facts) → Good a b (with_lifted a owner ds facts) → Good a b facts
    lifted_back [] facts h = h
    lifted_back (d ∷ later) facts h =
        let g : Good a b (next d facts) = lifted_back later (next d facts) h in
        fault_goes a b (again d facts) redeclared d.name_at facts (record { clean = g.clean; good = g.good; apart = g.apart })

    once : (d : Declaration) (later : List Declaration) (facts : Facts) → Good a b (with_lifted a owner later (next d facts)) → again d facts ≡ false
    once d later facts h =
        let g : Good a b (next d facts) = lifted_back later (next d facts) h in
        fault_back a b (again d facts) redeclared d.name_at facts (record { clean = g.clean; good = g.good; apart = g.apart })

    covered_still : (c : Bool) (d : Declaration) (later : List Declaration) (facts : Facts) → All (Covered facts) later
        → All (Covered (with_fault c redeclared d.name_at facts)) later
    covered_still true d later facts all = all
    covered_still false d later facts all = all

    next_kept : (d : Declaration) (later : List Declaration) (facts : Facts) → Covered facts d → Kept a facts → Good a b (with_lifted a owner later (next d facts))
        → Kept a (next d facts)
    next_kept d later facts w k h =
        subst (λ x. Kept a (with_silent (lifted owner d) x)) (sym (fault_none (again d facts) redeclared d.name_at facts (once d later facts h)))
        (kept_silent a (lifted owner d) facts k (λ u. w.0) (unlinked_ordinary (lifted owner d) w.1) (λ i e v l m. absurd (false≢true l)))

    lifted_kept : (ds : List Declaration) (facts : Facts) → All (Covered facts) ds → Kept a facts → Good a b (with_lifted a owner ds facts)
        → Kept a (with_lifted a owner ds facts)
    lifted_kept [] facts all k h = k
    lifted_kept (d ∷ later) facts all k h =
        lifted_kept later (next d facts) (covered_still (again d facts) d later facts (All-tail (Covered facts) d later all))
        (next_kept d later facts (All-head (Covered facts) d later all) k h) h

    lifted_same : (ds : List Declaration) (facts : Facts) → All (Covered facts) ds → Kept a facts → Good a b (with_lifted a owner ds facts)
        → with_lifted b owner ds facts ≡ with_lifted a owner ds facts
    lifted_same [] facts all k h = refl
    lifted_same (d ∷ later) facts all k h =
        let none : again d facts ≡ false = once d later facts h in
        ap (λ r. with_lifted b owner later (with_silent (lifted owner d) (with_fault (is_some r) redeclared d.name_at facts)))
        (found_again a b facts k (lifted_back (d ∷ later) facts h) (members owner) d.name_at (λ x. true)
        (no_some (λ x. alike b d.name_at x.entity ≡ true) (anywhere a (members owner) d.name_at facts) none))
        ∙ lifted_same later (next d facts) (covered_still (again d facts) d later facts (All-tail (Covered facts) d later all))
        (next_kept d later facts (All-head (Covered facts) d later all) k h) h

  member_unlinked : (number : ℕ) (facts : Facts) (d : Declaration) → Kept a facts → In d facts.declared → is_found_in number d ≡ true
      → has_linkage d.linkage ≡ false
  member_unlinked number facts d k w p =
      false_from_ne_true (has_linkage d.linkage) (λ links. false≢true (sym (member_apart d.space number p) ∙ k.linked d w links))

  found_covered : (number : ℕ) (facts : Facts) → Kept a facts → All (Covered facts) (found_of number facts)
  found_covered number facts k =
      all_reversed (Covered facts) (filter (is_found_in number) facts.declared)
      (all_filtered (Covered facts) (is_found_in number) facts.declared
      (λ d w p. (
        k.covered d (turned d facts.declared w) (found_named d.space (members number) p),
        member_unlinked number facts d k (turned d facts.declared w) p,
      )))

  module _ (f : Frame) (i : ℕ) (facts : Facts) where
    abbrev all : List Declaration
    all = found_of (number_in f.base) facts

    anonymous_case_back : (c : Bool) → Good a b (if c then with_silent (unnamed_declaration f i) (with_lifted a f.owner all facts) else facts) → Good a b facts
    anonymous_case_back true h = lifted_back f.owner all facts (record { clean = h.clean; good = h.good; apart = h.apart })
    anonymous_case_back false h = h

    anonymous_case_kept : (c : Bool) → Kept a facts → Good a b (if c then with_silent (unnamed_declaration f i) (with_lifted a f.owner all facts) else facts)
        → Kept a (if c then with_silent (unnamed_declaration f i) (with_lifted a f.owner all facts) else facts)
    anonymous_case_kept true k h =
        kept_silent a (unnamed_declaration f i) (with_lifted a f.owner all facts)
        (lifted_kept f.owner all facts (found_covered (number_in f.base) facts k) k (record { clean = h.clean; good = h.good; apart = h.apart }))
        (λ u. absurd (false≢true (sym u))) (unlinked_ordinary (unnamed_declaration f i) refl) (λ j e v l m. absurd (false≢true l))
    anonymous_case_kept false k h = k

    anonymous_case_same : (c : Bool) → Kept a facts → Good a b (if c then with_silent (unnamed_declaration f i) (with_lifted a f.owner all facts) else facts)
        → (if c then with_silent (unnamed_declaration f i) (with_lifted b f.owner all facts) else facts)
        ≡ (if c then with_silent (unnamed_declaration f i) (with_lifted a f.owner all facts) else facts)
    anonymous_case_same true k h =
        ap (with_silent (unnamed_declaration f i))
        (lifted_same f.owner all facts (found_covered (number_in f.base) facts k) k (record { clean = h.clean; good = h.good; apart = h.apart }))
    anonymous_case_same false k h = refl

    -- a semicolon alone, or members
    pub closed_back : (c : Bool) → Good a b (if c then with_anonymous a f i facts else facts) → Good a b facts
    closed_back true h = anonymous_case_back f.words.anonymous h
    closed_back false h = h

    pub closed_kept : (c : Bool) → Kept a facts → Good a b (if c then with_anonymous a f i facts else facts) → Kept a (if c then with_anonymous a f i facts else facts)
    closed_kept true k h = anonymous_case_kept f.words.anonymous k h
    closed_kept false k h = k

    pub closed_same : (c : Bool) → Kept a facts → Good a b (if c then with_anonymous a f i facts else facts)
        → (if c then with_anonymous b f i facts else facts) ≡ (if c then with_anonymous a f i facts else facts)
    closed_same true k h = anonymous_case_same f.words.anonymous k h
    closed_same false k h = refl

  -- ---- Labels

  pub with_label_back : (body : Option Body) (i : ℕ) (facts : Facts) → Good a b (with_label a body i facts) → Good a b facts
  with_label_back None i facts h = h
  with_label_back (Some w) i facts h = once_back (labels w.from) i (label_declaration w i) facts h

  pub with_label_kept : (body : Option Body) (i : ℕ) (facts : Facts) → Kept a facts → Good a b (with_label a body i facts) → Kept a (with_label a body i facts)
  with_label_kept None i facts k h = k
  with_label_kept (Some w) i facts k h = once_kept (labels w.from) i (label_declaration w i) facts refl k h

  pub with_label_same : (body : Option Body) (i : ℕ) (facts : Facts) → Kept a facts → Good a b (with_label a body i facts)
      → with_label b body i facts ≡ with_label a body i facts
  with_label_same None i facts k h = refl
  with_label_same (Some w) i facts k h = once_same (labels w.from) i (label_declaration w i) facts k h

  jump_back : (i : ℕ) (r : Option Declaration) (facts : Facts) → Good a b (jump_to a i r facts) → Good a b facts
  jump_back i None facts h = fault_goes a b true no_label i facts h
  jump_back i (Some d) facts h = occurrence_back a b i d.entity false facts h

  jump_alike : (i : ℕ) (r : Option Declaration) (facts : Facts) → Good a b (jump_to a i r facts) → IfSome r (λ d. alike b i d.entity ≡ true)
  jump_alike i None facts h = tt
  jump_alike i (Some d) facts h = occurrence_good a b i d.entity false facts h

  jump_kept : (i : ℕ) (r : Option Declaration) (facts : Facts) → Kept a facts → Good a b (jump_to a i r facts) → Kept a (jump_to a i r facts)
  jump_kept i None facts k h = absurd (false≢true (sym (fault_back a b true no_label i facts h)))
  jump_kept i (Some d) facts k h = kept_occurrence a i d.entity false facts k

  module _ (w : Body) where
    abbrev one_jump : List Token → ℕ → Facts → Facts
    one_jump toks i facts = jump_to toks i (anywhere toks (labels w.from) i facts) facts

    jumps_back : (jumps : List ℕ) (facts : Facts) → Good a b (with_jumps a w jumps facts) → Good a b facts
    jumps_back [] facts h = h
    jumps_back (i ∷ more) facts h = jump_back i (anywhere a (labels w.from) i facts) facts (jumps_back more (one_jump a i facts) h)

    jumps_kept : (jumps : List ℕ) (facts : Facts) → Kept a facts → Good a b (with_jumps a w jumps facts) → Kept a (with_jumps a w jumps facts)
    jumps_kept [] facts k h = k
    jumps_kept (i ∷ more) facts k h =
        jumps_kept more (one_jump a i facts) (jump_kept i (anywhere a (labels w.from) i facts) facts k (jumps_back more (one_jump a i facts) h)) h

    one_same : (i : ℕ) (facts : Facts) → Kept a facts → Good a b (one_jump a i facts) → one_jump b i facts ≡ one_jump a i facts
    one_same i facts k h =
        ap (λ r. jump_to a i r facts)
        (found_again a b facts k (jump_back i (anywhere a (labels w.from) i facts) facts h) (labels w.from) i (λ x. true)
        (jump_alike i (anywhere a (labels w.from) i facts) facts h))

    jumps_same : (jumps : List ℕ) (facts : Facts) → Kept a facts → Good a b (with_jumps a w jumps facts) → with_jumps b w jumps facts ≡ with_jumps a w jumps facts
    jumps_same [] facts k h = refl
    jumps_same (i ∷ more) facts k h =
        let first : Good a b (one_jump a i facts) = jumps_back more (one_jump a i facts) h in
        ap (with_jumps b w more) (one_same i facts k first)
        ∙ jumps_same more (one_jump a i facts) (jump_kept i (anywhere a (labels w.from) i facts) facts k first) h

  pub with_labels_back : (body : Option Body) (facts : Facts) → Good a b (with_labels a body facts) → Good a b facts
  with_labels_back None facts h = h
  with_labels_back (Some w) facts h = jumps_back w facts.jumps facts h

  pub with_labels_kept : (body : Option Body) (facts : Facts) → Kept a facts → Good a b (with_labels a body facts) → Kept a (with_labels a body facts)
  with_labels_kept None facts k h = k
  with_labels_kept (Some w) facts k h = jumps_kept w facts.jumps facts k h

  pub with_labels_same : (body : Option Body) (facts : Facts) → Kept a facts → Good a b (with_labels a body facts) → with_labels b body facts ≡ with_labels a body facts
  with_labels_same None facts k h = refl
  with_labels_same (Some w) facts k h = jumps_same w facts.jumps facts k h
