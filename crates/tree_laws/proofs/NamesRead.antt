-- The names of a tree that is read are identifiers.
use Rattle.std.proofs.Common.{ℕ, zero, suc, ◌+◌, ◌≡◌, Bool, true, false, if◌then◌else◌, List, [], ◌∷◌, length, Ok, Err, refl, sym, subst, ◌∙◌, arith}
use Rattle.std.proofs.lemmas.Bool.{and_parts, and_from}
use Rattle.c99_grammar.specs.declared.dialects.Dialect.{Dialect}
use Rattle.c99_grammar.specs.declared.dialects.Dialect.TheVariants.{Iso, Gnu}
use Rattle.c99_grammar.specs.declared.dialects.Edition.{Edition}
use Rattle.cs_base.specs.Token.{Token}
use Rattle.c99_tree.specs.Tree.{Forest, none, token, node, Node, leaf, inner, put, lone, collapsed, count_of}
use Rattle.c99_tree.specs.declared.production.Label.{Label}
use Rattle.c99_tree.specs.declared.production.Production.{Production}
use Rattle.c99_tree.specs.declared.production.Production.TheVariants.{TranslationUnit}
use Rattle.c99_grammar.specs.Items.{Item, Test, Action, Alternative}
use Rattle.c99_grammar.specs.Standard.{grammar, iso}
use Rattle.c99_read.specs.State.{State, base_at, collapses, finished, acted, opened, closed, is_identifier}
use Rattle.c99_read.specs.Reading.{produce, repeat, Step, and_then, may, step, alternative, pick, read_within, steps_for, whole, at_first, tree_of, read_of}
use Rattle.c99_read.proofs.ReadLemmas.{opened_text}
use Rattle.name_chains.specs.Frames.{outermost}
use Rattle.tree_laws.specs.TreesOfTexts.{is_name_place, pass_at, names_pass}
use Rattle.tree_laws.proofs.Walked.{After, after_if, IsKept, fit_from, each_part, kept_step, kept_within, kept_by_item}
use Rattle.tree_laws.proofs.NamePlaces.{Place, number, places_matter, is_first, place, shifted, fits, is_within, behind, own_pass, below_pass, both_pass, own_inner, count_inner, shifted_next, is_named, Stands, own_step, own_repeat}
use Rattle.tree_laws.proofs.NameTable.{labelled, fits_at, TableFits, table_fits}

-- ---- One child for each production

abbrev SameText : State → State → Type 0
SameText s s' = s'.toks ≡ s.toks

closed_text : (p : Production) (n : ℕ) (s s' : State) → SameText (opened p n s) s' → SameText s (closed p s s')
unfolding opened closed
closed_text p n s s' e = e

-- ---- A whole unit

abbrev unit_label : Label
unit_label = (outermost 0).label

one_row : (d : Dialect) → length ((grammar d).table TranslationUnit) ≡ 1
one_row (Iso s) = refl
one_row Gnu = refl

module _ (stands : Label → ℕ → Bool) (places : (l : Label) (k : ℕ) → stands l k ≡ stands l (number (place k))) (std : Dialect)
    (table : TableFits stands (grammar std)) where
  acted_text : (a : Action) (s : State) → SameText s (acted (grammar std) a s)
  unfolding acted
  acted_text a s = refl

  text_kept : IsKept (grammar std) SameText
  text_kept = record { still = λ s. refl; further = λ s s' s'' e f. f ∙ e; taken = λ s. refl; done = acted_text }

  module _ (toks : List Token) (l : Label) where
    closed_stands : (X : Place → Bool) (p : Production) (s s' : State) → SameText s (closed p s s') → Stands stands places std toks l X s → Stands stands places std toks l (shifted X) (closed p s s')
    unfolding closed
    closed_stands X p s s' e h = record {
      text = e ∙ h.text;
      here = subst (λ n. shifted X (place n) ≡ true) (sym (count_inner s.built.under (finished p s'.built))) (shifted_next X (place (count_of s.built.under)) h.here);
      own = own_inner stands (is_named stands places std toks l) l s.built.under 0 (finished p s'.built) h.own;
    }

    module _ (fuel : ℕ) (depth : ℕ) (p : Production) (s : State) (X : Place → Bool) (h : Stands stands places std toks l X s) where
      alternative_stands : (n : ℕ) (body : Item) → After (Stands stands places std toks l (shifted X)) (alternative (grammar std) (read_within (grammar std) fuel) depth p n body s)
      alternative_stands n body =
          by (step (grammar std) (read_within (grammar std) fuel) depth body (opened p n s)) (kept_by_item (grammar std) SameText text_kept closed_text fuel body depth (opened p n s))
        where
          by : (r : Step) → After (SameText (opened p n s)) r → After (Stands stands places std toks l (shifted X)) (and_then r (λ s'. Ok (closed p s s')))
          by (Err stop) m = tt
          by (Ok s') m = closed_stands X p s s' (closed_text p n s s' m) h

      pick_stands : (n : ℕ) (alternatives : List Alternative) → After (Stands stands places std toks l (shifted X)) (pick (grammar std) (read_within (grammar std) fuel) depth p n alternatives s)
      pick_stands n [] = tt
      pick_stands n (a ∷ more) = after_if (Stands stands places std toks l (shifted X)) (may (grammar std) a.test a.body s) _ _ (alternative_stands n a.body) (pick_stands (n + 1) more)

    part_stands : (fuel depth : ℕ) (p : Production) (s : State) (X : Place → Bool) → Stands stands places std toks l X s
        → After (Stands stands places std toks l (shifted X)) (read_within (grammar std) fuel depth (produce p) s)
    unfolding read_within
    part_stands zero depth p s X h = tt
    part_stands (suc fuel) depth p s X h = pick_stands fuel depth p s X h 1 ((grammar std).table p)

    more_stands : (fuel depth : ℕ) (t : Test) (a : Item) (s : State) (X : Place → Bool) → fits stands l a X ≡ true → is_within (behind a X) X ≡ true
        → Stands stands places std toks l X s → After (Stands stands places std toks l X) (read_within (grammar std) fuel depth (repeat t a) s)
    unfolding read_within
    more_stands zero depth t a s X fit closed_ h = tt
    more_stands (suc fuel) depth t a s X fit closed_ h =
        (own_repeat stands places std) toks l (read_within (grammar std) fuel) (part_stands fuel) (more_stands fuel) t a depth s X fit closed_ h

  opened_stands : (toks : List Token) (p : Production) (n : ℕ) (s : State) → s.toks ≡ toks → Stands stands places std toks (labelled p n) is_first (opened p n s)
  unfolding opened
  opened_stands toks p n s e = record { text = e; here = refl; own = refl }

  -- the names among the children of a node that is read are identifiers
  own_named : (toks : List Token) (fuel depth : ℕ) (p : Production) (n : ℕ) (body : Item) (s s' : State) → s.toks ≡ toks → fits stands (labelled p n) body is_first ≡ true
      → step (grammar std) (read_within (grammar std) fuel) depth body (opened p n s) ≡ Ok s' → own_pass stands (is_named stands places std toks (labelled p n)) (labelled p n) 0 s'.built.under ≡ true
  own_named toks fuel depth p n body s s' e fit is_read =
      let l : Label = labelled p n in
      (subst (After (Stands stands places std toks l (behind body is_first))) is_read
      (own_step stands places std toks l (read_within (grammar std) fuel) (part_stands toks l fuel) (more_stands toks l fuel) body depth (opened p n s) is_first fit (opened_stands toks p n s e))).own

  -- ---- All nodes

  module _ (toks : List Token) where
    abbrev test : ℕ → Bool
    test i = is_identifier (base_at (grammar std) toks i)

    below_leaf : (f : Forest) (i : ℕ) → below_pass stands test f ≡ true → below_pass stands test (put f (leaf i)) ≡ true
    below_leaf none i w = refl
    below_leaf (token j rest) i w = below_leaf rest i w
    below_leaf (node m begin under rest) i w =
        let both = and_parts (pass_at stands test m 0 under) (below_pass stands test rest) w in
        and_from _ _ both.0 (below_leaf rest i both.1)

    below_inner : (f : Forest) (n : Node) → below_pass stands test f ≡ true → pass_at stands test n.label 0 n.under ≡ true → below_pass stands test (put f (inner n)) ≡ true
    below_inner none n w h = and_from _ _ h refl
    below_inner (token j rest) n w h = below_inner rest n w h
    below_inner (node m begin under rest) n w h =
        let both = and_parts (pass_at stands test m 0 under) (below_pass stands test rest) w in
        and_from _ _ both.0 (below_inner rest n both.1 h)

    -- a later state, in the same open node of the same text
    record Names (s s' : State) : Type 0 where
      text : s'.toks ≡ s.toks
      label : s'.built.label ≡ s.built.label
      goes_on : s.toks ≡ toks → below_pass stands test s.built.under ≡ true → below_pass stands test s'.built.under ≡ true

    acted_names : (a : Action) (s : State) → Names s (acted (grammar std) a s)
    unfolding acted
    acted_names a s = record { text = refl; label = refl; goes_on = λ e w. w }

    names_kept : IsKept (grammar std) Names
    names_kept = record {
      still = λ s. record { text = refl; label = refl; goes_on = λ e w. w };
      further = λ s s' s'' k k'. record {
        text = k'.text ∙ k.text;
        label = k'.label ∙ k.label;
        goes_on = λ e w. k'.goes_on (k.text ∙ e) (k.goes_on e w);
      };
      taken = λ s. record { text = refl; label = refl; goes_on = λ e w. below_leaf s.built.under s.at w };
      done = acted_names;
    }

    lone_named : (f : Forest) (n : Node) → below_pass stands test f ≡ true → pass_at stands test n.label 0 n.under ≡ true → pass_at stands test (lone f n).label 0 (lone f n).under ≡ true
    lone_named none n w h = h
    lone_named (token i rest) n w h = h
    lone_named (node l begin under none) n w h = (and_parts (pass_at stands test l 0 under) true w).0
    lone_named (node l begin under (token i rest)) n w h = h
    lone_named (node l begin under (node m second below rest)) n w h = h

    finished_named : (p : Production) (n : Node) → below_pass stands test n.under ≡ true → pass_at stands test n.label 0 n.under ≡ true
        → pass_at stands test (finished p n).label 0 (finished p n).under ≡ true
    finished_named p n w h = by (collapses p)
      where
        by : (c : Bool) → pass_at stands test (if c then collapsed n else n).label 0 (if c then collapsed n else n).under ≡ true
        by true = lone_named n.under n w h
        by false = h

    node_names : (fuel depth : ℕ) (p : Production) (n : ℕ) (a : Alternative) (s s' : State) → fits_at stands p n a ≡ true
        → step (grammar std) (read_within (grammar std) fuel) depth a.body (opened p n s) ≡ Ok s' → Names (opened p n s) s' → Names s (closed p s s')
    unfolding opened closed
    node_names fuel depth p n a s s' fit is_read m = record {
      text = m.text;
      label = refl;
      goes_on = λ e w.
          let own = own_named toks fuel depth p n a.body s s' e fit is_read in
          let below : below_pass stands test s'.built.under ≡ true = m.goes_on e refl in
          let named : pass_at stands test s'.built.label 0 s'.built.under ≡ true =
          subst (λ l. pass_at stands test l 0 s'.built.under ≡ true) (sym m.label) (both_pass stands test (labelled p n) 0 s'.built.under own below) in
          below_inner s.built.under (finished p s'.built) w (finished_named p s'.built below named);
    }

    names_within : (fuel depth : ℕ) (item : Item) (s : State) → After (Names s) (step (grammar std) (read_within (grammar std) fuel) depth item s)
    names_within fuel depth item s =
        kept_step (grammar std) Names names_kept (λ p. true) (read_within (grammar std) fuel)
        (kept_within (grammar std) Names names_kept (λ p. true) (fits_at stands)
        (record {
          fit = table;
          inside = λ p n a fit of_ok. each_part a.body;
          node = λ fuel' depth' p n a s' s'' of_ok fit is_read m. node_names fuel' depth' p n a s' s'' fit is_read m;
        }) fuel)
        item depth s (each_part item)

  opened_below : (toks : List Token) (p : Production) (n : ℕ) (s : State) → below_pass stands (is_named stands places std toks unit_label) (opened p n s).built.under ≡ true
  unfolding opened
  opened_below toks p n s = refl

  module _ (toks : List Token) where
    -- the names of the tree are identifiers
    abbrev AreNamed : State → Type 0
    AreNamed s = pass_at stands (test toks) unit_label 0 (lone s.built.under s.built).under ≡ true

    closed_named : (s' : State) → pass_at stands (test toks) unit_label 0 s'.built.under ≡ true → AreNamed (closed TranslationUnit (at_first toks) s')
    unfolding closed
    closed_named s' h = h

    unit_named : (fuel : ℕ) (body : Item) → fits stands (labelled TranslationUnit 1) body is_first ≡ true
        → After AreNamed (alternative (grammar std) (read_within (grammar std) fuel) 0 TranslationUnit 1 body (at_first toks))
    unit_named fuel body fit =
        by (step (grammar std) (read_within (grammar std) fuel) 0 body (opened TranslationUnit 1 (at_first toks))) refl
        (names_within toks fuel 0 body (opened TranslationUnit 1 (at_first toks)))
      where
        by : (r : Step) → step (grammar std) (read_within (grammar std) fuel) 0 body (opened TranslationUnit 1 (at_first toks)) ≡ r
            → After (Names toks (opened TranslationUnit 1 (at_first toks))) r → After AreNamed (and_then r (λ s'. Ok (closed TranslationUnit (at_first toks) s')))
        by (Err stop) is_read m = tt
        by (Ok s') is_read m =
            closed_named s'
            (both_pass stands (test toks) unit_label 0 s'.built.under (own_named toks fuel 0 TranslationUnit 1 body (at_first toks) s' refl fit is_read)
            (m.goes_on (opened_text TranslationUnit 1 (at_first toks)) (opened_below toks TranslationUnit 1 (at_first toks))))

    pick_named : (fuel n : ℕ) (alternatives : List Alternative) → n ≡ 1 → fit_from (fits_at stands TranslationUnit) n alternatives ≡ true
        → (length alternatives ≡ 1) → After AreNamed (pick (grammar std) (read_within (grammar std) fuel) 0 TranslationUnit n alternatives (at_first toks))
    pick_named fuel n [] e fit one_ = tt
    pick_named fuel n (a ∷ []) e fit one_ =
        let both = and_parts (fits_at stands TranslationUnit n a) true fit in
        let P : ℕ → Type 0 = λ m. After AreNamed (alternative (grammar std) (read_within (grammar std) fuel) 0 TranslationUnit m a.body (at_first toks)) in
        let Q : ℕ → Type 0 = λ m. fits_at stands TranslationUnit m a ≡ true in
        after_if AreNamed (may (grammar std) a.test a.body (at_first toks)) _ _ (subst P (sym e) (unit_named fuel a.body (subst Q e both.0))) tt
    pick_named fuel n (a ∷ (b ∷ more)) e fit one_ = absurd (omega (arith, one_))

    within_named : (fuel : ℕ) → After AreNamed (read_within (grammar std) fuel 0 (produce TranslationUnit) (at_first toks))
    unfolding read_within
    within_named zero = tt
    within_named (suc fuel) = pick_named fuel 1 ((grammar std).table TranslationUnit) refl (table TranslationUnit) (one_row std)

    whole_named : After AreNamed (whole (grammar std) 0 (produce TranslationUnit) (at_first toks))
    unfolding whole
    whole_named = within_named (steps_for (produce TranslationUnit) (at_first toks))

    tree_named : (r : Step) (tree : Node) → After AreNamed r → tree_of r ≡ Ok tree → pass_at stands (test toks) unit_label 0 tree.under ≡ true
    tree_named (Ok s) tree h e =
        let same : lone s.built.under s.built ≡ tree = cc in
        subst (λ (n : Node). pass_at stands (test toks) unit_label 0 n.under ≡ true) same h
    tree_named (Err stop) tree h e = absurd cc

    -- what stands at these places in a tree that is read is an identifier
    pub places_are_read : (tree : Node) → read_of (grammar std) toks ≡ Ok tree → pass_at stands (test toks) unit_label 0 tree.under ≡ true
    places_are_read tree e = tree_named (whole (grammar std) 0 (produce TranslationUnit) (at_first toks)) tree whole_named e

-- .. where names stand by C99 and C11
pub names_are_read : (std : Edition) (toks : List Token) (tree : Node) → read_of (iso std) toks ≡ Ok tree
    → names_pass (λ i. is_identifier (base_at (iso std) toks i)) unit_label 0 tree.under ≡ true
names_are_read std toks tree e = places_are_read is_name_place places_matter (Iso std) (table_fits std) toks tree e
