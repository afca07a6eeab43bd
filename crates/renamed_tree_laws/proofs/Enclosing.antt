-- In each tree that is read an identifier behind the parenthesis that begins a parameter's declarator is the declared name there.
use Rattle.std.proofs.Common.{ℕ, ◌+◌, ◌≡◌, Bool, true, false, ◌&&◌, ◌||◌, not, if◌then◌else◌, ◌==◌, List, [], ◌∷◌, Ok, Err, refl, sym, ap, subst, ◌∙◌}
use Rattle.std.proofs.lemmas.Bool.{eqb-true, and_parts}
use Rattle.c99_grammar.specs.declared.dialects.Edition.{Edition}
use Rattle.cs_base.specs.Token.{Token}
use Rattle.cs_base.proofs.BoolLemmas.{or_met as implied}
use Rattle.c99_tree.specs.Tree.{Forest, none, token, node, Node, leaf, inner, put, lone, collapsed}
use Rattle.c99_tree.specs.declared.production.Label.{Label}
use Rattle.c99_tree.specs.declared.production.Production.{Production}
use Rattle.c99_tree.specs.declared.production.Production.TheVariants.{TranslationUnit, Pdirect}
use Rattle.c99_tree.specs.contracts.production.ProductionPartialEq.TheImpl.{ghosts}
use Rattle.c99_tree.proofs.ProductionLemmas.{direct_is}
use Rattle.c99_grammar.specs.Items.{Action, Alternative}
use Rattle.c99_grammar.specs.Standard.{iso}
use Rattle.c99_read.specs.State.{State, base_at, is_identifier, collapses, finished, acted, opened, closed}
use Rattle.c99_read.specs.Reading.{produce, Step, steps_for, step, read_within, whole, at_first, tree_of, read_of}
use Rattle.c_types.specs.Lists.{name_in}
use Rattle.c_types.specs.Trees.{is_at}
use Rattle.tree_laws.proofs.Walked.{After, IsKept, fit_from, each_part, kept_within}
use Rattle.tree_laws.proofs.Rules.{labelled}
use Rattle.tree_laws.proofs.Forms.{after_is}
use Rattle.renamed_tree_laws.specs.Loose.{is_enclosed}
use Rattle.renamed_tree_laws.proofs.BareNames.{Encloses}
use Rattle.renamed_tree_laws.proofs.EnclosedNames.{is_parenthesized, enclosed_step}

-- ---- The table

-- the alternative that begins with a parenthesis has a declarator behind it
abbrev fits : Production → ℕ → Alternative → Bool
fits p n a = not (is_at (labelled p n) Pdirect 2) || is_parenthesized a.body

other_fits : (p : Production) (n : ℕ) (alternatives : List Alternative) → ghosts.eq p Pdirect ≡ false → fit_from (fits p) n alternatives ≡ true
other_fits p n [] e = refl
other_fits p n (a ∷ more) e =
    ap (λ c. (not (c && (n == 2)) || is_parenthesized a.body) && fit_from (fits p) (n + 1) more) e ∙ other_fits p (n + 1) more e

second_is : (p : Production) (n : ℕ) → is_at (labelled p n) Pdirect 2 ≡ true → labelled p n ≡ labelled Pdirect 2
second_is p n e =
    let production = direct_is p ((and_parts (ghosts.eq p Pdirect) (n == 2) e).0) in
    let alternative : n ≡ 2 = eqb-true n 2 ((and_parts (ghosts.eq p Pdirect) (n == 2) e).1) in
    ap (λ q. labelled q n) production ∙ ap (λ k. labelled Pdirect k) alternative

module _ (std : Edition) where
  table_fits : (p : Production) → fit_from (fits p) 1 ((iso std).table p) ≡ true
  table_fits p = by (ghosts.eq p Pdirect) refl
    where
      by : (c : Bool) → ghosts.eq p Pdirect ≡ c → fit_from (fits p) 1 ((iso std).table p) ≡ true
      by true e = ap (λ q. fit_from (fits q) 1 ((iso std).table q)) (direct_is p e)
      by false e = other_fits p 1 ((iso std).table p) e

  -- ---- All nodes

  module _ (toks : List Token) where
    -- the node encloses its name, and so does each below it
    abbrev IsEnclosing : Node → Type 0
    IsEnclosing n = (is_enclosed std toks n.label n.first ≡ true → name_in n.under ≡ (n.first + 1) ∷ []) × Encloses std toks n.under

    encloses_leaf : (f : Forest) (i : ℕ) → Encloses std toks f → Encloses std toks (put f (leaf i))
    encloses_leaf none i w = tt
    encloses_leaf (token j rest) i w = encloses_leaf rest i w
    encloses_leaf (node l first under rest) i w = (w.0, (w.1.0, encloses_leaf rest i w.1.1))

    encloses_inner : (f : Forest) (n : Node) → Encloses std toks f → IsEnclosing n → Encloses std toks (put f (inner n))
    encloses_inner none n w h = (h.0, (h.1, tt))
    encloses_inner (token j rest) n w h = encloses_inner rest n w h
    encloses_inner (node l first under rest) n w h = (w.0, (w.1.0, encloses_inner rest n w.1.1 h))

    enclosing_lone : (f : Forest) (n : Node) → Encloses std toks f → IsEnclosing n → IsEnclosing (lone f n)
    enclosing_lone none n w h = h
    enclosing_lone (token i rest) n w h = h
    enclosing_lone (node l first under none) n w h = (w.0, w.1.0)
    enclosing_lone (node l first under (token i rest)) n w h = h
    enclosing_lone (node l first under (node m begin below rest)) n w h = h

    enclosing_finished : (p : Production) (n : Node) → IsEnclosing n → IsEnclosing (finished p n)
    enclosing_finished p n h = by (collapses p)
      where
        by : (c : Bool) → IsEnclosing (if c then collapsed n else n)
        by true = enclosing_lone n.under n h.1 h
        by false = h

    -- a later state, in the same open node of the same text
    record Keeps (s s' : State) : Type 0 where
      text : s'.toks ≡ s.toks
      label : s'.built.label ≡ s.built.label
      first : s'.built.first ≡ s.built.first
      goes_on : s.toks ≡ toks → Encloses std toks s.built.under → Encloses std toks s'.built.under

    acted_keeps : (a : Action) (s : State) → Keeps s (acted (iso std) a s)
    unfolding acted
    acted_keeps a s = record { text = refl; label = refl; first = refl; goes_on = λ e w. w }

    keeps_kept : IsKept (iso std) Keeps
    keeps_kept = record {
      still = λ s. record { text = refl; label = refl; first = refl; goes_on = λ e w. w };
      further = λ s s' s'' k k'. record {
        text = k'.text ∙ k.text;
        label = k'.label ∙ k.label;
        first = k'.first ∙ k.first;
        goes_on = λ e w. k'.goes_on (k.text ∙ e) (k.goes_on e w);
      };
      taken = λ s. record { text = refl; label = refl; first = refl; goes_on = λ e w. encloses_leaf s.built.under s.at w };
      done = acted_keeps;
    }

    -- an alternative that is read encloses its name
    own_name : (fuel depth : ℕ) (p : Production) (n : ℕ) (a : Alternative) (s s' : State) → fits p n a ≡ true
        → step (iso std) (read_within (iso std) fuel) depth a.body (opened p n s) ≡ Ok s' → s.toks ≡ toks → is_enclosed std toks (labelled p n) s.at ≡ true
        → name_in s'.built.under ≡ (s.at + 1) ∷ []
    own_name fuel depth p n a s s' fit is_read e h =
        let at : is_at (labelled p n) Pdirect 2 ≡ true = (and_parts (is_at (labelled p n) Pdirect 2) _ h).0 in
        let named : is_identifier (base_at (iso std) s.toks (s.at + 1)) ≡ true =
        subst (λ ts. is_identifier (base_at (iso std) ts (s.at + 1)) ≡ true) (sym e) ((and_parts (is_at (labelled p n) Pdirect 2) _ h).1) in
        let here : step (iso std) (read_within (iso std) fuel) depth a.body (opened Pdirect 2 s) ≡ Ok s' =
        ap (λ (l : Label). step (iso std) (read_within (iso std) fuel) depth a.body (opened l.production l.alternative s)) (sym (second_is p n at)) ∙ is_read in
        after_is (λ r. name_in r.built.under ≡ (s.at + 1) ∷ []) _ s' here (enclosed_step std fuel depth a.body s (implied _ _ fit at) named)

    node_keeps : (fuel depth : ℕ) (p : Production) (n : ℕ) (a : Alternative) (s s' : State) → fits p n a ≡ true
        → step (iso std) (read_within (iso std) fuel) depth a.body (opened p n s) ≡ Ok s' → Keeps (opened p n s) s' → Keeps s (closed p s s')
    unfolding opened closed
    node_keeps fuel depth p n a s s' fit is_read m =
        let own : s.toks ≡ toks → is_enclosed std toks s'.built.label s'.built.first ≡ true → name_in s'.built.under ≡ (s'.built.first + 1) ∷ [] =
        (λ e h. own_name fuel depth p n a s s' fit is_read e (ap (λ l. is_enclosed std toks l s.at) (sym m.label) ∙ (ap (is_enclosed std toks s'.built.label) (sym m.first) ∙ h)) ∙ ap (λ k. (k + 1) ∷ []) (sym m.first)) in
        record {
          text = m.text;
          label = refl;
          first = refl;
          goes_on = λ e w. encloses_inner s.built.under (finished p s'.built) w (enclosing_finished p s'.built (own e, m.goes_on e tt));
        }

    keeps_within : (fuel : ℕ) → After (Keeps (at_first toks)) (read_within (iso std) fuel 0 (produce TranslationUnit) (at_first toks))
    keeps_within fuel =
        kept_within (iso std) Keeps keeps_kept (λ p. true) fits
        (record {
          fit = table_fits;
          inside = λ p n a fit of_ok. each_part a.body;
          node = λ fuel' depth' p n a s s' of_ok fit is_read m. node_keeps fuel' depth' p n a s s' fit is_read m;
        })
        fuel 0 (produce TranslationUnit) (at_first toks) refl

    -- ---- A whole unit

    unit_keeps : After (Keeps (at_first toks)) (whole (iso std) 0 (produce TranslationUnit) (at_first toks))
    unfolding whole
    unit_keeps = keeps_within (steps_for (produce TranslationUnit) (at_first toks))

    encloses_lone : (f : Forest) (n : Node) → Encloses std toks f → n.under ≡ f → Encloses std toks (lone f n).under
    encloses_lone none n w e = subst (Encloses std toks) (sym e) w
    encloses_lone (token i rest) n w e = subst (Encloses std toks) (sym e) w
    encloses_lone (node l first under none) n w e = w.1.0
    encloses_lone (node l first under (token i rest)) n w e = subst (Encloses std toks) (sym e) w
    encloses_lone (node l first under (node m begin below rest)) n w e = subst (Encloses std toks) (sym e) w

    tree_encloses : (r : Step) (tree : Node) → After (Keeps (at_first toks)) r → tree_of r ≡ Ok tree → Encloses std toks tree.under
    tree_encloses (Ok s) tree keeps e =
        let same : lone s.built.under s.built ≡ tree = cc in
        subst (λ (n : Node). Encloses std toks n.under) same (encloses_lone s.built.under s.built (keeps.goes_on refl tt) refl)
    tree_encloses (Err stop) tree keeps e = absurd (cc)

    -- each tree that is read encloses its names
    pub read_encloses : (tree : Node) → read_of (iso std) toks ≡ Ok tree → Encloses std toks tree.under
    read_encloses tree e = tree_encloses (whole (iso std) 0 (produce TranslationUnit) (at_first toks)) tree unit_keeps e
