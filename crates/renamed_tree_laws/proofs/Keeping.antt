-- What stays so while a node is read: the tokens, its label, and what is so of the declared names.
use Rattle.std.proofs.Common.{ℕ, zero, suc, ◌+◌, ◌≡◌, Bool, true, false, if◌then◌else◌, List, [], ◌∷◌, Ok, refl, ap, subst, ◌∙◌}
use Rattle.std.proofs.lemmas.Bool.{and_parts}
use Rattle.c99_grammar.specs.declared.dialects.Dialect.{Dialect}
use Rattle.cs_base.specs.Token.{Token}
use Rattle.c99_tree.specs.declared.production.Label.{Label}
use Rattle.c99_tree.specs.declared.production.Production.{Production}
use Rattle.c99_grammar.specs.Classes.{among}
use Rattle.c99_grammar.specs.Items.{Item, one, part, end_of_text, act, ◌·◌, choice, maybe, many, deep, own, Action, Alternative}
use Rattle.c99_grammar.specs.Standard.{grammar}
use Rattle.c99_read.specs.State.{State, class_at, has_name, acted, opened, closed}
use Rattle.c99_read.specs.Reading.{Goal, produce, repeat, Step, may, step, pick, run, read_within}
use Rattle.renamed_tree_laws.proofs.Private.{Class}
use Rattle.renamed_tree_laws.proofs.Moods.{told_where, named_where, placed, taken, is_told, is_known, are_known, is_production_known, decided, start_mood, is_second, second_where, is_asked, fits, end_mood, at_least, mood, any}
use Rattle.renamed_tree_laws.proofs.Steps.{stopped, ok_is, between, branch, with_token, Takes, takes, ends, enters}

always : (c : Bool) → (if c then true else true) ≡ true
always true = refl
always false = refl

abbrev pub labelled : Production → ℕ → Label
labelled p n = record { production = p; alternative = n }

-- a goal in a node of this label
abbrev pub placed_goal : Label → Goal → Bool
placed_goal l (produce p) = true
placed_goal l (repeat t a) = placed l a

module _ (std : Dialect) where
  -- what the table says of an alternative
  pub record Fit (p : Production) (n : ℕ) (a : Alternative) : Type 0 where
    pub starts : at_least (mood std a.body any) (start_mood std p) ≡ true
    pub second : second_where std (is_second p) (is_asked p n) a.test a.body ≡ true
    pub placed : placed (labelled p n) a.body ≡ true
    pub ends : fits std (end_mood p) a.body ≡ true

  pub fit : (p : Production) (n : ℕ) (a : Alternative) → is_known std p n a ≡ true → Fit p n a
  fit p n a h =
      let h1 = and_parts (at_least (mood std a.body any) (start_mood std p)) _ h in
      let h2 = and_parts (second_where std (is_second p) (is_asked p n) a.test a.body) _ h1.1 in
      let h3 = and_parts (placed (labelled p n) a.body) (fits std (end_mood p) a.body) h2.1 in
      record { starts = h1.0; second = h2.0; placed = h3.0; ends = h3.1 }

  -- what stays so of the names that are declared
  pub record Kept (toks : List Token) (Good : State → Type 0) : Type 0 where
    pub take : (L : List Class) (s : State) → s.toks ≡ toks → named_where (has_name s.built.label) L ≡ true
        → among L (class_at (grammar std) s s.at) ≡ true → Good s → Good (with_token s)
    pub act : (action : Action) (s : State) → s.toks ≡ toks → Good s → Good (acted (grammar std) action s)
    pub open_node : (p : Production) (n : ℕ) (s : State) → Good s → Good (opened p n s)
    pub close_node : (p : Production) (outer s : State) → Good outer → Good s → Good (closed p outer s)

  module _ (toks : List Token) (Good : State → Type 0) (kept : Kept toks Good) where
    -- the state, in a node of this label
    pub record Fine (l : Label) (s : State) : Type 0 where
      pub text : s.toks ≡ toks
      pub label : s.built.label ≡ l
      pub good : Good s

    fine_taken : (l : Label) (L : List Class) (s s' : State) → placed l (one L) ≡ true → Fine l s → Takes std L s s' → Fine l s'
    fine_taken l L s s' h f t =
        let named : named_where (has_name l) L ≡ true = (and_parts (told_where (taken L) (is_told l.production l.alternative L)) (named_where (has_name l) L) h).1 in
        subst (Fine l) t.new
        (record {
          text = f.text;
          label = f.label;
          good = kept.take L s f.text (ap (λ m. named_where (has_name m) L) f.label ∙ named) t.here f.good;
        })

    fine_acted : (l : Label) (action : Action) (s : State) → Fine l s → Fine l (acted (grammar std) action s)
    unfolding acted
    fine_acted l action s f = record { text = f.text; label = f.label; good = kept.act action s f.text f.good }

    pub fine_opened : (l : Label) (p : Production) (n : ℕ) (s : State) → Fine l s → Fine (labelled p n) (opened p n s)
    unfolding opened
    fine_opened l p n s f = record { text = f.text; label = refl; good = kept.open_node p n s f.good }

    fine_closed : (l : Label) (p : Production) (n : ℕ) (outer s : State) → Fine l outer → Fine (labelled p n) s → Fine l (closed p outer s)
    unfolding closed
    fine_closed l p n outer s f g = record { text = g.text; label = f.label; good = kept.close_node p outer s f.good g.good }

    module _ (below : ℕ → Goal → State → Step)
        (keeps : (depth : ℕ) (goal : Goal) (l : Label) (s s' : State) → placed_goal l goal ≡ true → Fine l s → below depth goal s ≡ Ok s' → Fine l s') where
      pub step_keeps : (item : Item) (depth : ℕ) (l : Label) (s s' : State) → placed l item ≡ true → Fine l s → step (grammar std) below depth item s ≡ Ok s' → Fine l s'
      step_keeps (one L) depth l s s' h f e = fine_taken l L s s' h f (takes std L s s' e)
      step_keeps (part p) depth l s s' h f e = keeps depth (produce p) l s s' refl f e
      step_keeps end_of_text depth l s s' h f e = subst (Fine l) (ends s s' e).new f
      step_keeps (act action) depth l s s' h f e = subst (Fine l) (ok_is _ _ e) (fine_acted l action s f)
      step_keeps (x · y) depth l s s' h f e =
          let both = and_parts (placed l x) (placed l y) h in
          let m = between (step (grammar std) below depth x s) (step (grammar std) below depth y) s' e in
          step_keeps y depth l m.state s' both.1 (step_keeps x depth l s m.state both.0 f m.first) m.second
      step_keeps (choice x y) depth l s s' h f e =
          let both = and_parts (placed l x) (placed l y) h in
          branch (may (grammar std) own x s) _ _ true true s' (λ c e' k. step_keeps x depth l s s' both.0 f e')
          (λ c e' k.
          branch (may (grammar std) own y s) _ _ true true s' (λ d e'' k. step_keeps y depth l s s' both.1 f e'') (λ d e'' k. absurd (stopped _ _ e''))
          e' (always (may (grammar std) own y s)))
          e (always (may (grammar std) own x s))
      step_keeps (maybe x) depth l s s' h f e =
          branch (may (grammar std) own x s) _ _ true true s' (λ c e' k. step_keeps x depth l s s' h f e') (λ c e' k. subst (Fine l) (ok_is _ _ e') f)
          e (always (may (grammar std) own x s))
      step_keeps (many t x) depth l s s' h f e =
          branch (may (grammar std) t x s) _ _ true true s'
          (λ c e' k.
          let m = between (step (grammar std) below depth x s) (below depth (repeat t x)) s' e' in
          keeps depth (repeat t x) l m.state s' h (step_keeps x depth l s m.state h f m.first) m.second)
          (λ c e' k. subst (Fine l) (ok_is _ _ e') f)
          e (always (may (grammar std) t x s))
      step_keeps (deep x) depth l s s' h f e =
          let m = between _ (step (grammar std) below (depth + 1) x) s' e in
          step_keeps x (depth + 1) l m.state s' h (subst (Fine l) (enters depth _ s m.state m.first).new f) m.second

      pick_keeps : (p : Production) (alternatives : List Alternative) (depth n : ℕ) (l : Label) (s s' : State) → are_known std p n alternatives ≡ true
          → Fine l s → pick (grammar std) below depth p n alternatives s ≡ Ok s' → Fine l s'
      pick_keeps p [] depth n l s s' h f e = absurd (stopped _ _ e)
      pick_keeps p (x ∷ more) depth n l s s' h f e =
          let both = and_parts (is_known std p n x) (are_known std p (n + 1) more) h in
          branch (may (grammar std) x.test x.body s) _ _ true true s'
          (λ c e' k.
          let m = between (step (grammar std) below depth x.body (opened p n s)) _ s' e' in
          subst (Fine l) (ok_is _ _ m.second)
          (fine_closed l p n s m.state f
          (step_keeps x.body depth (labelled p n) (opened p n s) m.state (fit p n x both.0).placed (fine_opened l p n s f) m.first)))
          (λ c e' k. pick_keeps p more depth (n + 1) l s s' both.1 f e')
          e (always (may (grammar std) x.test x.body s))

      run_keeps : ((p : Production) → is_production_known std p ≡ true) → (depth : ℕ) (goal : Goal) (l : Label) (s s' : State) → placed_goal l goal ≡ true
          → Fine l s → run (grammar std) below depth goal s ≡ Ok s' → Fine l s'
      run_keeps known depth (produce p) l s s' h f e =
          pick_keeps p ((grammar std).table p) depth 1 l s s' (and_parts (are_known std p 1 ((grammar std).table p)) (decided std (is_second p) (start_mood std p) ((grammar std).table p)) (known p)).0 f e
      run_keeps known depth (repeat t x) l s s' h f e = step_keeps (many t x) depth l s s' h f e

    pub within_keeps : ((p : Production) → is_production_known std p ≡ true) → (fuel depth : ℕ) (goal : Goal) (l : Label) (s s' : State)
        → placed_goal l goal ≡ true → Fine l s → read_within (grammar std) fuel depth goal s ≡ Ok s' → Fine l s'
    unfolding read_within
    within_keeps known zero depth goal l s s' h f e = absurd (stopped _ _ e)
    within_keeps known (suc fuel) depth goal l s s' h f e =
        run_keeps (read_within (grammar std) fuel) (within_keeps known fuel) known depth goal l s s' h f e
