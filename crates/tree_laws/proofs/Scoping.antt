-- Reading nodes that are scopes.
use Rattle.std.proofs.Common.{ℕ, ◌+◌, ◌<◌, ◌≡◌, Bool, true, false, ◌&&◌, if◌then◌else◌, List, [], ◌∷◌, length, Ok, Err, refl, sym, ap, subst, ◌∙◌, arith}
use Rattle.std.proofs.lemmas.Bool.{false≢true, and_parts}
use Rattle.c99_grammar.specs.declared.dialects.Edition.{Edition}
use Rattle.cs_base.specs.Token.{Token}
use Rattle.c99_tree.specs.Tree.{Forest, leaf, put}
use Rattle.c99_tree.specs.declared.production.Label.{Label}
use Rattle.c99_tree.specs.declared.production.Production.{Production}
use Rattle.c99_tree.specs.declared.production.Production.TheVariants.{Suffix, Block, Statement, Sub}
use Rattle.c99_grammar.specs.Items.{Item, one, part, end_of_text, act, ◌·◌, choice, maybe, many, deep, scope, end, declare, name, keep, again}
use Rattle.c99_grammar.specs.Standard.{iso}
use Rattle.c99_read.specs.Sound.{has_token, is_low, is_met, goal_has_token}
use Rattle.c99_read.specs.State.{State, with_scope_ended, acted, opened}
use Rattle.c99_read.specs.Reading.{Goal, Step, and_then, take_one, step}
use Rattle.c99_read.proofs.Moves.{Moves, Moves-step}
use Rattle.c_types.specs.Trees.{last_token}
use Rattle.name_chains.specs.Entering.{inner, is_scoped}
use Rattle.tree_laws.proofs.Private.{Class}
use Rattle.tree_laws.proofs.Matching.{SameOuter}
use Rattle.tree_laws.proofs.Places.{last_leaf}
use Rattle.tree_laws.proofs.Rules.{labelled, fine}
use Rattle.tree_laws.proofs.Goes.{After, with_token, IsIn, Goes, goes_still, goes_further, Body}
use Rattle.tree_laws.proofs.TypedefSteps.{Reads, taken, goes_step, opened_in, opened_scopes}
use Rattle.tree_laws.proofs.ScopeNodes.{ended_scopes, IsScope, scoped_scopes, scoped_in, bracket_body, whole_body}

-- ---- Statements that are scopes (6.8.4 paragraph 3, 6.8.5 paragraph 5)

abbrev pub is_whole : Production → ℕ → Bool
is_whole Sub n = true
is_whole Statement n = is_scoped n
is_whole _ n = false

-- the items end with the scope
abbrev pub ends_fine : Label → Item → Bool
ends_fine l (act end) = true
ends_fine l (a · b) = fine l a && ends_fine l b
ends_fine l _ = false

-- .. and begin with it
abbrev pub whole_fine : Label → Item → Bool
whole_fine l (act scope · rest) = ends_fine l rest && (has_token rest && is_low 64 rest)
whole_fine l _ = false

module _ (std : Edition) where
  module _ (toks : List Token) where
    -- ---- Blocks (6.8.2) and parameter lists (6.7.5.3)

    pub block_scope : (f : Forest) (at : ℕ) → IsScope std toks Block 1 (put f (leaf at)) at
    block_scope f at = record {
      scope = λ around. ap (inner around) (last_leaf f at 0);
      entries = λ first o. refl;
      alone = λ first o es. refl;
      named = λ first o. refl;
    }

    pub list_scope : (f : Forest) (at : ℕ) → IsScope std toks Suffix 2 (put f (leaf at)) at
    list_scope f at = record {
      scope = λ around. ap (inner around) (last_leaf f at 0);
      entries = λ first o. refl;
      alone = λ first o es. refl;
      named = λ first o. refl;
    }

    pub with_token_in : (l : Label) (first : ℕ) (s : State) → IsIn l first s → IsIn l first (with_token s)
    with_token_in l first s i = record { label = i.label; begins = i.begins }

    module _ (below : ℕ → Goal → State → Step) (reads : Reads std toks below) (depth : ℕ) (s : State) where
      -- the items between the tokens, in the scope
      bracket_step : (p : Production) (n : ℕ) (left : List Class) (middle rest : Item) → fine (labelled p n) middle ≡ true
          → ((s' : State) → Goes std toks (labelled p n) s.at (acted (iso std) scope (with_token (opened p n s))) s' → After (Body std toks p n s) (step (iso std) below depth rest s'))
          → After (Body std toks p n s) (step (iso std) below depth (one left · (act scope · (middle · rest))) (opened p n s))
      bracket_step p n left middle rest h last =
          by (take_one (iso std) left (opened p n s)) (taken std (λ s'. s' ≡ with_token (opened p n s)) left (opened p n s) (λ c more. refl))
        where
          onward : (r : Step) → After (Goes std toks (labelled p n) s.at (acted (iso std) scope (with_token (opened p n s)))) r
              → After (Body std toks p n s) (and_then r (step (iso std) below depth rest))
          onward (Err stop) m = tt
          onward (Ok s') m = last s' m

          by : (r : Step) → After (λ s'. s' ≡ with_token (opened p n s)) r
              → After (Body std toks p n s) (and_then r (step (iso std) below depth (act scope · (middle · rest))))
          by (Err stop) m = tt
          by (Ok s1) m =
              subst (λ x. After (Body std toks p n s) (step (iso std) below depth (act scope · (middle · rest)) x)) (sym m)
              (onward (step (iso std) below depth middle (acted (iso std) scope (with_token (opened p n s))))
              (goes_step std toks below reads middle (labelled p n) s.at depth (acted (iso std) scope (with_token (opened p n s))) h
              (scoped_in std toks (labelled p n) s.at (with_token (opened p n s)) (with_token_in (labelled p n) s.at (opened p n s) (opened_in std toks p n s)))))

      inner_outer : (p : Production) (n : ℕ) (s' : State) → Goes std toks (labelled p n) s.at (acted (iso std) scope (with_token (opened p n s))) s'
          → SameOuter ([] ∷ s.names.scopes) s'.names.scopes
      unfolding opened
      inner_outer p n s' g =
          subst (λ x. SameOuter x s'.names.scopes) (scoped_scopes std toks (with_token (opened p n s)) ∙ ap (λ x. [] ∷ x) (opened_scopes std toks p s.names)) g.outer

      in_text : (p : Production) (n : ℕ) (s' : State) → Goes std toks (labelled p n) s.at (acted (iso std) scope (with_token (opened p n s))) s'
          → s'.at < length s'.toks → s'.at < length s.toks
      unfolding acted opened
      in_text p n s' g h = subst (λ t. s'.at < length t) g.same_text h

      block_end : (right : List Class) (s' : State) → Goes std toks (labelled Block 1) s.at (acted (iso std) scope (with_token (opened Block 1 s))) s'
          → After (Body std toks Block 1 s) (take_one (iso std) right (acted (iso std) end s'))
      unfolding acted
      block_end right s' g =
          (taken std) (Body std toks Block 1 s) right (acted (iso std) end s')
          (λ c more. bracket_body std toks Block 1 s s' (with_scope_ended s'.names s'.names.scopes) refl g
          (λ op. ended_scopes s'.names s.names.scopes s'.names.scopes op (inner_outer Block 1 s' g)) (in_text Block 1 s' g more) (block_scope s'.built.under s'.at))

      pub block_body : (left right : List Class) (middle : Item) → fine (labelled Block 1) middle ≡ true
          → After (Body std toks Block 1 s) (step (iso std) below depth (one left · (act scope · (middle · (act end · one right)))) (opened Block 1 s))
      block_body left right middle h = bracket_step Block 1 left middle (act end · one right) h (λ s' g. block_end right s' g)

      list_end : (right : List Class) (s' : State) → Goes std toks (labelled Suffix 2) s.at (acted (iso std) scope (with_token (opened Suffix 2 s))) s'
          → After (Body std toks Suffix 2 s) (take_one (iso std) right (acted (iso std) keep (acted (iso std) end s')))
      unfolding acted
      list_end right s' g =
          (taken std) (Body std toks Suffix 2 s) right (acted (iso std) keep (acted (iso std) end s'))
          (λ c more. bracket_body std toks Suffix 2 s s' (acted (iso std) keep (acted (iso std) end s')).names refl g
          (λ op. ended_scopes s'.names s.names.scopes s'.names.scopes op (inner_outer Suffix 2 s' g)) (in_text Suffix 2 s' g more) (list_scope s'.built.under s'.at))

      pub list_body : (left right : List Class) (middle : Item) → fine (labelled Suffix 2) middle ≡ true
          → After (Body std toks Suffix 2 s) (step (iso std) below depth (one left · (act scope · (middle · (act end · (act keep · one right))))) (opened Suffix 2 s))
      list_body left right middle h = bracket_step Suffix 2 left middle (act end · (act keep · one right)) h (λ s' g. list_end right s' g)

    -- ---- Statements (6.8.4 and 6.8.5)

    pub whole_scope : (p : Production) (n : ℕ) (f : Forest) → is_whole p n ≡ true → IsScope std toks p n f (last_token f 0 + 1)
    whole_scope Sub n f h = record { scope = λ around. refl; entries = λ first o. refl; alone = λ first o es. refl; named = λ first o. refl }
    whole_scope Statement n f h = record {
      scope = λ around. ap (λ c. if c then inner around (last_token f 0 + 1) else around) h;
      entries = λ first o. refl;
      alone = λ first o es. refl;
      named = λ first o. refl;
    }
    whole_scope _ n f h = absurd (false≢true h)

    -- a scope ended behind the items
    record Ended (l : Label) (first : ℕ) (s s' : State) : Type 0 where
      last_one : State
      goes : Goes std toks l first s last_one
      same : s' ≡ acted (iso std) end last_one

    module _ (below : ℕ → Goal → State → Step) (reads : Reads std toks below) where
      ended_step : (item : Item) (l : Label) (first depth : ℕ) (s : State) → ends_fine l item ≡ true → IsIn l first s
          → After (Ended l first s) (step (iso std) below depth item s)
      ended_step (act end) l first depth s h i = record { last_one = s; goes = goes_still std toks l first s; same = refl }
      ended_step (act scope) l first depth s h i = absurd (false≢true h)
      ended_step (act declare) l first depth s h i = absurd (false≢true h)
      ended_step (act name) l first depth s h i = absurd (false≢true h)
      ended_step (act keep) l first depth s h i = absurd (false≢true h)
      ended_step (act again) l first depth s h i = absurd (false≢true h)
      ended_step (one classes) l first depth s h i = absurd (false≢true h)
      ended_step (part p) l first depth s h i = absurd (false≢true h)
      ended_step end_of_text l first depth s h i = absurd (false≢true h)
      ended_step (choice a b) l first depth s h i = absurd (false≢true h)
      ended_step (maybe a) l first depth s h i = absurd (false≢true h)
      ended_step (many t a) l first depth s h i = absurd (false≢true h)
      ended_step (deep a) l first depth s h i = absurd (false≢true h)
      ended_step (a · b) l first depth s h i =
          let both = and_parts (fine l a) (ends_fine l b) h in
          by (λ s' i'. ended_step b l first depth s' both.1 i') (step (iso std) below depth a s) (goes_step std toks below reads a l first depth s both.0 i)
        where
          second : (s' : State) (r : Step) → Goes std toks l first s s' → After (Ended l first s') r → After (Ended l first s) r
          second s' (Err stop) g m = tt
          second s' (Ok s'') g m = record { last_one = m.last_one; goes = goes_further std toks l first s s' m.last_one g m.goes; same = m.same }

          by : ((s' : State) → IsIn l first s' → After (Ended l first s') (step (iso std) below depth b s')) → (r : Step) → After (Goes std toks l first s) r → After (Ended l first s) (and_then r (step (iso std) below depth b))
          by k (Err stop) m = tt
          by k (Ok s') m = second s' (step (iso std) below depth b s') m (k s' (m.inside i))

      module _ (moves : (depth : ℕ) (goal : Goal) (s : State) → is_met goal ≡ true → Moves (goal_has_token goal) s (below depth goal s)) where
        grown : (s s' : State) → s'.toks ≡ s.toks → Moves true s (Ok s') → s.at < s'.at
        grown s s' e m = (let f = m.1 refl in let k = ap length e in omega arith)

        end_at : (s : State) → ((acted (iso std) end s).at ≡ s.at) × ((acted (iso std) end s).toks ≡ s.toks)
        unfolding acted
        end_at s = (refl, refl)

        begins_at : (p : Production) (n : ℕ) (s : State) → (acted (iso std) scope (opened p n s)).at ≡ s.at
        unfolding acted opened
        begins_at p n s = refl

        pub whole_step : (p : Production) (n depth : ℕ) (body : Item) (s : State) → is_whole p n ≡ true → whole_fine (labelled p n) body ≡ true
            → After (Body std toks p n s) (step (iso std) below depth body (opened p n s))
        whole_step p n depth (act scope · rest) s w h =
            let both = and_parts (ends_fine (labelled p n) rest) (has_token rest && is_low 64 rest) h in
            let more = and_parts (has_token rest) (is_low 64 rest) both.1 in
            by (step (iso std) below depth rest (acted (iso std) scope (opened p n s)))
            (ended_step rest (labelled p n) s.at depth (acted (iso std) scope (opened p n s)) both.0 (scoped_in std toks (labelled p n) s.at (opened p n s) (opened_in std toks p n s)))
            (subst (λ c. Moves c (acted (iso std) scope (opened p n s)) (step (iso std) below depth rest (acted (iso std) scope (opened p n s)))) more.0
            (Moves-step (iso std) below moves rest depth 64 (acted (iso std) scope (opened p n s)) more.1))
          where
            by : (r : Step) → After (Ended (labelled p n) s.at (acted (iso std) scope (opened p n s))) r → Moves true (acted (iso std) scope (opened p n s)) r → After (Body std toks p n s) r
            by (Err stop) m g = tt
            by (Ok s') m g =
                let last_one : State = m.last_one in
                let same : s' ≡ acted (iso std) end last_one = m.same in
                let at_end = end_at last_one in
                let grows : (acted (iso std) scope (opened p n s)).at < (acted (iso std) end last_one).at =
                grown (acted (iso std) scope (opened p n s)) (acted (iso std) end last_one) (at_end.1 ∙ m.goes.same_text) (subst (λ x. Moves true (acted (iso std) scope (opened p n s)) (Ok x)) same g) in
                subst (Body std toks p n s) (sym same)
                (whole_body std toks p n s last_one m.goes
                (let e = begins_at p n s in let e' = at_end.0 in omega arith)
                (whole_scope p n last_one.built.under w))
        whole_step p n depth _ s w h = absurd (false≢true h)
