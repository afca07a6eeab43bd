-- Nodes that are scopes: blocks, parameter lists, statements and substatements (6.2.1 paragraph 4).
use Rattle.std.proofs.Common.{ℕ, ◌+◌, ◌<◌, ◌≡◌, Bool, true, false, ◌&&◌, List, [], ◌∷◌, length, Ok, Err, inl, inr, refl, sym, ap, subst, ◌∙◌, arith}
use Rattle.std.proofs.lemmas.Bool.{false≢true, and_parts, and_from}
use Rattle.c99_grammar.specs.declared.dialects.Edition.{Edition}
use Rattle.cs_base.specs.Token.{Token}
use Rattle.c99_tree.specs.Tree.{Forest, leaf, put}
use Rattle.c99_tree.specs.declared.production.Label.{Label}
use Rattle.c99_tree.specs.declared.production.Production.{Production}
use Rattle.c99_tree.specs.declared.production.Production.TheVariants.{Suffix, Pdirect, Block}
use Rattle.c99_grammar.specs.Items.{Item, one, part, end_of_text, act, ◌·◌, choice, maybe, many, deep, scope, end, declare, name, keep, again}
use Rattle.c99_grammar.specs.Standard.{iso}
use Rattle.c99_read.specs.Sound.{has_token, is_low, is_met, goal_has_token}
use Rattle.c99_read.specs.State.{State, Names, with_scope_ended, acted, opened}
use Rattle.c99_read.specs.Reading.{Goal, Step, and_then, take_one, step}
use Rattle.c99_read.proofs.Moves.{Moves, Moves-step}
use Rattle.scope_bind.specs.Named.{Scope}
use Rattle.c_types.specs.Trees.{is_at, last_token}
use Rattle.tree_laws.proofs.Private.{Class}
use Rattle.tree_laws.proofs.Outline.{Outline, begun}
use Rattle.tree_laws.proofs.Matching.{Bounds, IsOpen, SameOuter, bounds_within, bounds_inner, within_sooner}
use Rattle.tree_laws.proofs.Places.{EndsAt, ends_none}
use Rattle.tree_laws.proofs.Rules.{labelled, is_quiet, fine, all_three}
use Rattle.tree_laws.proofs.Goes.{After, with_token, IsIn, Goes, goes_still, goes_further}
use Rattle.tree_laws.proofs.TypedefSteps.{Reads, taken, quiet_fits, goes_step, opened_in, opened_fits, opened_scopes}
use Rattle.tree_laws.proofs.ScopeNodes.{ended_scopes, renamed_to, scope_fits, scoped_scopes, scoped_in, IsScope}
use Rattle.tree_laws.proofs.Scoping.{is_whole, ends_fine, whole_fine, block_scope, list_scope, whole_scope, with_token_in}
use Rattle.renamed_tree_laws.specs.Along.{along_rest}
use Rattle.renamed_tree_laws.proofs.Asking.{before_leaf, of_token, of_node, Asks, asks_still, asks_further, quiet_so, plain_asked, told_after, along, Asked, asks_step, BodyAsks}

module _ (std : Edition) where
  module _ (a b : List Token) where
    -- ---- A scope between two tokens

    begun_scopes : (p : Production) (n : ℕ) (s : State) → (acted (iso std) scope (with_token (opened p n s))).names.scopes ≡ [] ∷ s.names.scopes
    unfolding opened
    begun_scopes p n s = scoped_scopes std a (with_token (opened p n s)) ∙ ap (λ x. [] ∷ x) (opened_scopes std a p s.names)

    module _ (p : Production) (n : ℕ) (s s' : State) (names : Names) (quiet : is_quiet p n ≡ true)
        (g : Goes std a (labelled p n) s.at (acted (iso std) scope (with_token (opened p n s))) s')
        (back : IsOpen s.names.scopes → names.scopes ≡ s.names.scopes)
        (is_scope : IsScope std a p n (put s'.built.under (leaf s'.at)) s'.at) where
      bracket_told : (v : Bool) → Asks std a b (labelled p n) v (acted (iso std) scope (with_token (opened p n s))) s' → BodyAsks std a b p n v s (with_token (renamed_to s' names))
      bracket_told v k = λ o ends t op bounds m near h agree. (
          let under : Forest = put s'.built.under (leaf s'.at) in
          let o' : Outline = begun (labelled p n) s.at under o in
          let to : o'.scope.to ≡ s'.at = ap (λ (c : Scope). c.to) (is_scope.scope o.scope) in
          let same : SameOuter ([] ∷ s.names.scopes) s'.names.scopes = subst (λ x. SameOuter x s'.names.scopes) (begun_scopes p n s) g.outer in
          let w = bounds_within (s'.at + 1) o.scope.to s.names.scopes ends (subst (λ x. Bounds (s'.at + 1) o.scope.to x ends) (back op) bounds) in
          let f2 = scope_fits std a (labelled p n) (with_token (opened p n s)) o'.scope.to ends o'
          (quiet_fits std a (labelled p n) (opened p n s) ends o' quiet (opened_fits std a p n s under o ends t op (is_scope.entries s.at o) m near)) in
          (k o' (o'.scope.to ∷ ends)
          (bounds_inner s'.at o'.scope.to s.names.scopes s'.names.scopes ends same (omega arith) (within_sooner s'.at (s'.at + 1) s.names.scopes ends (omega arith) w)) f2
          (before_leaf std b s'.built.under s'.at o' agree).0).1)

    module _ (below : ℕ → Goal → State → Step) (along_below : ℕ → Goal → State → Bool) (reads : Reads std a below) (asked : Asked std a b below along_below) (depth : ℕ) (s : State) where
      bracket_asks : (p : Production) (n : ℕ) (left : List Class) (middle rest : Item) → is_quiet p n ≡ true → is_at (labelled p n) Pdirect 2 ≡ false → fine (labelled p n) middle ≡ true
          → ((v : Bool) (s' : State) → Goes std a (labelled p n) s.at (acted (iso std) scope (with_token (opened p n s))) s'
          → Asks std a b (labelled p n) v (acted (iso std) scope (with_token (opened p n s))) s'
          → After (BodyAsks std a b p n (v && along std a b below along_below depth rest s') s) (step (iso std) below depth rest s'))
          → After (BodyAsks std a b p n (of_node std a b p n s && along std a b below along_below depth (one left · (act scope · (middle · rest))) (opened p n s)) s)
          (step (iso std) below depth (one left · (act scope · (middle · rest))) (opened p n s))
      bracket_asks p n left middle rest quiet named h last =
          by (take_one (iso std) left (opened p n s)) (taken std (λ s'. s' ≡ with_token (opened p n s)) left (opened p n s) (λ c more. refl))
        where
          onward : (v : Bool) (r : Step) → After (Goes std a (labelled p n) s.at (acted (iso std) scope (with_token (opened p n s)))) r
              → After (Asks std a b (labelled p n) v (acted (iso std) scope (with_token (opened p n s)))) r
              → After (BodyAsks std a b p n (of_node std a b p n s && (of_token std a b (opened p n s) && (v && along_rest r (along std a b below along_below depth rest)))) s)
              (and_then r (step (iso std) below depth rest))
          onward v (Err stop) g k = tt
          onward v (Ok s') g k =
              (told_after std) a b p n (v && along std a b below along_below depth rest s') (of_node std a b p n s && (of_token std a b (opened p n s) && (v && along std a b below along_below depth rest s'))) s
              (step (iso std) below depth rest s')
              (all_three (of_node std a b p n s) (of_token std a b (opened p n s)) (v && along std a b below along_below depth rest s') (plain_asked std a b p n s named)
              (quiet_so std a b (labelled p n) s.at (opened p n s) quiet (opened_in std a p n s)))
              (last v s' g k)

          by : (r : Step) → After (λ s'. s' ≡ with_token (opened p n s)) r
              → After (BodyAsks std a b p n (of_node std a b p n s && (of_token std a b (opened p n s) && along_rest r (along std a b below along_below depth (act scope · (middle · rest))))) s)
              (and_then r (step (iso std) below depth (act scope · (middle · rest))))
          by (Err stop) m = tt
          by (Ok s1) m =
              let inside = scoped_in std a (labelled p n) s.at (with_token (opened p n s)) (with_token_in std a (labelled p n) s.at (opened p n s) (opened_in std a p n s)) in
              subst (λ x. After (BodyAsks std a b p n (of_node std a b p n s && (of_token std a b (opened p n s) && along std a b below along_below depth (act scope · (middle · rest)) x)) s)
              (step (iso std) below depth (act scope · (middle · rest)) x)) (sym m)
              (onward (along std a b below along_below depth middle (acted (iso std) scope (with_token (opened p n s)))) (step (iso std) below depth middle (acted (iso std) scope (with_token (opened p n s))))
              (goes_step std a below reads middle (labelled p n) s.at depth (acted (iso std) scope (with_token (opened p n s))) h inside)
              (asks_step std a b below along_below reads asked middle (labelled p n) s.at depth (acted (iso std) scope (with_token (opened p n s))) h inside))

      scoped_begin : (p : Production) (n : ℕ) → IsIn (labelled p n) s.at (acted (iso std) scope (with_token (opened p n s)))
      scoped_begin p n = scoped_in std a (labelled p n) s.at (with_token (opened p n s)) (with_token_in std a (labelled p n) s.at (opened p n s) (opened_in std a p n s))

      last_so : (p : Production) (n : ℕ) (names : Names) (s' : State) → is_quiet p n ≡ true → Goes std a (labelled p n) s.at (acted (iso std) scope (with_token (opened p n s))) s'
          → of_token std a b (renamed_to s' names) ≡ true
      last_so p n names s' quiet g =
          let i = g.inside (scoped_begin p n) in
          (quiet_so std) a b (labelled p n) s.at (renamed_to s' names) quiet (record { label = i.label; begins = i.begins })

      inner_same : (p : Production) (n : ℕ) (s' : State) → Goes std a (labelled p n) s.at (acted (iso std) scope (with_token (opened p n s))) s' → SameOuter ([] ∷ s.names.scopes) s'.names.scopes
      inner_same p n s' g = subst (λ x. SameOuter x s'.names.scopes) (begun_scopes p n s) g.outer

      block_end : (right : List Class) (v : Bool) (s' : State) → Goes std a (labelled Block 1) s.at (acted (iso std) scope (with_token (opened Block 1 s))) s'
          → Asks std a b (labelled Block 1) v (acted (iso std) scope (with_token (opened Block 1 s))) s'
          → After (BodyAsks std a b Block 1 (v && of_token std a b (acted (iso std) end s')) s) (take_one (iso std) right (acted (iso std) end s'))
      unfolding acted
      block_end right v s' g k =
          let names : Names = with_scope_ended s'.names s'.names.scopes in
          (told_after std) a b Block 1 v (v && of_token std a b (acted (iso std) end s')) s (take_one (iso std) right (acted (iso std) end s')) (λ e. and_from v _ e (last_so Block 1 names s' refl g))
          (taken std (BodyAsks std a b Block 1 v s) right (acted (iso std) end s')
          (λ c more. bracket_told Block 1 s s' names refl g (λ op. ended_scopes s'.names s.names.scopes s'.names.scopes op (inner_same Block 1 s' g))
          (block_scope std a s'.built.under s'.at) v k))

      pub block_asks : (left right : List Class) (middle : Item) → fine (labelled Block 1) middle ≡ true
          → After (BodyAsks std a b Block 1 (of_node std a b Block 1 s && along std a b below along_below depth (one left · (act scope · (middle · (act end · one right)))) (opened Block 1 s)) s)
          (step (iso std) below depth (one left · (act scope · (middle · (act end · one right)))) (opened Block 1 s))
      block_asks left right middle h = bracket_asks Block 1 left middle (act end · one right) refl refl h (λ v s' g k. block_end right v s' g k)

      list_end : (right : List Class) (v : Bool) (s' : State) → Goes std a (labelled Suffix 2) s.at (acted (iso std) scope (with_token (opened Suffix 2 s))) s'
          → Asks std a b (labelled Suffix 2) v (acted (iso std) scope (with_token (opened Suffix 2 s))) s'
          → After (BodyAsks std a b Suffix 2 (v && of_token std a b (acted (iso std) keep (acted (iso std) end s'))) s) (take_one (iso std) right (acted (iso std) keep (acted (iso std) end s')))
      unfolding acted
      list_end right v s' g k =
          let names : Names = (acted (iso std) keep (acted (iso std) end s')).names in
          (told_after std) a b Suffix 2 v (v && of_token std a b (acted (iso std) keep (acted (iso std) end s'))) s (take_one (iso std) right (acted (iso std) keep (acted (iso std) end s')))
          (λ e. and_from v _ e (last_so Suffix 2 names s' refl g))
          (taken std (BodyAsks std a b Suffix 2 v s) right (acted (iso std) keep (acted (iso std) end s'))
          (λ c more. bracket_told Suffix 2 s s' names refl g (λ op. ended_scopes s'.names s.names.scopes s'.names.scopes op (inner_same Suffix 2 s' g))
          (list_scope std a s'.built.under s'.at) v k))

      pub list_asks : (left right : List Class) (middle : Item) → fine (labelled Suffix 2) middle ≡ true
          → After (BodyAsks std a b Suffix 2 (of_node std a b Suffix 2 s && along std a b below along_below depth (one left · (act scope · (middle · (act end · (act keep · one right))))) (opened Suffix 2 s)) s)
          (step (iso std) below depth (one left · (act scope · (middle · (act end · (act keep · one right))))) (opened Suffix 2 s))
      list_asks left right middle h = bracket_asks Suffix 2 left middle (act end · (act keep · one right)) refl refl h (λ v s' g k. list_end right v s' g k)

    -- ---- A scope that is the whole node (6.8.4 and 6.8.5)

    -- a scope ended behind the items
    record EndedAsks (l : Label) (first : ℕ) (v : Bool) (s s' : State) : Type 0 where
      last_one : State
      goes : Goes std a l first s last_one
      asks : Asks std a b l v s last_one
      same : s' ≡ acted (iso std) end last_one

    module _ (p : Production) (n : ℕ) (s s' : State)
        (g : Goes std a (labelled p n) s.at (acted (iso std) scope (opened p n s)) s') (grows : s.at < s'.at)
        (is_scope : IsScope std a p n s'.built.under (last_token s'.built.under 0 + 1)) where
      whole_scopes : (acted (iso std) scope (opened p n s)).names.scopes ≡ [] ∷ s.names.scopes
      unfolding opened
      whole_scopes = scoped_scopes std a (opened p n s) ∙ ap (λ x. [] ∷ x) (opened_scopes std a p s.names)

      whole_outer : SameOuter ([] ∷ s.names.scopes) s'.names.scopes
      whole_outer = subst (λ x. SameOuter x s'.names.scopes) whole_scopes g.outer

      whole_back : IsOpen s.names.scopes → (with_scope_ended s'.names s'.names.scopes).scopes ≡ s.names.scopes
      whole_back op = ended_scopes s'.names s.names.scopes s'.names.scopes op whole_outer

      opened_under : EndsAt s.at (acted (iso std) scope (opened p n s)).built.under (acted (iso std) scope (opened p n s)).at
      unfolding acted opened
      opened_under = ends_none s.at

      last_is : EndsAt s.at s'.built.under s'.at → last_token s'.built.under 0 + 1 ≡ s'.at
      last_is (inl h) = absurd (let e : s'.at ≡ s.at = h.0 in omega arith)
      last_is (inr h) = h 0

      whole_told : (v : Bool) → Asks std a b (labelled p n) v (acted (iso std) scope (opened p n s)) s' → BodyAsks std a b p n v s (acted (iso std) end s')
      unfolding acted
      whole_told v k = λ o ends t op bounds m near h agree. (
          let o' : Outline = begun (labelled p n) s.at s'.built.under o in
          let to : o'.scope.to ≡ s'.at = ap (λ (c : Scope). c.to) (is_scope.scope o.scope) ∙ last_is (g.ends opened_under) in
          let w = bounds_within s'.at o.scope.to s.names.scopes ends (subst (λ x. Bounds s'.at o.scope.to x ends) (whole_back op) bounds) in
          let f2 = scope_fits std a (labelled p n) (opened p n s) o'.scope.to ends o' (opened_fits std a p n s s'.built.under o ends t op (is_scope.entries s.at o) m near) in
          (k o' (o'.scope.to ∷ ends) (bounds_inner s'.at o'.scope.to s.names.scopes s'.names.scopes ends whole_outer (omega arith) w) f2 agree).1)

    module _ (below : ℕ → Goal → State → Step) (along_below : ℕ → Goal → State → Bool) (reads : Reads std a below) (asked : Asked std a b below along_below) where
      ended_asks : (item : Item) (l : Label) (first depth : ℕ) (s : State) → ends_fine l item ≡ true → IsIn l first s
          → After (EndedAsks l first (along std a b below along_below depth item s) s) (step (iso std) below depth item s)
      ended_asks (act end) l first depth s h i = record { last_one = s; goes = goes_still std a l first s; asks = asks_still std a b l s; same = refl }
      ended_asks (act scope) l first depth s h i = absurd (false≢true h)
      ended_asks (act declare) l first depth s h i = absurd (false≢true h)
      ended_asks (act name) l first depth s h i = absurd (false≢true h)
      ended_asks (act keep) l first depth s h i = absurd (false≢true h)
      ended_asks (act again) l first depth s h i = absurd (false≢true h)
      ended_asks (one classes) l first depth s h i = absurd (false≢true h)
      ended_asks (part p) l first depth s h i = absurd (false≢true h)
      ended_asks end_of_text l first depth s h i = absurd (false≢true h)
      ended_asks (choice x y) l first depth s h i = absurd (false≢true h)
      ended_asks (maybe x) l first depth s h i = absurd (false≢true h)
      ended_asks (many t x) l first depth s h i = absurd (false≢true h)
      ended_asks (deep x) l first depth s h i = absurd (false≢true h)
      ended_asks (x · y) l first depth s h i =
          let both = and_parts (fine l x) (ends_fine l y) h in
          by (λ s' i'. ended_asks y l first depth s' both.1 i') (step (iso std) below depth x s) (goes_step std a below reads x l first depth s both.0 i)
          (asks_step std a b below along_below reads asked x l first depth s both.0 i)
        where
          second : (v w : Bool) (s' : State) (r : Step) → Goes std a l first s s' → Asks std a b l v s s' → After (EndedAsks l first w s') r → After (EndedAsks l first (v && w) s) r
          second v w s' (Err stop) g k m = tt
          second v w s' (Ok s'') g k m = record {
            last_one = m.last_one;
            goes = goes_further std a l first s s' m.last_one g m.goes;
            asks = asks_further std a b l first s s' m.last_one v w g m.goes.outer m.goes.later k m.asks;
            same = m.same;
          }

          by : ((s' : State) → IsIn l first s' → After (EndedAsks l first (along std a b below along_below depth y s') s') (step (iso std) below depth y s'))
              → (r : Step) → After (Goes std a l first s) r → After (Asks std a b l (along std a b below along_below depth x s) s) r
              → After (EndedAsks l first (along std a b below along_below depth x s && along_rest r (along std a b below along_below depth y)) s) (and_then r (step (iso std) below depth y))
          by n (Err stop) g k = tt
          by n (Ok s') g k = second (along std a b below along_below depth x s) (along std a b below along_below depth y s') s' (step (iso std) below depth y s') g k (n s' (g.inside i))

      module _ (moves : (depth : ℕ) (goal : Goal) (s : State) → is_met goal ≡ true → Moves (goal_has_token goal) s (below depth goal s)) where
        grown : (s s' : State) → s'.toks ≡ s.toks → Moves true s (Ok s') → s.at < s'.at
        grown s s' e m = (let f = m.1 refl in let k = ap length e in omega arith)

        end_at : (s : State) → ((acted (iso std) end s).at ≡ s.at) × ((acted (iso std) end s).toks ≡ s.toks)
        unfolding acted
        end_at s = (refl, refl)

        begins_at : (p : Production) (n : ℕ) (s : State) → (acted (iso std) scope (opened p n s)).at ≡ s.at
        unfolding acted opened
        begins_at p n s = refl

        pub whole_asks : (p : Production) (n depth : ℕ) (body : Item) (s : State) → is_whole p n ≡ true → is_at (labelled p n) Pdirect 2 ≡ false → whole_fine (labelled p n) body ≡ true
            → After (BodyAsks std a b p n (of_node std a b p n s && along std a b below along_below depth body (opened p n s)) s) (step (iso std) below depth body (opened p n s))
        whole_asks p n depth (act scope · rest) s w named h =
            let both = and_parts (ends_fine (labelled p n) rest) (has_token rest && is_low 64 rest) h in
            let more = and_parts (has_token rest) (is_low 64 rest) both.1 in
            by (step (iso std) below depth rest (acted (iso std) scope (opened p n s)))
            (ended_asks rest (labelled p n) s.at depth (acted (iso std) scope (opened p n s)) both.0 (scoped_in std a (labelled p n) s.at (opened p n s) (opened_in std a p n s)))
            (subst (λ c. Moves c (acted (iso std) scope (opened p n s)) (step (iso std) below depth rest (acted (iso std) scope (opened p n s)))) more.0
            (Moves-step (iso std) below moves rest depth 64 (acted (iso std) scope (opened p n s)) more.1))
          where
            by : (r : Step) → After (EndedAsks (labelled p n) s.at (along std a b below along_below depth rest (acted (iso std) scope (opened p n s))) (acted (iso std) scope (opened p n s))) r
                → Moves true (acted (iso std) scope (opened p n s)) r
                → After (BodyAsks std a b p n (of_node std a b p n s && along std a b below along_below depth rest (acted (iso std) scope (opened p n s))) s) r
            by (Err stop) m g = tt
            by (Ok s') m g =
                let last_one : State = m.last_one in
                let same : s' ≡ acted (iso std) end last_one = m.same in
                let at_end = end_at last_one in
                let grows : (acted (iso std) scope (opened p n s)).at < (acted (iso std) end last_one).at =
                grown (acted (iso std) scope (opened p n s)) (acted (iso std) end last_one) (at_end.1 ∙ m.goes.same_text) (subst (λ x. Moves true (acted (iso std) scope (opened p n s)) (Ok x)) same g) in
                subst (BodyAsks std a b p n (of_node std a b p n s && along std a b below along_below depth rest (acted (iso std) scope (opened p n s))) s) (sym same)
                (told_after std a b p n (along std a b below along_below depth rest (acted (iso std) scope (opened p n s)))
                (of_node std a b p n s && along std a b below along_below depth rest (acted (iso std) scope (opened p n s))) s (Ok (acted (iso std) end last_one))
                (λ e. and_from (of_node std a b p n s) _ (plain_asked std a b p n s named) e)
                (whole_told p n s last_one m.goes (let e = begins_at p n s in let e' = at_end.0 in omega arith) (whole_scope std a p n last_one.built.under w)
                (along std a b below along_below depth rest (acted (iso std) scope (opened p n s))) m.asks))
        whole_asks p n depth _ s w named h = absurd (false≢true h)
