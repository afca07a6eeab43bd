-- What is asked of a second text's names along the reading of a first one, where these names agree with the tree that is
-- read.
use Rattle.std.proofs.Common.{ℕ, ◌+◌, ◌≤◌, ◌≡◌, Bool, true, false, ◌&&◌, if◌then◌else◌, ◌==◌, List, [], ◌∷◌, length, Ok, Err, nat_lt, refl, sym, ap, subst, ◌∙◌, arith}
use Rattle.std.proofs.lemmas.Bool.{false≢true, and_parts, not-true, and_from}
use Rattle.c99_grammar.specs.declared.dialects.Dialect.TheVariants.{Iso}
use Rattle.c99_grammar.specs.declared.dialects.Edition.{Edition}
use Rattle.cs_base.specs.Token.{Token}
use Rattle.c99_tree.specs.Tree.{Forest, none, token, node, Node, node_of, leaf, inner, put, lone, collapsed}
use Rattle.c99_tree.specs.declared.production.Label.{Label}
use Rattle.c99_tree.specs.declared.production.Production.{Production}
use Rattle.c99_tree.specs.declared.production.Production.TheVariants.{Main, Params, Primary, Pdirect}
use Rattle.c99_grammar.specs.Items.{Item, one, part, end_of_text, act, ◌·◌, choice, maybe, many, deep, Test, own, Alternative}
use Rattle.c99_grammar.specs.Standard.{iso}
use Rattle.c99_read.specs.Sound.{is_met, goal_has_token}
use Rattle.c99_read.specs.State.{State, collapses, finished, opened, closed}
use Rattle.c99_read.specs.Reading.{Goal, produce, repeat, Step, syntax, too_deep, and_then, deepest, at_end, enter, may, step, alternative, pick}
use Rattle.c99_read.proofs.Moves.{Moves}
use Rattle.scope_bind.specs.Named.{Scope}
use Rattle.c_types.specs.Trees.{is_at}
use Rattle.name_chains.specs.Entering.{scope_in}
use Rattle.tree_laws.specs.TypedefNames.{is_bodiless}
use Rattle.tree_laws.proofs.Private.{Declaration}
use Rattle.tree_laws.proofs.Outline.{Outline, stepped, begun, ended, entries_in, outlined, token_agrees, node_agrees, all_agree}
use Rattle.tree_laws.proofs.Matching.{Matches, Bounds, IsOpen, SameOuter, outer_further, outer_open, bounds_sooner}
use Rattle.tree_laws.proofs.Rules.{labelled, is_quiet, fine, held_told, is_simple, simple_scope, simple_entries, plain_named, collapsed_scope, collapsed_entries}
use Rattle.tree_laws.proofs.Goes.{After, with_token, IsIn, Fits, Goes, Body, closed_scopes, built_is}
use Rattle.tree_laws.proofs.TypedefSteps.{Reads, taken, goes_step, opened_in, opened_fits}
use Rattle.tree_laws.proofs.Table.{Bodies}
use Rattle.renamed_tree_laws.specs.Along.{along_rest, along_item, along_first}
use Rattle.renamed_tree_laws.specs.Respelled.{is_bare_so, is_kind_so, is_node_so}

collapsed_plain : (p : Production) (n : ℕ) → collapses p ≡ true → is_at (labelled p n) Pdirect 2 ≡ false
collapsed_plain Pdirect n h = absurd (false≢true h)
collapsed_plain _ n h = refl

module _ (std : Edition) where
  -- ---- Children that agree did so with one less

  module _ (b : List Token) where
    pub before_leaf : (f : Forest) (i : ℕ) (o : Outline) → all_agree std b (put f (leaf i)) o ≡ true
        → (all_agree std b f o ≡ true)
        × (token_agrees std b (outlined f o).label.production (outlined f o).label.alternative (outlined f o).nth i (outlined f o).entries ≡ true)
    before_leaf none i o h = (refl, (and_parts (token_agrees std b o.label.production o.label.alternative o.nth i o.entries) true h).0)
    before_leaf (token j rest) i o h =
        let both = and_parts (token_agrees std b o.label.production o.label.alternative o.nth j o.entries) (all_agree std b (put rest (leaf i)) (stepped j o)) h in
        let more = before_leaf rest i (stepped j o) both.1 in
        (and_from _ _ both.0 more.0, more.1)
    before_leaf (node l first under rest) i o h =
        let after : Outline = ended l first under o (outlined under (begun l first under o)) in
        let both = and_parts (node_agrees std b l first o.entries) _ h in
        let second = and_parts (all_agree std b under (begun l first under o)) (all_agree std b (put rest (leaf i)) after) both.1 in
        let more = before_leaf rest i after second.1 in
        (and_from _ _ both.0 (and_from _ _ second.0 more.0), more.1)

    pub before_inner : (f : Forest) (n : Node) (o : Outline) → all_agree std b (put f (inner n)) o ≡ true
        → (all_agree std b f o ≡ true)
        × ((node_agrees std b n.label n.first (outlined f o).entries ≡ true) × (all_agree std b n.under (begun n.label n.first n.under (outlined f o)) ≡ true))
    before_inner none n o h =
        let both = and_parts (node_agrees std b n.label n.first o.entries) _ h in
        let more = and_parts (all_agree std b n.under (begun n.label n.first n.under o)) true both.1 in
        (refl, (both.0, more.0))
    before_inner (token j rest) n o h =
        let both = and_parts (token_agrees std b o.label.production o.label.alternative o.nth j o.entries) (all_agree std b (put rest (inner n)) (stepped j o)) h in
        let more = before_inner rest n (stepped j o) both.1 in
        (and_from _ _ both.0 more.0, more.1)
    before_inner (node l first under rest) n o h =
        let after : Outline = ended l first under o (outlined under (begun l first under o)) in
        let both = and_parts (node_agrees std b l first o.entries) _ h in
        let second = and_parts (all_agree std b under (begun l first under o)) (all_agree std b (put rest (inner n)) after) both.1 in
        let more = before_inner rest n after second.1 in
        (and_from _ _ both.0 (and_from _ _ second.0 more.0), more.1)

  -- ---- Kinds that nothing is asked of

  quiet_kind : (b : List Token) (p : Production) (n : ℕ) (scopes : List (List Declaration)) (k : ℕ) → is_quiet p n ≡ true → is_kind_so (Iso std) b p n scopes k ≡ true
  quiet_kind b Primary n scopes k h = ap (λ c. if c then is_bare_so (Iso std) b scopes k else true) (not-true (n == 1) h)
  quiet_kind b Main n scopes k h = ap (λ c. if c then is_kind_so (Iso std) b Main 4 scopes k else true) (not-true (n == 4) h)
  quiet_kind b Params n scopes k h = ap (λ c. if c then is_bare_so (Iso std) b scopes k else true) (not-true (n == 1) h)
  quiet_kind b _ n scopes k h = refl

  plain_node : (b : List Token) (p : Production) (n : ℕ) (scopes : List (List Declaration)) (k : ℕ) → is_at (labelled p n) Pdirect 2 ≡ false → is_node_so (Iso std) b p n scopes k ≡ true
  plain_node b Pdirect n scopes k h = ap (λ c. if c then is_bare_so (Iso std) b scopes (k + 1) else true) h
  plain_node b _ n scopes k h = refl

  module _ (a b : List Token) where
    abbrev pub of_token : State → Bool
    of_token s = is_kind_so (Iso std) b s.built.label.production s.built.label.alternative s.names.scopes s.at

    abbrev pub of_node : Production → ℕ → State → Bool
    of_node p n s = is_node_so (Iso std) b p n s.names.scopes s.at

    -- Where the second text's names agree with what is built at s', they did so at s, and what was asked between is so.
    abbrev pub Asks : Label → Bool → State → State → Type 0
    Asks l v s s' =
        (o : Outline) (ends : List ℕ) → Bounds s'.at o.scope.to s'.names.scopes ends → Fits std a l s ends o → all_agree std b s'.built.under o ≡ true
        → (all_agree std b s.built.under o ≡ true) × (v ≡ true)

    pub asks_still : (l : Label) (s : State) → Asks l true s s
    asks_still l s = λ o ends bounds f agree. (agree, refl)

    pub asks_further : (l : Label) (first : ℕ) (s s' s'' : State) (v w : Bool) → Goes std a l first s s' → SameOuter s'.names.scopes s''.names.scopes → s'.at ≤ s''.at
        → Asks l v s s' → Asks l w s' s'' → Asks l (v && w) s s''
    asks_further l first s s' s'' v w g same later k k' = λ o ends bounds f agree. (
        let sooner = bounds_sooner s'.at s''.at o.scope.to s'.names.scopes s''.names.scopes ends (outer_open s.names.scopes s'.names.scopes f.opens g.outer) later same bounds in
        let second = k' o ends bounds (g.fits o ends sooner f) agree in
        let start = k o ends sooner f second.0 in
        (start.0, and_from v w start.1 second.1))

    -- a token
    pub token_asks : (l : Label) (s : State) (v : Bool)
        → ((o : Outline) (ends : List ℕ) → Bounds (s.at + 1) o.scope.to s.names.scopes ends → Fits std a l s ends o
        → token_agrees std b l.production l.alternative (outlined s.built.under o).nth s.at (outlined s.built.under o).entries ≡ true → v ≡ true)
        → Asks l v s (with_token s)
    token_asks l s v k = λ o ends bounds f agree. (
        let both = before_leaf b s.built.under s.at o agree in
        let here : Outline = outlined s.built.under o in
        (both.0, k o ends bounds f (ap (λ (m : Label). token_agrees std b m.production m.alternative here.nth s.at here.entries) (sym f.label) ∙ both.1)))

    pub quiet_so : (l : Label) (first : ℕ) (s : State) → is_quiet l.production l.alternative ≡ true → IsIn l first s → of_token s ≡ true
    quiet_so l first s q i =
        ap (λ (m : Label). is_kind_so (Iso std) b m.production m.alternative s.names.scopes s.at) i.label ∙ quiet_kind b l.production l.alternative s.names.scopes s.at q

    pub quiet_asks : (l : Label) (first : ℕ) (s : State) → is_quiet l.production l.alternative ≡ true → IsIn l first s → Asks l (of_token s) s (with_token s)
    quiet_asks l first s q i = token_asks l s (of_token s) (λ o ends bounds f t. quiet_so l first s q i)

    -- ---- Items in which no scope begins and nothing is declared

    pub asks_then : (l : Label) (first : ℕ) (s : State) (v : Bool) (w : State → Bool) (r : Step) (next_step : State → Step) → IsIn l first s
        → After (Goes std a l first s) r → After (Asks l v s) r
        → ((s' : State) → IsIn l first s' → After (Goes std a l first s') (next_step s'))
        → ((s' : State) → IsIn l first s' → After (Asks l (w s') s') (next_step s'))
        → After (Asks l (v && along_rest r w) s) (and_then r next_step)
    asks_then l first s v w (Err stop) next_step i g k g' k' = tt
    asks_then l first s v w (Ok s') next_step i g k g' k' = onward (next_step s') (g' s' (g.inside i)) (k' s' (g.inside i))
      where
        onward : (r : Step) → After (Goes std a l first s') r → After (Asks l (w s') s') r → After (Asks l (v && w s') s) r
        onward (Err stop) h m = tt
        onward (Ok s'') h m = asks_further l first s s' s'' v (w s') g h.outer h.later k m

    -- a later state with the same scopes around the innermost one
    abbrev pub Stays : State → State → Type 0
    Stays s s' = SameOuter s.names.scopes s'.names.scopes × (s.at ≤ s'.at)

    pub asks_and_then : (l : Label) (first : ℕ) (s : State) (v : Bool) (w : State → Bool) (r : Step) (next_step : State → Step)
        → After (λ s'. Goes std a l first s s' × Asks l v s s') r
        → ((s' : State) → Goes std a l first s s' → After (λ s''. Asks l (w s') s' s'' × Stays s' s'') (next_step s'))
        → After (λ s''. Asks l (v && along_rest r w) s s'' × Stays s s'') (and_then r next_step)
    asks_and_then l first s v w (Err stop) next_step m n = tt
    asks_and_then l first s v w (Ok s') next_step m n = onward (next_step s') (n s' m.0)
      where
        onward : (r : Step) → After (λ s''. Asks l (w s') s' s'' × Stays s' s'') r → After (λ s''. Asks l (v && w s') s s'' × Stays s s'') r
        onward (Err stop) k = tt
        onward (Ok s'') k = (
          asks_further l first s s' s'' v (w s') m.0 k.1.0 k.1.1 m.1 k.0,
          (
            outer_further s.names.scopes s'.names.scopes s''.names.scopes m.0.outer k.1.0,
            (let e = m.0.later in let e' = k.1.1 in omega arith),
          ),
        )

    module _ (below : ℕ → Goal → State → Step) (along_below : ℕ → Goal → State → Bool) where
      -- what is asked along the reading of an item
      abbrev pub along : ℕ → Item → State → Bool
      along depth item s = along_item (iso std) of_token of_node below along_below depth item s

      -- what is asked along the reading of productions and repetitions
      pub record Asked : Type 0 where
        pub made : (depth : ℕ) (p : Production) (l : Label) (s : State) → is_bodiless p ≡ true
            → After (Asks l (along_below depth (produce p) s) s) (below depth (produce p) s)
        pub more : (depth : ℕ) (t : Test) (item : Item) (l : Label) (first : ℕ) (s : State) → fine l item ≡ true → IsIn l first s
            → After (Asks l (along_below depth (repeat t item) s) s) (below depth (repeat t item) s)

      module _ (reads : Reads std a below) (asked : Asked) where
        end_asks : (l : Label) (s : State) → After (Asks l true s) (at_end s)
        unfolding at_end
        end_asks l s = by (s.at == length s.toks)
          where
            by : (c : Bool) → After (Asks l true s) (if c then Ok s else Err (syntax s.at))
            by true = asks_still l s
            by false = tt

        entered_same : (depth : ℕ) (c : Bool) (s : State) → After (λ s'. s' ≡ s) (enter depth c s)
        unfolding enter
        entered_same depth false s = tt
        entered_same depth true s = by (nat_lt depth deepest)
          where
            by : (c : Bool) → After (λ s'. s' ≡ s) (if c then Ok s else Err (too_deep s.at))
            by true = refl
            by false = tt

        pub asks_step : (item : Item) (l : Label) (first depth : ℕ) (s : State) → fine l item ≡ true → IsIn l first s
            → After (Asks l (along depth item s) s) (step (iso std) below depth item s)
        asks_step (one classes) l first depth s h i = taken std (Asks l (of_token s) s) classes s (λ c more. quiet_asks l first s h i)
        asks_step (part p) l first depth s h i = asked.made depth p l s (held_told l.production p h)
        asks_step end_of_text l first depth s h i = end_asks l s
        asks_step (act x) l first depth s h i = absurd (false≢true h)
        asks_step (x · y) l first depth s h i =
            let both = and_parts (fine l x) (fine l y) h in
            asks_then l first s (along depth x s) (along depth y) (step (iso std) below depth x s) (step (iso std) below depth y) i
            (goes_step std a below reads x l first depth s both.0 i) (asks_step x l first depth s both.0 i)
            (λ s' i'. goes_step std a below reads y l first depth s' both.1 i') (λ s' i'. asks_step y l first depth s' both.1 i')
        asks_step (choice x y) l first depth s h i =
            let both = and_parts (fine l x) (fine l y) h in
            by (may (iso std) own x s) (may (iso std) own y s) (asks_step x l first depth s both.0 i) (asks_step y l first depth s both.1 i)
          where
            by : (c d : Bool) → After (Asks l (along depth x s) s) (step (iso std) below depth x s) → After (Asks l (along depth y s) s) (step (iso std) below depth y s)
                → After (Asks l (if c then along depth x s else along depth y s) s)
                (if c then step (iso std) below depth x s else (if d then step (iso std) below depth y s else Err (syntax s.at)))
            by true d m m' = m
            by false true m m' = m'
            by false false m m' = tt
        asks_step (maybe x) l first depth s h i = by (may (iso std) own x s) (asks_step x l first depth s h i)
          where
            by : (c : Bool) → After (Asks l (along depth x s) s) (step (iso std) below depth x s)
                → After (Asks l (if c then along depth x s else true) s) (if c then step (iso std) below depth x s else Ok s)
            by true m = m
            by false m = asks_still l s
        asks_step (many t x) l first depth s h i =
            by (may (iso std) t x s)
            (asks_then l first s (along depth x s) (along_below depth (repeat t x)) (step (iso std) below depth x s) (below depth (repeat t x)) i
            (goes_step std a below reads x l first depth s h i) (asks_step x l first depth s h i)
            (λ s' i'. reads.more depth t x l first s' h i') (λ s' i'. asked.more depth t x l first s' h i'))
          where
            by : (c : Bool) → After (Asks l (along depth x s && along_rest (step (iso std) below depth x s) (along_below depth (repeat t x))) s)
                (and_then (step (iso std) below depth x s) (below depth (repeat t x)))
                → After (Asks l (if c then along depth x s && along_rest (step (iso std) below depth x s) (along_below depth (repeat t x)) else true) s)
                (if c then and_then (step (iso std) below depth x s) (below depth (repeat t x)) else Ok s)
            by true m = m
            by false m = asks_still l s
        asks_step (deep x) l first depth s h i =
            by (enter depth (may (iso std) own x s) s) (entered_same depth (may (iso std) own x s) s) (asks_step x l first (depth + 1) s h i)
          where
            by : (r : Step) → After (λ s'. s' ≡ s) r → After (Asks l (along (depth + 1) x s) s) (step (iso std) below (depth + 1) x s)
                → After (Asks l (along (depth + 1) x s) s) (and_then r (step (iso std) below (depth + 1) x))
            by (Err stop) e m = tt
            by (Ok s') e m = subst (λ y. After (Asks l (along (depth + 1) x s) s) (step (iso std) below (depth + 1) x y)) (sym e) m

    -- ---- Nodes

    -- Where the second text's names agree with a node whose items were read from s to s', what was asked between is so.
    abbrev pub BodyAsks : Production → ℕ → Bool → State → State → Type 0
    BodyAsks p n v s s' =
        (o : Outline) (ends : List ℕ) → s.toks ≡ a → IsOpen s.names.scopes → Bounds s'.at o.scope.to s'.names.scopes ends
        → Matches s.at s.names.scopes ends o.entries → o.typedef ≡ s.near
        → node_agrees std b (labelled p n) s.at o.entries ≡ true → all_agree std b s'.built.under (begun (labelled p n) s.at s'.built.under o) ≡ true → v ≡ true

    pub told_after : (p : Production) (n : ℕ) (v w : Bool) (s : State) (r : Step) → (v ≡ true → w ≡ true) → After (BodyAsks p n v s) r → After (BodyAsks p n w s) r
    told_after p n v w s (Err stop) f m = tt
    told_after p n v w s (Ok s') f m = λ o ends t op bounds x near h agree. f (m o ends t op bounds x near h agree)

    -- a node agrees where what replaces it does
    lone_agrees : (p : Production) (n first : ℕ) (o : Outline) (f : Forest) → collapses p ≡ true
        → node_agrees std b (lone f (node_of (labelled p n) first f)).label (lone f (node_of (labelled p n) first f)).first o.entries ≡ true
        → all_agree std b (lone f (node_of (labelled p n) first f)).under
        (begun (lone f (node_of (labelled p n) first f)).label (lone f (node_of (labelled p n) first f)).first (lone f (node_of (labelled p n) first f)).under o) ≡ true
        → all_agree std b f (begun (labelled p n) first f o) ≡ true
    lone_agrees p n first o none c h k = k
    lone_agrees p n first o (token i rest) c h k = k
    lone_agrees p n first o (node l begins under (token i rest)) c h k = k
    lone_agrees p n first o (node l begins under (node m second below rest)) c h k = k
    lone_agrees p n first o (node l begins under none) c h k =
        let f : Forest = node l begins under none in
        let inside : Outline = begun (labelled p n) first f o in
        let entries : entries_in p first f o.kept o.scope.depth o.entries ≡ o.entries = collapsed_entries p first f o.kept o.scope.depth o.entries c in
        let scope : scope_in p (labelled p n) f o.scope ≡ o.scope = collapsed_scope p (labelled p n) f o.scope c in
        let same : begun l begins under inside ≡ begun l begins under o =
        ap (λ es. begun l begins under (record inside { entries = es })) entries ∙ ap (λ c. begun l begins under (record inside { entries = o.entries; scope = c })) scope in
        and_from _ _ (ap (node_agrees std b l begins) entries ∙ h) (and_from _ true (ap (all_agree std b under) same ∙ k) refl)

    finished_agrees : (p : Production) (n first : ℕ) (o : Outline) (f : Forest)
        → node_agrees std b (finished p (node_of (labelled p n) first f)).label (finished p (node_of (labelled p n) first f)).first o.entries ≡ true
        → all_agree std b (finished p (node_of (labelled p n) first f)).under
        (begun (finished p (node_of (labelled p n) first f)).label (finished p (node_of (labelled p n) first f)).first (finished p (node_of (labelled p n) first f)).under o) ≡ true
        → (node_agrees std b (labelled p n) first o.entries ≡ true) × (all_agree std b f (begun (labelled p n) first f o) ≡ true)
    finished_agrees p n first o f = by (collapses p) refl
      where
        by : (c : Bool) → collapses p ≡ c
            → node_agrees std b (if c then collapsed (node_of (labelled p n) first f) else (node_of (labelled p n) first f)).label (if c then collapsed (node_of (labelled p n) first f) else (node_of (labelled p n) first f)).first o.entries ≡ true
            → all_agree std b (if c then collapsed (node_of (labelled p n) first f) else (node_of (labelled p n) first f)).under
            (begun (if c then collapsed (node_of (labelled p n) first f) else (node_of (labelled p n) first f)).label (if c then collapsed (node_of (labelled p n) first f) else (node_of (labelled p n) first f)).first (if c then collapsed (node_of (labelled p n) first f) else (node_of (labelled p n) first f)).under o) ≡ true
            → (node_agrees std b (labelled p n) first o.entries ≡ true) × (all_agree std b f (begun (labelled p n) first f o) ≡ true)
        by true e h k = (plain_named std b p n first o.entries (collapsed_plain p n e), lone_agrees p n first o f e h k)
        by false e h k = (h, k)

    -- the node is closed
    pub closed_asks : (p : Production) (n : ℕ) (v : Bool) (s s' : State) → IsIn (labelled p n) s.at s' → BodyAsks p n v s s' → (l : Label) → Asks l v s (closed p s s')
    unfolding closed
    closed_asks p n v s s' i k l = λ o ends bounds f agree. (
        let child : Node = finished p (node_of (labelled p n) s.at s'.built.under) in
        let here : Outline = outlined s.built.under o in
        let same : finished p s'.built ≡ child = ap (finished p) (built_is std a p n s s' i) in
        let parts = before_inner b s.built.under child o (subst (λ (c : Node). all_agree std b (put s.built.under (inner c)) o ≡ true) same agree) in
        let mine = finished_agrees p n s.at here s'.built.under parts.1.0 parts.1.1 in (
          parts.0,
          k here ends f.text f.opens
              (subst (λ (c : Scope). Bounds s'.at c.to s'.names.scopes ends) (sym f.scope) (subst (λ x. Bounds s'.at o.scope.to x ends) (closed_scopes std a p s'.names) bounds))
              f.matches f.near mine.0 mine.1,
        ))

    -- the items of a node with the scope around it
    pub asks_named : (p : Production) (n : ℕ) (v : Bool) (s s' : State) → is_simple p n ≡ true
        → ((o : Outline) (ends : List ℕ) → s.toks ≡ a → IsOpen s.names.scopes → Bounds s'.at o.scope.to s'.names.scopes ends
        → Matches s.at s.names.scopes ends o.entries → node_agrees std b (labelled p n) s.at o.entries ≡ true → of_node p n s ≡ true)
        → Asks (labelled p n) v (opened p n s) s' → BodyAsks p n (of_node p n s && v) s s'
    asks_named p n v s s' simple named k = λ o ends t op bounds m near h agree. (
        let under : Forest = s'.built.under in
        let scope : scope_in p (labelled p n) under o.scope ≡ o.scope = simple_scope p n under o.scope simple in
        let r = k (begun (labelled p n) s.at under o) ends (subst (λ (c : Scope). Bounds s'.at c.to s'.names.scopes ends) (sym scope) bounds)
        (opened_fits std a p n s under o ends t op (simple_entries p n s.at under o.kept o.scope.depth o.entries simple) m near) agree in
        and_from (of_node p n s) v (named o ends t op bounds m h) r.1)

    pub asks_body : (p : Production) (n : ℕ) (v : Bool) (s s' : State) → is_simple p n ≡ true → is_at (labelled p n) Pdirect 2 ≡ false
        → Asks (labelled p n) v (opened p n s) s' → BodyAsks p n (of_node p n s && v) s s'
    asks_body p n v s s' simple named k = asks_named p n v s s' simple (λ o ends t op bounds m h. plain_node b p n s.names.scopes s.at named) k

    pub plain_asked : (p : Production) (n : ℕ) (s : State) → is_at (labelled p n) Pdirect 2 ≡ false → of_node p n s ≡ true
    plain_asked p n s h = plain_node b p n s.names.scopes s.at h

    module _ (below : ℕ → Goal → State → Step) (along_below : ℕ → Goal → State → Bool) (reads : Reads std a below) (asked : Asked below along_below) where
      pub fine_asks : (depth : ℕ) (p : Production) (n : ℕ) (body : Item) (s : State) → is_simple p n ≡ true → is_at (labelled p n) Pdirect 2 ≡ false
          → fine (labelled p n) body ≡ true
          → After (BodyAsks p n (of_node p n s && along below along_below depth body (opened p n s)) s) (step (iso std) below depth body (opened p n s))
      fine_asks depth p n body s simple named h =
          by (step (iso std) below depth body (opened p n s)) (asks_step below along_below reads asked body (labelled p n) s.at depth (opened p n s) h (opened_in std a p n s))
        where
          by : (r : Step) → After (Asks (labelled p n) (along below along_below depth body (opened p n s)) (opened p n s)) r
              → After (BodyAsks p n (of_node p n s && along below along_below depth body (opened p n s)) s) r
          by (Err stop) m = tt
          by (Ok s') m = asks_body p n (along below along_below depth body (opened p n s)) s s' simple named m

      module _ (moves : (depth : ℕ) (goal : Goal) (s : State) → is_met goal ≡ true → Moves (goal_has_token goal) s (below depth goal s)) (depth : ℕ) where
        -- what is asked along each alternative that may be read
        abbrev pub AskedBodies : Production → ℕ → List Alternative → State → Type 0
        AskedBodies p n [] s = Unit {0}
        AskedBodies p n (x ∷ more) s =
            (may (iso std) x.test x.body s ≡ true
            → After (BodyAsks p n (of_node p n s && along below along_below depth x.body (opened p n s)) s) (step (iso std) below depth x.body (opened p n s)))
            × AskedBodies p (n + 1) more s

        pub picked_asks : (p : Production) (n : ℕ) (alternatives : List Alternative) (s : State) (l : Label) → Bodies std a below reads moves depth p n alternatives s
            → AskedBodies p n alternatives s
            → After (Asks l (along_first (iso std) of_token of_node below along_below depth p n alternatives s) s) (pick (iso std) below depth p n alternatives s)
        picked_asks p n [] s l h k = tt
        picked_asks p n (x ∷ more) s l h k =
            by (may (iso std) x.test x.body s) (λ m. closing (step (iso std) below depth x.body (opened p n s)) (h.0 m) (k.0 m)) (picked_asks p (n + 1) more s l h.1 k.1)
          where
            closing : (r : Step) → After (Body std a p n s) r → After (BodyAsks p n (of_node p n s && along below along_below depth x.body (opened p n s)) s) r → After (Asks l (of_node p n s && along below along_below depth x.body (opened p n s)) s) (and_then r (λ s'. Ok (closed p s s')))
            closing (Err stop) body m = tt
            closing (Ok s') body m = closed_asks p n (of_node p n s && along below along_below depth x.body (opened p n s)) s s' body.inside m l

            by : (c : Bool) → (c ≡ true → After (Asks l (of_node p n s && along below along_below depth x.body (opened p n s)) s) (alternative (iso std) below depth p n x.body s))
                → After (Asks l (along_first (iso std) of_token of_node below along_below depth p (n + 1) more s) s) (pick (iso std) below depth p (n + 1) more s)
                → After (Asks l (if c then (of_node p n s && along below along_below depth x.body (opened p n s)) else along_first (iso std) of_token of_node below along_below depth p (n + 1) more s) s)
                (if c then alternative (iso std) below depth p n x.body s else pick (iso std) below depth p (n + 1) more s)
            by true m m' = m refl
            by false m m' = m'
