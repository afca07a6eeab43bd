-- Reading an item in which no scope begins and nothing is declared, and a node that is made of such items.
use Rattle.std.proofs.Common.{ℕ, ◌+◌, ◌<◌, ◌≡◌, Bool, true, false, ◌&&◌, if◌then◌else◌, ◌==◌, List, length, Ok, Err, nat_lt, refl, sym, subst}
use Rattle.std.proofs.lemmas.Bool.{false≢true, and_parts, ltb-true}
use Rattle.c99_grammar.specs.declared.dialects.Edition.{Edition}
use Rattle.cs_base.specs.Token.{Token}
use Rattle.c99_tree.specs.Tree.{Forest}
use Rattle.c99_tree.specs.declared.production.Label.{Label}
use Rattle.c99_tree.specs.declared.production.Production.{Production}
use Rattle.c99_tree.specs.declared.production.Production.TheVariants.{Pdirect}
use Rattle.c99_grammar.specs.Classes.{among}
use Rattle.c99_grammar.specs.Items.{Item, one, part, end_of_text, act, ◌·◌, choice, maybe, many, deep, Test, own}
use Rattle.c99_grammar.specs.Standard.{iso}
use Rattle.c99_read.specs.Sound.{never_empty}
use Rattle.c99_read.specs.State.{State, Names, class_at, is_declarator, with_head, names_opened, opened, closed}
use Rattle.c99_read.specs.Reading.{Goal, produce, repeat, Step, syntax, and_then, deepest, take_one, at_end, enter, may, step, alternative}
use Rattle.scope_bind.specs.Named.{Scope}
use Rattle.c_types.specs.Trees.{is_at}
use Rattle.name_chains.specs.Entering.{scope_in}
use Rattle.tree_laws.specs.TypedefNames.{is_bodiless}
use Rattle.tree_laws.proofs.Private.{Class}
use Rattle.tree_laws.proofs.Outline.{Outline, begun, entries_in, outlined, node_agrees}
use Rattle.tree_laws.proofs.Matching.{Matches, Bounds, IsOpen, SameOuter}
use Rattle.tree_laws.proofs.Places.{ends_none}
use Rattle.tree_laws.proofs.Rules.{labelled, may_hold, is_quiet, fine, is_simple, simple_scope, simple_entries, simple_alone, quiet_token, quiet_listing, plain_named, held_told}
use Rattle.tree_laws.proofs.Goes.{After, with_token, IsIn, Fits, Goes, goes_still, goes_further, token_fits, token_goes, Makes, node_goes, Body, body_makes}

pub after_if : (P : State → Type 0) (b : Bool) (r r' : Step) → After P r → After P r' → After P (if b then r else r')
after_if P true r r' m m' = m
after_if P false r r' m m' = m'

-- more tokens were read, where the production has one
abbrev pub Grows : Production → State → State → Type 0
Grows p s s' = never_empty p ≡ true → s.at < s'.at

module _ (std : Edition) where
  -- what is so of the state behind a token of these classes
  pub taken : (P : State → Type 0) (classes : List Class) (s : State) → (among classes (class_at (iso std) s s.at) ≡ true → s.at < length s.toks → P (with_token s))
      → After P (take_one (iso std) classes s)
  unfolding take_one
  taken P classes s p = by (nat_lt s.at (length s.toks)) (among classes (class_at (iso std) s s.at)) p (λ h. ltb-true s.at (length s.toks) h)
    where
      by : (within c : Bool) → (c ≡ true → s.at < length s.toks → P (with_token s)) → (within ≡ true → s.at < length s.toks)
          → After P (if within && c then Ok (with_token s) else Err (syntax s.at))
      by true true h k = h refl (k refl)
      by true false h k = tt
      by false c h k = tt

  module _ (toks : List Token) where
    -- what reading makes of productions and repetitions
    pub record Reads (below : ℕ → Goal → State → Step) : Type 0 where
      pub made : (depth : ℕ) (p : Production) (s : State) → is_bodiless p ≡ true → After (λ s'. Makes std toks p s s' × Grows p s s') (below depth (produce p) s)
      pub more : (depth : ℕ) (t : Test) (a : Item) (l : Label) (first : ℕ) (s : State) → fine l a ≡ true → IsIn l first s
          → After (Goes std toks l first s) (below depth (repeat t a) s)

    pub quiet_fits : (l : Label) (s : State) (ends : List ℕ) (o : Outline) → is_quiet l.production l.alternative ≡ true
        → Fits std toks l s ends o → Fits std toks l (with_token s) ends o
    quiet_fits l s ends o q f =
        (token_fits std) toks l s ends o (quiet_listing l.production l.alternative (outlined s.built.under o).nth q)
        (quiet_token std toks l.production l.alternative (outlined s.built.under o).nth s.at (outlined s.built.under o).entries q) f

    module _ (below : ℕ → Goal → State → Step) (reads : Reads below) where
      -- one step behind another
      pub goes_then : (l : Label) (first : ℕ) (s : State) (r : Step) (next_step : State → Step) → IsIn l first s → After (Goes std toks l first s) r
          → ((s' : State) → IsIn l first s' → After (Goes std toks l first s') (next_step s')) → After (Goes std toks l first s) (and_then r next_step)
      goes_then l first s (Err stop) next_step i m n = tt
      goes_then l first s (Ok s') next_step i m n = onward (next_step s') (n s' (m.inside i))
        where
          onward : (r : Step) → After (Goes std toks l first s') r → After (Goes std toks l first s) r
          onward (Err stop) n' = tt
          onward (Ok s'') n' = goes_further std toks l first s s' s'' m n'

      pub quiet_goes : (l : Label) (first : ℕ) (s : State) → s.at < length s.toks → is_quiet l.production l.alternative ≡ true → Goes std toks l first s (with_token s)
      quiet_goes l first s more q =
          (token_goes std) toks l first s more
          (λ o ends b f. (
            quiet_listing l.production l.alternative (outlined s.built.under o).nth q,
            (quiet_token std) toks l.production l.alternative (outlined s.built.under o).nth s.at (outlined s.built.under o).entries q,
          ))

      end_goes : (l : Label) (first : ℕ) (s : State) → After (Goes std toks l first s) (at_end s)
      unfolding at_end
      end_goes l first s = after_if (Goes std toks l first s) (s.at == length s.toks) _ _ (goes_still std toks l first s) tt

      enter_goes : (l : Label) (first depth : ℕ) (b : Bool) (s : State) → After (Goes std toks l first s) (enter depth b s)
      unfolding enter
      enter_goes l first depth b s =
          after_if (Goes std toks l first s) b _ _ (after_if (Goes std toks l first s) (nat_lt depth deepest) _ _ (goes_still std toks l first s) tt) tt

      pub part_goes : (l : Label) (first depth : ℕ) (p : Production) (s : State) → is_bodiless p ≡ true → may_hold l.production p ≡ true
          → After (Goes std toks l first s) (below depth (produce p) s)
      part_goes l first depth p s told h = by (below depth (produce p) s) (reads.made depth p s told)
        where
          by : (r : Step) → After (λ s'. Makes std toks p s s' × Grows p s s') r → After (Goes std toks l first s) r
          by (Err stop) m = tt
          by (Ok s') m = node_goes std toks l first p s s' h m.0

      pub goes_step : (item : Item) (l : Label) (first depth : ℕ) (s : State) → fine l item ≡ true → IsIn l first s
          → After (Goes std toks l first s) (step (iso std) below depth item s)
      goes_step (one classes) l first depth s h i = taken (Goes std toks l first s) classes s (λ c more. quiet_goes l first s more h)
      goes_step (part p) l first depth s h i = part_goes l first depth p s (held_told l.production p h) h
      goes_step end_of_text l first depth s h i = end_goes l first s
      goes_step (act a) l first depth s h i = absurd (false≢true h)
      goes_step (a · b) l first depth s h i =
          let both = and_parts (fine l a) (fine l b) h in
          goes_then l first s (step (iso std) below depth a s) (step (iso std) below depth b) i (goes_step a l first depth s both.0 i)
          (λ s' i'. goes_step b l first depth s' both.1 i')
      goes_step (choice a b) l first depth s h i =
          let both = and_parts (fine l a) (fine l b) h in
          after_if (Goes std toks l first s) (may (iso std) own a s) _ _ (goes_step a l first depth s both.0 i)
          (after_if (Goes std toks l first s) (may (iso std) own b s) _ _ (goes_step b l first depth s both.1 i) tt)
      goes_step (maybe a) l first depth s h i =
          after_if (Goes std toks l first s) (may (iso std) own a s) _ _ (goes_step a l first depth s h i) (goes_still std toks l first s)
      goes_step (many t a) l first depth s h i =
          after_if (Goes std toks l first s) (may (iso std) t a s) _ _
          (goes_then l first s (step (iso std) below depth a s) (below depth (repeat t a)) i (goes_step a l first depth s h i)
          (λ s' i'. reads.more depth t a l first s' h i'))
          (goes_still std toks l first s)
      goes_step (deep a) l first depth s h i =
          goes_then l first s (enter depth (may (iso std) own a s) s) (step (iso std) below (depth + 1) a) i (enter_goes l first depth (may (iso std) own a s) s)
          (λ s' i'. goes_step a l first (depth + 1) s' h i')

    -- ---- Nodes that are opened

    pub opened_scopes : (p : Production) (names : Names) → (names_opened p names).scopes ≡ names.scopes
    opened_scopes p names = by (is_declarator p)
      where
        by : (c : Bool) → (if c then with_head names else names).scopes ≡ names.scopes
        by true = refl
        by false = refl

    pub opened_in : (p : Production) (n : ℕ) (s : State) → IsIn (labelled p n) s.at (opened p n s)
    unfolding opened
    opened_in p n s = record { label = refl; begins = refl }

    -- what is known where a node begins fits the state in which it is opened
    pub opened_fits : (p : Production) (n : ℕ) (s : State) (under : Forest) (o : Outline) (ends : List ℕ) → s.toks ≡ toks → IsOpen s.names.scopes
        → entries_in p s.at under o.kept o.scope.depth o.entries ≡ o.entries → Matches s.at s.names.scopes ends o.entries → o.typedef ≡ s.near
        → Fits std toks (labelled p n) (opened p n s) ends (begun (labelled p n) s.at under o)
    unfolding opened
    opened_fits p n s under o ends t op e m near = record {
      text = t;
      matches = subst (λ x. Matches s.at x ends (entries_in p s.at under o.kept o.scope.depth o.entries)) (sym (opened_scopes p s.names)) (subst (Matches s.at s.names.scopes ends) (sym e) m);
      near = near;
      label = refl;
      nth = refl;
      scope = refl;
      agree = refl;
      opens = subst IsOpen (sym (opened_scopes p s.names)) op;
    }

    pub opened_outer : (p : Production) (n : ℕ) (s s' : State) → SameOuter (opened p n s).names.scopes s'.names.scopes → SameOuter s.names.scopes s'.names.scopes
    unfolding opened
    opened_outer p n s s' h = subst (λ x. SameOuter x s'.names.scopes) (opened_scopes p s.names) h

    -- what is asked of a node as a whole
    abbrev pub IsNamed : Production → ℕ → State → State → Type 0
    IsNamed p n s s' =
        (o : Outline) (ends : List ℕ) → s.toks ≡ toks → IsOpen s.names.scopes → Bounds s'.at o.scope.to s'.names.scopes ends
        → Matches s.at s.names.scopes ends o.entries → node_agrees std toks (labelled p n) s.at o.entries ≡ true

    -- the items of a node with the scope around it
    pub goes_named : (p : Production) (n : ℕ) (s s' : State) → is_simple p n ≡ true → IsNamed p n s s'
        → Goes std toks (labelled p n) s.at (opened p n s) s' → Body std toks p n s s'
    unfolding opened
    goes_named p n s s' simple named g = record {
      same_text = g.same_text;
      later = g.later;
      within = g.within;
      outer = opened_outer p n s s' g.outer;
      inside = g.inside (record { label = refl; begins = refl });
      holds = g.holds refl;
      ends = g.ends (ends_none s.at);
      fits = λ o ends t op b m near. (
          let under : Forest = s'.built.under in
          let scope : scope_in p (labelled p n) under o.scope ≡ o.scope = simple_scope p n under o.scope simple in
          let f = g.fits (begun (labelled p n) s.at under o) ends (subst (λ (c : Scope). Bounds s'.at c.to s'.names.scopes ends) (sym scope) b)
          (opened_fits p n s under o ends t op (simple_entries p n s.at under o.kept o.scope.depth o.entries simple) m near) in
          record {
            matches = subst (Matches s'.at s'.names.scopes ends) (sym (simple_alone p n s.at o under (outlined under (begun (labelled p n) s.at under o)).entries simple)) f.matches;
            agree = f.agree;
            named = named o ends t op b m;
          });
    }

    pub goes_body : (p : Production) (n : ℕ) (s s' : State) → is_simple p n ≡ true → is_at (labelled p n) Pdirect 2 ≡ false
        → Goes std toks (labelled p n) s.at (opened p n s) s' → Body std toks p n s s'
    goes_body p n s s' simple named g = goes_named p n s s' simple (λ o ends t op b m. plain_named std toks p n s.at o.entries named) g

    -- ---- Alternatives

    module _ (below : ℕ → Goal → State → Step) (reads : Reads below) where
      pub closing : (depth : ℕ) (p : Production) (n : ℕ) (body : Item) (s : State) → After (Body std toks p n s) (step (iso std) below depth body (opened p n s))
          → After (Makes std toks p s) (alternative (iso std) below depth p n body s)
      closing depth p n body s m = by (step (iso std) below depth body (opened p n s)) m
        where
          by : (r : Step) → After (Body std toks p n s) r → After (Makes std toks p s) (and_then r (λ s'. Ok (closed p s s')))
          by (Err stop) m' = tt
          by (Ok s') m' = body_makes std toks p n s s' m'

      pub fine_body : (depth : ℕ) (p : Production) (n : ℕ) (body : Item) (s : State) → is_simple p n ≡ true → is_at (labelled p n) Pdirect 2 ≡ false
          → fine (labelled p n) body ≡ true → After (Body std toks p n s) (step (iso std) below depth body (opened p n s))
      fine_body depth p n body s simple named h =
          by (step (iso std) below depth body (opened p n s)) (goes_step below reads body (labelled p n) s.at depth (opened p n s) h (opened_in p n s))
        where
          by : (r : Step) → After (Goes std toks (labelled p n) s.at (opened p n s)) r → After (Body std toks p n s) r
          by (Err stop) m = tt
          by (Ok s') m = goes_body p n s s' simple named m
