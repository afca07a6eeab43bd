-- What each step of reading keeps, reading keeps.
use Rattle.std.proofs.Common.{ℕ, suc, zero, ◌+◌, ◌≡◌, Bool, true, false, ◌&&◌, if◌then◌else◌, List, [], ◌∷◌, length, Ok, Err, nat_lt, ◌==◌, refl}
use Rattle.std.specs.List.{list_all}
use Rattle.std.proofs.lemmas.Bool.{and_parts}
use Rattle.c99_tree.specs.Tree.{leaf, put}
use Rattle.c99_tree.specs.declared.production.Production.{Production}
use Rattle.c99_grammar.specs.Classes.{among}
use Rattle.c99_grammar.specs.Items.{Item, one, part, end_of_text, act, ◌·◌, choice, maybe, many, deep, own, Action, Alternative}
use Rattle.c99_read.specs.State.{State, class_at, acted, opened, closed}
use Rattle.c99_grammar.specs.Standard.{Grammar}
use Rattle.c99_read.specs.Reading.{Goal, produce, repeat, Step, and_then, deepest, take_one, at_end, enter, may, step, alternative, pick, run, read_within}
use Rattle.tree_laws.specs.Shapes.{parts_all, goal_all}

-- this is so of the state that is left, if reading does not stop
abbrev pub After : (State → Type 0) → Step → Type 0
After P (Ok s) = P s
After P (Err stop) = Unit {0}

-- the next token becomes a child of the open node
abbrev pub with_token : State → State
with_token s = record s { at = s.at + 1; built = record s.built { under = put s.built.under (leaf s.at) } }

pub after_if : (P : State → Type 0) (b : Bool) (r r' : Step) → After P r → After P r' → After P (if b then r else r')
after_if P true r r' m m' = m
after_if P false r r' m m' = m'

pub after_next : (P : State → Type 0) (r : Step) (next_step : State → Step) → ((s : State) → After P (next_step s)) → After P (and_then r next_step)
after_next P (Err stop) next_step n = tt
after_next P (Ok s) next_step n = n s

-- what steps between states keep: it is so of no step, of one step behind another, and of those that add no node
pub record IsKept (g : Grammar) (R : State → State → Type 0) : Type 0 where
  pub still : (s : State) → R s s
  pub further : (s s' s'' : State) → R s s' → R s' s'' → R s s''
  pub taken : (s : State) → R s (with_token s)
  pub done : (a : Action) (s : State) → R s (acted g a s)

-- ---- Where nothing is asked of productions

pub each_part : (item : Item) → parts_all (λ p. true) item ≡ true
each_part (one classes) = refl
each_part (part p) = refl
each_part end_of_text = refl
each_part (act a) = refl
each_part (a · b) = rw (each_part a) (each_part b)
each_part (choice a b) = rw (each_part a) (each_part b)
each_part (maybe a) = each_part a
each_part (many t a) = each_part a
each_part (deep a) = each_part a

each_goal : (goal : Goal) → goal_all (λ p. true) goal ≡ true
each_goal (produce p) = refl
each_goal (repeat t a) = each_part a

-- each alternative fits, the first of which has this number
abbrev pub fit_from : (ℕ → Alternative → Bool) → ℕ → List Alternative → Bool
fit_from fits n [] = true
fit_from fits n (a ∷ more) = fits n a && fit_from fits (n + 1) more

each_fits : (n : ℕ) (alternatives : List Alternative) → fit_from (λ m a. true) n alternatives ≡ true
each_fits n [] = refl
each_fits n (a ∷ more) = each_fits (n + 1) more

-- .. where numbers do not matter
pub fit_each : (fits : Alternative → Bool) (n : ℕ) (alternatives : List Alternative) → list_all fits alternatives ≡ true
    → fit_from (λ m. fits) n alternatives ≡ true
fit_each fits n [] all = refl
fit_each fits n (a ∷ more) all =
    let both = and_parts (fits a) (list_all fits more) all in
    rw (both.0, fit_each fits (n + 1) more both.1) refl

-- ---- What is kept

module _ (g : Grammar) (R : State → State → Type 0) (kept : IsKept g R) where
  pub kept_then : (s : State) (r : Step) (next_step : State → Step) → After (R s) r → ((s' : State) → After (R s') (next_step s'))
      → After (R s) (and_then r next_step)
  kept_then s (Err stop) next_step m n = tt
  kept_then s (Ok s') next_step m n = onward (next_step s') (n s')
    where
      onward : (r : Step) → After (R s') r → After (R s) r
      onward (Err stop) n' = tt
      onward (Ok s'') n' = kept.further s s' s'' m n'

  kept_at_end : (s : State) → After (R s) (at_end s)
  unfolding at_end
  kept_at_end s = after_if (R s) (s.at == length s.toks) _ _ (kept.still s) tt

  kept_enter : (depth : ℕ) (b : Bool) (s : State) → After (R s) (enter depth b s)
  unfolding enter
  kept_enter depth b s = after_if (R s) b _ _ (after_if (R s) (nat_lt depth deepest) _ _ (kept.still s) tt) tt

  module _ (ok : Production → Bool) (below : ℕ → Goal → State → Step)
      (reads : (depth : ℕ) (goal : Goal) (s : State) → goal_all ok goal ≡ true → After (R s) (below depth goal s)) where
    pub kept_step : (item : Item) (depth : ℕ) (s : State) → parts_all ok item ≡ true → After (R s) (step g below depth item s)
    unfolding take_one
    kept_step (one classes) depth s all =
        after_if (R s) (nat_lt s.at (length s.toks) && among classes (class_at g s s.at)) _ _ (kept.taken s) tt
    kept_step (part p) depth s all = reads depth (produce p) s all
    kept_step end_of_text depth s all = kept_at_end s
    kept_step (act a) depth s all = kept.done a s
    kept_step (a · b) depth s all =
        let both = and_parts (parts_all ok a) (parts_all ok b) all in
        kept_then s (step g below depth a s) (step g below depth b) (kept_step a depth s both.0) (λ s'. kept_step b depth s' both.1)
    kept_step (choice a b) depth s all =
        let both = and_parts (parts_all ok a) (parts_all ok b) all in
        after_if (R s) (may g own a s) _ _ (kept_step a depth s both.0)
        (after_if (R s) (may g own b s) _ _ (kept_step b depth s both.1) tt)
    kept_step (maybe a) depth s all = after_if (R s) (may g own a s) _ _ (kept_step a depth s all) (kept.still s)
    kept_step (many t a) depth s all =
        after_if (R s) (may g t a s) _ _
        (kept_then s (step g below depth a s) (below depth (repeat t a)) (kept_step a depth s all) (λ s'. reads depth (repeat t a) s' all))
        (kept.still s)
    kept_step (deep a) depth s all =
        kept_then s (enter depth (may g own a s) s) (step g below (depth + 1) a) (kept_enter depth (may g own a s) s)
        (λ s'. kept_step a (depth + 1) s' all)

  -- a node that is read by an alternative which fits is kept, where the items of the alternative are
  abbrev pub NodesKeep : (Production → Bool) → (Production → ℕ → Alternative → Bool) → Type 0
  NodesKeep ok fits =
      (fuel depth : ℕ) (p : Production) (n : ℕ) (a : Alternative) (s s' : State) → ok p ≡ true → fits p n a ≡ true
      → step g (read_within g fuel) depth a.body (opened p n s) ≡ Ok s' → R (opened p n s) s' → R s (closed p s s')

  -- each alternative of the table fits, and productions that are allowed have no others in them
  pub record IsKeptByNodes (ok : Production → Bool) (fits : Production → ℕ → Alternative → Bool) : Type 0 where
    pub fit : (p : Production) → fit_from (fits p) 1 (g.table p) ≡ true
    pub inside : (p : Production) (n : ℕ) (a : Alternative) → fits p n a ≡ true → ok p ≡ true → parts_all ok a.body ≡ true
    pub node : NodesKeep ok fits

  module _ (ok : Production → Bool) (fits : Production → ℕ → Alternative → Bool) (nodes : IsKeptByNodes ok fits) where
    module _ (fuel : ℕ)
        (reads : (depth : ℕ) (goal : Goal) (s : State) → goal_all ok goal ≡ true → After (R s) (read_within g fuel depth goal s)) where
      kept_alternative : (depth : ℕ) (p : Production) (n : ℕ) (a : Alternative) (s : State) → ok p ≡ true → fits p n a ≡ true
          → After (R s) (alternative g (read_within g fuel) depth p n a.body s)
      kept_alternative depth p n a s of_ok fit =
          by (step g (read_within g fuel) depth a.body (opened p n s)) refl
          (kept_step ok (read_within g fuel) reads a.body depth (opened p n s) (nodes.inside p n a fit of_ok))
        where
          by : (r : Step) → step g (read_within g fuel) depth a.body (opened p n s) ≡ r → After (R (opened p n s)) r
              → After (R s) (and_then r (λ s'. Ok (closed p s s')))
          by (Err stop) is_read m = tt
          by (Ok s') is_read m = nodes.node fuel depth p n a s s' of_ok fit is_read m

      kept_pick : (depth : ℕ) (p : Production) (n : ℕ) (alternatives : List Alternative) (s : State) → ok p ≡ true
          → fit_from (fits p) n alternatives ≡ true → After (R s) (pick g (read_within g fuel) depth p n alternatives s)
      kept_pick depth p n [] s of_ok fit = tt
      kept_pick depth p n (a ∷ more) s of_ok fit =
          let both = and_parts (fits p n a) (fit_from (fits p) (n + 1) more) fit in
          after_if (R s) (may g a.test a.body s) _ _ (kept_alternative depth p n a s of_ok both.0)
          (kept_pick depth p (n + 1) more s of_ok both.1)

      kept_run : (depth : ℕ) (goal : Goal) (s : State) → goal_all ok goal ≡ true → After (R s) (run g (read_within g fuel) depth goal s)
      kept_run depth (produce p) s all = kept_pick depth p 1 (g.table p) s all (nodes.fit p)
      kept_run depth (repeat t a) s all = kept_step ok (read_within g fuel) reads (many t a) depth s all

    pub kept_within : (fuel depth : ℕ) (goal : Goal) (s : State) → goal_all ok goal ≡ true → After (R s) (read_within g fuel depth goal s)
    unfolding read_within
    kept_within zero depth goal s all = tt
    kept_within (suc fuel) depth goal s all = kept_run fuel (kept_within fuel) depth goal s all

  module _ (node : (p : Production) (n : ℕ) (s s' : State) → R (opened p n s) s' → R s (closed p s s')) where
    pub kept_anywhere : (fuel depth : ℕ) (goal : Goal) (s : State) → After (R s) (read_within g fuel depth goal s)
    kept_anywhere fuel depth goal s =
        kept_within (λ p. true) (λ p n a. true)
        (record {
          fit = λ p. each_fits 1 (g.table p);
          inside = λ p n a fit of_ok. each_part a.body;
          node = λ fuel' depth' p n a s' s'' of_ok fit is_read m. node p n s' s'' m;
        })
        fuel depth goal s (each_goal goal)

    pub kept_by_item : (fuel : ℕ) (item : Item) (depth : ℕ) (s : State) → After (R s) (step g (read_within g fuel) depth item s)
    kept_by_item fuel item depth s =
        kept_step (λ p. true) (read_within g fuel) (λ depth' goal s' of_ok. kept_anywhere fuel depth' goal s') item depth s (each_part item)
