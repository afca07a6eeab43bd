-- What is true of some children, and stays true with more of them, stays true while reading goes on.
use Rattle.std.proofs.Common.{ℕ, ◌+◌, ◌≡◌, Bool, true, false, ◌&&◌, length, Ok, Err, nat_lt, inl, inr, refl}
use Rattle.std.proofs.lemmas.Bool.{false≢true, or_cases, and_parts}
use Rattle.c99_tree.specs.Tree.{Forest, none, token, node, Part, leaf, inner, put}
use Rattle.c99_tree.specs.declared.production.Production.{Production}
use Rattle.c99_grammar.specs.Classes.{among}
use Rattle.c99_grammar.specs.Items.{Item, one, ◌·◌, deep, own, Action}
use Rattle.c99_read.specs.State.{State, class_at, finished, acted, closed}
use Rattle.c99_grammar.specs.Standard.{Grammar}
use Rattle.c99_read.specs.Reading.{Step, too_deep, and_then, deepest, take_one, enter, may, step, read_within}
use Rattle.tree_laws.specs.TreesOfTexts.{begins_with_token, has_token, has_two_tokens}
use Rattle.tree_laws.specs.Shapes.{begins, takes, takes_two}
use Rattle.tree_laws.proofs.Walked.{After, after_if, after_next, IsKept, kept_by_item}

module _ (so : Forest → Bool) (more : (f : Forest) (x : Part) → so f ≡ true → so (put f x) ≡ true) (g : Grammar) where
  abbrev pub Grows : State → State → Type 0
  Grows s s' = so s.built.under ≡ true → so s'.built.under ≡ true

  acted_grows : (a : Action) (s : State) → Grows s (acted g a s)
  unfolding acted
  acted_grows a s = λ w. w

  node_grows : (p : Production) (s s' : State) → Grows s (closed p s s')
  unfolding closed
  node_grows p s s' = λ w. more s.built.under (inner (finished p s'.built)) w

  grows_kept : IsKept g Grows
  grows_kept = record {
    still = λ s w. w;
    further = λ s s' s'' k k' w. k' (k w);
    taken = λ s w. more s.built.under (leaf s.at) w;
    done = acted_grows;
  }

  pub grows_step : (fuel : ℕ) (item : Item) (depth : ℕ) (s : State) → After (Grows s) (step g (read_within g fuel) depth item s)
  grows_step = kept_by_item g Grows grows_kept (λ p n s s' grows. node_grows p s s')

-- ---- A token at the beginning

begins_more : (f : Forest) (x : Part) → begins_with_token f ≡ true → begins_with_token (put f x) ≡ true
begins_more (token i rest) x w = refl
begins_more none x w = absurd (false≢true w)
begins_more (node l first under rest) x w = absurd (false≢true w)

begins_first : (f : Forest) (i : ℕ) → f ≡ none → begins_with_token (put f (leaf i)) ≡ true
begins_first none i e = refl
begins_first (token j rest) i e = refl
begins_first (node l first under rest) i e = absurd (cc)

-- ---- A token among the children

has_more : (f : Forest) (x : Part) → has_token f ≡ true → has_token (put f x) ≡ true
has_more none x w = absurd (false≢true w)
has_more (token i rest) x w = refl
has_more (node l first under rest) x w = has_more rest x w

has_leaf : (f : Forest) (i : ℕ) → has_token (put f (leaf i)) ≡ true
has_leaf none i = refl
has_leaf (token j rest) i = refl
has_leaf (node l first under rest) i = has_leaf rest i

-- ---- A token behind the first one

two_more : (f : Forest) (x : Part) → has_two_tokens f ≡ true → has_two_tokens (put f x) ≡ true
two_more none x w = absurd (false≢true w)
two_more (token i rest) x w = has_more rest x w
two_more (node l first under rest) x w = absurd (false≢true w)

two_leaf : (f : Forest) (i : ℕ) → begins_with_token f ≡ true → has_two_tokens (put f (leaf i)) ≡ true
two_leaf none i w = absurd (false≢true w)
two_leaf (token j rest) i w = has_leaf rest i
two_leaf (node l first under rest) i w = absurd (false≢true w)

-- what is so behind one step stays so behind the next
after_both : (so : Forest → Bool) (r : Step) (next_step : State → Step) → After (λ s. so s.built.under ≡ true) r
    → ((s : State) → After (λ s'. so s.built.under ≡ true → so s'.built.under ≡ true) (next_step s))
    → After (λ s. so s.built.under ≡ true) (and_then r next_step)
after_both so (Err stop) next_step m n = tt
after_both so (Ok s) next_step m n = onward (next_step s) (n s)
  where
    onward : (r : Step) → After (λ s'. so s.built.under ≡ true → so s'.built.under ≡ true) r → After (λ s'. so s'.built.under ≡ true) r
    onward (Err stop) k = tt
    onward (Ok s') k = k m

after_then : (P Q : State → Type 0) (r : Step) (next_step : State → Step) → After P r → ((s : State) → P s → After Q (next_step s)) → After Q (and_then r next_step)
after_then P Q (Err stop) next_step m n = tt
after_then P Q (Ok s) next_step m n = n s m

after_grown : (s : State) (r : Step) → begins_with_token s.built.under ≡ true → After (λ s'. begins_with_token s.built.under ≡ true → begins_with_token s'.built.under ≡ true) r
    → After (λ s'. begins_with_token s'.built.under ≡ true) r
after_grown s (Err stop) w grown = tt
after_grown s (Ok s') w grown = grown w

after_enter : (depth : ℕ) (started : Bool) (s : State) → begins_with_token s.built.under ≡ true → After (λ s'. begins_with_token s'.built.under ≡ true) (enter depth started s)
unfolding enter
after_enter depth true s w = after_if (λ s'. begins_with_token s'.built.under ≡ true) (nat_lt depth deepest) (Ok s) (Err (too_deep s.at)) w tt
after_enter depth false s w = tt

module _ (g : Grammar) (fuel : ℕ) where
  pub begins_step : (item : Item) (depth : ℕ) (s : State) → begins item ≡ true → s.built.under ≡ none
      → After (λ s'. begins_with_token s'.built.under ≡ true) (step g (read_within g fuel) depth item s)
  unfolding take_one
  begins_step (one classes) depth s first empty =
      after_if (λ s'. begins_with_token s'.built.under ≡ true) (nat_lt s.at (length s.toks) && among classes (class_at g s s.at)) _ _
      (begins_first s.built.under s.at empty) tt
  begins_step (a · b) depth s first empty =
      after_both begins_with_token _ _ (begins_step a depth s first empty) (λ s'. grows_step begins_with_token begins_more g fuel b depth s')
  begins_step _ depth s first empty = absurd (false≢true first)

  pub takes_step : (item : Item) (depth : ℕ) (s : State) → takes item ≡ true
      → After (λ s'. has_token s'.built.under ≡ true) (step g (read_within g fuel) depth item s)
  unfolding take_one
  takes_step (one classes) depth s has =
      after_if (λ s'. has_token s'.built.under ≡ true) (nat_lt s.at (length s.toks) && among classes (class_at g s s.at)) _ _
      (has_leaf s.built.under s.at) tt
  takes_step (a · b) depth s has =
      elim (or_cases (takes a) (takes b) has) [
        | inl first ↦ after_both has_token _ _ (takes_step a depth s first) (λ s'. grows_step has_token has_more g fuel b depth s')
        | inr second ↦ after_next (λ s'. has_token s'.built.under ≡ true) _ _ (λ s'. takes_step b depth s' second)
      ]
  takes_step (deep a) depth s has =
      after_next (λ s'. has_token s'.built.under ≡ true) _ _ (λ s'. takes_step a (depth + 1) s' has)
  takes_step _ depth s has = absurd (false≢true has)

  -- a token behind one that stands first
  behind_step : (item : Item) (depth : ℕ) (s : State) → takes item ≡ true → begins_with_token s.built.under ≡ true
      → After (λ s'. has_two_tokens s'.built.under ≡ true) (step g (read_within g fuel) depth item s)
  unfolding take_one
  behind_step (one classes) depth s has first =
      after_if (λ s'. has_two_tokens s'.built.under ≡ true) (nat_lt s.at (length s.toks) && among classes (class_at g s s.at)) _ _
      (two_leaf s.built.under s.at first) tt
  behind_step (a · b) depth s has first =
      elim (or_cases (takes a) (takes b) has) [
        | inl here ↦ after_both has_two_tokens _ _ (behind_step a depth s here first) (λ s'. grows_step has_two_tokens two_more g fuel b depth s')
        | inr later ↦
            after_then (λ s'. begins_with_token s'.built.under ≡ true) (λ s'. has_two_tokens s'.built.under ≡ true) _ _
            (after_grown s _ first (grows_step begins_with_token begins_more g fuel a depth s)) (λ s' w. behind_step b depth s' later w)
      ]
  behind_step (deep a) depth s has first =
      after_then (λ s'. begins_with_token s'.built.under ≡ true) (λ s'. has_two_tokens s'.built.under ≡ true) _ _
      (after_enter depth (may g own a s) s first) (λ s' w. behind_step a (depth + 1) s' has w)
  behind_step _ depth s has first = absurd (false≢true has)

  pub two_step : (item : Item) (depth : ℕ) (s : State) → takes_two item ≡ true → s.built.under ≡ none
      → After (λ s'. has_two_tokens s'.built.under ≡ true) (step g (read_within g fuel) depth item s)
  two_step (a · b) depth s two empty =
      elim (or_cases (takes_two a) (begins a && takes b) two) [
        | inl here ↦ after_both has_two_tokens _ _ (two_step a depth s here empty) (λ s'. grows_step has_two_tokens two_more g fuel b depth s')
        | inr later ↦
            let both = and_parts (begins a) (takes b) later in
            after_then (λ s'. begins_with_token s'.built.under ≡ true) (λ s'. has_two_tokens s'.built.under ≡ true) _ _ (begins_step a depth s both.0 empty)
            (λ s' w. behind_step b depth s' both.1 w)
      ]
  two_step _ depth s two empty = absurd (false≢true two)
