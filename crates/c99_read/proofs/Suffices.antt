-- The steps that reading is given are enough: the whole is one step of itself.
use Rattle.std.proofs.Common.{ℕ, suc, zero, ◌+◌, ◌*◌, ◌<◌, ◌≤◌, ◌≡◌, Bool, true, false, if◌then◌else◌, List, [], ◌∷◌, Ok, Err, refl, ap, subst, ◌∙◌, add-one, arith, inl, inr}
use Rattle.std.specs.List.{list_all}
use Rattle.std.proofs.lemmas.Bool.{and_parts, and_from, cases_Bool, ltb-true}
use Rattle.c99_tree.specs.declared.production.Production.{Production}
use Rattle.c99_grammar.specs.First.{order}
use Rattle.c99_grammar.specs.Items.{Item, one, part, end_of_text, act, ◌·◌, choice, maybe, many, deep, own, Alternative}
use Rattle.c99_read.specs.State.{State, opened, closed}
use Rattle.c99_grammar.specs.Standard.{Grammar}
use Rattle.c99_read.specs.Reading.{Goal, produce, repeat, Step, and_then, may, step, pick, run, read_within, tokens_left, goal_order, steps_for, whole}
use Rattle.c99_read.specs.Sound.{has_token, is_low, is_sound, IsSound, is_met, goal_has_token}
use Rattle.c99_read.proofs.Moves.{Moves, Moves-step, Moves-enter, Moves-read_within, opened-left}

-- what a state measures, before a goal of this order
abbrev pub measure : State → ℕ → ℕ
measure s k = 64 * tokens_left s + k

-- the two read alike what measures less than m
abbrev pub Agree : ℕ → (ℕ → Goal → State → Step) → (ℕ → Goal → State → Step) → Type 0
Agree m below below' =
    (depth : ℕ) (goal : Goal) (s : State) → is_met goal ≡ true → measure s (goal_order goal) < m → below depth goal s ≡ below' depth goal s

then-agree : (r r' : Step) (f f' : State → Step) → r ≡ r' → ((s : State) → r ≡ Ok s → f s ≡ f' s) → and_then r f ≡ and_then r' f'
then-agree (Ok s) r' f f' same next_same = next_same s refl ∙ ap (λ x. and_then x f') same
then-agree (Err stop) r' f f' same next_same = ap (λ x. and_then x f') same

if-agree : (b : Bool) (r r' q q' : Step) → r ≡ r' → q ≡ q' → (if b then r else q) ≡ (if b then r' else q')
if-agree true r r' q q' e f = e
if-agree false r r' q q' e f = f

Moves-at : (strict : Bool) (s s' : State) (r : Step) → r ≡ Ok s' → Moves strict s r
    → (tokens_left s' ≤ tokens_left s) × (strict ≡ true → tokens_left s' < tokens_left s)
Moves-at strict s s' r e m = subst (Moves strict s) e m

module _ (g : Grammar) (below below' : ℕ → Goal → State → Step)
    (moves : (depth : ℕ) (goal : Goal) (s : State) → is_met goal ≡ true → Moves (goal_has_token goal) s (below depth goal s)) where
  step-agree : (m : ℕ) → Agree m below below' → (item : Item) (depth k : ℕ) (s : State) → is_low k item ≡ true → measure s k ≤ m
      → step g below depth item s ≡ step g below' depth item s
  step-agree m agree (one classes) depth k s low fits = refl
  step-agree m agree (part p) depth k s low fits =
      agree depth (produce p) s refl (let h : order p < k = ltb-true _ _ low in omega (arith, h, fits))
  step-agree m agree end_of_text depth k s low fits = refl
  step-agree m agree (act a) depth k s low fits = refl
  step-agree m agree (a · b) depth k s low fits =
      let both = and_parts (is_low k a) _ low in
      then-agree _ _ _ _ (step-agree m agree a depth k s both.0 fits)
      (λ s' e.
      let moved = Moves-at (has_token a) s s' _ e (Moves-step g below moves a depth k s both.0) in
      elim (cases_Bool (has_token a)) [
        | inl strict ↦
            (let low_b : is_low 64 b ≡ true = rw strict at both.1 in
            let f : tokens_left s' < tokens_left s = moved.1 strict in
            step-agree m agree b depth 64 s' low_b (omega (arith, f, fits)))
        | inr loose ↦
            (let low_b : is_low k b ≡ true = rw loose at both.1 in
            let f : tokens_left s' ≤ tokens_left s = moved.0 in
            step-agree m agree b depth k s' low_b (omega (arith, f, fits)))
      ])
  step-agree m agree (choice a b) depth k s low fits =
      let both = and_parts (is_low k a) _ low in
      if-agree (may g own a s) _ _ _ _ (step-agree m agree a depth k s both.0 fits)
      (if-agree (may g own b s) _ _ _ _ (step-agree m agree b depth k s both.1 fits) refl)
  step-agree m agree (maybe a) depth k s low fits =
      if-agree (may g own a s) _ _ _ _ (step-agree m agree a depth k s low fits) refl
  step-agree m agree (many t a) depth k s low fits =
      let both = and_parts (is_low k a) _ low in
      let more = and_parts (has_token a) _ both.1 in
      if-agree (may g t a s) _ _ _ _
      (then-agree _ _ _ _ (step-agree m agree a depth k s both.0 fits)
      (λ s' e.
      let moved = Moves-at (has_token a) s s' _ e (Moves-step g below moves a depth k s both.0) in
      let f : tokens_left s' < tokens_left s = moved.1 more.0 in
      agree depth (repeat t a) s' both.1 (omega (arith, f, fits))))
      refl
  step-agree m agree (deep a) depth k s low fits =
      then-agree _ _ _ _ refl
      (λ s' e.
      let moved = Moves-at false s s' _ e (Moves-enter depth _ s) in
      let f : tokens_left s' ≤ tokens_left s = moved.0 in
      step-agree m agree a (depth + 1) k s' low (omega (arith, f, fits)))

  pick-agree : (m : ℕ) → Agree m below below' → (p : Production) (alternatives : List Alternative) (depth n : ℕ) (s : State)
      → list_all (is_sound p) alternatives ≡ true → measure s (order p) ≤ m
      → pick g below depth p n alternatives s ≡ pick g below' depth p n alternatives s
  pick-agree m agree p [] depth n s sound fits = refl
  pick-agree m agree p (a ∷ more) depth n s sound fits =
      let both = and_parts (is_sound p a) _ sound in
      let parts = and_parts (is_low (order p) a.body) _ both.0 in
      if-agree (may g a.test a.body s) _ _ _ _
      (ap (λ r. and_then r (λ s'. Ok (closed p s s')))
      (step-agree m agree a.body depth (order p) (opened p n s) parts.0 (let e = opened-left p n s in omega (arith, e, fits))))
      (pick-agree m agree p more depth (n + 1) s both.1 fits)

  pub run-agree : IsSound g → (m : ℕ) → Agree m below below' → (depth : ℕ) (goal : Goal) (s : State) → is_met goal ≡ true
      → measure s (goal_order goal) ≤ m → run g below depth goal s ≡ run g below' depth goal s
  run-agree sound m agree depth (produce p) s met fits = pick-agree m agree p (g.table p) depth 1 s (sound.sound p) fits
  run-agree sound m agree depth (repeat t a) s met fits =
      let both = and_parts (has_token a) _ met in
      step-agree m agree (many t a) depth 63 s (and_from _ _ both.1 met) fits

module _ (g : Grammar) (sound : IsSound g) where
  pub within-agree : (fuel fuel' depth : ℕ) (goal : Goal) (s : State) → is_met goal ≡ true
      → measure s (goal_order goal) < fuel → measure s (goal_order goal) < fuel' → read_within g fuel depth goal s ≡ read_within g fuel' depth goal s
  unfolding read_within
  within-agree zero fuel' depth goal s met few few' = absurd (omega arith)
  within-agree (suc fuel) zero depth goal s met few few' = absurd (omega arith)
  within-agree (suc fuel) (suc fuel') depth goal s met few few' =
      run-agree g (read_within g fuel) (read_within g fuel') (Moves-read_within g sound fuel) sound (measure s (goal_order goal))
      (λ depth' goal' s' met' less. within-agree fuel fuel' depth' goal' s' met' (omega (arith, less, few)) (omega (arith, less, few')))
      depth goal s met (omega arith)

  -- what is read for a goal is one step over what is read for the goals below it
  pub whole-runs : (depth : ℕ) (goal : Goal) (s : State) → is_met goal ≡ true → whole g depth goal s ≡ run g (whole g) depth goal s
  unfolding whole read_within
  whole-runs depth goal s met =
      ap (λ n. read_within g n depth goal s) (add-one (measure s (goal_order goal)))
      ∙ run-agree g (read_within g (measure s (goal_order goal))) (whole g) (Moves-read_within g sound _) sound (measure s (goal_order goal))
      (λ depth' goal' s' met' less. within-agree _ (steps_for goal' s') depth' goal' s' met' less (omega arith))
      depth goal s met (omega arith)

  pub whole-moves : (depth : ℕ) (goal : Goal) (s : State) → is_met goal ≡ true → Moves (goal_has_token goal) s (whole g depth goal s)
  unfolding whole
  whole-moves depth goal s met = Moves-read_within g sound (steps_for goal s) depth goal s met
