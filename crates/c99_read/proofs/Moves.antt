-- Reading moves on: the tokens left do not grow, and fall where a token must be read.
use Rattle.std.proofs.Common.{ℕ, suc, zero, ◌+◌, ◌<◌, ◌≤◌, ◌≡◌, Bool, true, false, ◌&&◌, ◌||◌, not, if◌then◌else◌, List, [], ◌∷◌, length, Ok, Err, nat_lt, ◌==◌, refl, sym, arith, inl, inr}
use Rattle.std.specs.List.{list_all}
use Rattle.std.proofs.lemmas.Bool.{false≢true, or_cases, and_parts, and_from, cases_cond}
use borrow.Author.Tests.{ltb-true}
use Rattle.c99_tree.specs.declared.production.Production.{Production}
use Rattle.c99_grammar.specs.declared.classes.Class.{Class}
use Rattle.c99_grammar.specs.Classes.{among}
use Rattle.c99_grammar.specs.First.{order}
use Rattle.c99_tree.specs.Tree.{leaf, put}
use Rattle.c99_grammar.specs.Items.{Item, one, part, end_of_text, act, ◌·◌, choice, maybe, many, deep, own, Action, Alternative}
use Rattle.c99_read.specs.State.{State, class_at, acted, opened, closed}
use Rattle.c99_grammar.specs.Standard.{Grammar}
use Rattle.c99_read.specs.Sound.{never_empty, has_token, is_low, is_sound, IsSound, is_met, goal_has_token}
use Rattle.c99_read.specs.Reading.{syntax, too_deep, Goal, produce, repeat, Step, and_then, take_one, at_end, enter, may, step, alternative, pick, run, read_within, tokens_left}

-- no more tokens are left than before, and fewer where `strict` says so
abbrev pub Moves : Bool → State → Step → Type 0
Moves strict s (Ok s') = (tokens_left s' ≤ tokens_left s) × (strict ≡ true → tokens_left s' < tokens_left s)
Moves strict s (Err stop) = Unit {0}

Moves-weaker : (x y : Bool) (s : State) (r : Step) → (y ≡ true → x ≡ true) → Moves x s r → Moves y s r
Moves-weaker x y s (Ok s') weaker m = (m.0, λ h. m.1 (weaker h))
Moves-weaker x y s (Err stop) weaker m = tt

Moves-stays : (s s' : State) → tokens_left s' ≡ tokens_left s → Moves false s (Ok s')
Moves-stays s s' same = (omega arith, λ h. absurd (false≢true h))

Moves-then : (x y : Bool) (s : State) (r : Step) (next_step : State → Step)
    → Moves x s r → ((s' : State) → Moves y s' (next_step s')) → Moves (x || y) s (and_then r next_step)
Moves-then x y s (Err stop) next_step m n = tt
Moves-then x y s (Ok s') next_step m n = onward (next_step s') (n s')
  where
    onward : (r : Step) → Moves y s' r → Moves (x || y) s r
    onward (Err stop) n' = tt
    onward (Ok s'') n' = (
      omega (arith, m.0, n'.0),
      λ h. elim (or_cases x y h) [ inl at_x ↦ (let f = m.1 at_x in omega (arith, f, n'.0)) | inr at_y ↦ (let f = n'.1 at_y in omega (arith, f, m.0)) ],
    )

Moves-if : (x : Bool) (s : State) (b : Bool) (r r' : Step) → Moves x s r → Moves x s r' → Moves x s (if b then r else r')
Moves-if x s true r r' m m' = m
Moves-if x s false r r' m m' = m'

Moves-take_one : (g : Grammar) (classes : List Class) (s : State) → Moves true s (take_one g classes s)
unfolding take_one
Moves-take_one g classes s =
    by (nat_lt s.at (length s.toks)) (among classes (class_at g s s.at)) (λ h. ltb-true _ _ h)
  where
    by : (within b : Bool) → (within ≡ true → s.at < length s.toks)
        → Moves true s (if within && b then Ok (record s { at = s.at + 1; built = record s.built { under = put s.built.under (leaf s.at) } }) else Err (syntax s.at))
    by true true in_range = let h = in_range refl in (omega (arith, h), λ _. omega (arith, h))
    by true false in_range = tt
    by false b in_range = tt

Moves-at_end : (s : State) → Moves false s (at_end s)
unfolding at_end
Moves-at_end s = Moves-if false s (s.at == length s.toks) (Ok s) (Err (syntax s.at)) (Moves-stays s s refl) tt

pub Moves-enter : (depth : ℕ) (b : Bool) (s : State) → Moves false s (enter depth b s)
unfolding enter
Moves-enter depth b s =
    Moves-if false s b _ _ (Moves-if false s (nat_lt depth 256) (Ok s) (Err (too_deep s.at)) (Moves-stays s s refl) tt) tt

pub acted-left : (g : Grammar) (a : Action) (s : State) → tokens_left (acted g a s) ≡ tokens_left s
unfolding acted
acted-left g a s = refl

pub opened-left : (p : Production) (n : ℕ) (s : State) → tokens_left (opened p n s) ≡ tokens_left s
unfolding opened
opened-left p n s = refl

pub closed-left : (p : Production) (outer s : State) → tokens_left (closed p outer s) ≡ tokens_left s
unfolding closed
closed-left p outer s = refl

module _ (g : Grammar) (below : ℕ → Goal → State → Step)
    (moves : (depth : ℕ) (goal : Goal) (s : State) → is_met goal ≡ true → Moves (goal_has_token goal) s (below depth goal s)) where
  pub Moves-step : (item : Item) (depth k : ℕ) (s : State) → is_low k item ≡ true → Moves (has_token item) s (step g below depth item s)
  Moves-step (one classes) depth k s low = Moves-take_one g classes s
  Moves-step (part p) depth k s low = moves depth (produce p) s refl
  Moves-step end_of_text depth k s low = Moves-at_end s
  Moves-step (act a) depth k s low = Moves-stays s (acted g a s) (acted-left g a s)
  Moves-step (a · b) depth k s low =
      let both = and_parts (is_low k a) _ low in
      Moves-then (has_token a) (has_token b) s (step g below depth a s) (step g below depth b) (Moves-step a depth k s both.0)
      (λ s'. elim (cases_cond (has_token a) (is_low 64 b) (is_low k b) true (sym both.1)) [
        | inl far ↦ Moves-step b depth 64 s' (sym far)
        | inr near ↦ Moves-step b depth k s' (sym near)
      ])
  Moves-step (choice a b) depth k s low =
      let both = and_parts (is_low k a) _ low in
      Moves-if _ s (may g own a s) _ _
      (Moves-weaker (has_token a) _ s _ (λ h. (and_parts (has_token a) (has_token b) h).0) (Moves-step a depth k s both.0))
      (Moves-if _ s (may g own b s) _ _
      (Moves-weaker (has_token b) _ s _ (λ h. (and_parts (has_token a) (has_token b) h).1) (Moves-step b depth k s both.1))
      tt)
  Moves-step (maybe a) depth k s low =
      Moves-if false s (may g own a s) _ _
      (Moves-weaker (has_token a) false s _ (λ h. absurd (false≢true h)) (Moves-step a depth k s low))
      (Moves-stays s s refl)
  Moves-step (many t a) depth k s low =
      let both = and_parts (is_low k a) _ low in
      Moves-if false s (may g t a s) _ _
      (Moves-weaker _ false s _ (λ h. absurd (false≢true h))
      (Moves-then (has_token a) false s _ _ (Moves-step a depth k s both.0) (λ s'. moves depth (repeat t a) s' both.1)))
      (Moves-stays s s refl)
  Moves-step (deep a) depth k s low =
      Moves-then false (has_token a) s _ _ (Moves-enter depth _ s) (λ s'. Moves-step a (depth + 1) k s' low)

  Moves-alternative : (depth : ℕ) (p : Production) (n k : ℕ) (body : Item) (s : State) → is_low k body ≡ true
      → Moves (has_token body) s (alternative g below depth p n body s)
  Moves-alternative depth p n k body s low =
      let m = Moves-step body depth k (opened p n s) low in
      by (step g below depth body (opened p n s)) m
    where
      by : (r : Step) → Moves (has_token body) (opened p n s) r → Moves (has_token body) s (and_then r (λ s'. Ok (closed p s s')))
      by (Err stop) m' = tt
      by (Ok s') m' =
          let a = opened-left p n s in
          let b = closed-left p s s' in
          (omega (arith, a, b, m'.0), λ h. (let f = m'.1 h in omega (arith, a, b, f)))

  Moves-pick : (depth : ℕ) (p : Production) (n : ℕ) (alternatives : List Alternative) (s : State)
      → list_all (is_sound p) alternatives ≡ true → Moves (never_empty p) s (pick g below depth p n alternatives s)
  Moves-pick depth p n [] s sound = tt
  Moves-pick depth p n (a ∷ more) s sound =
      let both = and_parts (is_sound p a) _ sound in
      let parts = and_parts (is_low (order p) a.body) _ both.0 in
      Moves-if _ s (may g a.test a.body s) _ _
      (Moves-weaker (has_token a.body) _ s _ (λ h. needed (never_empty p) (has_token a.body) h parts.1)
      (Moves-alternative depth p n (order p) a.body s parts.0))
      (Moves-pick depth p (n + 1) more s both.1)
    where
      needed : (x y : Bool) → x ≡ true → (not x || y) ≡ true → y ≡ true
      needed true y h k = k
      needed false y h k = absurd (false≢true h)

  pub Moves-run : IsSound g → (depth : ℕ) (goal : Goal) (s : State) → is_met goal ≡ true → Moves (goal_has_token goal) s (run g below depth goal s)
  Moves-run sound depth (produce p) s met = Moves-pick depth p 1 (g.table p) s (sound.sound p)
  Moves-run sound depth (repeat t a) s met =
      let both = and_parts (has_token a) _ met in
      Moves-step (many t a) depth 63 s (and_from _ _ both.1 met)

pub Moves-read_within : (g : Grammar) → IsSound g → (fuel depth : ℕ) (goal : Goal) (s : State) → is_met goal ≡ true
    → Moves (goal_has_token goal) s (read_within g fuel depth goal s)
unfolding read_within
Moves-read_within g sound zero depth goal s met = tt
Moves-read_within g sound (suc fuel) depth goal s met = Moves-run g (read_within g fuel) (Moves-read_within g sound fuel) sound depth goal s met
