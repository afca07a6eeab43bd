-- The whole expansion is one step of itself, and nothing else is.
use Rattle.std.proofs.Common.{refl, ◌≡◌, ℕ, zero, suc, ◌+◌, ◌<◌, ◌≤◌, List, length, Ok, sym, ◌∙◌, arith}
use Rattle.macro_body.specs.declared.notes.Work.{Work}
use Rattle.macro_body.specs.Hides.{Hidden}
use Rattle.macro_body.specs.Notes.{Expanded}
use Rattle.macro_expand.specs.Expansion.{Setting, Next, step, steps, whole}
use Rattle.macro_expand.proofs.StepLemmas.{Same, Below, step_below}

-- steps that suffice give the same
pub steps_below : (set : Setting) (b n m : ℕ) → b ≤ n → b ≤ m → Below b (steps n set) (steps m set)
unfolding Below steps
steps_below set zero n m h k = λ depth before ts work l. absurd (omega arith)
steps_below set (suc b) zero m h k = absurd (omega arith)
steps_below set (suc b) (suc n) zero h k = absurd (omega arith)
steps_below set (suc b) (suc n) (suc m) h k = step_below set b (steps n set) (steps m set) (steps_below set b n m (omega arith) (omega arith))

-- so many steps are the whole
whole_below : (set : Setting) (n : ℕ) → Below n (steps n set) (whole set)
unfolding Below whole
whole_below set n = λ depth before ts work h.
    let below : (depth before : ℕ) (ts2 : List Hidden) (work2 : Work) → work2.left + length ts2 < suc (work.left + length ts) →
    Same work2 (steps n set depth before ts2 work2) (steps (suc (work.left + length ts)) set depth before ts2 work2) =
    steps_below set (suc (work.left + length ts)) n (suc (work.left + length ts)) (omega arith) (omega arith) in
    below depth before ts work (omega arith)

-- the whole expansion is one step, and the whole expansion of what is left
pub whole_is_step : (set : Setting) (depth before : ℕ) (ts : List Hidden) (work : Work) → whole set depth before ts work ≡ step set (whole set) depth before ts work
unfolding Below whole steps
whole_is_step set depth before ts work =
    let same : (depth before : ℕ) (ts2 : List Hidden) (work2 : Work) → work2.left + length ts2 < suc (work.left + length ts) →
    Same work2 (step set (steps (work.left + length ts) set) depth before ts2 work2) (step set (whole set) depth before ts2 work2) =
    step_below set (work.left + length ts) (steps (work.left + length ts) set) (whole set) (whole_below set (work.left + length ts)) in
    (same depth before ts work (omega arith)).agree

-- work never rises
pub whole_falls : (set : Setting) (depth before : ℕ) (ts : List Hidden) (work : Work) (e : Expanded) → whole set depth before ts work ≡ Ok e → e.left.left ≤ work.left
unfolding Below whole
whole_falls set depth before ts work e is =
    let same : (depth before : ℕ) (ts2 : List Hidden) (work2 : Work) → work2.left + length ts2 < suc (work.left + length ts) →
    Same work2 (steps (suc (work.left + length ts)) set depth before ts2 work2) (steps (suc (work.left + length ts)) set depth before ts2 work2) =
    steps_below set (suc (work.left + length ts)) (suc (work.left + length ts)) (suc (work.left + length ts)) (omega arith) (omega arith) in
    (same depth before ts work (omega arith)).falls e is

-- what is one step of itself agrees with the whole
only_below : (set : Setting) (f : Next) → ((depth before : ℕ) (ts : List Hidden) (work : Work) → f depth before ts work ≡ step set f depth before ts work)
    → (b : ℕ) → Below b (whole set) f
unfolding Below
only_below set f is zero = λ depth before ts work h. absurd (omega arith)
only_below set f is (suc b) = λ depth before ts work h.
    let same : (depth before : ℕ) (ts2 : List Hidden) (work2 : Work) → work2.left + length ts2 < suc b →
    Same work2 (step set (whole set) depth before ts2 work2) (step set f depth before ts2 work2) =
    step_below set b (whole set) f (only_below set f is b) in
    let s = same depth before ts work h in
    record {
      agree = whole_is_step set depth before ts work ∙ s.agree ∙ sym (is depth before ts work);
      falls = λ e e_is. s.falls e (sym (whole_is_step set depth before ts work) ∙ e_is);
    }

pub only_whole : (set : Setting) (f : Next) → ((depth before : ℕ) (ts : List Hidden) (work : Work) → f depth before ts work ≡ step set f depth before ts work)
    → (depth before : ℕ) (ts : List Hidden) (work : Work) → f depth before ts work ≡ whole set depth before ts work
unfolding Below
only_whole set f is depth before ts work =
    let same : (depth before : ℕ) (ts2 : List Hidden) (work2 : Work) → work2.left + length ts2 < suc (work.left + length ts) →
    Same work2 (whole set depth before ts2 work2) (f depth before ts2 work2) = only_below set f is (suc (work.left + length ts)) in
    sym (same depth before ts work (omega arith)).agree

-- the whole expansion agrees with itself, and its work only falls
pub whole_below_itself : (set : Setting) (b : ℕ) → Below b (whole set) (whole set)
unfolding Below
whole_below_itself set b = λ depth before ts work h. record { agree = refl; falls = λ e is. whole_falls set depth before ts work e is }
