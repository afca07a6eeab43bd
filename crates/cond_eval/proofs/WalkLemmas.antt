-- Every part of a walk ends behind its beginning; so as many operators as there are tokens are enough.
use Rattle.std.proofs.Common.{◌≡◌, ◌≢◌, ℕ, zero, suc, ◌+◌, ◌-◌, ◌<◌, ◌≤◌, Bool, true, false, cond, Option, Some, None, Result, Ok, Err, IfOk, List, length, codes, refl, ◌∙◌, arith, sub-one}
use Rattle.std.proofs.lemmas.Option.{slice_get_past}
use Rattle.cs_base.specs.Token.{Token}
use Rattle.cond_eval.specs.declared.faults.CondFault.{CondFault}
use Rattle.cond_eval.specs.declared.faults.CondFault.TheVariants.{TooDeep}
use Rattle.cond_eval.specs.declared.integers.Integer.{Integer}
use Rattle.cond_eval.specs.declared.operators.Operator.{Operator}
use Rattle.cond_eval.specs.declared.places.Beginning.{Beginning}
use Rattle.cond_eval.specs.declared.places.Beginning.TheVariants.{Whole, Unary, Open, Nothing}
use Rattle.cond_eval.specs.declared.walk.Walked.{Walked}
use Rattle.cond_eval.specs.Reading.{Rule, Expression, Operand, and_then, with_operator, is_punct, operator_at, beginning_at}
use Rattle.cond_eval.specs.Walk.{Within, Part, numbered, walk_closed, walk_from, walk_operand, walk_joined, walk_chain, walk_rest, walk_binary, walk_branches, walk_conditional, walk_by, walk_enclosed}

-- what is found lies behind a place
abbrev pub Behind : ℕ → Result Walked CondFault → Type 0
Behind at r = IfOk r (λ (w : Walked). at < w.next)

-- a part ends behind its beginning
pub record IsPassing (part : Part) : Type 0 where
  pub passes : (live : Bool) (at : ℕ) → Behind at (part live at)

pub record IsPassingWithin (within : Within) : Type 0 where
  pub passes : (live : Bool) (rule : Rule) (at : ℕ) → Behind at (within live rule at)

-- a fact after two steps
pub IfOk-and_then : {A B : Type 0} (P : A → Type 0) (Q : B → Type 0) (r : Result A CondFault) (f : A → Result B CondFault)
    → IfOk r P → ((a : A) → P a → IfOk (f a) Q) → IfOk (and_then r f) Q
IfOk-and_then P Q (Ok a) f first second = second a first
IfOk-and_then P Q (Err fault) f first second = tt

-- two second steps that agree
pub and_then-same : {A B : Type 0} (P : A → Type 0) (r : Result A CondFault) (f g : A → Result B CondFault)
    → IfOk r P → ((a : A) → P a → f a ≡ g a) → and_then r f ≡ and_then r g
and_then-same P (Ok a) f g first same = same a first
and_then-same P (Err fault) f g first same = refl

Behind-numbered : (r : Result Integer CondFault) (next at : ℕ) → at < next → Behind at (numbered r next)
Behind-numbered (Ok n) next at h = h
Behind-numbered (Err fault) next at h = tt

-- a weaker fact
IfOk-weaken : {A : Type 0} (P Q : A → Type 0) (r : Result A CondFault) → IfOk r P → ((a : A) → P a → Q a) → IfOk r Q
IfOk-weaken P Q (Ok a) h f = f a h
IfOk-weaken P Q (Err fault) h f = tt

-- a choice by a test
IfOk-cond : {A : Type 0} (P : A → Type 0) (b : Bool) (r s : Result A CondFault) → IfOk r P → IfOk s P → IfOk (cond b r s) P
IfOk-cond P b r s first second = elim b as (λ v. IfOk (cond v r s) P) [ true ↦ first | false ↦ second ]

IfOk-with_operator : {A : Type 0} (P : A → Type 0) (o : Option Operator) (r : Result A CondFault) (f : Operator → Result A CondFault)
    → IfOk r P → ((operator : Operator) → IfOk (f operator) P) → IfOk (with_operator o r f) P
IfOk-with_operator P None r f none some = none
IfOk-with_operator P (Some operator) r f none some = some operator

Behind-closed : (toks : List Token) (w : Walked) (at : ℕ) → at < w.next → Behind at (walk_closed toks w)
Behind-closed toks w at h = IfOk-cond (λ v. at < v.next) (is_punct toks w.next (codes ")")) _ _ (omega arith) tt

Behind-from : (within : Within) (toks : List Token) (live : Bool) (at : ℕ) (b : Beginning) → IsPassingWithin within
    → Behind at (walk_from within toks live at b)
Behind-from within toks live at (Whole n) h = omega arith
Behind-from within toks live at (Unary sign) h =
    IfOk-and_then (λ w. at < w.next) _ _ _ (h.passes live Operand at) (λ w below. Behind-numbered _ w.next at below)
Behind-from within toks live at Open h =
    IfOk-and_then (λ w. at < w.next) _ _ _ (h.passes live Expression at) (λ w below. Behind-closed toks w at below)
Behind-from within toks live at Nothing h = tt

Behind-operand : (within : Within) (toks : List Token) (live : Bool) (at : ℕ) → IsPassingWithin within
    → Behind at (walk_operand within toks live at)
unfolding walk_operand
Behind-operand within toks live at h = Behind-from within toks live at (beginning_at toks at) h

Behind-joined : (part : Part) (live : Bool) (left : Walked) (operator : Operator) → IsPassing part
    → Behind left.next (walk_joined part live left operator)
Behind-joined part live left operator h =
    IfOk-and_then (λ w. left.next + 1 < w.next) _ _ _ (h.passes _ (left.next + 1)) (λ w below. Behind-numbered _ w.next left.next (omega arith))

Behind-chain : (part : Part) (toks : List Token) (live : Bool) (level most at : ℕ) (left : Walked) → IsPassing part
    → at < left.next → Behind at (walk_chain part toks live level most left)
unfolding walk_chain
Behind-chain part toks live level zero at left h below = below
Behind-chain part toks live level (suc most) at left h below =
    IfOk-with_operator _ (operator_at toks level left.next) _ _ below (λ operator.
    IfOk-and_then (λ w. left.next < w.next) _ _ _ (Behind-joined part live left operator h) (λ w further.
    Behind-chain part toks live level most at w h (omega arith)))

IsPassing-binary : (within : Within) (toks : List Token) (level : ℕ) → IsPassingWithin within → IsPassing (walk_binary within toks level)
unfolding walk_binary
IsPassing-binary within toks zero h = record { passes = λ live at. Behind-operand within toks live at h }
IsPassing-binary within toks (suc level) h =
    let below = IsPassing-binary within toks level h in
    record {
      passes = λ live at.
          IfOk-and_then (λ w. at < w.next) _ _ _ (below.passes live at) (λ w further.
          Behind-chain (walk_binary within toks level) toks live (suc level) (length toks) at w below further);
    }

Behind-branches : (within : Within) (toks : List Token) (live : Bool) (condition : Walked) → IsPassingWithin within
    → Behind condition.next (walk_branches within toks live condition)
Behind-branches within toks live condition h =
    IfOk-and_then (λ w. condition.next < w.next) _ _ _ (h.passes _ Expression condition.next) (λ second below.
    IfOk-cond _ (is_punct toks second.next (codes ":")) _ _
    (IfOk-and_then (λ w. second.next < w.next) _ _ _ (h.passes _ Expression second.next) (λ third further. omega arith)) tt)

Behind-conditional : (within : Within) (toks : List Token) (live : Bool) (at : ℕ) → IsPassingWithin within
    → Behind at (walk_conditional within toks live at)
unfolding walk_conditional
Behind-conditional within toks live at h =
    IfOk-and_then (λ w. at < w.next) _ _ _ ((IsPassing-binary within toks 10 h).passes live at) (λ condition below.
    IfOk-cond _ (is_punct toks condition.next (codes "?")) _ _
    (IfOk-weaken (λ w. condition.next < w.next) _ _ (Behind-branches within toks live condition h) (λ w further. omega arith)) below)

Behind-by : (within : Within) (toks : List Token) (live : Bool) (rule : Rule) (at : ℕ) → IsPassingWithin within
    → Behind at (walk_by within toks live rule at)
Behind-by within toks live Expression at h = Behind-conditional within toks live at h
Behind-by within toks live Operand at h = Behind-operand within toks live at h

pub IsPassingWithin-enclosed : (toks : List Token) (room : ℕ) → IsPassingWithin (walk_enclosed toks room)
unfolding walk_enclosed
IsPassingWithin-enclosed toks zero = record { passes = λ live rule at. tt }
IsPassingWithin-enclosed toks (suc room) =
    record {
      passes = λ live rule at.
          IfOk-weaken (λ w. at + 1 < w.next) _ _
          (Behind-by (walk_enclosed toks room) toks live rule (at + 1) (IsPassingWithin-enclosed toks room)) (λ w below. omega arith);
    }

-- ---- as many operators as there are tokens

operator_at-end : (toks : List Token) (level at : ℕ) → length toks ≤ at → operator_at toks level at ≡ None
unfolding operator_at
operator_at-end toks level at end = rw (slice_get_past toks at end) refl

pub with_operator-same : {A : Type 0} (o : Option Operator) (none : A) (f g : Operator → A) → ((operator : Operator) → f operator ≡ g operator)
    → with_operator o none f ≡ with_operator o none g
with_operator-same None none f g same = refl
with_operator-same (Some operator) none f g same = same operator

-- more than are left make no difference
walk_chain-most : (part : Part) (toks : List Token) (live : Bool) (level m n : ℕ) (left : Walked) → IsPassing part
    → length toks ≤ left.next + m → length toks ≤ left.next + n
    → walk_chain part toks live level m left ≡ walk_chain part toks live level n left
unfolding walk_chain
walk_chain-most part toks live level zero zero left h k l = refl
walk_chain-most part toks live level zero (suc n) left h k l = rw (operator_at-end toks level left.next (omega arith)) refl
walk_chain-most part toks live level (suc m) zero left h k l = rw (operator_at-end toks level left.next (omega arith)) refl
walk_chain-most part toks live level (suc m) (suc n) left h k l =
    with_operator-same (operator_at toks level left.next) _ _ _ (λ operator.
    and_then-same (λ w. left.next < w.next) _ _ _ (Behind-joined part live left operator h) (λ w further.
    walk_chain-most part toks live level m n w h (omega arith) (omega arith)))

-- all that follows an operand, by one operator more
walk_rest-step : (part : Part) (toks : List Token) (live : Bool) (level : ℕ) (left : Walked) → IsPassing part
    → walk_rest part toks live level left
    ≡ with_operator (operator_at toks level left.next) (Ok left) (λ operator.
    and_then (walk_joined part live left operator) (walk_rest part toks live level))
unfolding walk_chain
walk_rest-step part toks live level left h =
    walk_chain-most part toks live level (length toks) (suc (length toks)) left h (omega arith) (omega arith)

-- ---- one step of each procedure, as the code takes it

pub walk_binary-operand : (within : Within) (toks : List Token) (level : ℕ) (live : Bool) (at : ℕ) → level ≡ 0
    → walk_binary within toks level live at ≡ walk_operand within toks live at
unfolding walk_binary
walk_binary-operand within toks zero live at none = refl
walk_binary-operand within toks (suc level) live at none = absurd (omega arith)

pub walk_binary-step : (within : Within) (toks : List Token) (level : ℕ) (live : Bool) (at : ℕ) → level ≢ 0
    → walk_binary within toks level live at
    ≡ and_then (walk_binary within toks (level - 1) live at) (walk_rest (walk_binary within toks (level - 1)) toks live level)
unfolding walk_binary
walk_binary-step within toks zero live at some = absurd (some refl)
walk_binary-step within toks (suc level) live at some = rw sub-one refl

pub walk_rest-binary : (toks : List Token) (room below : ℕ) (live : Bool) (level : ℕ) (left : Walked)
    → walk_rest (walk_binary (walk_enclosed toks room) toks below) toks live level left
    ≡ with_operator (operator_at toks level left.next) (Ok left) (λ operator.
    and_then (walk_joined (walk_binary (walk_enclosed toks room) toks below) live left operator)
    (walk_rest (walk_binary (walk_enclosed toks room) toks below) toks live level))
walk_rest-binary toks room below live level left =
    walk_rest-step _ toks live level left (IsPassing-binary (walk_enclosed toks room) toks below (IsPassingWithin-enclosed toks room))

pub walk_enclosed-none : (toks : List Token) (room : ℕ) (live : Bool) (rule : Rule) (at : ℕ) → room ≡ 0
    → walk_enclosed toks room live rule at ≡ Err (TooDeep at)
unfolding walk_enclosed
walk_enclosed-none toks zero live rule at none = refl
walk_enclosed-none toks (suc room) live rule at none = absurd (omega arith)

pub walk_enclosed-step : (toks : List Token) (room : ℕ) (live : Bool) (rule : Rule) (at : ℕ) → room ≢ 0
    → walk_enclosed toks room live rule at ≡ walk_by (walk_enclosed toks (room - 1)) toks live rule (at + 1)
unfolding walk_enclosed
walk_enclosed-step toks zero live rule at some = absurd (some refl)
walk_enclosed-step toks (suc room) live rule at some = rw sub-one refl

-- what stands behind an operand of a level, where the operands so far are one
pub walk_rest-more : (toks : List Token) (room below : ℕ) (live : Bool) (level : ℕ) (left next : Walked) (operator : Operator)
    → operator_at toks level left.next ≡ Some operator
    → walk_joined (walk_binary (walk_enclosed toks room) toks below) live left operator ≡ Ok next
    → walk_rest (walk_binary (walk_enclosed toks room) toks below) toks live level left
    ≡ walk_rest (walk_binary (walk_enclosed toks room) toks below) toks live level next
walk_rest-more toks room below live level left next operator there joined =
    rw (walk_rest-binary toks room below live level left, there, joined) refl

pub walk_rest-fault : (toks : List Token) (room below : ℕ) (live : Bool) (level : ℕ) (left : Walked) (operator : Operator) (fault : CondFault)
    → operator_at toks level left.next ≡ Some operator
    → walk_joined (walk_binary (walk_enclosed toks room) toks below) live left operator ≡ Err fault
    → walk_rest (walk_binary (walk_enclosed toks room) toks below) toks live level left ≡ Err fault
walk_rest-fault toks room below live level left operator fault there joined =
    rw (walk_rest-binary toks room below live level left, there, joined) refl

pub walk_rest-none : (toks : List Token) (room below : ℕ) (live : Bool) (level : ℕ) (left : Walked)
    → operator_at toks level left.next ≡ None
    → walk_rest (walk_binary (walk_enclosed toks room) toks below) toks live level left ≡ Ok left
walk_rest-none toks room below live level left there =
    rw (walk_rest-binary toks room below live level left, there) refl

pub walk_binary-first : (within : Within) (toks : List Token) (level : ℕ) (live : Bool) (at : ℕ) (first : Walked) → level ≢ 0
    → walk_binary within toks (level - 1) live at ≡ Ok first
    → walk_binary within toks level live at ≡ walk_rest (walk_binary within toks (level - 1)) toks live level first
walk_binary-first within toks level live at first some one = walk_binary-step within toks level live at some ∙ rw one refl
