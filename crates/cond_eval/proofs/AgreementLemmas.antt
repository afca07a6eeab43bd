-- A walk finds what the tree's reading and evaluation give.
use Rattle.std.proofs.Common.{◌≡◌, ℕ, zero, suc, ◌+◌, Bool, true, false, not, ◌&&◌, ◌||◌, cond, pos, Option, Some, None, Result, Ok, Err, List, length, codes, inl, inr, refl, ap}
use Rattle.std.proofs.lemmas.Bool.{cases_Bool, and_parts}
use Rattle.cs_base.specs.Token.{Token}
use Rattle.cond_eval.specs.declared.faults.CondFault.{CondFault}
use Rattle.cond_eval.specs.declared.integers.Integer.{Integer}
use Rattle.cond_eval.specs.declared.integers.Integer.TheVariants.{Signed, Unsigned}
use Rattle.cond_eval.specs.declared.operators.Sign.{Sign}
use Rattle.cond_eval.specs.declared.operators.Operator.{Operator}
use Rattle.cond_eval.specs.declared.operators.Operator.TheVariants.{Compute, ShiftLeft, ShiftRight, Compare, And, Or}
use Rattle.cond_eval.specs.declared.places.Beginning.{Beginning}
use Rattle.cond_eval.specs.declared.places.Beginning.TheVariants.{Whole, Unary, Open, Nothing}
use Rattle.cond_eval.specs.declared.walk.Walked.{Walked}
use Rattle.cond_eval.specs.Integers.{is_unsigned, is_nonzero, zero_of, truth}
use Rattle.cond_eval.specs.Arithmetic.{combined}
use Rattle.cond_eval.specs.Reading.{Tree, Constant, Prefix, Infix, Choice, Read, Rule, Expression, Operand, Inner, and_then, with_operator, is_punct, operator_at, beginning_at, closed, operand_from, operand, joined, chain, binary, branches, conditional, by_rule, enclosed}
use Rattle.cond_eval.specs.Evaluation.{has_unsigned, is_decided, value}
use Rattle.cond_eval.specs.Walk.{Within, Part, walked, numbered, kept, prefix_number, infix_number, choice_number, walk_closed, walk_from, walk_operand, walk_joined, walk_chain, walk_binary, walk_branches, walk_conditional, walk_by, walk_enclosed}

-- what a walk finds of a tree
abbrev pub evaluation : Bool → Tree → Result Integer CondFault
evaluation true t = value t
evaluation false t = Ok (zero_of (has_unsigned t))

-- A walk agrees with a reading: where a tree is read, it finds the tree's number; where none is read, a
-- walk that is not live finds the fault.
abbrev pub Agrees : Bool → Result Read CondFault → Result Walked CondFault → Type 0
Agrees live (Ok r) w = w ≡ numbered (evaluation live r.tree) r.next
Agrees live (Err fault) w = live ≡ false → w ≡ Err fault

-- a tree, if one is read, has no value but this fault
abbrev pub FailsWith : CondFault → Result Read CondFault → Type 0
FailsWith fault (Ok r) = value r.tree ≡ Err fault
FailsWith fault (Err other) = Unit {0}

FailsWith-any : (fault : CondFault) (r : Result Read CondFault) (f : Read → Result Read CondFault)
    → ((x : Read) → FailsWith fault (f x)) → FailsWith fault (and_then r f)
FailsWith-any fault (Ok x) f each = each x
FailsWith-any fault (Err other) f each = tt

FailsWith-and_then : (fault : CondFault) (r : Result Read CondFault) (f : Read → Result Read CondFault) → FailsWith fault r
    → ((x : Read) → value x.tree ≡ Err fault → FailsWith fault (f x)) → FailsWith fault (and_then r f)
FailsWith-and_then fault (Ok x) f first each = each x first
FailsWith-and_then fault (Err other) f first each = tt

FailsWith-cond : (fault : CondFault) (b : Bool) (r s : Result Read CondFault) → FailsWith fault r → FailsWith fault s → FailsWith fault (cond b r s)
FailsWith-cond fault b r s first second = elim b as (λ v. FailsWith fault (cond v r s)) [ true ↦ first | false ↦ second ]

-- only what is live has a fault
evaluation-fault : (live : Bool) (t : Tree) (fault : CondFault) → evaluation live t ≡ Err fault → (live ≡ true) × (value t ≡ Err fault)
evaluation-fault true t fault e = (refl, e)
evaluation-fault false t fault e = absurd (cc)

Agrees-fault : (live : Bool) (fault : CondFault) (r : Result Read CondFault) → live ≡ true → FailsWith fault r → Agrees live r (Err fault)
Agrees-fault true fault (Ok x) e fails = rw fails refl
Agrees-fault true fault (Err other) e fails = λ dead. absurd (cc)
Agrees-fault false fault r e fails = absurd (cc)

not_dead : (part live : Bool) → (live ≡ false → part ≡ false) → part ≡ true → live ≡ true
not_dead part true dead e = refl
not_dead part false dead e = absurd (let d = dead refl in cc)

Agrees-found : (part live : Bool) (x : Read) (f : Read → Result Read CondFault) (g : Walked → Result Walked CondFault)
    → (live ≡ false → part ≡ false)
    → ((x : Read) (n : Integer) → evaluation part x.tree ≡ Ok n → Agrees live (f x) (g (walked n x.next)))
    → ((x : Read) (fault : CondFault) → part ≡ true → value x.tree ≡ Err fault → FailsWith fault (f x))
    → (v : Result Integer CondFault) → evaluation part x.tree ≡ v → Agrees live (f x) (and_then (numbered v x.next) g)
Agrees-found part live x f g dead then_ok then_fault (Ok n) e = then_ok x n e
Agrees-found part live x f g dead then_ok then_fault (Err fault) e =
    let faulty = evaluation-fault part x.tree fault e in
    Agrees-fault live fault (f x) (not_dead part live dead faulty.0) (then_fault x fault faulty.0 faulty.1)

-- Two steps agree where both do. The first may be live only where the whole is.
Agrees-and_then : (part live : Bool) (r : Result Read CondFault) (w : Result Walked CondFault)
    (f : Read → Result Read CondFault) (g : Walked → Result Walked CondFault)
    → (live ≡ false → part ≡ false)
    → Agrees part r w
    → ((x : Read) (n : Integer) → evaluation part x.tree ≡ Ok n → Agrees live (f x) (g (walked n x.next)))
    → ((x : Read) (fault : CondFault) → part ≡ true → value x.tree ≡ Err fault → FailsWith fault (f x))
    → Agrees live (and_then r f) (and_then w g)
Agrees-and_then part live (Err fault) w f g dead first then_ok then_fault = λ e. rw (first (dead e)) refl
Agrees-and_then part live (Ok x) w f g dead first then_ok then_fault =
    let found = Agrees-found part live x f g dead then_ok then_fault (evaluation part x.tree) refl in
    rw first found

-- two ways on by a test
Agrees-cond : (live b : Bool) (r s : Result Read CondFault) (w v : Result Walked CondFault) → Agrees live r w → Agrees live s v
    → Agrees live (cond b r s) (cond b w v)
Agrees-cond live b r s w v first second = elim b as (λ t. Agrees live (cond t r s) (cond t w v)) [ true ↦ first | false ↦ second ]

Agrees-with_operator : (live : Bool) (o : Option Operator) (r : Result Read CondFault) (w : Result Walked CondFault)
    (f : Operator → Result Read CondFault) (g : Operator → Result Walked CondFault)
    → Agrees live r w → ((operator : Operator) → Agrees live (f operator) (g operator))
    → Agrees live (with_operator o r f) (with_operator o w g)
Agrees-with_operator live None r w f g none some = none
Agrees-with_operator live (Some operator) r w f g none some = some operator

FailsWith-with_operator : (fault : CondFault) (o : Option Operator) (r : Result Read CondFault) (f : Operator → Result Read CondFault)
    → FailsWith fault r → ((operator : Operator) → FailsWith fault (f operator)) → FailsWith fault (with_operator o r f)
FailsWith-with_operator fault None r f none some = none
FailsWith-with_operator fault (Some operator) r f none some = some operator

-- ---- the numbers that a walk computes are those of the trees

is_unsigned-zero_of : (u : Bool) → is_unsigned (zero_of u) ≡ u
is_unsigned-zero_of true = refl
is_unsigned-zero_of false = refl

-- a number that is not live is the zero of its type
evaluation-dead : (t : Tree) (n : Integer) → evaluation false t ≡ Ok n → is_unsigned n ≡ has_unsigned t
evaluation-dead t n e =
    let zero_is : zero_of (has_unsigned t) ≡ n = cc in
    rw (← zero_is) (is_unsigned-zero_of (has_unsigned t))

evaluation-constant : (live : Bool) (n : Integer) → evaluation live (Constant n) ≡ Ok (kept live n)
evaluation-constant true n = refl
evaluation-constant false n = refl

evaluation-prefix : (live : Bool) (sign : Sign) (index : ℕ) (t : Tree) (n : Integer) → evaluation live t ≡ Ok n
    → prefix_number live sign index n ≡ evaluation live (Prefix sign index t)
evaluation-prefix true sign index t n e = rw e refl
evaluation-prefix false sign index t n e = rw (evaluation-dead t n e) refl

-- the left operand alone decides
combined-decided : (operator : Operator) (index : ℕ) (x y : Integer) → is_decided operator x ≡ true
    → combined operator index x y ≡ Ok (truth (is_nonzero x))
combined-decided (Compute arithmetic) index x y e = absurd (cc)
combined-decided ShiftLeft index x y e = absurd (cc)
combined-decided ShiftRight index x y e = absurd (cc)
combined-decided (Compare relation) index x y e = absurd (cc)
combined-decided And index x y e = elim (cases_Bool (is_nonzero x)) [ inl some ↦ absurd (let no = rw some at e in cc) | inr none ↦ rw none refl ]
combined-decided Or index x y e = rw e refl

evaluation-infix_live : (operator : Operator) (index : ℕ) (l r : Tree) (n m : Integer) → value l ≡ Ok n
    → (b : Bool) → is_decided operator n ≡ b → evaluation (not b) r ≡ Ok m
    → combined operator index n m ≡ value (Infix operator index l r)
evaluation-infix_live operator index l r n m left true decided right = rw (left, decided) (combined-decided operator index n m decided)
evaluation-infix_live operator index l r n m left false decided right = rw (left, decided, right) refl

evaluation-infix : (live : Bool) (operator : Operator) (index : ℕ) (l r : Tree) (n m : Integer) → evaluation live l ≡ Ok n
    → evaluation (live && not (is_decided operator n)) r ≡ Ok m
    → infix_number live operator index n m ≡ evaluation live (Infix operator index l r)
evaluation-infix true operator index l r n m left right = evaluation-infix_live operator index l r n m left (is_decided operator n) refl right
evaluation-infix false operator index l r n m left right = rw (evaluation-dead l n left, evaluation-dead r m right) refl

dead_and : (b live : Bool) → live ≡ false → (live && b) ≡ false
dead_and b true dead = absurd (cc)
dead_and b false dead = refl

-- what is found with a tree's number is what the tree gives
numbered-same : (r : Result Integer CondFault) (n : Integer) (next : ℕ) → r ≡ Ok n → Ok (walked n next) ≡ numbered r next
numbered-same r n next e = rw e refl

-- where the right operand is evaluated and fails, so does the whole
infix-fault : (operator : Operator) (index : ℕ) (l r : Tree) (n : Integer) (fault : CondFault) → value l ≡ Ok n
    → not (is_decided operator n) ≡ true → value r ≡ Err fault → value (Infix operator index l r) ≡ Err fault
infix-fault operator index l r n fault left undecided right =
    elim (cases_Bool (is_decided operator n)) [
      | inl decided ↦ absurd (let no = rw decided at undecided in cc)
      | inr none ↦ rw (left, none, right) refl
    ]

-- ---- the procedures agree

pub record AgreesWithin (inner : Inner) (within : Within) : Type 0 where
  pub agrees : (live : Bool) (rule : Rule) (at : ℕ) → Agrees live (inner rule at) (within live rule at)

pub record AgreesPart (part : ℕ → Result Read CondFault) (walk : Part) : Type 0 where
  pub agrees : (live : Bool) (at : ℕ) → Agrees live (part at) (walk live at)

Agrees-closed : (toks : List Token) (live : Bool) (x : Read) (n : Integer) → evaluation live x.tree ≡ Ok n
    → Agrees live (closed toks x) (walk_closed toks (walked n x.next))
Agrees-closed toks live x n e =
    Agrees-cond live (is_punct toks x.next (codes ")")) _ _ _ _ (numbered-same (evaluation live x.tree) n (x.next + 1) e) (λ dead. refl)

Agrees-from : (inner : Inner) (within : Within) (toks : List Token) (live : Bool) (at : ℕ) (b : Beginning) → AgreesWithin inner within
    → Agrees live (operand_from inner toks at b) (walk_from within toks live at b)
Agrees-from inner within toks live at (Whole n) h = numbered-same (evaluation live (Constant n)) _ (at + 1) (evaluation-constant live n)
Agrees-from inner within toks live at (Unary sign) h =
    Agrees-and_then live live (inner Operand at) _ _ _ (λ dead. dead) (h.agrees live Operand at)
    (λ x n e. ap (λ r. numbered r x.next) (evaluation-prefix live sign at x.tree n e))
    (λ x fault alive e. rw e refl)
Agrees-from inner within toks live at Open h =
    Agrees-and_then live live (inner Expression at) _ _ _ (λ dead. dead) (h.agrees live Expression at)
    (λ x n e. Agrees-closed toks live x n e)
    (λ x fault alive e. FailsWith-cond fault (is_punct toks x.next (codes ")")) _ _ e tt)
Agrees-from inner within toks live at Nothing h = λ dead. refl

Agrees-operand : (inner : Inner) (within : Within) (toks : List Token) (live : Bool) (at : ℕ) → AgreesWithin inner within
    → Agrees live (operand inner toks at) (walk_operand within toks live at)
unfolding operand walk_operand
Agrees-operand inner within toks live at h = Agrees-from inner within toks live at (beginning_at toks at) h

Agrees-joined : (part : ℕ → Result Read CondFault) (walk : Part) (live : Bool) (left : Read) (n : Integer) (operator : Operator)
    → AgreesPart part walk → evaluation live left.tree ≡ Ok n
    → Agrees live (joined part left operator) (walk_joined walk live (walked n left.next) operator)
Agrees-joined part walk live left n operator h e =
    let right_live = live && not (is_decided operator n) in
    Agrees-and_then right_live live (part (left.next + 1)) _ _ _ (dead_and _ live) (h.agrees right_live (left.next + 1))
    (λ x m f. ap (λ r. numbered r x.next) (evaluation-infix live operator left.next left.tree x.tree n m e f))
    (λ x fault alive f.
    let both = and_parts live _ alive in
    infix-fault operator left.next left.tree x.tree n fault (rw both.0 at e) both.1 f)

FailsWith-joined : (fault : CondFault) (part : ℕ → Result Read CondFault) (left : Read) (operator : Operator)
    → value left.tree ≡ Err fault → FailsWith fault (joined part left operator)
FailsWith-joined fault part left operator e = FailsWith-any fault (part (left.next + 1)) _ (λ x. rw e refl)

FailsWith-chain : (fault : CondFault) (part : ℕ → Result Read CondFault) (toks : List Token) (level most : ℕ) (left : Read)
    → value left.tree ≡ Err fault → FailsWith fault (chain part toks level most left)
unfolding chain
FailsWith-chain fault part toks level zero left e = e
FailsWith-chain fault part toks level (suc most) left e =
    FailsWith-with_operator fault (operator_at toks level left.next) _ _ e (λ operator.
    FailsWith-and_then fault (joined part left operator) _ (FailsWith-joined fault part left operator e) (λ x f.
    FailsWith-chain fault part toks level most x f))

Agrees-chain : (part : ℕ → Result Read CondFault) (walk : Part) (toks : List Token) (live : Bool) (level most : ℕ) (left : Read) (n : Integer)
    → AgreesPart part walk → evaluation live left.tree ≡ Ok n
    → Agrees live (chain part toks level most left) (walk_chain walk toks live level most (walked n left.next))
unfolding chain walk_chain
Agrees-chain part walk toks live level zero left n h e = numbered-same (evaluation live left.tree) n left.next e
Agrees-chain part walk toks live level (suc most) left n h e =
    Agrees-with_operator live (operator_at toks level left.next) _ _ _ _ (numbered-same (evaluation live left.tree) n left.next e) (λ operator.
    Agrees-and_then live live (joined part left operator) _ _ _ (λ dead. dead) (Agrees-joined part walk live left n operator h e)
    (λ x m f. Agrees-chain part walk toks live level most x m h f)
    (λ x fault alive f. FailsWith-chain fault part toks level most x f))

AgreesPart-binary : (inner : Inner) (within : Within) (toks : List Token) (level : ℕ) → AgreesWithin inner within
    → AgreesPart (binary inner toks level) (walk_binary within toks level)
unfolding binary walk_binary
AgreesPart-binary inner within toks zero h = record { agrees = λ live at. Agrees-operand inner within toks live at h }
AgreesPart-binary inner within toks (suc level) h =
    let below = AgreesPart-binary inner within toks level h in
    record {
      agrees = λ live at.
          Agrees-and_then live live (binary inner toks level at) _ _ _ (λ dead. dead) (below.agrees live at)
          (λ x n e. Agrees-chain (binary inner toks level) (walk_binary within toks level) toks live (suc level) (length toks) x n below e)
          (λ x fault alive e. FailsWith-chain fault (binary inner toks level) toks (suc level) (length toks) x e);
    }

-- the number of a `?`
evaluation-choice_live : (c s t : Tree) (n m p : Integer) → value c ≡ Ok n → (b : Bool) → is_nonzero n ≡ b
    → evaluation b s ≡ Ok m → evaluation (not b) t ≡ Ok p → value (Choice c s t) ≡ Ok (choice_number n m p)
evaluation-choice_live c s t n m p first true holds second third = rw (first, holds, second, evaluation-dead t p third) refl
evaluation-choice_live c s t n m p first false holds second third = rw (first, holds, third, evaluation-dead s m second) refl

choice_number-dead : (n : Integer) (u v : Bool) → choice_number n (zero_of u) (zero_of v) ≡ zero_of (u || v)
choice_number-dead n true true = elim (is_nonzero n) as (λ b. cond b (Unsigned 0) (Unsigned 0) ≡ Unsigned 0) [ true ↦ refl | false ↦ refl ]
choice_number-dead n true false = elim (is_nonzero n) as (λ b. cond b (Unsigned 0) (Unsigned 0) ≡ Unsigned 0) [ true ↦ refl | false ↦ refl ]
choice_number-dead n false true = elim (is_nonzero n) as (λ b. cond b (Unsigned 0) (Unsigned 0) ≡ Unsigned 0) [ true ↦ refl | false ↦ refl ]
choice_number-dead n false false = elim (is_nonzero n) as (λ b. cond b (Signed (pos 0)) (Signed (pos 0)) ≡ Signed (pos 0)) [ true ↦ refl | false ↦ refl ]

evaluation-choice : (live : Bool) (c s t : Tree) (n m p : Integer) → evaluation live c ≡ Ok n
    → evaluation (live && is_nonzero n) s ≡ Ok m → evaluation (live && not (is_nonzero n)) t ≡ Ok p
    → evaluation live (Choice c s t) ≡ Ok (choice_number n m p)
evaluation-choice true c s t n m p first second third = evaluation-choice_live c s t n m p first (is_nonzero n) refl second third
evaluation-choice false c s t n m p first second third =
    let m_is : zero_of (has_unsigned s) ≡ m = cc in
    let p_is : zero_of (has_unsigned t) ≡ p = cc in
    rw (← m_is, ← p_is, choice_number-dead n (has_unsigned s) (has_unsigned t)) refl

second-fault : (c s t : Tree) (n : Integer) (fault : CondFault) → value c ≡ Ok n → is_nonzero n ≡ true → value s ≡ Err fault
    → value (Choice c s t) ≡ Err fault
second-fault c s t n fault first holds second = rw (first, holds, second) refl

third-fault : (c s t : Tree) (n : Integer) (fault : CondFault) → value c ≡ Ok n → not (is_nonzero n) ≡ true → value t ≡ Err fault
    → value (Choice c s t) ≡ Err fault
third-fault c s t n fault first fails third =
    elim (cases_Bool (is_nonzero n)) [
      | inl some ↦ absurd (let no = rw some at fails in cc)
      | inr none ↦ rw (first, none, third) refl
    ]

Agrees-branches : (inner : Inner) (within : Within) (toks : List Token) (live : Bool) (x : Read) (n : Integer) → AgreesWithin inner within
    → evaluation live x.tree ≡ Ok n → Agrees live (branches inner toks x) (walk_branches within toks live (walked n x.next))
Agrees-branches inner within toks live x n h e =
    Agrees-and_then (live && is_nonzero n) live (inner Expression x.next) _ _ _ (dead_and _ live) (h.agrees _ Expression x.next)
    (λ y m f.
    Agrees-cond live (is_punct toks y.next (codes ":")) _ _ _ _
    (Agrees-and_then (live && not (is_nonzero n)) live (inner Expression y.next) _ _ _ (dead_and _ live) (h.agrees _ Expression y.next)
    (λ z p g. numbered-same (evaluation live (Choice x.tree y.tree z.tree)) _ z.next (evaluation-choice live x.tree y.tree z.tree n m p e f g))
    (λ z fault alive g.
    let both = and_parts live _ alive in
    third-fault x.tree y.tree z.tree n fault (rw both.0 at e) both.1 g))
    (λ dead. refl))
    (λ y fault alive f.
    let both = and_parts live _ alive in
    FailsWith-cond fault (is_punct toks y.next (codes ":")) _ _
    (FailsWith-any fault (inner Expression y.next) _ (λ z. second-fault x.tree y.tree z.tree n fault (rw both.0 at e) both.1 f)) tt)

Agrees-conditional : (inner : Inner) (within : Within) (toks : List Token) (live : Bool) (at : ℕ) → AgreesWithin inner within
    → Agrees live (conditional inner toks at) (walk_conditional within toks live at)
unfolding conditional walk_conditional
Agrees-conditional inner within toks live at h =
    Agrees-and_then live live (binary inner toks 10 at) _ _ _ (λ dead. dead) ((AgreesPart-binary inner within toks 10 h).agrees live at)
    (λ x n e.
    Agrees-cond live (is_punct toks x.next (codes "?")) _ _ _ _ (Agrees-branches inner within toks live x n h e)
    (numbered-same (evaluation live x.tree) n x.next e))
    (λ x fault alive e.
    FailsWith-cond fault (is_punct toks x.next (codes "?")) _ _
    (FailsWith-any fault (inner Expression x.next) _ (λ y.
    FailsWith-cond fault (is_punct toks y.next (codes ":")) _ _
    (FailsWith-any fault (inner Expression y.next) _ (λ z. rw e refl)) tt))
    e)

Agrees-by : (inner : Inner) (within : Within) (toks : List Token) (live : Bool) (rule : Rule) (at : ℕ) → AgreesWithin inner within
    → Agrees live (by_rule inner toks rule at) (walk_by within toks live rule at)
Agrees-by inner within toks live Expression at h = Agrees-conditional inner within toks live at h
Agrees-by inner within toks live Operand at h = Agrees-operand inner within toks live at h

AgreesWithin-enclosed : (toks : List Token) (room : ℕ) → AgreesWithin (enclosed toks room) (walk_enclosed toks room)
unfolding enclosed walk_enclosed
AgreesWithin-enclosed toks zero = record { agrees = λ live rule at. λ dead. refl }
AgreesWithin-enclosed toks (suc room) = record {
  agrees = λ live rule at.
      Agrees-by (enclosed toks room) (walk_enclosed toks room) toks live rule (at + 1) (AgreesWithin-enclosed toks room);
}

-- the walk of the whole list agrees with its reading
pub Agrees-whole : (toks : List Token) (room : ℕ) (live : Bool)
    → Agrees live (conditional (enclosed toks room) toks 0) (walk_conditional (walk_enclosed toks room) toks live 0)
Agrees-whole toks room live =
    Agrees-conditional (enclosed toks room) (walk_enclosed toks room) toks live 0 (AgreesWithin-enclosed toks room)
