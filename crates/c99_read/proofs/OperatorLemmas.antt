-- Productions of expressions: their rows, and what follows their first operands.
use Rattle.std.proofs.Common.{ℕ, zero, suc, ◌+◌, ◌-◌, ◌<◌, ◌≤◌, ◌≡◌, nat_lt, Bool, true, false, ◌||◌, if◌then◌else◌, List, [], ◌∷◌, None, Some, Result, Ok, Err, refl, sym, ap, subst, ◌∙◌, arith}
use Rattle.std.proofs.lemmas.Bool.{false≢true, and_parts, ltb-true}
use Rattle.c99_grammar.specs.declared.dialects.Dialect.{Dialect}
use Rattle.c99_grammar.specs.declared.dialects.Dialect.TheVariants.{Iso, Gnu}
use Rattle.c99_grammar.specs.declared.classes.Class.{Class}
use Rattle.c99_grammar.specs.declared.classes.Class.TheVariants.{Comma, Question, BarBar, AmpAmp, Bar, Caret, Amp, EqEq, BangEq, Less, Greater, LessEq, GreaterEq, ShiftLeft, ShiftRight, Plus, Minus, Star, Slash, Percent, Eq, StarEq, SlashEq, PercentEq, PlusEq, MinusEq, ShiftLeftEq, ShiftRightEq, AmpEq, CaretEq, BarEq}
use Rattle.c99_grammar.specs.First.{assignments}
use Rattle.c99_tree.specs.Tree.{Node}
use Rattle.c99_tree.specs.declared.production.Production.{Production}
use Rattle.c99_tree.specs.declared.production.Production.TheVariants.{Expr, Assign, Asgop, Cond, Lor, Land, Bor, Bxor, Band, Equal, Relate, Shift, Add, Mul, Cast}
use Rattle.c99_grammar.specs.Classes.{among}
use Rattle.c99_grammar.specs.Items.{part, ◌·◌, own, plain, Alternative}
use Rattle.c99_grammar.specs.Standard.{grammar}
use Rattle.c99_grammar.proofs.StandardLemmas.{by_dialect}
use Rattle.c99_read.specs.declared.faults.ReadRefusal.{ReadRefusal}
use Rattle.c99_read.specs.Answer.{ReadsNode, with_built}
use Rattle.c99_read.specs.Choosing.{Choice, chosen}
use Rattle.c99_read.specs.Leading.{CanBeLeftOut}
use Rattle.c99_read.specs.Operators.{is_assign, is_binary, is_operand, operand_of, over, rest_of, rung, rungs, signs}
use Rattle.c99_read.specs.Reading.{produce, may, alternative, whole, syntax}
use Rattle.c99_read.specs.State.{State, class_at, collapses}
use Rattle.c99_read.proofs.LedLemmas.{node-chosen, node-none, led-left, led-stopped}
use Rattle.c99_read.proofs.RowLemmas.{IsReady, ready-at, ready-parts}
use Rattle.c99_read.specs.Levels.{is_ready, level_of}
use Rattle.std.specs.List.{list_all}

abbrev IsRow : Production → Dialect → Type 0
IsRow p d = (grammar d).table p ≡ plain (part (operand_of p) · rest_of p d) ∷ []

-- the only row
pub only_row : (std : Dialect) (p : Production) → is_binary p ≡ true → (grammar std).table p ≡ plain (part (operand_of p) · rest_of p std) ∷ []
only_row std Expr e = by_dialect (IsRow Expr) (λ v. refl) refl std
only_row std Assign e = by_dialect (IsRow Assign) (λ v. refl) refl std
only_row std Cond e = by_dialect (IsRow Cond) (λ v. refl) refl std
only_row std Lor e = by_dialect (IsRow Lor) (λ v. refl) refl std
only_row std Land e = by_dialect (IsRow Land) (λ v. refl) refl std
only_row std Bor e = by_dialect (IsRow Bor) (λ v. refl) refl std
only_row std Bxor e = by_dialect (IsRow Bxor) (λ v. refl) refl std
only_row std Band e = by_dialect (IsRow Band) (λ v. refl) refl std
only_row std Equal e = by_dialect (IsRow Equal) (λ v. refl) refl std
only_row std Relate e = by_dialect (IsRow Relate) (λ v. refl) refl std
only_row std Shift e = by_dialect (IsRow Shift) (λ v. refl) refl std
only_row std Add e = by_dialect (IsRow Add) (λ v. refl) refl std
only_row std Mul e = by_dialect (IsRow Mul) (λ v. refl) refl std
only_row std _ e = absurd (false≢true e)

abbrev BeginsSame : Production → State → Dialect → Type 0
BeginsSame p s d = may (grammar d) own (part (operand_of p)) s ≡ may (grammar d) own (part Cast) s

-- each begins as the innermost operand does
begins-same : (std : Dialect) (p : Production) (s : State) → is_binary p ≡ true
    → may (grammar std) own (part (operand_of p)) s ≡ may (grammar std) own (part Cast) s
begins-same std Expr s e = by_dialect (BeginsSame Expr s) (λ v. refl) refl std
begins-same std Assign s e = by_dialect (BeginsSame Assign s) (λ v. refl) refl std
begins-same std Cond s e = by_dialect (BeginsSame Cond s) (λ v. refl) refl std
begins-same std Lor s e = by_dialect (BeginsSame Lor s) (λ v. refl) refl std
begins-same std Land s e = by_dialect (BeginsSame Land s) (λ v. refl) refl std
begins-same std Bor s e = by_dialect (BeginsSame Bor s) (λ v. refl) refl std
begins-same std Bxor s e = by_dialect (BeginsSame Bxor s) (λ v. refl) refl std
begins-same std Band s e = by_dialect (BeginsSame Band s) (λ v. refl) refl std
begins-same std Equal s e = by_dialect (BeginsSame Equal s) (λ v. refl) refl std
begins-same std Relate s e = by_dialect (BeginsSame Relate s) (λ v. refl) refl std
begins-same std Shift s e = by_dialect (BeginsSame Shift s) (λ v. refl) refl std
begins-same std Add s e = by_dialect (BeginsSame Add s) (λ v. refl) refl std
begins-same std Mul s e = by_dialect (BeginsSame Mul s) (λ v. refl) refl std
begins-same std _ s e = absurd (false≢true e)

-- its node is left out where no operator follows
pub left-out : (std : Dialect) (p : Production) → is_binary p ≡ true → CanBeLeftOut p (rest_of p std)
left-out std Expr e = record { collapses = refl; optional = refl }
left-out std Assign e = record { collapses = refl; optional = refl }
left-out std Cond e = record { collapses = refl; optional = refl }
left-out std Lor e = record { collapses = refl; optional = refl }
left-out std Land e = record { collapses = refl; optional = refl }
left-out std Bor e = record { collapses = refl; optional = refl }
left-out std Bxor e = record { collapses = refl; optional = refl }
left-out std Band e = record { collapses = refl; optional = refl }
left-out std Equal e = record { collapses = refl; optional = refl }
left-out std Relate e = record { collapses = refl; optional = refl }
left-out std Shift e = record { collapses = refl; optional = refl }
left-out std Add e = record { collapses = refl; optional = refl }
left-out std Mul e = record { collapses = refl; optional = refl }
left-out std _ e = absurd (false≢true e)

pub goes-assign : (std : Dialect) (p : Production) (s : State) → is_assign p ≡ true
    → may (grammar std) own (part Asgop) s ≡ may (grammar std) own (rest_of p std) s
goes-assign std Assign s e =
    by_dialect (λ d. may (grammar d) own (part Asgop) s ≡ may (grammar d) own (rest_of Assign d) s) (λ v. refl) refl std
goes-assign std _ s e = absurd (false≢true e)

pub goes-sign : (std : Dialect) (p : Production) (s : State) → is_binary p ≡ true → is_assign p ≡ false
    → among (signs p) (class_at (grammar std) s s.at) ≡ may (grammar std) own (rest_of p std) s
goes-sign std Expr s e f = refl
goes-sign std Assign s e f = absurd (false≢true (sym f))
goes-sign std Cond s e f = refl
goes-sign std Lor s e f = refl
goes-sign std Land s e f = refl
goes-sign std Bor s e f = refl
goes-sign std Bxor s e f = refl
goes-sign std Band s e f = refl
goes-sign std Equal s e f = refl
goes-sign std Relate s e f = refl
goes-sign std Shift s e f = refl
goes-sign std Add s e f = refl
goes-sign std Mul s e f = refl
goes-sign std _ s e f = absurd (false≢true e)

abbrev choice : Dialect → Production → Choice
choice std p = record { number = 1; body = part (operand_of p) · rest_of p std }

chosen-row : (std : Dialect) (p : Production) (s : State) (b : Bool) → is_binary p ≡ true → may (grammar std) own (part Cast) s ≡ b
    → chosen (grammar std) s 1 ((grammar std).table p) ≡ (if b then Some (choice std p) else None)
chosen-row std p s b e starts =
    ap (chosen (grammar std) s 1) (only_row std p e) ∙ ap (λ x. if x then Some (choice std p) else None) (begins-same std p s e ∙ starts)

pub binary-read : (std : Dialect) (depth : ℕ) (p : Production) (r : Result Node ReadRefusal) (s new : State) → is_binary p ≡ true
    → may (grammar std) own (part Cast) s ≡ true → ReadsNode r s new (alternative (grammar std) (whole (grammar std)) depth p 1 (part (operand_of p) · rest_of p std))
    → ReadsNode r s new (whole (grammar std) depth (produce p))
binary-read std depth p r s new e starts m = node-chosen std depth p (choice std p) r s new (chosen-row std p s true e starts) m

pub binary-none : (std : Dialect) (depth : ℕ) (p : Production) (s : State) → is_binary p ≡ true → may (grammar std) own (part Cast) s ≡ false
    → (b : Node) → whole (grammar std) depth (produce p) (with_built s b) ≡ Err (syntax s.at)
binary-none std depth p s e starts = node-none std depth p s (chosen-row std p s false e starts)

pub binary-ready : (std : Dialect) (p : Production) → is_binary p ≡ true → IsReady p (part (operand_of p) · rest_of p std)
binary-ready std p e =
    let P : List Alternative → Type 0 = λ rows. list_all (λ a. is_ready p a.body) rows ≡ true in
    ready-parts p (part (operand_of p) · rest_of p std) (and_parts (is_ready p (part (operand_of p) · rest_of p std)) true (subst P (only_row std p e) (ready-at p std))).0

-- the node of the first operand, where no operator follows
pub over-left : (std : Dialect) (depth : ℕ) (p : Production) (s s1 new : State) (first : Node) → is_binary p ≡ true
    → may (grammar std) own (part Cast) s ≡ true → ReadsNode (Ok first) s s1 (whole (grammar std) depth (produce (operand_of p)))
    → may (grammar std) own (rest_of p std) s1 ≡ false → new ≡ record s1 { near = s.near }
    → ReadsNode (Ok first) s new (whole (grammar std) depth (produce p))
over-left std depth p s s1 new first e starts m off near =
    binary-read std depth p (Ok first) s new e starts
    (led-left (grammar std) depth p 1 (operand_of p) (rest_of p std) (left-out std p e) s s1 new first m off near)

-- .. or where its reading stops
over-stops : (std : Dialect) (depth : ℕ) (p : Production) (s s1 : State) (x : ReadRefusal) → is_binary p ≡ true
    → may (grammar std) own (part Cast) s ≡ true → ReadsNode (Err x) s s1 (whole (grammar std) depth (produce (operand_of p)))
    → ReadsNode (Err x) s s1 (whole (grammar std) depth (produce p))
over-stops std depth p s s1 x e starts m =
    binary-read std depth p (Err x) s s1 e starts
    (led-stopped (grammar std) depth p 1 (operand_of p) (rest_of p std) (left-out std p e) s s1 x m)

-- ---- From the innermost operand out

pub record IsOver (r : Production) : Type 0 where
  pub binary : is_binary (over r) ≡ true
  pub operand : operand_of (over r) ≡ r
  pub level : level_of (over r) ≡ level_of r + 1

is-over : (r : Production) → is_operand r ≡ true → IsOver r
is-over Cast e = record { binary = refl; operand = refl; level = refl }
is-over Mul e = record { binary = refl; operand = refl; level = refl }
is-over Add e = record { binary = refl; operand = refl; level = refl }
is-over Shift e = record { binary = refl; operand = refl; level = refl }
is-over Relate e = record { binary = refl; operand = refl; level = refl }
is-over Equal e = record { binary = refl; operand = refl; level = refl }
is-over Band e = record { binary = refl; operand = refl; level = refl }
is-over Bxor e = record { binary = refl; operand = refl; level = refl }
is-over Bor e = record { binary = refl; operand = refl; level = refl }
is-over Land e = record { binary = refl; operand = refl; level = refl }
is-over Lor e = record { binary = refl; operand = refl; level = refl }
is-over Cond e = record { binary = refl; operand = refl; level = refl }
is-over Assign e = record { binary = refl; operand = refl; level = refl }
is-over _ e = absurd (false≢true e)

-- each of so many steps from the one out has an operand, and the last leads to the other
abbrev pub Under : ℕ → Production → Production → Type 0
Under zero r p = r ≡ p
Under (suc n) r p = (is_operand r ≡ true) × Under n (over r) p

pub cast-under : (p : Production) → is_binary p ≡ true → Under (rungs p) Cast p
cast-under Mul e = (refl, refl)
cast-under Add e = (refl, (refl, refl))
cast-under Shift e = (refl, (refl, (refl, refl)))
cast-under Relate e = (refl, (refl, (refl, (refl, refl))))
cast-under Equal e = (refl, (refl, (refl, (refl, (refl, refl)))))
cast-under Band e = (refl, (refl, (refl, (refl, (refl, (refl, refl))))))
cast-under Bxor e = (refl, (refl, (refl, (refl, (refl, (refl, (refl, refl)))))))
cast-under Bor e = (refl, (refl, (refl, (refl, (refl, (refl, (refl, (refl, refl))))))))
cast-under Land e = (refl, (refl, (refl, (refl, (refl, (refl, (refl, (refl, (refl, refl)))))))))
cast-under Lor e = (refl, (refl, (refl, (refl, (refl, (refl, (refl, (refl, (refl, (refl, refl))))))))))
cast-under Cond e = (refl, (refl, (refl, (refl, (refl, (refl, (refl, (refl, (refl, (refl, (refl, refl)))))))))))
cast-under Assign e = (refl, (refl, (refl, (refl, (refl, (refl, (refl, (refl, (refl, (refl, (refl, (refl, refl))))))))))))
cast-under Expr e = (refl, (refl, (refl, (refl, (refl, (refl, (refl, (refl, (refl, (refl, (refl, (refl, (refl, refl)))))))))))))
cast-under _ e = absurd (false≢true e)

under-level : (n : ℕ) (r p : Production) → Under n r p → level_of r + n ≡ level_of p
under-level zero r p under = let e = ap level_of under in omega (arith, e)
under-level (suc n) r p under =
    let o = is-over r under.0 in
    omega (arith, o.level, under-level n (over r) p under.1)

-- the innermost operand stands below
pub cast-below : (p : Production) → is_binary p ≡ true → 4 < level_of p
cast-below p e = let h = under-level (rungs p) Cast p (cast-under p e) in omega (arith, h, rungs-some p e)
  where
    rungs-some : (p : Production) → is_binary p ≡ true → 0 < rungs p
    rungs-some Mul e = omega arith
    rungs-some Add e = omega arith
    rungs-some Shift e = omega arith
    rungs-some Relate e = omega arith
    rungs-some Equal e = omega arith
    rungs-some Band e = omega arith
    rungs-some Bxor e = omega arith
    rungs-some Bor e = omega arith
    rungs-some Land e = omega arith
    rungs-some Lor e = omega arith
    rungs-some Cond e = omega arith
    rungs-some Assign e = omega arith
    rungs-some Expr e = omega arith
    rungs-some _ e = absurd (false≢true e)

-- one step out
pub record IsNext (n : ℕ) (r p : Production) : Type 0 where
  pub step : IsOver r
  pub under : Under (n - 1) (over r) p
  pub level : level_of (over r) ≤ level_of p

pub under-next : (n : ℕ) (r p : Production) → 0 < n → Under n r p → IsNext n r p
under-next zero r p some under = absurd (omega arith)
under-next (suc n) r p some under =
    let h = under-level n (over r) p under.1 in
    let e : n ≡ suc n - 1 = omega arith in
    let U : ℕ → Type 0 = λ k. Under k (over r) p in
    record { step = is-over r under.0; under = subst U e under.1; level = omega (arith, h) }

-- what stops the reading of an operand stops that of each production over it
pub under-stops : (std : Dialect) (depth : ℕ) (n : ℕ) (r p : Production) (s s1 : State) (x : ReadRefusal) → Under n r p
    → may (grammar std) own (part Cast) s ≡ true → ReadsNode (Err x) s s1 (whole (grammar std) depth (produce r))
    → ReadsNode (Err x) s s1 (whole (grammar std) depth (produce p))
under-stops std depth zero r p s s1 x under starts m =
    let P : Production → Type 0 = λ q. ReadsNode (Err x) s s1 (whole (grammar std) depth (produce q)) in
    subst P under m
under-stops std depth (suc n) r p s s1 x under starts m =
    let o = is-over r under.0 in
    let P : Production → Type 0 = λ q. ReadsNode (Err x) s s1 (whole (grammar std) depth (produce q)) in
    under-stops std depth n (over r) p s s1 x under.1 starts (over-stops std depth (over r) s s1 x o.binary starts (subst P (sym o.operand) m))

pub under-end : (n : ℕ) (r p : Production) → n ≤ 0 → Under n r p → r ≡ p
under-end zero r p none under = under
under-end (suc n) r p none under = absurd (omega arith)

-- ---- No operator follows

among-none : (p : Production) (c : Class) → is_binary p ≡ true → is_assign p ≡ false → rungs p < rung c → among (signs p) c ≡ false
among-none Expr c e f over = expr c over
  where
    expr : (c : Class) → 13 < rung c → among (signs Expr) c ≡ false
    expr Comma over = absurd (omega (arith, over))
    expr _ over = refl
among-none Assign c e f over = absurd (false≢true (sym f))
among-none Cond c e f over = cond c over
  where
    cond : (c : Class) → 11 < rung c → among (signs Cond) c ≡ false
    cond Question over = absurd (omega (arith, over))
    cond _ over = refl
among-none Lor c e f over = lor c over
  where
    lor : (c : Class) → 10 < rung c → among (signs Lor) c ≡ false
    lor BarBar over = absurd (omega (arith, over))
    lor _ over = refl
among-none Land c e f over = land c over
  where
    land : (c : Class) → 9 < rung c → among (signs Land) c ≡ false
    land AmpAmp over = absurd (omega (arith, over))
    land _ over = refl
among-none Bor c e f over = bor c over
  where
    bor : (c : Class) → 8 < rung c → among (signs Bor) c ≡ false
    bor Bar over = absurd (omega (arith, over))
    bor _ over = refl
among-none Bxor c e f over = bxor c over
  where
    bxor : (c : Class) → 7 < rung c → among (signs Bxor) c ≡ false
    bxor Caret over = absurd (omega (arith, over))
    bxor _ over = refl
among-none Band c e f over = band c over
  where
    band : (c : Class) → 6 < rung c → among (signs Band) c ≡ false
    band Amp over = absurd (omega (arith, over))
    band _ over = refl
among-none Equal c e f over = equal c over
  where
    equal : (c : Class) → 5 < rung c → among (signs Equal) c ≡ false
    equal EqEq over = absurd (omega (arith, over))
    equal BangEq over = absurd (omega (arith, over))
    equal _ over = refl
among-none Relate c e f over = relate c over
  where
    relate : (c : Class) → 4 < rung c → among (signs Relate) c ≡ false
    relate Less over = absurd (omega (arith, over))
    relate Greater over = absurd (omega (arith, over))
    relate LessEq over = absurd (omega (arith, over))
    relate GreaterEq over = absurd (omega (arith, over))
    relate _ over = refl
among-none Shift c e f over = shift c over
  where
    shift : (c : Class) → 3 < rung c → among (signs Shift) c ≡ false
    shift ShiftLeft over = absurd (omega (arith, over))
    shift ShiftRight over = absurd (omega (arith, over))
    shift _ over = refl
among-none Add c e f over = add c over
  where
    add : (c : Class) → 2 < rung c → among (signs Add) c ≡ false
    add Plus over = absurd (omega (arith, over))
    add Minus over = absurd (omega (arith, over))
    add _ over = refl
among-none Mul c e f over = mul c over
  where
    mul : (c : Class) → 1 < rung c → among (signs Mul) c ≡ false
    mul Star over = absurd (omega (arith, over))
    mul Slash over = absurd (omega (arith, over))
    mul Percent over = absurd (omega (arith, over))
    mul _ over = refl
among-none _ c e f over = absurd (false≢true e)

assign-none : (c : Class) → 12 < rung c → among assignments c ≡ false
assign-none Eq over = absurd (omega (arith, over))
assign-none StarEq over = absurd (omega (arith, over))
assign-none SlashEq over = absurd (omega (arith, over))
assign-none PercentEq over = absurd (omega (arith, over))
assign-none PlusEq over = absurd (omega (arith, over))
assign-none MinusEq over = absurd (omega (arith, over))
assign-none ShiftLeftEq over = absurd (omega (arith, over))
assign-none ShiftRightEq over = absurd (omega (arith, over))
assign-none AmpEq over = absurd (omega (arith, over))
assign-none CaretEq over = absurd (omega (arith, over))
assign-none BarEq over = absurd (omega (arith, over))
assign-none _ over = refl

abbrev AssignsNone : State → Dialect → Type 0
AssignsNone s d = 12 < rung (class_at (grammar d) s s.at) → may (grammar d) own (rest_of Assign d) s ≡ false

assigns-none : (std : Dialect) (s : State) → AssignsNone s std
assigns-none std s =
    by_dialect (AssignsNone s)
    (λ v over. ap (λ x. x || false) (assign-none (class_at (grammar (Iso v)) s s.at) over))
    (λ over. ap (λ x. x || false) (assign-none (class_at (grammar Gnu) s s.at) over)) std

-- the class is no operator of the production
pub goes-past : (std : Dialect) (p : Production) (s : State) → is_binary p ≡ true → rungs p < rung (class_at (grammar std) s s.at)
    → may (grammar std) own (rest_of p std) s ≡ false
goes-past std Assign s e over = assigns-none std s over
goes-past std Expr s e over = among-none Expr (class_at (grammar std) s s.at) e refl over
goes-past std Cond s e over = among-none Cond (class_at (grammar std) s s.at) e refl over
goes-past std Lor s e over = among-none Lor (class_at (grammar std) s s.at) e refl over
goes-past std Land s e over = among-none Land (class_at (grammar std) s s.at) e refl over
goes-past std Bor s e over = among-none Bor (class_at (grammar std) s s.at) e refl over
goes-past std Bxor s e over = among-none Bxor (class_at (grammar std) s s.at) e refl over
goes-past std Band s e over = among-none Band (class_at (grammar std) s s.at) e refl over
goes-past std Equal s e over = among-none Equal (class_at (grammar std) s s.at) e refl over
goes-past std Relate s e over = among-none Relate (class_at (grammar std) s s.at) e refl over
goes-past std Shift s e over = among-none Shift (class_at (grammar std) s s.at) e refl over
goes-past std Add s e over = among-none Add (class_at (grammar std) s s.at) e refl over
goes-past std Mul s e over = among-none Mul (class_at (grammar std) s s.at) e refl over
goes-past std _ s e over = absurd (false≢true e)

rungs-over : (r : Production) → is_operand r ≡ true → rungs (over r) ≡ rungs r + 1
rungs-over Cast e = refl
rungs-over Mul e = refl
rungs-over Add e = refl
rungs-over Shift e = refl
rungs-over Relate e = refl
rungs-over Equal e = refl
rungs-over Band e = refl
rungs-over Bxor e = refl
rungs-over Bor e = refl
rungs-over Land e = refl
rungs-over Lor e = refl
rungs-over Cond e = refl
rungs-over Assign e = refl
rungs-over _ e = absurd (false≢true e)

under-rungs : (n : ℕ) (r p : Production) → Under n r p → rungs r + n ≡ rungs p
under-rungs zero r p under = let e = ap rungs under in omega (arith, e)
under-rungs (suc n) r p under = omega (arith, rungs-over r under.0, under-rungs n (over r) p under.1)

-- the nearest specifiers are again those of before
abbrev with_near : State → State → State
with_near s s1 = record s1 { near = s.near }

near-class : (std : Dialect) (s s1 : State) → class_at (grammar std) (with_near s s1) s1.at ≡ class_at (grammar std) s1 s1.at
unfolding class_at
near-class std s s1 = refl

-- the same one step out
left-once : (std : Dialect) (depth : ℕ) (n : ℕ) (r p : Production) (s s1 : State) (first : Node) → Under (suc n) r p
    → rungs p < rung (class_at (grammar std) s1 s1.at) → may (grammar std) own (part Cast) s ≡ true
    → ReadsNode (Ok first) s s1 (whole (grammar std) depth (produce r))
    → ReadsNode (Ok first) s (with_near s s1) (whole (grammar std) depth (produce (over r)))
left-once std depth n r p s s1 first under past starts m =
    let o = is-over r under.0 in
    let some = under-rungs n (over r) p under.1 in
    let N : Production → Type 0 = λ q. ReadsNode (Ok first) s s1 (whole (grammar std) depth (produce q)) in
    let off = goes-past std (over r) s1 o.binary (omega (arith, past, some)) in
    over-left std depth (over r) s s1 (with_near s s1) first o.binary starts (subst N (sym o.operand) m) off refl

-- the node of an operand, where no operator of the production or of one under it follows
left-under : (std : Dialect) (depth : ℕ) (n : ℕ) (r p : Production) (s s1 : State) (first : Node) → Under (suc n) r p
    → rungs p < rung (class_at (grammar std) s1 s1.at) → may (grammar std) own (part Cast) s ≡ true
    → ReadsNode (Ok first) s s1 (whole (grammar std) depth (produce r))
    → ReadsNode (Ok first) s (with_near s s1) (whole (grammar std) depth (produce p))
left-under std depth zero r p s s1 first under past starts m =
    let N : Production → Type 0 = λ q. ReadsNode (Ok first) s (with_near s s1) (whole (grammar std) depth (produce q)) in
    subst N under.1 (left-once std depth zero r p s s1 first under past starts m)
left-under std depth (suc n) r p s s1 first under past starts m =
    let same = ap rung (near-class std s s1) in
    left-under std depth n (over r) p s (with_near s s1) first under.1 (omega (arith, past, same)) starts
    (left-once std depth (suc n) r p s s1 first under past starts m)

pub under-left : (std : Dialect) (depth : ℕ) (n : ℕ) (r p : Production) (s s1 new : State) (first : Node) → 0 < n → Under n r p
    → nat_lt (rungs p) (rung (class_at (grammar std) s1 s1.at)) ≡ true → may (grammar std) own (part Cast) s ≡ true
    → ReadsNode (Ok first) s s1 (whole (grammar std) depth (produce r)) → new ≡ record s1 { near = s.near }
    → ReadsNode (Ok first) s new (whole (grammar std) depth (produce p))
under-left std depth zero r p s s1 new first some under past starts m near = absurd (omega (arith, some))
under-left std depth (suc n) r p s s1 new first some under past starts m near =
    let N : State → Type 0 = λ x. ReadsNode (Ok first) s x (whole (grammar std) depth (produce p)) in
    subst N (sym near) (left-under std depth n r p s s1 first under (ltb-true (rungs p) (rung (class_at (grammar std) s1 s1.at)) past) starts m)
