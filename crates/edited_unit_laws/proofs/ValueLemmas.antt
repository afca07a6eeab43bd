-- Conditions whose tokens count alike.
use Rattle.std.proofs.Common.{◌≡◌, ℕ, zero, suc, ◌+◌, true, cond, if◌then◌else◌, Some, None, Result, Ok, Err, List, [], ◌∷◌, length, codes, refl, ap}
use Rattle.cs_base.specs.declared.tokens.Kind.{Kind}
use Rattle.cs_base.specs.declared.tokens.Kind.TheVariants.{Ident, Number, Char, Str, Punct, Other, Header}
use Rattle.cs_base.specs.Token.{Token}
use Rattle.unit_steps.specs.Below.cond_eval.declared.faults.CondFault.{CondFault}
use Rattle.unit_steps.specs.Below.cond_eval.declared.faults.CondFault.TheVariants.{Syntax}
use Rattle.unit_steps.specs.Below.cond_eval.declared.operators.Operator.{Operator}
use Rattle.unit_steps.specs.Below.cond_eval.declared.places.Beginning.{Beginning}
use Rattle.unit_steps.specs.Below.cond_eval.declared.places.Beginning.TheVariants.{Whole, Unary, Open, Nothing}
use Rattle.unit_steps.specs.Below.cond_eval.Reading.{Choice, Read, read, Rule, Expression, Operand, Inner, is_punctuator, punctuator_at, is_punct, beginning_of, beginning_at, operator_at, and_then, closed, operand_from, operand, joined, chain, binary, branches, conditional, by_rule, enclosed, tree_of}
use Rattle.unit_steps.specs.Below.cond_eval.Evaluation.{condition}
use Rattle.unit_steps.proofs.Below.cond_eval.WalkLemmas.{with_operator-same as with_operator-alike}
use Rattle.edited_unit_laws.specs.Conditions.{AllCountAlike, ConditionsCountAlike}
use Rattle.edited_unit_laws.specs.Lines.{is_fixed}

-- ---- single tokens

sign-alike : (kind : Kind) (x y : List ℕ) → (is_fixed kind ≡ true → x ≡ y)
    → cond (is_punctuator kind) (Some x) None ≡ cond (is_punctuator kind) (Some y) None
sign-alike Ident x y same = refl
sign-alike Number x y same = refl
sign-alike Char x y same = refl
sign-alike Str x y same = refl
sign-alike Punct x y same = ap (λ (text : List ℕ). Some text) (same refl)
sign-alike Other x y same = refl
sign-alike Header x y same = refl

beginning-alike : (kind : Kind) (x y : List ℕ) → (is_fixed kind ≡ true → x ≡ y) → beginning_of kind x ≡ beginning_of kind y
beginning-alike Ident x y same = refl
beginning-alike Number x y same = ap (beginning_of Number) (same refl)
beginning-alike Char x y same = ap (beginning_of Char) (same refl)
beginning-alike Str x y same = refl
beginning-alike Punct x y same = ap (beginning_of Punct) (same refl)
beginning-alike Other x y same = refl
beginning-alike Header x y same = refl

-- ---- lists of tokens

-- What a reading asks of two lists is the same.
pub record Alike (xs ys : List Token) : Type 0 where
  pub as_long : length xs ≡ length ys
  pub signs : (at : ℕ) → punctuator_at xs at ≡ punctuator_at ys at
  pub beginnings : (at : ℕ) → beginning_at xs at ≡ beginning_at ys at

long-alike : (xs ys : List Token) → AllCountAlike xs ys → length xs ≡ length ys
long-alike [] [] alike = refl
long-alike [] (y ∷ ys) alike = absurd alike
long-alike (x ∷ xs) [] alike = absurd alike
long-alike (x ∷ xs) (y ∷ ys) alike = ap suc (long-alike xs ys alike.1)

signs-alike : (xs ys : List Token) (at : ℕ) → AllCountAlike xs ys → punctuator_at xs at ≡ punctuator_at ys at
signs-alike [] [] at alike = refl
signs-alike [] (y ∷ ys) at alike = absurd alike
signs-alike (x ∷ xs) [] at alike = absurd alike
signs-alike (x ∷ xs) (y ∷ ys) zero alike =
    let kinds : x.kind ≡ y.kind = alike.0.0 in
    rw (← kinds) (sign-alike x.kind x.text y.text alike.0.1)
signs-alike (x ∷ xs) (y ∷ ys) (suc at) alike = signs-alike xs ys at alike.1

beginnings-alike : (xs ys : List Token) (at : ℕ) → AllCountAlike xs ys → beginning_at xs at ≡ beginning_at ys at
unfolding beginning_at
beginnings-alike [] [] at alike = refl
beginnings-alike [] (y ∷ ys) at alike = absurd alike
beginnings-alike (x ∷ xs) [] at alike = absurd alike
beginnings-alike (x ∷ xs) (y ∷ ys) zero alike =
    let kinds : x.kind ≡ y.kind = alike.0.0 in
    rw (← kinds) (beginning-alike x.kind x.text y.text alike.0.1)
beginnings-alike (x ∷ xs) (y ∷ ys) (suc at) alike = beginnings-alike xs ys at alike.1

-- ---- readings

and_then-second : {A B : Type 0} (f g : A → Result B CondFault) → ((a : A) → f a ≡ g a) → (t : Result A CondFault) → and_then t f ≡ and_then t g
and_then-second f g each (Ok a) = each a
and_then-second f g each (Err fault) = refl

and_then-alike : {A B : Type 0} (r s : Result A CondFault) (f g : A → Result B CondFault) → r ≡ s
    → ((a : A) → f a ≡ g a) → and_then r f ≡ and_then s g
and_then-alike r s f g same each =
    rw same (and_then-second f g each s)

-- a sign at a place, and an operator of a level
is_punct-alike : (xs ys : List Token) → Alike xs ys → (at : ℕ) (text : List ℕ) → is_punct xs at text ≡ is_punct ys at text
unfolding is_punct
is_punct-alike xs ys alike at text = rw (alike.signs at) refl

operator-alike : (xs ys : List Token) → Alike xs ys → (level at : ℕ) → operator_at xs level at ≡ operator_at ys level at
unfolding operator_at
operator-alike xs ys alike level at = rw (alike.signs at) refl

-- two ways to read on give the same
abbrev SameInner : Inner → Inner → Type 0
SameInner inner other = (rule : Rule) (at : ℕ) → inner rule at ≡ other rule at

abbrev SamePart : (ℕ → Result Read CondFault) → (ℕ → Result Read CondFault) → Type 0
SamePart part other = (at : ℕ) → part at ≡ other at

closed-alike : (xs ys : List Token) → Alike xs ys → (r : Read) → closed xs r ≡ closed ys r
closed-alike xs ys alike r = rw (is_punct-alike xs ys alike r.next (codes ")")) refl

operand_from-alike : (inner other : Inner) (xs ys : List Token) → Alike xs ys → SameInner inner other → (at : ℕ) (b : Beginning)
    → operand_from inner xs at b ≡ operand_from other ys at b
operand_from-alike inner other xs ys alike same at (Whole n) = refl
operand_from-alike inner other xs ys alike same at (Unary sign) = rw (same Operand at) refl
operand_from-alike inner other xs ys alike same at Open =
    and_then-alike (inner Expression at) (other Expression at) (closed xs) (closed ys) (same Expression at) (closed-alike xs ys alike)
operand_from-alike inner other xs ys alike same at Nothing = refl

operand-alike : (inner other : Inner) (xs ys : List Token) → Alike xs ys → SameInner inner other → (at : ℕ)
    → operand inner xs at ≡ operand other ys at
unfolding operand
operand-alike inner other xs ys alike same at =
    rw (alike.beginnings at) (operand_from-alike inner other xs ys alike same at (beginning_at ys at))

joined-alike : (part other : ℕ → Result Read CondFault) → SamePart part other → (left : Read) (operator : Operator)
    → joined part left operator ≡ joined other left operator
joined-alike part other same left operator = rw (same (left.next + 1)) refl

chain-alike : (part other : ℕ → Result Read CondFault) (xs ys : List Token) → Alike xs ys → SamePart part other → (level most : ℕ) (left : Read)
    → chain part xs level most left ≡ chain other ys level most left
unfolding chain
chain-alike part other xs ys alike same level zero left = refl
chain-alike part other xs ys alike same level (suc most) left =
    rw (operator-alike xs ys alike level left.next)
    (with_operator-alike (operator_at ys level left.next) (Ok left)
    (λ operator. and_then (joined part left operator) (chain part xs level most))
    (λ operator. and_then (joined other left operator) (chain other ys level most))
    (λ operator. and_then-alike (joined part left operator) (joined other left operator) (chain part xs level most) (chain other ys level most)
    (joined-alike part other same left operator) (chain-alike part other xs ys alike same level most)))

binary-alike : (inner other : Inner) (xs ys : List Token) → Alike xs ys → SameInner inner other → (level at : ℕ)
    → binary inner xs level at ≡ binary other ys level at
unfolding binary
binary-alike inner other xs ys alike same zero at = operand-alike inner other xs ys alike same at
binary-alike inner other xs ys alike same (suc level) at =
    let below : SamePart (binary inner xs level) (binary other ys level) = binary-alike inner other xs ys alike same level in
    rw alike.as_long (and_then-alike (binary inner xs level at) (binary other ys level at)
    (chain (binary inner xs level) xs (suc level) (length ys)) (chain (binary other ys level) ys (suc level) (length ys))
    (below at) (chain-alike (binary inner xs level) (binary other ys level) xs ys alike below (suc level) (length ys)))

-- what stands behind the second operand, and behind a condition
abbrev behind_second : Inner → List Token → Read → Read → Result Read CondFault
behind_second inner toks c second =
    if is_punct toks second.next (codes ":") then
    and_then (inner Expression second.next) (λ third. Ok (read (Choice c.tree second.tree third.tree) third.next))
    else Err (Syntax second.next)

abbrev behind_condition : Inner → List Token → Read → Result Read CondFault
behind_condition inner toks c = if is_punct toks c.next (codes "?") then branches inner toks c else Ok c

second-alike : (inner other : Inner) (xs ys : List Token) → Alike xs ys → SameInner inner other → (c second : Read)
    → behind_second inner xs c second ≡ behind_second other ys c second
second-alike inner other xs ys alike same c second =
    rw (is_punct-alike xs ys alike second.next (codes ":"), same Expression second.next) refl

branches-alike : (inner other : Inner) (xs ys : List Token) → Alike xs ys → SameInner inner other → (c : Read)
    → branches inner xs c ≡ branches other ys c
branches-alike inner other xs ys alike same c =
    and_then-alike (inner Expression c.next) (other Expression c.next) (behind_second inner xs c) (behind_second other ys c)
    (same Expression c.next) (second-alike inner other xs ys alike same c)

condition-alike : (inner other : Inner) (xs ys : List Token) → Alike xs ys → SameInner inner other → (c : Read)
    → behind_condition inner xs c ≡ behind_condition other ys c
condition-alike inner other xs ys alike same c =
    rw (is_punct-alike xs ys alike c.next (codes "?"), branches-alike inner other xs ys alike same c) refl

conditional-alike : (inner other : Inner) (xs ys : List Token) → Alike xs ys → SameInner inner other → (at : ℕ)
    → conditional inner xs at ≡ conditional other ys at
unfolding conditional
conditional-alike inner other xs ys alike same at =
    and_then-alike (binary inner xs 10 at) (binary other ys 10 at) (behind_condition inner xs) (behind_condition other ys)
    (binary-alike inner other xs ys alike same 10 at) (condition-alike inner other xs ys alike same)

by_rule-alike : (inner other : Inner) (xs ys : List Token) → Alike xs ys → SameInner inner other → (rule : Rule) (at : ℕ)
    → by_rule inner xs rule at ≡ by_rule other ys rule at
by_rule-alike inner other xs ys alike same Expression at = conditional-alike inner other xs ys alike same at
by_rule-alike inner other xs ys alike same Operand at = operand-alike inner other xs ys alike same at

enclosed-alike : (xs ys : List Token) → Alike xs ys → (room : ℕ) → SameInner (enclosed xs room) (enclosed ys room)
unfolding enclosed
enclosed-alike xs ys alike zero rule at = refl
enclosed-alike xs ys alike (suc room) rule at =
    by_rule-alike (enclosed xs room) (enclosed ys room) xs ys alike (enclosed-alike xs ys alike room) rule (at + 1)

tree-alike : (xs ys : List Token) → Alike xs ys → tree_of xs ≡ tree_of ys
unfolding tree_of
tree-alike xs ys alike =
    rw (conditional-alike (enclosed xs 256) (enclosed ys 256) xs ys alike (enclosed-alike xs ys alike 256) 0, alike.as_long) refl

pub conditions_count_alike : ConditionsCountAlike
unfolding condition
conditions_count_alike toks others same =
    let alike : Alike toks others = record {
      as_long = long-alike toks others same;
      signs = λ at. signs-alike toks others at same;
      beginnings = λ at. beginnings-alike toks others at same;
    } in
    rw (tree-alike toks others alike) refl
