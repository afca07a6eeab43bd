-- The value of a controlling expression (ISO/IEC 9899:1999, 6.5, 6.6, 6.10.1): the tree of the tokens is
-- evaluated on whole numbers with a mark for unsigned. What is not evaluated has no fault, but its type
-- counts.
use Rattle.std.specs.Prelude.{Bool, false, not, ◌||◌, if◌then◌else◌, Result, Ok, List}
use Rattle.cs_base.specs.Token.{Token}
use Rattle.cond_eval.specs.declared.faults.CondFault.{CondFault}
use Rattle.cond_eval.specs.declared.integers.Integer.{Integer}
use Rattle.cond_eval.specs.declared.operators.Sign.{Sign}
use Rattle.cond_eval.specs.declared.operators.Sign.TheVariants.{Plus, Minus, Complement, Not}
use Rattle.cond_eval.specs.declared.operators.Operator.{Operator}
use Rattle.cond_eval.specs.declared.operators.Operator.TheVariants.{Compute, ShiftLeft, ShiftRight, Compare, And, Or}
use Rattle.cond_eval.specs.Integers.{is_unsigned, is_nonzero, converted, truth}
use Rattle.cond_eval.specs.Arithmetic.{prefixed, combined}
use Rattle.cond_eval.specs.Reading.{Tree, Constant, Prefix, Infix, Choice, and_then, tree_of}

-- the type of a unary operator's result, by that of its operand: `!` gives an `int` (6.5.3.3 paragraph 5)
abbrev pub prefix_unsigned : Sign → Bool → Bool
prefix_unsigned Plus u = u
prefix_unsigned Minus u = u
prefix_unsigned Complement u = u
prefix_unsigned Not u = false

-- The type of a binary operator's result, by those of its operands: that of the left one for a shift
-- (6.5.7 paragraph 3), `int` for comparisons and logic, the common type for the others (6.3.1.8).
abbrev pub infix_unsigned : Operator → Bool → Bool → Bool
infix_unsigned (Compute arithmetic) u v = u || v
infix_unsigned ShiftLeft u v = u
infix_unsigned ShiftRight u v = u
infix_unsigned (Compare relation) u v = false
infix_unsigned And u v = false
infix_unsigned Or u v = false

-- whether a tree is of the unsigned type, evaluated or not
abbrev pub has_unsigned : Tree → Bool
has_unsigned (Constant n) = is_unsigned n
has_unsigned (Prefix sign index t) = prefix_unsigned sign (has_unsigned t)
has_unsigned (Infix operator index l r) = infix_unsigned operator (has_unsigned l) (has_unsigned r)
has_unsigned (Choice c s t) = has_unsigned s || has_unsigned t

-- whether the left operand alone decides (6.5.13 paragraph 4, 6.5.14 paragraph 4)
abbrev pub is_decided : Operator → Integer → Bool
is_decided (Compute arithmetic) x = false
is_decided ShiftLeft x = false
is_decided ShiftRight x = false
is_decided (Compare relation) x = false
is_decided And x = not (is_nonzero x)
is_decided Or x = is_nonzero x

-- the value of a tree, or the first fault in the order of evaluation
abbrev pub value : Tree → Result Integer CondFault
value (Constant n) = Ok n
value (Prefix sign index t) = and_then (value t) (prefixed sign index)
value (Infix operator index l r) =
    and_then (value l) (λ x.
    if is_decided operator x then Ok (truth (is_nonzero x)) else and_then (value r) (combined operator index x))
value (Choice c s t) =
    and_then (value c) (λ x.
    if is_nonzero x then and_then (value s) (λ y. Ok (converted (has_unsigned t) y))
    else and_then (value t) (λ y. Ok (converted (has_unsigned s) y)))

-- whether a controlling expression compares unequal to 0 (6.10.1 paragraph 3), or its first fault: first
-- the whole list is read, and then the tree is evaluated
unfoldable pub condition : List Token → Result Bool CondFault
condition toks = and_then (tree_of toks) (λ t. and_then (value t) (λ x. Ok (is_nonzero x)))
