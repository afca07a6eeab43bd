-- Controlling expressions of a unit (ISO/IEC 9899:1999, 6.10.1): the operands of `defined` become numbers,
-- macros are expanded, and the rest is evaluated.
use Rattle.std.specs.Prelude.{ℕ, zero, suc, Bool, true, false, is_some, ◌&&◌, if◌then◌else◌, Option, Some, None, List, [], ◌∷◌, ◌++◌, Result, Ok, Err, codes, slice_get}
use Rattle.std.specs.List.{list_any}
use Rattle.std.specs.Option.{option_map}
use Rattle.cs_base.specs.declared.causes.Cause.TheVariants as cause
use Rattle.cs_base.specs.declared.positions.Pos.{Pos}
use Rattle.cs_base.specs.declared.tokens.Kind.TheVariants.{Number}
use Rattle.cs_base.specs.Token.{Token, token}
use Rattle.source_files.specs.Below.lexer.Places.{pos}
use Rattle.source_files.specs.Below.line_shape.Signs.{is_name, is_word, is_open, is_close}
use Rattle.cond_eval.specs.declared.faults.CondFault.{CondFault}
use Rattle.cond_eval.specs.declared.faults.CondFault.TheVariants as refused
use Rattle.cond_eval.specs.Evaluation.{condition}
use Rattle.source_files.specs.Files.{SourceFile}
use Rattle.source_files.specs.Faults.{Fault, fault_at}
use Rattle.unit_steps.specs.Notes.{Note, Tested, Left, Answered}
use Rattle.unit_steps.specs.State.{State, Did, did, Outcome, onward}
use Rattle.unit_steps.specs.Expanding.{expanded_in}
use Rattle.unit_steps.specs.Names.{name_links, with_name}

-- ---- the operands of `defined` (paragraphs 1 and 4)

-- A piece of a condition: a token that stays, or the word `defined` with its operand.
pub data Piece : Type 0 where
  Plain : Token → Piece
  Asks : Token → Token → Piece

abbrev pub is_defined : Token → Bool
is_defined t = is_word (codes "defined") t

-- an identifier in parentheses
abbrev pub in_parentheses : List Token → Option Token
in_parentheses (open_ ∷ name ∷ close ∷ toks) = if is_open open_ && is_name name && is_close close then Some name else None
in_parentheses _ = None

-- the operand that stands behind the word, and how many tokens it has; none where no operand does
abbrev pub operand_of : List Token → Option (Token × ℕ)
operand_of [] = None
operand_of (t ∷ toks) = if is_name t then Some (t, 1) else option_map (λ name. (name, 3)) (in_parentheses (t ∷ toks))

-- a piece in front of the rest
abbrev pub onto_pieces : Piece → Option (List Piece) → Option (List Piece)
onto_pieces p pieces = option_map (λ ps. p ∷ ps) pieces

-- the word `defined` with its operand in front of the rest, which begins behind so many tokens
abbrev pub asks_with : Token → (ℕ → Option (List Piece)) → Option (Token × ℕ) → Option (List Piece)
asks_with word rest None = None
asks_with word rest (Some operand) = onto_pieces (Asks word operand.0) (rest operand.1)

-- The pieces of tokens, of which the first `skip` belong to the piece before; none where some `defined` has
-- no operand.
unfoldable pub pieces_from : ℕ → List Token → Option (List Piece)
pieces_from skip [] = Some []
pieces_from (suc skip) (t ∷ toks) = pieces_from skip toks
pieces_from zero (t ∷ toks) =
    if is_defined t then asks_with t (λ skip. pieces_from skip toks) (operand_of toks)
    else onto_pieces (Plain t) (pieces_from 0 toks)

-- ---- the numbers that they become

-- the digit of a truth value, and where it stands in the pseudo file of lines
abbrev pub digit_of : Bool → List ℕ
digit_of true = codes "1"
digit_of false = codes "0"

abbrev pub digit_place : Bool → ℕ
digit_place true = 8
digit_place false = 0

-- the number that stands for `defined` and its operand; it stands where the word stands
abbrev pub answer_for : Token → Bool → Token
answer_for word b =
    token Number (digit_of b) (Some (pos 0 (digit_place b)) ∷ []) word.gap word.at word.line false

-- whether a macro of this name is defined
abbrev pub is_macro : Token → State → Bool
is_macro name s = is_some (s.macros name.text)

-- what happens where a name is asked for
abbrev pub test_notes : Token → State → List Note
test_notes name s = Tested name s.before ∷ name_links name s

-- a token in front, and what happened before
abbrev pub with_front : Token → List Note → Did (List Token) → Did (List Token)
with_front t notes d = did (t ∷ d.value) (notes ++ d.notes) d.state

-- the tokens of pieces, each operand of `defined` answered
unfoldable pub answered : List Piece → State → Did (List Token)
answered [] s = did [] [] s
answered (Plain t ∷ pieces) s = with_front t [] (answered pieces s)
answered (Asks word name ∷ pieces) s =
    with_front (answer_for word (is_macro name s)) (test_notes name s ++ Answered (answer_for word (is_macro name s)) ∷ [])
    (answered pieces (with_name name s))

-- ---- what is left over, and the value

-- a name left over, in front of the rest
abbrev pub left_name : Token → State → Did (Unit {0}) → Did (Unit {0})
left_name name s d = did tt (Left name s.before ∷ name_links name s ++ d.notes) d.state

-- the names left over, which count as 0 (paragraph 3): each is processed
unfoldable pub left_over : List Token → State → Did (Unit {0})
left_over [] s = did tt [] s
left_over (t ∷ toks) s = if is_name t then left_name t s (left_over toks (with_name t s)) else left_over toks s

-- the fault of a condition: it stands at the token with its index, or at the `#` where that is the end
abbrev pub place_or : Pos → Option Token → Pos
place_or at None = at
place_or at (Some t) = t.at

abbrev pub condition_fault : SourceFile → Pos → List Token → CondFault → Fault
condition_fault file at toks (refused.Syntax index) = fault_at file (place_or at (slice_get toks index)) cause.BadCondition
condition_fault file at toks (refused.DivideByZero index) = fault_at file (place_or at (slice_get toks index)) cause.DivideByZero
condition_fault file at toks (refused.Overflow index) = fault_at file (place_or at (slice_get toks index)) cause.Overflow
condition_fault file at toks (refused.TooDeep index) = fault_at file (place_or at (slice_get toks index)) cause.TooDeep

-- the value, and the names left over
abbrev pub valued : SourceFile → Pos → List Token → State → Result Bool CondFault → Outcome Bool
valued file at toks s (Ok b) = Ok (did b (left_over toks s).notes (left_over toks s).state)
valued file at toks s (Err found) = Err (condition_fault file at toks found)

-- the value of a condition that was expanded to these tokens; no `defined` may come out of a macro
abbrev pub judged : SourceFile → Pos → List Token → State → Outcome Bool
judged file at toks s =
    if list_any is_defined toks then Err (fault_at file at cause.DefinedFromMacro)
    else valued file at toks s (condition toks)

-- the tokens that its pieces are expanded to
abbrev pub asked_pieces : SourceFile → Pos → State → Option (List Piece) → Outcome (List Token)
asked_pieces file at s None = Err (fault_at file at cause.BadDirective)
asked_pieces file at s (Some pieces) = onward (Ok (answered pieces s)) (expanded_in false file)

-- a condition with its operands of `defined` answered, expanded
abbrev pub asked_toks : SourceFile → Pos → List Token → State → Outcome (List Token)
asked_toks file at toks s = asked_pieces file at s (pieces_from 0 toks)

-- the condition of an `if` or `elif` line whose `#` is there, given by the tokens behind its word
abbrev pub holds : SourceFile → Pos → List Token → State → Outcome Bool
holds file at toks s = onward (asked_toks file at toks s) (judged file at)
