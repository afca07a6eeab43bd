-- Conditions as the program values them: operands of `defined` are answered piece by piece, and names left
-- over are passed one by one (ISO/IEC 9899:1999, 6.10.1 paragraphs 1, 3 and 4).
use Rattle.std.specs.Prelude.{ℕ, Option, Some, None, List, [], ◌∷◌, ◌++◌}
use Rattle.std.specs.Option.{option_map}
use Rattle.cs_base.specs.Token.{Token}
use Rattle.unit_steps.specs.Notes.{Note, Answered}
use Rattle.unit_steps.specs.State.{State, Did}
use Rattle.unit_steps.specs.Conditions.{pieces_from, answer_for, is_macro, test_notes, answered}
use Rattle.unit_steps.specs.Texts.{UnitTextValue}
use Rattle.unit_steps.specs.Keeping.{noted_in}

-- what happens where an operand is asked for and answered
abbrev pub answer_notes : Token → Token → State → List Note
answer_notes word name s = test_notes name s ++ Answered (answer_for word (is_macro name s)) ∷ []

-- Tokens that are answered, the state behind them, and the text with what happened; none where some
-- `defined` has no operand.
abbrev pub Asked : Type 0
Asked = Option (List Token × State × UnitTextValue)

abbrev pub asked_kept : UnitTextValue → Option (Did (List Token)) → Asked
asked_kept k None = None
asked_kept k (Some d) = Some (d.value, d.state, noted_in k d.notes)

-- that of tokens, of which the first `skip` belong to a piece before
unfoldable pub asked_in : UnitTextValue → ℕ → List Token → State → Asked
asked_in k skip toks s = asked_kept k (option_map (λ pieces. answered pieces s) (pieces_from skip toks))

-- the same behind these tokens
abbrev pub behind : List Token → Asked → Asked
behind out None = None
behind out (Some r) = Some (out ++ r.0, r.1, r.2)

-- the state behind names left over, and the text with what happened
abbrev pub left_kept : UnitTextValue → Did (Unit {0}) → State × UnitTextValue
left_kept k d = (d.state, noted_in k d.notes)
