-- Headers that conditions ask for, which GNU C has (beside ISO/IEC 9899:1999, 6.10.1): `__has_include` and
-- `__has_include_next` with a header in parentheses.
use Rattle.std.specs.Prelude.{ℕ, zero, suc, ◌+◌, Bool, true, false, ◌&&◌, ◌||◌, if◌then◌else◌, Option, Some, None, List, [], ◌∷◌, Ok, codes, slice_get, take, drop}
use Rattle.std.specs.List.{position}
use Rattle.std.specs.Option.{option_map, option_map_or}
use Rattle.cs_base.specs.Token.{Token}
use Rattle.source_files.specs.Below.line_shape.Signs.{is_word, is_open, is_close}
use Rattle.source_files.specs.HeaderNames.{is_string, is_less, is_greater}
use Rattle.macro_expand.specs.Below.macro_body.Sound.{is_traced, is_low}
use Rattle.unit_steps.specs.declared.questions.Question.{Question as Kept}
use Rattle.unit_steps.specs.declared.questions.Question.TheVariants as kept
use Rattle.unit_steps.specs.Notes.{Answered}
use Rattle.unit_steps.specs.State.{State, did, Outcome}
use Rattle.unit_steps.specs.Conditions.{answer_for}

-- A piece of a condition: a token that stays, a word that asks for a header with the tokens of its operand, or one that has
-- no operand.
pub data Question : Type 0 where
  Unasked : Token → Question
  Looks : Token → List Token → Question
  Lacks : Question

abbrev pub asks_next : Token → Bool
asks_next t = is_word (codes "__has_include_next") t

abbrev pub asks_header : Token → Bool
asks_header t = is_word (codes "__has_include") t || asks_next t

-- how many tokens the header has with which tokens begin: a string, or `<` and all up to the first `>`
abbrev pub header_length : List Token → Option ℕ
header_length [] = None
header_length (t ∷ toks) =
    if is_string t.kind then Some 1 else if is_less t then option_map (λ (k : ℕ). k + 2) (position is_greater toks) else None

-- the same, if a `)` stands behind it
abbrev pub closes_at : List Token → ℕ → Bool
closes_at toks n = option_map_or is_close (slice_get toks n) false

abbrev pub closed_length : List Token → Option ℕ → Option ℕ
closed_length toks None = None
closed_length toks (Some n) = if closes_at toks n then Some n else None

-- how many tokens the header has that stands in the parentheses with which tokens begin
abbrev pub asked_length : List Token → Option ℕ
asked_length [] = None
asked_length (t ∷ toks) = if is_open t then closed_length toks (header_length toks) else None

-- a word without an operand stays as long as macros may still bring one
abbrev pub lacking : Bool → Token → Question
lacking early word = if early then Unasked word else Lacks

-- a word that asks, with its operand, in front of the rest, which begins behind so many tokens
abbrev pub looks_with : Bool → Token → List Token → (ℕ → List Question) → Option ℕ → List Question
looks_with early word toks rest None = lacking early word ∷ rest 0
looks_with early word toks rest (Some n) = Looks word (take n (drop 1 toks)) ∷ rest (n + 2)

-- the pieces of tokens, of which the first `skip` belong to the piece before
unfoldable pub questions_from : Bool → ℕ → List Token → List Question
questions_from early skip [] = []
questions_from early (suc skip) (t ∷ toks) = questions_from early skip toks
questions_from early zero (t ∷ toks) =
    if asks_header t then looks_with early t toks (λ skip. questions_from early skip toks) (asked_length toks)
    else Unasked t ∷ questions_from early 0 toks

-- a token from which an expansion may begin
abbrev pub is_sound : Question → Bool
is_sound (Unasked t) = is_traced t && is_low t
is_sound (Looks word operand) = is_low word
is_sound Lacks = true

-- the number that stands for such a word, where the header is there or not
abbrev pub found_as : Token → Bool → State → Outcome Token
found_as word b s = Ok (did (answer_for word b) (Answered (answer_for word b) ∷ []) s)

-- a piece, as it is kept
abbrev pub question_of : Kept → Question
question_of (kept.Unasked t) = Unasked t
question_of (kept.Looks word operand) = Looks word operand.items
question_of kept.Lacks = Lacks
