-- Replacement of a macro's name by its replacement list (ISO/IEC 9899:1999, 6.10.3.1 to 6.10.3.3,
-- 6.10.8).
use Rattle.std.specs.Prelude.{ℕ, zero, suc, ◌+◌, ◌-◌, ◌*◌, Bool, true, false, List, [], ◌∷◌, ◌++◌, length, map, Option, Some, None, Result, Ok, Err, replicate, get_or, nat_lt}
use Rattle.std.specs.List.{flat_map}
use Rattle.std.specs.Fmt.{decimal}
use Rattle.cs_base.specs.declared.tokens.Kind.TheVariants.{Number, Str}
use Rattle.cs_base.specs.declared.positions.Pos.{Pos}
use Rattle.cs_base.specs.Token.{Token, token}
use Rattle.paste_origin.specs.Pasting.{PasteFault, glue_of}
use Rattle.lexer.specs.Characters.{double_quote}
use Rattle.paste_origin.specs.Strings.{StringFault, stringize_of, escaped}
use Rattle.macro_body.specs.Hides.{Hidden, hidden, in_both, toks_of}
use Rattle.macro_body.specs.Bodies.{Part, Plain, Param, Quote, Paste, Rest}
use Rattle.macro_body.specs.Notes.{Fault, NotOneToken, NotAString, Note, Stringized, Pasted, onward}

-- a token that a replacement puts in for a name: it stands where the name stands
abbrev pub put_in : Token → Bool → Token → Token
put_in name gap t = record t { gap = gap; at = name.at; line = name.line; direct = false }

-- a token of an argument: it stays where it stands
abbrev pub moved_in : Hidden → Hidden
moved_in h = hidden (record h.tok { direct = false }) h.hides

-- white space before the first token, as before the token that it stands for
abbrev pub with_gap : Bool → List Hidden → List Hidden
with_gap gap [] = []
with_gap gap (h ∷ hs) = hidden (record h.tok { gap = gap }) h.hides ∷ hs

-- the tokens that stand for a parameter
abbrev pub argument_for : Token → List Hidden → List Hidden
argument_for parameter hs = with_gap parameter.gap (map moved_in hs)

-- What a call brings: the arguments as they stand, and expanded.
pub record Arguments : Type 0 where
  pub raw : List (List Hidden)
  pub full : List (List Hidden)

-- the comma, and the variable arguments as they stand; nothing where a call has none of these
abbrev pub rest_tokens : Bool → Token → Token → List Hidden → List Hidden
rest_tokens true name comma hs = hidden (put_in name comma.gap comma) [] ∷ map moved_in hs
rest_tokens false name comma hs = []

abbrev pub rest_for : Token → Token → List (List Hidden) → ℕ → List Hidden
rest_for name comma raw i = rest_tokens (nat_lt i (length raw)) name comma (get_or raw i [])

-- the tokens that stand for a part, a string being made later; a parameter beside `##` takes its argument
-- as it stands
abbrev pub tokens_for : Token → Arguments → Bool → Part → List Hidden
tokens_for name args lone (Plain t) = hidden (put_in name t.gap t) [] ∷ []
tokens_for name args lone (Paste t) = hidden (put_in name t.gap t) [] ∷ []
tokens_for name args true (Param t i) = argument_for t (get_or args.full i [])
tokens_for name args false (Param t i) = argument_for t (get_or args.raw i [])
tokens_for name args lone (Quote t i) = []
tokens_for name args lone (Rest t i) = rest_for name t args.raw i

-- how many tokens stand for a part before strings are made and tokens are pasted: `#` and its parameter
-- count one
abbrev pub part_cost : Token → Arguments → Bool → Part → ℕ
part_cost name args lone (Quote t i) = 1
part_cost name args lone p = length (tokens_for name args lone p)

-- a chain has one operand
abbrev pub is_alone : List Part → Bool
is_alone (p ∷ []) = true
is_alone _ = false

-- the same for the parts of a chain, and for the chain: each `##` counts one
abbrev pub parts_cost : Token → Arguments → Bool → List Part → ℕ
parts_cost name args lone [] = 0
parts_cost name args lone (p ∷ ps) = part_cost name args lone p + parts_cost name args lone ps

abbrev pub chain_cost : Token → Arguments → List Part → ℕ
chain_cost name args chain = parts_cost name args (is_alone chain) chain + (length chain - 1)

-- the same for the chains of a replacement list
abbrev pub chains_cost : Token → Arguments → List (List Part) → ℕ
chains_cost name args [] = 0
chains_cost name args (c ∷ cs) = chain_cost name args c + chains_cost name args cs

-- what a replacement costs: one, and what stands for the parts
abbrev pub cost_of : Token → Arguments → List (List Part) → ℕ
cost_of name args chains = 1 + chains_cost name args chains

-- What was made, and what happened.
pub record Made (A : Type 0) : Type 0 where
  pub value : A
  pub notes : List Note

abbrev pub made : {A : Type 0} → A → List Note → Made A
made value notes = record { value = value; notes = notes }

-- what is made of the first, in front of what is made of the rest
abbrev pub made_both : {A B C : Type 0} → (A → B → C) → Made A → Made B → Made C
made_both f a b = made (f a.value b.value) (a.notes ++ b.notes)

-- the string that a `#` makes of an argument, with the white space of the `#`
abbrev pub string_made : Token → Token → List Token → Result Token StringFault → Result (Made (List Hidden)) Fault
string_made name sign toks (Ok s) = Ok (made (hidden (put_in name sign.gap s) [] ∷ []) (Stringized toks s ∷ []))
string_made name sign toks (Err fault) = Err (NotAString name.at)

-- the tokens for an operand, strings made
abbrev pub operand_made : Token → Arguments → Bool → Part → Result (Made (List Hidden)) Fault
operand_made name args lone (Quote t i) =
    string_made name t (toks_of (get_or args.raw i [])) (stringize_of (toks_of (get_or args.raw i [])))
operand_made name args lone p = Ok (made (tokens_for name args lone p) [])

-- the same for each operand of a chain
abbrev pub operands_made : Token → Arguments → Bool → List Part → Result (Made (List (List Hidden))) Fault
operands_made name args lone [] = Ok (made [] [])
operands_made name args lone (p ∷ ps) =
    onward (operand_made name args lone p) (λ v. onward (operands_made name args lone ps) (λ vs. Ok (made_both (λ x xs. x ∷ xs) v vs)))

-- the same for each chain
abbrev pub chains_made : Token → Arguments → List (List Part) → Result (Made (List (List (List Hidden)))) Fault
chains_made name args [] = Ok (made [] [])
chains_made name args (c ∷ cs) =
    onward (operands_made name args (is_alone c) c) (λ v. onward (chains_made name args cs) (λ vs. Ok (made_both (λ x xs. x ∷ xs) v vs)))

-- the token that a `##` makes of two, with the white space of the left one; the names that are not
-- available to both are not available to it
abbrev pub token_pasted : Token → Hidden → Hidden → Result Token PasteFault → Result (Made Hidden) Fault
token_pasted name x y (Ok z) =
    Ok (made (hidden (put_in name x.tok.gap z) (in_both x.hides y.hides)) (Pasted x.tok y.tok (put_in name x.tok.gap z) ∷ []))
token_pasted name x y (Err fault) = Err (NotOneToken name.at)

-- two operands of `##`: the last token of the left one and the first of the right one become one; an
-- empty operand leaves the other as it is (6.10.3.3 paragraph 2)
abbrev pub pasted_behind : Token → Hidden → List Hidden → List Hidden → Result (Made (List Hidden)) Fault
pasted_behind name x [] [] = Ok (made (x ∷ []) [])
pasted_behind name x [] (y ∷ ys) =
    onward (token_pasted name x y (glue_of x.tok y.tok)) (λ z. Ok (made (z.value ∷ ys) z.notes))
pasted_behind name x (x2 ∷ xs) ys =
    onward (pasted_behind name x2 xs ys) (λ zs. Ok (made (x ∷ zs.value) zs.notes))

abbrev pub two_pasted : Token → List Hidden → List Hidden → Result (Made (List Hidden)) Fault
two_pasted name [] ys = Ok (made ys [])
two_pasted name (x ∷ xs) ys = pasted_behind name x xs ys

-- a chain, pasted from left to right
abbrev pub chain_pasted : Token → List Hidden → List (List Hidden) → Result (Made (List Hidden)) Fault
chain_pasted name xs [] = Ok (made xs [])
chain_pasted name xs (ys ∷ yss) =
    onward (two_pasted name xs ys) (λ z. onward (chain_pasted name z.value yss) (λ zs. Ok (made zs.value (z.notes ++ zs.notes))))

-- each chain, and all one behind the other
abbrev pub chains_pasted : Token → List (List (List Hidden)) → Result (Made (List Hidden)) Fault
chains_pasted name [] = Ok (made [] [])
chains_pasted name (c ∷ cs) =
    onward (chain_pasted name [] c) (λ v. onward (chains_pasted name cs) (λ vs. Ok (made_both (λ x xs. x ++ xs) v vs)))

-- The result of a replacement, its arguments given: strings are made first, then tokens are pasted; the
-- first token has the white space of the name.
unfoldable pub result_of : Token → Arguments → List (List Part) → Result (Made (List Hidden)) Fault
result_of name args chains =
    onward (chains_made name args chains) (λ s. onward (chains_pasted name s.value) (λ v.
    Ok (made (with_gap name.gap v.value) (s.notes ++ v.notes))))

-- the origin of character k of the digits of n: the digits of n are the token at character 8n of the
-- pseudo file with number 0
abbrev pub digit_origins : ℕ → ℕ → List (Option Pos)
digit_origins at zero = []
digit_origins at (suc n) = Some (record { file = 0; at = at }) ∷ digit_origins (at + 1) n

-- a number in place of a name
abbrev pub number_token : Token → ℕ → Token
number_token name n = token Number (decimal n) (digit_origins (8 * n) (length (decimal n))) name.gap name.at name.line false

-- the number that stands for `__LINE__` (6.10.8): the line of the name
abbrev pub line_number : Token → Token
line_number name = number_token name name.line

-- the string that stands for `__FILE__` (6.10.8): the path of the file, `"` and `\` escaped
abbrev pub path_text : List ℕ → List ℕ
path_text path = double_quote ∷ flat_map (escaped Str) path ++ double_quote ∷ []

abbrev pub path_string : List ℕ → Token → Token
path_string path name =
    token Str (path_text path) (replicate (length (path_text path)) None) name.gap name.at name.line false
