-- The tokens of an expansion are spelled as their kinds say.
use Rattle.std.proofs.Common.{◌≡◌, ℕ, ◌<◌, ◌^◌, ◌&&◌, Bool, true, false, nat_lt, List, [], ◌∷◌, length, Ok, refl, sym, subst, arith}
use Rattle.std.specs.Fmt.{decimal}
use Rattle.std.specs.Str.Parse.{AllDigits}
use Rattle.std.proofs.lemmas.Fmt.{decimal_is_IsNumeral}
use Rattle.std.proofs.lemmas.Str.Parse.{digit_at}
use Rattle.std.proofs.lemmas.Bool.{ltb-true, lt-ltb, and_parts}
use Rattle.std.proofs.lemmas.Bool.Decides.{nat_tests}
use Rattle.cs_base.specs.Limits.{most_bytes}
use Rattle.cs_base.specs.Token.{Token}
use Rattle.lexer.specs.Characters.{is_digit}
use Rattle.lexer.specs.Spelling.{may_follow, all_follow, is_number_text}
use Rattle.macro_body.specs.Below.paste_origin.Pasting.{glue_of}
use Rattle.macro_body.specs.Below.paste_origin.Strings.{stringize_of}
use Rattle.macro_body.specs.Macro.{Table}
use Rattle.macro_body.specs.Notes.{Note}
use Rattle.macro_body.specs.Substitution.{number_token, line_number, path_string}
use Rattle.expansion_laws.specs.Passing.{IsBlind, MacrosPass, MadePass, standing_at}
use Rattle.expansion_laws.specs.Spelled.{fits, is_spelled, MacrosAreSpelled, TokensAreSpelled}
use Rattle.expansion_laws.proofs.ListLemmas.{toks_more, toks_pass, pass_toks}
use Rattle.expansion_laws.proofs.PassingLemmas.{tests_are_kept}
use Rattle.expansion_laws.proofs.PiecesLemmas.{glue_is}
use Rattle.expansion_laws.proofs.TellingLemmas.{string_is}
use Rattle.expansion_laws.proofs.SpelledLemmas.{pasted_fits}

-- ---- numbers of lines

digit_is : (c : ℕ) (cs : List ℕ) → AllDigits 10 (c ∷ cs) → is_digit c ≡ true
digit_is c cs h = let range = digit_at (c ∷ cs) 0 h (omega arith) in grind (arith, nat_tests)

digit_follows : (last c : ℕ) → is_digit c ≡ true → may_follow last c ≡ true
digit_follows last c h = grind (arith, nat_tests)

digits_follow : (last : ℕ) (ds : List ℕ) → AllDigits 10 ds → all_follow last ds ≡ true
digits_follow last [] h = refl
digits_follow last (c ∷ cs) h = rw (digit_follows last c (digit_is c cs h), digits_follow c cs h.1) refl

digits_number : (ds : List ℕ) → 0 < length ds → AllDigits 10 ds → is_number_text ds ≡ true
digits_number [] some h = absurd (omega arith)
digits_number (c ∷ cs) some h = rw (digit_is c cs h, digits_follow c cs h.1) refl

pub line_spelled : (n : ℕ) → nat_lt n (2 ^ 64) ≡ true → is_number_text (decimal n) ≡ true
line_spelled n h =
    let numeral = (decimal_is_IsNumeral n (ltb-true n (2 ^ 64) h)).0 in
    digits_number (decimal n) numeral.0 numeral.1

-- ---- tokens

-- a token that stands on the line of another one
pub standing_spelled : (name t : Token) → is_spelled name ≡ true → is_spelled t ≡ true → is_spelled (standing_at name t) ≡ true
standing_spelled name t here h =
    let line = (and_parts (fits name.kind name.text) (nat_lt name.line (2 ^ 64)) here).1 in
    let text = (and_parts (fits t.kind t.text) (nat_lt t.line (2 ^ 64)) h).0 in
    rw (text, line) refl

pub pasted_spelled : (name x y z : Token) → is_spelled name ≡ true → is_spelled x ≡ true → is_spelled y ≡ true → glue_of x y ≡ Ok z
    → is_spelled (standing_at name z) ≡ true
pasted_spelled name x y z here hx hy is =
    let i = glue_is x y z is in
    let line = (and_parts (fits name.kind name.text) (nat_lt name.line (2 ^ 64)) here).1 in
    let first = (and_parts (fits x.kind x.text) (nat_lt x.line (2 ^ 64)) hx).0 in
    let second = (and_parts (fits y.kind y.text) (nat_lt y.line (2 ^ 64)) hy).0 in
    let both = pasted_fits x.kind y.kind i.0 x.text y.text first second i.1 in
    subst (λ (t : Token). is_spelled (standing_at name t) ≡ true) i.2 (rw (both, line) refl)

pub string_spelled : (name : Token) (toks : List Token) (s : Token) → is_spelled name ≡ true → stringize_of toks ≡ Ok s → is_spelled (standing_at name s) ≡ true
string_spelled name toks s here is =
    let line = (and_parts (fits name.kind name.text) (nat_lt name.line (2 ^ 64)) here).1 in
    subst (λ (t : Token). is_spelled (standing_at name t) ≡ true) (sym (string_is toks s is)) line

made_spelled : MadePass is_spelled
made_spelled = record {
  strings = λ name toks s here all is. string_spelled name toks s here is;
  pastes = λ name x y z here hx hy is. pasted_spelled name x y z here hx hy is;
}

pub number_spelled : (name : Token) → is_spelled name ≡ true → is_spelled (line_number name) ≡ true
number_spelled name here =
    let line = (and_parts (fits name.kind name.text) (nat_lt name.line (2 ^ 64)) here).1 in
    rw (line_spelled name.line line, line) refl

pub counted_spelled : (name : Token) (n : ℕ) → is_spelled name ≡ true → nat_lt n most_bytes ≡ true → is_spelled (number_token name n) ≡ true
counted_spelled name n here low =
    let line = (and_parts (fits name.kind name.text) (nat_lt name.line (2 ^ 64)) here).1 in
    let few = ltb-true n most_bytes low in
    let small : nat_lt n (2 ^ 64) ≡ true = lt-ltb n (2 ^ 64) (omega (arith, few)) in
    rw (line_spelled n small, line) refl

pub path_spelled : (path : List ℕ) (name : Token) → is_spelled name ≡ true → is_spelled (path_string path name) ≡ true
path_spelled path name here = (and_parts (fits name.kind name.text) (nat_lt name.line (2 ^ 64)) here).1

macros_spelled : (table : Table) (path : List ℕ) (notes : List Note) → MacrosAreSpelled table → MacrosPass is_spelled table path notes
macros_spelled table path notes macros = record {
  bodies = λ name m here found.
      pass_toks (λ t. is_spelled (standing_at name t)) m.body
      (toks_more (λ t. is_spelled t ≡ true) (λ t. is_spelled (standing_at name t) ≡ true) m.body (toks_pass is_spelled m.body (macros.bodies name.text m found))
      (λ t h. standing_spelled name t here h));
  lines = λ name m before here found is brought. number_spelled name here;
  numbers = λ name n here low brought. counted_spelled name n here low;
  paths = λ name m here found is. path_spelled path name here;
  names = λ name m found links. macros.names name m found links;
}

blind_spelled : IsBlind is_spelled
blind_spelled = λ t gap direct h. h

pub tokens_are_spelled : TokensAreSpelled
tokens_are_spelled = λ table path run work e is macros pass.
    tests_are_kept is_spelled table path run work e is blind_spelled (macros_spelled table path e.notes macros) made_spelled pass
