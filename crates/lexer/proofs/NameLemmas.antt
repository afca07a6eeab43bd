-- Facts on the texts of names.
use Rattle.std.proofs.Common.{List, [], arith, length, true, ℕ, ◌++◌, ◌<◌, ◌∙◌, ◌∷◌, ◌≡◌, ◌≤◌}
use Rattle.std.proofs.lemmas.Bool.{and_from, and_parts}
use Rattle.std.proofs.lemmas.List.Folds.{list_all-append}
use Rattle.std.specs.List.{list_all}
use Rattle.lexer.specs.Spelling.{is_identifier_text}
use Rattle.lexer.specs.Characters.{is_nondigit, is_word}

pub name_some : (name : List ℕ) → is_identifier_text name ≡ true → 0 < length name
name_some [] e = absurd (cc)
name_some (c ∷ cs) e = omega arith

pub some_text : (text : List ℕ) → is_identifier_text text ≡ true → 1 ≤ length text
some_text [] h = absurd (cc)
some_text (c ∷ text) h = omega arith

-- an identifier, or a character that begins one, before letters, digits and `_`
pub identifier_on : (first rest : List ℕ) → is_identifier_text first ≡ true → list_all is_word rest ≡ true → is_identifier_text (first ++ rest) ≡ true
identifier_on [] rest is words = absurd (cc)
identifier_on (c ∷ cs) rest is words =
    let both = and_parts (is_nondigit c) (list_all is_word cs) is in
    and_from (is_nondigit c) (list_all is_word (cs ++ rest)) both.0
    (list_all-append is_word cs rest ∙ and_from (list_all is_word cs) (list_all is_word rest) both.1 words)
