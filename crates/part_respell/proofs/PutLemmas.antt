-- What is put in place of a character.
use Rattle.std.proofs.Common.{List, None, Option, Some, [], refl, true, ℕ, ◌==◌, ◌∷◌, ◌≡◌}
use Rattle.std.proofs.lemmas.Bool.{and_from, eq-eqb}
use Rattle.std.specs.Option.{option_map_or}
use Rattle.part_respell.specs.Respelled.{put_in}
use Rattle.lexer.specs.Spelling.{is_identifier_text}
use Rattle.lexer.specs.Characters.{is_nondigit}
use Rattle.cs_base.specs.declared.positions.Pos.{Pos}
use Rattle.cs_base.specs.declared.positions.Part.{Part}

-- what begins a file token gets an identifier, if it begins an identifier
pub first_put : (name : List ℕ) (p : Pos) (c : ℕ) (o : Option Part) → is_identifier_text name ≡ true → is_nondigit c ≡ true → ((m : Part) → o ≡ Some m → m.start.at ≡ p.at)
    → is_identifier_text (option_map_or (put_in name p) o (c ∷ [])) ≡ true
first_put name p c None is letter begins = and_from (is_nondigit c) true letter refl
first_put name p c (Some m) is letter begins =
    let here : (m.start.at == p.at) ≡ true = eq-eqb m.start.at p.at (begins m refl) in
    rw here is
