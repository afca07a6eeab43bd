-- The lines that say why a place names nothing.
use Rattle.std.specs.Prelude.{ℕ, List, [], ◌∷◌, codes, decimal}
use Rattle.command_words.specs.Message.{message}
use Rattle.unnamed_places.specs.declared.steps.FailedStep.{FailedStep}
use Rattle.unnamed_places.specs.declared.steps.FailedStep.TheVariants.{NoFile, NoCharacter, NoIdentifier, Unprocessed}

-- `cscout: note: ..`
abbrev pub why_pieces : List ℕ → List ℕ → List ℕ → FailedStep → List (List ℕ)
why_pieces path line column NoFile = codes "note: no unit reads " ∷ path ∷ codes "; paths are those of the workspace file" ∷ []
why_pieces path line column NoCharacter =
    codes "note: " ∷ path ∷ codes " has no byte at line " ∷ line ∷ codes ", column " ∷ column ∷ []
why_pieces path line column NoIdentifier = codes "note: no identifier stands there" ∷ []
why_pieces path line column Unprocessed = codes "note: no unit processes what stands there" ∷ []

-- the line of a place
abbrev pub why_line : List ℕ → ℕ → ℕ → FailedStep → List ℕ
why_line path line column why = message (why_pieces path (decimal line) (decimal column) why)
