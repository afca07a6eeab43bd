-- Answers to the same words over the same files: there is one.
use Rattle.std.specs.Prelude.{ℕ, ◌≡◌, List}
use Rattle.cs_base.specs.Outside.{FileMap}
use Rattle.cscout_run.specs.Answer.{IsAnswer}
use Rattle.cscout_run.specs.Shapes.{Answer}

-- Two answers have one status, output, message and edits.
abbrev pub AnswersAreAlike : Type 0
AnswersAreAlike = (words : List (List ℕ)) (files : FileMap) (a b : Answer) → IsAnswer words files a → IsAnswer words files b → a ≡ b
