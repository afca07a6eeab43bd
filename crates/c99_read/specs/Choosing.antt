-- Which alternative of a production is read, as contracts see it.
use Rattle.std.specs.Prelude.{ℕ, ◌+◌, List, [], ◌∷◌, Option, None, Some, Err, if◌then◌else◌}
use Rattle.c99_tree.specs.declared.production.Production.{Production}
use Rattle.c99_read.specs.declared.chosen.Chosen.{Chosen}
use Rattle.c99_grammar.specs.Items as spec
use Rattle.c99_grammar.specs.ItemsOf.{item_of}
use Rattle.c99_read.specs.State.{State}
use Rattle.c99_read.specs.Reading.{syntax, Step, may, alternative, whole}
use Rattle.c99_grammar.specs.Standard.{Grammar}

-- an alternative that was chosen, with its number
pub record Choice : Type 0 where
  pub number : ℕ
  pub body : spec.Item

abbrev pub choice_of : Chosen → Choice
choice_of c = record { number = c.number; body = item_of c.body.now }

-- the first of these alternatives that may be read in the state; the first one has this number
abbrev pub chosen : Grammar → State → ℕ → List spec.Alternative → Option Choice
chosen g s n [] = None
chosen g s n (a ∷ more) = if may g a.test a.body s then Some (record { number = n; body = a.body }) else chosen g s (n + 1) more

-- what is read where an alternative of the production was chosen
abbrev pub chosen_read : Grammar → ℕ → Production → Option Choice → State → Step
chosen_read g depth p None s = Err (syntax s.at)
chosen_read g depth p (Some c) s = alternative g (whole g) depth p c.number c.body s
