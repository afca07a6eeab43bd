-- What is asked of each name that is read, at its moment: one walk along the reading of a text.
use Rattle.std.specs.Prelude.{ℕ, zero, suc, ◌+◌, ◌&&◌, Bool, true, List, [], ◌∷◌, Ok, Err, if◌then◌else◌}
use Rattle.cs_base.specs.Token.{Token}
use Rattle.c99_tree.specs.declared.production.Production.{Production}
use Rattle.c99_tree.specs.declared.production.Production.TheVariants.{TranslationUnit}
use Rattle.c99_grammar.specs.Items.{Item, one, part, end_of_text, act, ◌·◌, choice, maybe, many, deep, own, Alternative}
use Rattle.c99_read.specs.State.{State, opened}
use Rattle.c99_grammar.specs.Standard.{Grammar}
use Rattle.c99_read.specs.Reading.{Goal, produce, repeat, Step, may, step, read_within, steps_for, at_first}

-- it is so in the state that is left, or reading has stopped
abbrev pub along_rest : Step → (State → Bool) → Bool
along_rest (Ok s) asked = asked s
along_rest (Err stop) asked = true

-- `of_token` is asked in the state before a token is taken, and `of_node` in the one before an alternative's node is opened
module _ (g : Grammar) (of_token : State → Bool) (of_node : Production → ℕ → State → Bool) where
  module _ (below : ℕ → Goal → State → Step) (along_below : ℕ → Goal → State → Bool) where
    abbrev pub along_item : ℕ → Item → State → Bool
    along_item depth (one classes) s = of_token s
    along_item depth (part p) s = along_below depth (produce p) s
    along_item depth end_of_text s = true
    along_item depth (act a) s = true
    along_item depth (a · b) s = along_item depth a s && along_rest (step g below depth a s) (along_item depth b)
    along_item depth (choice a b) s = if may g own a s then along_item depth a s else along_item depth b s
    along_item depth (maybe a) s = if may g own a s then along_item depth a s else true
    along_item depth (many t a) s =
        if may g t a s then along_item depth a s && along_rest (step g below depth a s) (along_below depth (repeat t a)) else true
    along_item depth (deep a) s = along_item (depth + 1) a s

    -- the alternative that is taken
    abbrev pub along_first : ℕ → Production → ℕ → List Alternative → State → Bool
    along_first depth p n [] s = true
    along_first depth p n (a ∷ more) s =
        if may g a.test a.body s then of_node p n s && along_item depth a.body (opened p n s) else along_first depth p (n + 1) more s

    abbrev pub along_goal : ℕ → Goal → State → Bool
    along_goal depth (produce p) s = along_first depth p 1 (g.table p) s
    along_goal depth (repeat t a) s = along_item depth (many t a) s

  -- as far as reading with so many steps inside each other goes
  unfoldable pub along_within : ℕ → ℕ → Goal → State → Bool
  along_within zero depth goal s = true
  along_within (suc fuel) depth goal s = along_goal (read_within g fuel) (along_within fuel) depth goal s

  -- along the reading of a whole text
  abbrev pub all_along : List Token → Bool
  all_along toks = along_within (steps_for (produce TranslationUnit) (at_first toks)) 0 (produce TranslationUnit) (at_first toks)
