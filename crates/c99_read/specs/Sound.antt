-- When reading by a table ends: what is read before a token has a lower order, and what is repeated has a token.
use Rattle.std.specs.Prelude.{ℕ, Bool, true, false, ◌≡◌, ◌&&◌, ◌||◌, not, if◌then◌else◌, nat_lt}
use Rattle.std.specs.List.{list_all}
use Rattle.c99_tree.specs.declared.production.Production.{Production}
use Rattle.c99_tree.specs.declared.production.Production.TheVariants.{TranslationUnit}
use Rattle.c99_grammar.specs.First.{order}
use Rattle.c99_grammar.specs.Items.{Item, one, part, end_of_text, act, ◌·◌, choice, maybe, many, deep, Alternative}
use Rattle.c99_grammar.specs.Standard.{Grammar}
use Rattle.c99_read.specs.Reading.{Goal, produce, repeat}

-- each production but the whole unit has a token
abbrev pub never_empty : Production → Bool
never_empty TranslationUnit = false
never_empty _ = true

-- the item has a token
abbrev pub has_token : Item → Bool
has_token (one classes) = true
has_token (part p) = never_empty p
has_token end_of_text = false
has_token (act a) = false
has_token (a · b) = has_token a || has_token b
has_token (choice a b) = has_token a && has_token b
has_token (maybe a) = false
has_token (many t a) = false
has_token (deep a) = has_token a

-- what is read before the first token has an order below k, and what is repeated has a token
abbrev pub is_low : ℕ → Item → Bool
is_low k (one classes) = true
is_low k (part p) = nat_lt (order p) k
is_low k end_of_text = true
is_low k (act a) = true
is_low k (a · b) = is_low k a && (if has_token a then is_low 64 b else is_low k b)
is_low k (choice a b) = is_low k a && is_low k b
is_low k (maybe a) = is_low k a
is_low k (many t a) = is_low k a && (has_token a && is_low 63 a)
is_low k (deep a) = is_low k a

-- the alternatives of a production are so
abbrev pub is_sound : Production → Alternative → Bool
is_sound p a = is_low (order p) a.body && (not (never_empty p) || has_token a.body)

pub record IsSound (g : Grammar) : Type 0 where
  pub sound : (p : Production) → list_all (is_sound p) (g.table p) ≡ true

-- a goal that reading meets
abbrev pub is_met : Goal → Bool
is_met (produce p) = true
is_met (repeat t a) = has_token a && is_low 63 a

abbrev pub goal_has_token : Goal → Bool
goal_has_token (produce p) = never_empty p
goal_has_token (repeat t a) = false
