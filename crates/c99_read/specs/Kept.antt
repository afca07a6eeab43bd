-- What is true of every reader, beside the state that contracts see.
use Rattle.std.specs.Prelude.{ℕ, ◌≤◌, ◌<◌, ◌+◌, ◌^◌, ◌≡◌, List, length, map, if◌then◌else◌, ◌&&◌}
use Rattle.c99_grammar.specs.declared.dialects.Dialect.{Dialect}
use Rattle.cs_base.specs.Token.{Token}
use Rattle.c99_tree.specs.Names.{Declared, is_typedef}
use Rattle.c99_grammar.specs.declared.classes.Class.{Class}
use Rattle.c99_grammar.specs.declared.classes.Class.TheVariants.{TypedefName}
use Rattle.c99_read.specs.declared.ahead.Ahead.{Ahead}
use Rattle.c99_read.specs.State.{State, Names, base_at, spelling_at, is_identifier, spelled_scopes}
use Rattle.c99_grammar.specs.TokenClasses.{base_class}
use Rattle.c99_grammar.specs.Standard.{Grammar}

-- what contracts see of a reader: its dialect, and how far the text has been read
pub record Reading : Type 0 where
  pub dialect : Dialect
  pub state : State

-- the class of token k, where these names are visible
unfoldable pub class_among : Grammar → List Token → List (List Declared) → ℕ → Class
class_among g toks visible k =
    if is_identifier (base_at g toks k) && is_typedef visible (spelling_at toks k) then TypedefName else base_at g toks k

-- the classes of the next token and of the one behind it
pub record IsAhead (g : Grammar) (ahead : Ahead) (toks : List Token) (visible : List (List Declared)) (at : ℕ) : Type 0 where
  pub here : ahead.here ≡ class_among g toks visible at
  pub behind : ahead.behind ≡ class_among g toks visible (at + 1)

-- the classes are those of the tokens, and the visible names those of the open scopes
pub record IsKept (g : Grammar) (toks : List Token) (classes : List Class) (at : ℕ) (names : Names) (visible : List (List Declared)) (ahead : Ahead) : Type 0 where
  pub classes_of : classes ≡ map (base_class g) toks
  pub within : at ≤ length toks
  pub short : length toks < 2 ^ 32
  pub visible_of : visible ≡ spelled_scopes toks names.scopes
  pub ahead_of : IsAhead g ahead toks visible at
