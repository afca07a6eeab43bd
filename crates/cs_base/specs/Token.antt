-- Preprocessing tokens as values (ISO/IEC 9899:1999, 6.4): what contracts see of a `Tok`.
use Rattle.std.specs.Prelude.{ℕ, Bool, true, false, ◌^◌, List, Option, ◌≡◌, ◌<◌, length, IsTrue, is_some, slice_get}
use Rattle.std.specs.Option.{option_and_then}
use Rattle.std.specs.List.{list_all}
use Rattle.cs_base.specs.declared.tokens.Kind.{Kind}
use Rattle.cs_base.specs.declared.tokens.Kind.TheVariants.{Ident, Number}
use Rattle.cs_base.specs.declared.positions.Pos.{Pos}

-- A token: its kind, its spelling, the origin of each character or none, whether white space or the
-- start of the line stands before it, the position and line of the source token that brought it, and
-- whether no macro replacement put it in. The last five are labels: they steer no translation phase,
-- but where a rule says so.
pub record Token : Type 0 where
  pub kind : Kind
  pub text : List ℕ
  pub origins : List (Option Pos)
  pub gap : Bool
  pub at : Pos
  pub line : ℕ
  pub direct : Bool

-- a token of these parts
abbrev pub token : Kind → List ℕ → List (Option Pos) → Bool → Pos → ℕ → Bool → Token
token kind text origins gap at line direct = record {
  kind = kind;
  text = text;
  origins = origins;
  gap = gap;
  at = at;
  line = line;
  direct = direct;
}

-- identifiers and pp-numbers, every character of which has an origin (6.4.2, 6.4.8)
abbrev pub has_origins : Kind → Bool
has_origins Ident = true
has_origins Number = true
has_origins _ = false

-- each character that must have an origin has one
abbrev pub IsTraced : Kind → List (Option Pos) → Type 0
IsTraced kind origins = IsTrue (has_origins kind) → IsTrue (list_all is_some origins)

-- What is true of every token: an origin or none for each character, fewer than 2^32 characters, and
-- the origins that its kind must have.
pub record IsToken (t : Token) : Type 0 where
  pub each : length t.origins ≡ length t.text
  pub short : length t.text < 2 ^ 32
  pub traced : IsTraced t.kind t.origins

-- the origin of character k: none where it has none, and past the end
abbrev pub origin_at : Token → ℕ → Option Pos
origin_at t k = option_and_then (λ origin. origin) (slice_get t.origins k)
