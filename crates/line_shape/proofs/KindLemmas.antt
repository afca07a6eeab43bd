-- A directive line is no run.
use Rattle.std.proofs.Common.{◌≡◌, ℕ, Bool, false, not, ◌||◌, List, [], ◌∷◌, Option, Some, None, refl, inl, inr}
use Rattle.std.specs.Str.{bytes_eq}
use Rattle.std.proofs.lemmas.Bool.{cases_Bool, or_parts}
use Rattle.cs_base.specs.Token.{Token}
use Rattle.cs_base.specs.declared.positions.Pos.{Pos}
use Rattle.cs_base.specs.declared.causes.Cause.{Cause}
use Rattle.line_shape.specs.declared.items.ItemKind.{ItemKind}
use Rattle.line_shape.specs.Signs.{is_name, is_hash}
use Rattle.line_shape.specs.Directives.{directives, meaning_in, directive_spelled, directive_named, is_run}
use Rattle.line_shape.specs.BadLines.{cause_on}
use Rattle.line_shape.specs.Items.{kind_unless, named_kind, directive_kind, line_kind}

-- what is no run, if it is there
abbrev is_run_in : Option ItemKind → Bool
is_run_in None = false
is_run_in (Some kind) = is_run kind

-- no row of a table is a run
abbrev has_run : List (List ℕ × ItemKind) → Bool
has_run [] = false
has_run (row ∷ rows) = is_run row.1 || has_run rows

pub is_run_in-meaning_in : (rows : List (List ℕ × ItemKind)) (text : List ℕ) → has_run rows ≡ false → is_run_in (meaning_in rows text) ≡ false
is_run_in-meaning_in [] text h = refl
is_run_in-meaning_in (row ∷ rows) text h =
    elim (cases_Bool (bytes_eq text row.0)) [
      | inl found ↦ rw found ((or_parts (is_run row.1) (has_run rows) h).0)
      | inr other ↦ rw other (is_run_in-meaning_in rows text ((or_parts (is_run row.1) (has_run rows) h).1))
    ]

pub is_run_in-directive_named : (t : Token) → is_run_in (directive_named t) ≡ false
unfolding directive_spelled
is_run_in-directive_named t =
    elim (cases_Bool (is_name t)) [
      | inl name ↦ rw name (is_run_in-meaning_in directives t.text refl)
      | inr other ↦ rw other refl
    ]

pub is_run-kind_unless : (cause : Option Cause) (at : Pos) (kind : ItemKind) → is_run kind ≡ false → is_run (kind_unless cause at kind) ≡ false
is_run-kind_unless None at kind h = h
is_run-kind_unless (Some cause) at kind h = refl

pub is_run-named_kind : (directive : Option ItemKind) (at : Pos) (operands : List Token) → is_run_in directive ≡ false → is_run (named_kind directive at operands) ≡ false
is_run-named_kind None at operands h = refl
is_run-named_kind (Some kind) at operands h = is_run-kind_unless (cause_on kind operands) at kind h

pub is_run-directive_kind : (at : Pos) (behind : List Token) → is_run (directive_kind at behind) ≡ false
unfolding directive_kind
is_run-directive_kind at [] = refl
is_run-directive_kind at (word ∷ operands) = is_run-named_kind (directive_named word) at operands (is_run_in-directive_named word)

-- a line is a run exactly where it does not begin with `#`
pub is_run-line_kind : (t : Token) (toks : List Token) → is_run (line_kind (t ∷ toks)) ≡ not (is_hash t)
is_run-line_kind t toks =
    elim (cases_Bool (is_hash t)) [
      | inl hash ↦ rw hash (is_run-directive_kind t.at toks)
      | inr text ↦ rw text refl
    ]
