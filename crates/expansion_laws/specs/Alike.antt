-- Expansions of tokens that are alike but for their lines, for white space before the first of them, and for their places
-- (ISO/IEC 9899:1999, 6.10.3): where no number of a line is brought, these labels steer nothing.
use Rattle.std.specs.Prelude.{◌≡◌, ◌≤◌, ℕ, ◌+◌, Bool, true, false, not, List, [], ◌∷◌, map, Option, Some, None, Ok}
use Rattle.std.specs.List.{list_all}
use Rattle.cs_base.specs.declared.positions.Pos.{Pos}
use Rattle.cs_base.specs.Token.{Token}
use Rattle.macro_body.specs.declared.notes.Work.{Work}
use Rattle.macro_body.specs.declared.definitions.Form.{Form}
use Rattle.macro_body.specs.declared.definitions.Form.TheVariants as form
use Rattle.macro_body.specs.declared.definitions.Definition.{Definition}
use Rattle.macro_body.specs.Hides.{Hidden, hidden}
use Rattle.macro_body.specs.Macro.{Table}
use Rattle.macro_body.specs.Notes.{Note, Replaced, Linked, Stringized, Pasted, Counted, Expanded}
use Rattle.lexer.specs.Places.{pos}
use Rattle.macro_expand.specs.Expansion.{Setting, whole}

-- ---- tokens without these labels

-- a place, and the origins of characters, where these may differ, or not
abbrev pub kept_place : Bool → Pos → Pos
kept_place true at = pos 0 0
kept_place false at = at

abbrev pub kept_origins : Bool → List (Option Pos) → List (Option Pos)
kept_origins true origins = []
kept_origins false origins = origins

-- a token without its line, and without places where it may be far from where it was
abbrev pub unlined : Bool → Token → Token
unlined far t = record t { origins = kept_origins far t.origins; at = kept_place far t.at; line = 0 }

-- nor, where it may differ, whether white space stands before it
abbrev pub kept : Bool → Bool → Bool
kept true gap = false
kept false gap = gap

abbrev pub label : Bool → Bool → Token → Token
label far loose t = record t { origins = kept_origins far t.origins; gap = kept loose t.gap; at = kept_place far t.at; line = 0 }

-- the same with hide sets
abbrev pub unlined_hidden : Bool → Hidden → Hidden
unlined_hidden far h = hidden (unlined far h.tok) h.hides

abbrev pub label_hidden : Bool → Bool → Hidden → Hidden
label_hidden far loose h = hidden (label far loose h.tok) h.hides

-- tokens without their lines, and without places where `far`; white space before the first of them may differ, or not
abbrev pub canon : Bool → Bool → List Hidden → List Hidden
canon far loose [] = []
canon far loose (h ∷ hs) = label_hidden far loose h ∷ map (unlined_hidden far) hs

-- What happens, without these labels, and without the number of the tokens that were put out before.
abbrev pub plain_note : Bool → Note → Note
plain_note far (Replaced name m before) = Replaced (label far true name) m 0
plain_note far (Linked x y) = Linked (label far true x) y
plain_note far (Stringized toks s) = Stringized (map (unlined far) toks) (record s { origins = kept_origins far s.origins })
plain_note far (Pasted x y z) = Pasted (unlined far x) (unlined far y) (unlined far z)
plain_note far (Counted z) = Counted (unlined far z)

-- ---- numbers of lines, and of the unit

-- for such a form there stands the number of a line (6.10.8), or the next number of the unit, which GNU C has
abbrev pub stands_for_line : Form → Bool
stands_for_line form.Line = true
stands_for_line form.Counter = true
stands_for_line _ = false

abbrev pub names_line : Option Definition → Bool
names_line None = false
names_line (Some m) = stands_for_line m.form

-- the note tells of no name that such a number replaces
abbrev pub brings_no_line : Table → Note → Bool
brings_no_line table (Replaced name m before) = not (names_line (table name.text))
brings_no_line table _ = true

-- ---- the law

-- Two expansions are alike, and ask for the same work; neither brings a number of the unit.
pub record AreAlike (far loose : Bool) (work work2 : Work) (e e2 : Expanded) : Type 0 where
  pub toks : canon far loose e2.toks ≡ canon far loose e.toks
  pub notes : map (plain_note far) e2.notes ≡ map (plain_note far) e.notes
  pub cost : e2.left.left + work.left ≡ e.left.left + work2.left
  pub counters : (e.left.counter ≡ work.counter) × (e2.left.counter ≡ work2.counter)

-- The law: tokens that are alike, wherever they stand, and with enough work left, are expanded alike.
abbrev pub ExpandsAlike : Type 0
ExpandsAlike = (far loose : Bool) (set : Setting) (depth before before2 : ℕ) (ts ts2 : List Hidden) (work work2 : Work) (e : Expanded)
    → whole set depth before ts work ≡ Ok e → canon far loose ts2 ≡ canon far loose ts → work.left ≤ e.left.left + work2.left
    → list_all (brings_no_line set.table) e.notes ≡ true
    → (e2 : Expanded) × (whole set depth before2 ts2 work2 ≡ Ok e2) × AreAlike far loose work work2 e e2
