-- Tokens, macros and expansions under a renaming, and what a renaming must keep for an expansion to go on
-- as before.
use Rattle.std.specs.Prelude.{◌≡◌, ℕ, Bool, true, false, List, [], ◌∷◌, map, Option, Some, Ok}
use Rattle.std.specs.List.{list_all}
use Rattle.std.specs.Option.{is_none}
use Rattle.cs_base.specs.declared.tokens.Kind.{Kind}
use Rattle.cs_base.specs.declared.positions.Pos.{Pos}
use Rattle.cs_base.specs.Token.{Token, token}
use Rattle.macro_body.specs.declared.notes.Work.{Work}
use Rattle.macro_body.specs.Below.paste_origin.Pasting.{glue_of}
use Rattle.macro_body.specs.Below.paste_origin.Strings.{stringize_of}
use Rattle.macro_body.specs.declared.definitions.Definition.{Definition}
use Rattle.macro_body.specs.Below.line_shape.Signs.{is_name, is_identifier, is_punctuator}
use Rattle.macro_body.specs.Hides.{Hidden, hidden}
use Rattle.macro_body.specs.Macro.{Table, parameter_at}
use Rattle.macro_body.specs.Notes.{Note, Replaced, Linked, Stringized, Pasted, Counted, Expanded, expanded}
use Rattle.macro_body.specs.Substitution.{digit_origins}
use Rattle.macro_expand.specs.Expansion.{expansion}

-- A renaming: the new spelling and the new origins of a token, by the origins of its characters and its
-- spelling; where a position moves to; and the new spelling of a macro's name.
pub record Renaming : Type 0 where
  pub spell : List (Option Pos) → List ℕ → List ℕ
  pub trace : List (Option Pos) → List ℕ → List (Option Pos)
  pub move : Pos → Pos
  pub macro_name : List ℕ → List ℕ

-- the new spelling of a token
abbrev pub spelled : Renaming → Token → List ℕ
spelled r t = r.spell t.origins t.text

-- a token, renamed: its kind, white space, line and directness stay
abbrev pub renamed : Renaming → Token → Token
renamed r t = token t.kind (r.spell t.origins t.text) (r.trace t.origins t.text) t.gap (r.move t.at) t.line t.direct

-- the same with its hide set, for a macro, and for what happens
abbrev pub renamed_hidden : Renaming → Hidden → Hidden
renamed_hidden r h = hidden (renamed r h.tok) (map r.macro_name h.hides)

abbrev pub renamed_macro : Renaming → Definition → Definition
renamed_macro r m = record {
  name = renamed r m.name;
  form = m.form;
  params = map (renamed r) m.params;
  variadic = m.variadic;
  named = m.named;
  body = map (renamed r) m.body;
  gnu = m.gnu;
}

abbrev pub renamed_note : Renaming → Note → Note
renamed_note r (Replaced name m before) = Replaced (renamed r name) (renamed r m) before
renamed_note r (Linked x y) = Linked (renamed r x) (renamed r y)
renamed_note r (Stringized toks s) = Stringized (map (renamed r) toks) (renamed r s)
renamed_note r (Pasted x y z) = Pasted (renamed r x) (renamed r y) (renamed r z)
renamed_note r (Counted z) = Counted (renamed r z)

-- an expansion, renamed: the work that is left stays
abbrev pub renamed_expansion : Renaming → Expanded → Expanded
renamed_expansion r e = expanded (map (renamed_hidden r) e.toks) (map (renamed_note r) e.notes) e.left

-- Which tokens occur, by kind, origins and spelling.
abbrev pub Occurring : Type 0
Occurring = Kind → List (Option Pos) → List ℕ → Bool

abbrev pub occurs : Occurring → Token → Bool
occurs o t = o t.kind t.origins t.text

-- each of the tokens occurs
abbrev pub AllOccur : Occurring → List Token → Type 0
AllOccur o [] = Unit {0}
AllOccur o (t ∷ ts) = (occurs o t ≡ true) × AllOccur o ts

-- the tokens of a replacement list occur, and name the same parameters as before
abbrev pub KeepsBody : Occurring → Renaming → Definition → List Token → Type 0
KeepsBody o r m [] = Unit {0}
KeepsBody o r m (t ∷ ts) =
    (occurs o t ≡ true) × (parameter_at (renamed_macro r m) (renamed r t) ≡ parameter_at m t) × KeepsBody o r m ts

-- What a renaming keeps of the macros and of the tokens that occur: each macro stands renamed under the new
-- spelling of its name; the new macros are no others; names of macros stay different; a token that is
-- spelled like a macro anew was spelled like that macro before; punctuators keep their spelling, and what
-- comes from no file too.
pub record Keeps (o : Occurring) (r : Renaming) (old new : Table) : Type 0 where
  pub stands : (name : List ℕ) (m : Definition) → old name ≡ Some m → new (r.macro_name name) ≡ Some (renamed_macro r m)
  pub no_other : (name : List ℕ) (m : Definition) → new name ≡ Some m → (before : List ℕ) × (d : Definition) × (old before ≡ Some d) × (name ≡ r.macro_name before)
  pub apart : (x y : List ℕ) (m d : Definition) → old x ≡ Some m → old y ≡ Some d → r.macro_name x ≡ r.macro_name y → x ≡ y
  pub spelled_like : (t : Token) (name : List ℕ) (m : Definition) → occurs o t ≡ true → is_name t ≡ true → old name ≡ Some m
      → spelled r t ≡ r.macro_name name → t.text ≡ name
  pub body : (name : List ℕ) (m : Definition) → old name ≡ Some m → KeepsBody o r m m.body
  pub signs : (t : Token) → occurs o t ≡ true → is_punctuator t.kind ≡ true → spelled r t ≡ t.text
  pub others : (kind : Kind) (origins : List (Option Pos)) (text : List ℕ) → is_identifier kind ≡ false → is_punctuator kind ≡ false → o kind origins text ≡ true
  pub untraced : (origins : List (Option Pos)) (text : List ℕ) → list_all is_none origins ≡ true → (r.spell origins text ≡ text) × (r.trace origins text ≡ origins)
  pub numbers : (n len : ℕ) (text : List ℕ) → (r.spell (digit_origins n len) text ≡ text) × (r.trace (digit_origins n len) text ≡ digit_origins n len)

-- a token with the white space, position, line and directness of another
abbrev pub labelled_as : Token → Token → Token
labelled_as u t = token t.kind t.text t.origins u.gap u.at u.line u.direct

-- What happened goes well with a renaming: a replaced name gets the new spelling of its macro's name; a
-- string is the string of the renamed tokens; a pasted token is what the renamed tokens are pasted to, and
-- occurs.
abbrev pub Respects : Occurring → Renaming → Note → Type 0
Respects o r (Replaced name m before) = spelled r name ≡ r.macro_name name.text
Respects o r (Linked x y) = Unit {0}
Respects o r (Counted z) = Unit {0}
Respects o r (Stringized toks s) = stringize_of (map (renamed r) toks) ≡ Ok (renamed r s)
Respects o r (Pasted x y z) =
    (glue_of (renamed r x) (renamed r y) ≡ Ok (labelled_as (renamed r x) (renamed r z))) × (occurs o z ≡ true)

abbrev pub AllRespected : Occurring → Renaming → List Note → Type 0
AllRespected o r [] = Unit {0}
AllRespected o r (note ∷ notes) = Respects o r note × AllRespected o r notes

-- The law: an expansion without a fault, each note of which goes well with a renaming that keeps the macros,
-- is the renamed expansion of the renamed run over the renamed macros.
abbrev pub ExpansionIsRenamed : Type 0
ExpansionIsRenamed = (o : Occurring) (r : Renaming) (old new : Table) (path : List ℕ) (run : List Token) (work : Work) (e : Expanded)
    → Keeps o r old new → AllOccur o run → expansion old path run work ≡ Ok e → AllRespected o r e.notes
    → expansion new path (map (renamed r) run) work ≡ Ok (renamed_expansion r e)
