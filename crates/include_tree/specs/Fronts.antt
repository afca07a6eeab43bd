-- Fronts: what units begin with alike, processed once (ISO/IEC 9899:1999, 6.10.2).
use Rattle.std.specs.List.{flat_map}
use Rattle.std.specs.Prelude.{◌≡◌, ◌≤◌, ◌-◌, ◌+◌, ℕ, false, List, [], ◌∷◌, Option, None, Some, Ok, length, map}
use Rattle.cs_base.specs.Limits.{most_work}
use Rattle.cs_base.specs.Token.{Token}
use Rattle.cs_base.specs.Units.{UnitValue, unit, is_gnu}
use Rattle.cs_base.specs.declared.ws_units.Setting.{Setting}
use Rattle.cs_base.specs.declared.ws_units.Standard.{Standard}
use Rattle.source_files.specs.Below.lexer.FileText.{file_text}
use Rattle.source_files.specs.Files.{Source, Table, SourceFile}
use Rattle.source_files.specs.Limits.{the_limits}
use Rattle.source_files.specs.Sources.{source_at}
use Rattle.unit_steps.specs.Below.macro_body.Defining.{first_macros}
use Rattle.unit_steps.specs.Below.macro_body.Live.{table_of}
use Rattle.unit_steps.specs.Below.macro_body.Sound.{AllTraced}
use Rattle.unit_steps.specs.Directives.{is_read_once}
use Rattle.unit_steps.specs.Expanding.{most_toks}
use Rattle.unit_steps.specs.Keeping.{noted_in}
use Rattle.unit_steps.specs.Notes.{Note, Reaches, Entered, Exited, links_of, pasted_of, stringized_of, header_of, answers_of, events_of}
use Rattle.unit_steps.specs.Pieces.{joined}
use Rattle.unit_steps.specs.State.{Context, context, State, did}
use Rattle.unit_steps.specs.Texts.{UnitTextValue, text_of, reached_in}
use Rattle.include_tree.specs.declared.fronts.Start.{Start}
use Rattle.include_tree.specs.declared.fronts.Line.{Line}
use Rattle.include_tree.specs.declared.fronts.Trail.{Trail}
use Rattle.include_tree.specs.declared.fronts.Front.{Front}
use Rattle.include_tree.specs.declared.leads.Lead.{Lead}
use Rattle.include_tree.specs.Walk.{file_items}
use Rattle.include_tree.specs.Again.{unit_like}

-- What the items of a file gave: their tokens, what happened, and the state behind them, whose table means nothing; and where
-- a search for the next file of the name begins in it.
pub record Piece : Type 0 where
  pub file : SourceFile
  pub behind : Option ℕ
  pub toks : List Token
  pub notes : List Note
  pub after : State

-- a state with this table, and where a search begins
abbrev pub placed : Table → Option ℕ → State → State
placed table behind s = record s { table = table; behind = behind }

-- the units that a front is for, over any files
abbrev pub like : UnitValue → Source → List ℕ → List ℕ → List Setting → List (List ℕ) → ℕ → Context
like u source project path settings includes earlier = context source file_text (unit_like u project path settings includes) the_limits earlier

-- The items of the file give this from that state in each unit like this one, whatever its files hold, with this table, where
-- so many more files may be open: nothing is asked for.
abbrev pub GivesAlways : UnitValue → Table → ℕ → State → Piece → Type 0
GivesAlways u table room s p = (source : Source) (project path : List ℕ) (settings : List Setting) (includes : List (List ℕ)) (earlier : ℕ)
    → p.after.before ≤ most_toks (like u source project path settings includes earlier)
    → file_items (like u source project path settings includes earlier) room p.file (placed table p.behind s)
    ≡ Ok (did p.toks p.notes (record p.after { table = table }))

-- the state behind an include line that gives this piece
abbrev pub behind_piece : Table → Option ℕ → Piece → State
behind_piece table outer p = placed table outer p.after

-- The piece of an include line in this state: it is that of the kept file of its number, which is not passed over.
pub record IsPiece (u : UnitValue) (table : Table) (s : State) (p : Piece) : Type 0 where
  pub file : source_at table p.file.number ≡ Some p.file
  pub other : is_read_once p.file.number s ≡ false
  pub counted : p.after.before ≡ s.before + length p.toks
  pub gives : GivesAlways u table (the_limits.open_files - 2) s p

-- the pieces of include lines, one behind the other
abbrev pub ArePieces : UnitValue → Table → State → List Piece → Type 0
ArePieces u table s [] = Unit {0}
ArePieces u table s (p ∷ pieces) = IsPiece u table s p × ArePieces u table (behind_piece table None p) pieces

-- the state behind them
abbrev pub state_behind : Table → State → List Piece → State
state_behind table s [] = s
state_behind table s (p ∷ pieces) = state_behind table (behind_piece table None p) pieces

-- ---- texts

-- the text of a piece that begins behind so many events
abbrev pub piece_text : ℕ → Piece → UnitTextValue
piece_text events p = text_of p.toks (flat_map links_of p.notes) (flat_map pasted_of p.notes) (flat_map stringized_of p.notes)
    (flat_map header_of p.notes) (flat_map answers_of p.notes) (reached_in events p.notes) (flat_map events_of p.notes)

-- how many events there are behind an include line that gives it, with those by which its file is entered and left
abbrev pub events_behind : ℕ → Piece → ℕ
events_behind events p = events + 1 + length (flat_map events_of p.notes) + 1

-- the texts of pieces, the first line standing behind so many events
abbrev pub texts_of : ℕ → List Piece → List UnitTextValue
texts_of events [] = []
texts_of events (p ∷ pieces) = piece_text (events + 1) p ∷ texts_of (events_behind events p) pieces

abbrev pub all_events : ℕ → List Piece → ℕ
all_events events [] = events
all_events events (p ∷ pieces) = all_events (events_behind events p) pieces

-- a text behind an include line, number k of this file, whose `#` is there, by which the text of the file with that number is put in
abbrev pub reached_piece : ℕ → ℕ → Lead → UnitTextValue → UnitTextValue
reached_piece main k l text =
    let reached : UnitTextValue = noted_in text (Reaches main k false (length text.toks) ∷ []) in
    noted_in reached (Entered l.at l.number (length reached.toks) ∷ [])

abbrev pub left_piece : Lead → UnitTextValue → UnitTextValue
left_piece l text = noted_in text (Exited l.at l.number (length text.toks) ∷ [])

abbrev pub with_piece : ℕ → ℕ → Lead → UnitTextValue → UnitTextValue → UnitTextValue
with_piece main k l piece text = left_piece l (joined (reached_piece main k l text) piece)

-- ---- what is kept

-- the units that look for headers where this one does, and are of its standard
abbrev pub looks : UnitValue → UnitValue
looks u = unit [] [] u.qpath u.ipath [] [] u.standard

-- the line of a piece
abbrev pub line_of : Piece → Line
line_of p = record { number = p.file.number; behind = p.behind }

-- A trail is that of these pieces, from this state on and behind so many events.
pub record IsTrail (u : UnitValue) (table : Table) (s : State) (events : ℕ) (trail : Trail) (pieces : List Piece) : Type 0 where
  pub are : ArePieces u table s pieces
  pub lines : trail.lines.items ≡ map line_of pieces
  pub texts : map (λ r. r.value) trail.pieces.items ≡ texts_of events pieces

-- the state at the begin of a unit, whose table means nothing
abbrev pub start_state : Standard → State
start_state standard = record {
  table = [];
  macros = first_macros (is_gnu standard);
  work = record { left = the_limits.work; counter = 0 };
  names = [];
  before = 0;
  behind = None;
  once = [];
}

-- What the pseudo file with this number gives at the begin of units like this one.
pub record IsBegun (u : UnitValue) (table : Table) (number : ℕ) (first : Piece) : Type 0 where
  pub file : source_at table number ≡ Some first.file
  pub place : first.behind ≡ None
  pub gives : GivesAlways u table (the_limits.open_files - 1) (start_state u.standard) first

-- the state behind it
abbrev pub begun_state : Table → Piece → State
begun_state table first = placed table None first.after

abbrev pub begun_events : Piece → ℕ
begun_events first = length (flat_map events_of first.notes)

-- A unit like this one has begun: its pseudo file was processed.
pub record HasBegun (u : UnitValue) (table : Table) (number : ℕ) (s : State) (text : UnitTextValue) : Type 0 where
  pub first : Piece
  pub begun : IsBegun (looks u) table number first
  pub state : s ≡ begun_state table first
  pub events : length text.events ≡ begun_events first

-- It has gone on along a trail.
pub record IsAlong (u : UnitValue) (table : Table) (number : ℕ) (kept : Trail) (s : State) (text : UnitTextValue) : Type 0 where
  pub first : Piece
  pub pieces : List Piece
  pub begun : IsBegun (looks u) table number first
  pub trail : IsTrail (looks u) table (begun_state table first) (begun_events first) kept pieces
  pub state : s ≡ state_behind table (begun_state table first) pieces
  pub events : length text.events ≡ all_events (begun_events first) pieces

-- A line of a lead gave a text, from the first state and text to the others.
pub record HasPiece (u : UnitValue) (table : Table) (l : Lead) (s : State) (before : UnitTextValue) (t : State) (text gave : UnitTextValue) : Type 0 where
  pub piece : Piece
  pub is : IsPiece (looks u) table s piece
  pub number : piece.file.number ≡ l.number
  pub behind : piece.behind ≡ l.behind
  pub gives : gave ≡ piece_text (length before.events + 1) piece
  pub state : t ≡ behind_piece table None piece
  pub events : length text.events ≡ events_behind (length before.events) piece

-- a unit that starts so
abbrev pub start_unit : Start → UnitValue
start_unit start = unit [] [] start.qpath.items start.ipath.items [] [] start.standard

-- the state at the end of a front
abbrev pub front_state : Table → Front → State
front_state table f = record {
  table = table;
  macros = table_of f.macros;
  work = f.work;
  names = f.names;
  before = f.toks;
  behind = None;
  once = f.once.items;
}

-- What a front keeps is what units of its start begin with, with this table.
pub record IsFront (table : Table) (f : Front) : Type 0 where
  pub first : Piece
  pub pieces : List Piece
  pub begun : IsBegun (start_unit f.start) table f.start.pseudo first
  pub trail : IsTrail (start_unit f.start) table (begun_state table first) (begun_events first) f.trail pieces
  pub end : front_state table f ≡ state_behind table (begun_state table first) pieces
  pub counted : first.after.before ≤ f.toks
  pub little : f.work.left ≤ most_work
  pub traced : AllTraced (table_of f.macros)

-- a unit with this pseudo file starts so
abbrev pub StartsSo : Start → UnitValue → ℕ → Type 0
StartsSo start u number =
    (start.pseudo ≡ number) × (start.standard ≡ u.standard) × (start.qpath.items ≡ u.qpath) × (start.ipath.items ≡ u.ipath)

-- these lines are those of the first leads
abbrev pub AreLinesOf : List Line → List Lead → Type 0
AreLinesOf [] leads = Unit {0}
AreLinesOf (l ∷ lines) [] = ⊥
AreLinesOf (l ∷ lines) (d ∷ leads) = (l.number ≡ d.number) × (l.behind ≡ d.behind) × AreLinesOf lines leads

-- A front fits to a unit with this pseudo file, whose own file begins with these lines, and which may have so many tokens.
pub record Fits (u : UnitValue) (number : ℕ) (leads : List Lead) (most : ℕ) (f : Front) : Type 0 where
  pub few : f.toks ≤ most
  pub start : StartsSo f.start u number
  pub lines : AreLinesOf f.trail.lines.items leads

-- a text behind the lines of leads of this file, from number k on, by which these texts are put in
abbrev pub with_pieces : ℕ → ℕ → List Lead → List UnitTextValue → UnitTextValue → UnitTextValue
with_pieces main k leads [] text = text
with_pieces main k [] (t ∷ texts) text = text
with_pieces main k (l ∷ leads) (t ∷ texts) text = with_pieces main (k + 1) leads texts (with_piece main k l t text)

-- the texts of a trail
abbrev pub trail_texts : Trail → List UnitTextValue
trail_texts trail = map (λ r. r.value) trail.pieces.items

-- the same lines and texts
abbrev pub IsSameTrail : Trail → Trail → Type 0
IsSameTrail a b = (a.lines.items ≡ b.lines.items) × (trail_texts a ≡ trail_texts b)

-- all of them
abbrev pub AreFronts : Table → List Front → Type 0
AreFronts table [] = Unit {0}
AreFronts table (f ∷ fronts) = IsFront table f × AreFronts table fronts
