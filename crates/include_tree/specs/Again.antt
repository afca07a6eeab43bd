-- What was processed once gives the same again in another unit (ISO/IEC 9899:1999, 6.10).
use Rattle.std.specs.Prelude.{◌≡◌, ◌≤◌, ◌+◌, ℕ, List, Ok, length}
use Rattle.cs_base.specs.Token.{Token}
use Rattle.cs_base.specs.Units.{UnitValue, unit}
use Rattle.cs_base.specs.declared.ws_units.Setting.{Setting}
use Rattle.source_files.specs.Files.{Source, Table, SourceFile, Carried, carried}
use Rattle.source_files.specs.Tables.{IsGrown}
use Rattle.unit_steps.specs.State.{Context, context, State, Did, did}
use Rattle.unit_steps.specs.Expanding.{most_toks}
use Rattle.include_tree.specs.Walk.{file_items}
use Rattle.include_tree.specs.Preprocessed.{Preprocessed, with_text, preprocessed}

-- another unit that looks for headers where this one does, and is of its standard
abbrev pub unit_like : UnitValue → List ℕ → List ℕ → List Setting → List (List ℕ) → UnitValue
unit_like u project path settings includes = unit project path u.qpath u.ipath settings includes u.standard

-- The items of a file that were processed without a fault give the same again in such a unit, whatever its files hold and
-- however many tokens the units before it have, where the table of files is one into which that behind them has grown, and
-- the tokens stay within the limit: all paths that they ask for are known, so none is asked for, and the table stays.
abbrev pub ItemsGiveTheSameAgain : Type 0
ItemsGiveTheSameAgain = (ctx : Context) (source : Source) (project path : List ℕ) (settings : List Setting) (includes : List (List ℕ)) (earlier room : ℕ)
    → (file : SourceFile) (s : State) (d : Did (List Token)) (later : Table)
    → file_items ctx room file s ≡ Ok d → IsGrown d.state.table later
    → d.state.before ≤ most_toks (context source ctx.reader (unit_like ctx.unit project path settings includes) ctx.limits earlier)
    → file_items (context source ctx.reader (unit_like ctx.unit project path settings includes) ctx.limits earlier) room file (record s { table = later })
    ≡ Ok (did d.value d.notes (record d.state { table = later }))

-- A unit that was preprocessed without a fault gives the same text again, whatever the files hold and whatever number it has,
-- over a table of files into which that behind it has grown, and behind no more tokens of other units: the table stays.
abbrev pub UnitGivesTheSameAgain : Type 0
UnitGivesTheSameAgain = (source other : Source) (number other_number earlier : ℕ) (unit : UnitValue) (before : Carried) (p : Preprocessed) (later : Table)
    → preprocessed source number unit before ≡ Ok p → IsGrown p.after.table later → earlier ≤ before.toks
    → preprocessed other other_number unit (carried later earlier) ≡ Ok (with_text (carried later (earlier + length p.text.toks)) p.text)
