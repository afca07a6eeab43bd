-- Opening a source file as a step of a unit.
use Rattle.std.specs.Prelude.{List, [], Ok, Err, ℕ}
use Rattle.cs_base.specs.declared.positions.Place.{Place}
use Rattle.source_files.specs.Files.{SourceFile}
use Rattle.source_files.specs.Opening.{Opening, opening}
use Rattle.unit_steps.specs.State.{Context, State, did, Outcome}

-- an opening as a step
abbrev pub with_opened : State → Opening → Outcome SourceFile
with_opened s (Ok r) = Ok (did r.0 [] (record s { table = r.1 }))
with_opened s (Err found) = Err found

abbrev pub open_file : Context → Place → List ℕ → State → Outcome SourceFile
open_file ctx place path s = with_opened s (opening ctx.limits ctx.reader place path s.table)
