-- Faults of a unit: where they stand, and why.
use Rattle.std.specs.Prelude.{ℕ, List, unwrap_or}
use Rattle.cs_base.specs.declared.causes.Cause.{Cause}
use Rattle.cs_base.specs.declared.positions.Place.{Place}
use Rattle.cs_base.specs.declared.positions.Pos.{Pos}
use Rattle.lexer.specs.FileText.{place_at}
use Rattle.source_files.specs.Files.{SourceFile}

-- The first fault of a unit: a path, a line and a column, and a cause.
pub record Fault : Type 0 where
  pub place : Place
  pub cause : Cause

abbrev pub fault : Place → Cause → Fault
fault place cause = record { place = place; cause = cause }

-- a place of these parts
abbrev pub place_of : List ℕ → ℕ × ℕ → Place
place_of path place = record { path = path; line = place.0; column = place.1 }

-- the place of a position in a file; positions of its tokens have one
abbrev pub place_in : SourceFile → Pos → Place
place_in file at = place_of file.path (unwrap_or (place_at file.text at.at) (1, 1))

-- a fault at a position in a file
abbrev pub fault_at : SourceFile → Pos → Cause → Fault
fault_at file at cause = fault (place_in file at) cause

-- where a unit's own file cannot be opened
abbrev pub first_place : List ℕ → Place
first_place path = place_of path (1, 1)
