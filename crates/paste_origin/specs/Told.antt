-- What inner functions promise each other: the origins of a text that is written with its spans.
use Rattle.std.specs.Prelude.{ℕ, List, Option, length}
use Rattle.cs_base.specs.declared.positions.Pos.{Pos}
use Rattle.cs_base.specs.declared.spans.Span.{Span}
use Rattle.cs_base.specs.Spans.{origins_by}

-- the origins that the spans tell of the characters that are written
abbrev pub told_so_far : List ℕ → List Span → List (Option Pos)
told_so_far text spans = origins_by (length text) spans
