use Rattle.std.proofs.Common.{Option, sym, subst}
use Rattle.cs_base.specs.declared.positions.Pos.{Pos}
use Rattle.include_tree.specs.Below.source_files.Faults.{place_of}
use Rattle.analysis.specs.Placing.{IsPositionAt}
use Rattle.analysis.proofs.PositionLemmas.{position_is}
use Rattle.analysis.proofs.placing.position.Goals as goal

pub returns : goal.returns
returns c =
    subst (λ (o : Option Pos). IsPositionAt c.args.a.now.table (place_of c.args.path.now (c.args.line, c.args.column)) o) (sym c.found_at.ensures)
    (position_is c.args.a.now.table c.args.path.now c.args.line c.args.column c.files-files.ensures.once c.files-files.ensures.lines)
