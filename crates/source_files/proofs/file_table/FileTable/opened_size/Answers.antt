use Rattle.std.proofs.Common.{◌∙◌, arith}
use Rattle.std.specs.Prelude.{IsSome}
use Rattle.source_files.specs.KeptFiles.{kept_at}
use Rattle.source_files.specs.FileTableFields.{paths_in, table_in}
use Rattle.source_files.proofs.EditedLemmas.{KeptPlace, kept-place, size-slot}
use Rattle.source_files.proofs.file_table.FileTable.opened_size.Goals as goal

pub index-requires : goal.index-requires
index-requires c =
    let there : IsSome (kept_at (table_in c.self.inside) c.args.number) = rw (← c.self.view_is) at c.requires in
    let place : KeptPlace c.self.inside.slots.items c.args.number =
    kept-place (paths_in c.self.inside) c.self.inside.slots.items c.args.number c.self.invariant there in
    omega (arith, place.within)

pub returns : goal.returns
returns c =
    let there : IsSome (kept_at (table_in c.self.inside) c.args.number) = rw (← c.self.view_is) at c.requires in
    let place : KeptPlace c.self.inside.slots.items c.args.number =
    kept-place (paths_in c.self.inside) c.self.inside.slots.items c.args.number c.self.invariant there in
    rw (← c.self.view_is)
    (c.opened_size.ensures ∙ size-slot (paths_in c.self.inside) c.self.inside.slots.items c.args.number c.index.result.now c.self.invariant place c.index.ensures)
