use Rattle.std.proofs.Common.{◌+◌, sym, ◌∙◌, ap, is_some}
use Rattle.std.specs.Str.{bytes_eq}
use Rattle.source_files.specs.FileTableFields.{paths_in, table_in, Stands}
use Rattle.source_files.proofs.FileTableLemmas.{stands-at, none-at, position-map}
use Rattle.source_files.proofs.file_table.FileTable.find.Goals as goal

stands : (c : goal.After-index) → Stands (table_in c.self.inside) c.args.path.now (c.in-Some.i + 1) c.index.result.now
stands c =
    stands-at (paths_in c.self.inside) c.self.inside.slots.items c.args.path.now c.in-Some.i c.index.result.now c.self.invariant c.requires
    (sym (position-map (λ k. k.items) (bytes_eq c.args.path.now) c.self.inside.paths.keys) ∙ sym c.in-Some.ensures.index) c.index.ensures

pub returns-in-Some-clause-none : goal.returns-in-Some-clause-none
returns-in-Some-clause-none c = rw (← c.self.view_is) (sym (ap is_some (stands c).found))

pub returns-in-Some-clause-some : goal.returns-in-Some-clause-some
returns-in-Some-clause-some c = rw (← c.self.view_is) (stands c)

pub returns-in-None-clause-none : goal.returns-in-None-clause-none
returns-in-None-clause-none c =
    rw (← c.self.view_is)
    (sym (ap is_some (none-at (paths_in c.self.inside) c.self.inside.slots.items c.args.path.now c.self.invariant.each c.requires
    (sym (position-map (λ k. k.items) (bytes_eq c.args.path.now) c.self.inside.paths.keys) ∙ sym c.in-None.ensures.index))))
