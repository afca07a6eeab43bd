use Rattle.std.proofs.Common.{sym, ◌∙◌}
use Rattle.std.specs.Str.{bytes_eq}
use Rattle.source_files.specs.FileTableFields.{paths_in}
use Rattle.source_files.proofs.FileTableLemmas.{number_at-lines, number_at-place, number_at-none, position-map}
use Rattle.source_files.proofs.file_table.FileTable.number.Goals as goal

pub returns-then-is_lines : goal.returns-then-is_lines
returns-then-is_lines c =
    rw (← c.self.view_is) (sym (number_at-lines (paths_in c.self.inside) c.self.inside.slots.items c.args.path.now (sym c.is_lines.ensures ∙ c.if-is_lines.true)))

pub returns-in-Some : goal.returns-in-Some
returns-in-Some c =
    rw (← c.self.view_is)
    (sym (number_at-place (paths_in c.self.inside) c.self.inside.slots.items c.args.path.now c.in-Some.i c.self.invariant (sym c.is_lines.ensures ∙ c.if-is_lines.false)
    (sym (position-map (λ k. k.items) (bytes_eq c.args.path.now) c.self.inside.paths.keys) ∙ sym c.in-Some.ensures.index)))

pub returns-in-None : goal.returns-in-None
returns-in-None c =
    rw (← c.self.view_is)
    (sym (number_at-none (paths_in c.self.inside) c.self.inside.slots.items c.args.path.now c.self.invariant (sym c.is_lines.ensures ∙ c.if-is_lines.false)
    (sym (position-map (λ k. k.items) (bytes_eq c.args.path.now) c.self.inside.paths.keys) ∙ sym c.in-None.ensures.index)))
