use Rattle.std.proofs.Common.{sym, ◌∙◌, ap, arith, ◌<◌, ◌≤◌, ◌-◌, length, ◌≡◌, get_or}
use Rattle.std.specs.Option.{option_and_then}
use Rattle.std.proofs.lemmas.Option.{slice_get_past}
use Rattle.cs_base.proofs.ListLemmas.{read_at as slice_get-at}
use Rattle.source_files.specs.Slots.{kept_of}
use Rattle.source_files.specs.FileTableFields.{paths_in}
use Rattle.source_files.proofs.FileTableLemmas.{kept_at-slot}
use Rattle.source_files.proofs.file_table.FileTable.kept.Goals as goal

pub returns-then-i-slots : goal.returns-then-i-slots
returns-then-i-slots c =
    let within : c.args.number - 1 < length c.self.inside.slots.items = omega (arith, c.if-i-slots.true, c.as_slice-slots.ensures.len) in
    let at : c.index-slots-i.result ≡ get_or c.self.inside.slots.items (c.args.number - 1) c.index-slots-i.result = rw c.as_slice-slots.ensures.value at c.index-slots-i.is in
    rw (← c.self.view_is) (c.kept.ensures ∙ sym (kept_at-slot (paths_in c.self.inside) c.self.inside.slots.items c.args.number c.self.invariant c.if-number-eq0.false ∙ ap (option_and_then kept_of) (slice_get-at c.self.inside.slots.items (c.args.number - 1) _ within at)))

pub returns-else-i-slots : goal.returns-else-i-slots
returns-else-i-slots c =
    let past : length c.self.inside.slots.items ≤ c.args.number - 1 = omega (arith, c.if-i-slots.false, c.as_slice-slots.ensures.len) in
    rw (← c.self.view_is)
    (sym (kept_at-slot (paths_in c.self.inside) c.self.inside.slots.items c.args.number c.self.invariant c.if-number-eq0.false
    ∙ ap (option_and_then kept_of) (slice_get_past c.self.inside.slots.items (c.args.number - 1) past)))
