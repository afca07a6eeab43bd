use Rattle.std.proofs.Common.{sym, ◌∙◌, ap, arith, false, ◌<◌, ◌≤◌, ◌-◌, length, ◌≡◌, get_or, refl}
use Rattle.std.specs.Option.{option_map_or}
use Rattle.std.proofs.lemmas.Option.{slice_get_past}
use Rattle.cs_base.proofs.ListLemmas.{read_at as slice_get-at}
use Rattle.source_files.specs.Files.{is_absent}
use Rattle.source_files.specs.Slots.{found_of}
use Rattle.source_files.specs.FileTableFields.{paths_in}
use Rattle.source_files.proofs.FileTableLemmas.{absent-slot}
use Rattle.source_files.proofs.file_table.FileTable.is_absent.Goals as goal

pub returns-then-number-eq0 : goal.returns-then-number-eq0
returns-then-number-eq0 c = rw (← c.self.view_is, c.if-number-eq0.true) refl

pub returns-then-i-slots : goal.returns-then-i-slots
returns-then-i-slots c =
    let within : c.args.number - 1 < length c.self.inside.slots.items = omega (arith, c.if-i-slots.true, c.as_slice-slots.ensures.len) in
    let at : c.index-slots-i.result ≡ get_or c.self.inside.slots.items (c.args.number - 1) c.index-slots-i.result = rw c.as_slice-slots.ensures.value at c.index-slots-i.is in
    rw (← c.self.view_is) (c.is_absent.ensures ∙ sym (absent-slot (paths_in c.self.inside) c.self.inside.slots.items c.args.number c.self.invariant.each c.if-number-eq0.false
    ∙ ap (λ o. option_map_or (λ s. is_absent (found_of s)) o false) (slice_get-at c.self.inside.slots.items (c.args.number - 1) _ within at)))

pub returns-else-i-slots : goal.returns-else-i-slots
returns-else-i-slots c =
    let past : length c.self.inside.slots.items ≤ c.args.number - 1 = omega (arith, c.if-i-slots.false, c.as_slice-slots.ensures.len) in
    rw (← c.self.view_is)
    (sym (absent-slot (paths_in c.self.inside) c.self.inside.slots.items c.args.number c.self.invariant.each c.if-number-eq0.false
    ∙ ap (λ o. option_map_or (λ s. is_absent (found_of s)) o false) (slice_get_past c.self.inside.slots.items (c.args.number - 1) past)))
