use Rattle.std.proofs.Common.{◌≡◌, ◌-◌, arith, subst, sym}
use Rattle.std.specs.Prelude.{IsSome}
use Rattle.source_files.specs.KeptFiles.{kept_at}
use Rattle.source_files.specs.Slots.{kept_of, number_in}
use Rattle.source_files.specs.declared.slot.Slot.{Slot}
use Rattle.source_files.specs.FileTableFields.{paths_in, table_in}
use Rattle.source_files.proofs.OpenedLemmas.{on_ok}
use Rattle.source_files.proofs.EditedLemmas.{KeptPlace, kept-place, kept-number, table-edited, file_table-after}
use Rattle.source_files.proofs.file_table.FileTable.edit.Goals as goal

pub index_mut-requires : goal.index_mut-requires
index_mut-requires c =
    let there : IsSome (kept_at (table_in c.self.inside) c.args.number) = rw (← c.self.view_is) at c.requires in
    let place : KeptPlace c.self.inside.slots.items c.args.number =
    kept-place (paths_in c.self.inside) c.self.inside.slots.items c.args.number c.self.invariant there in
    omega (arith, place.within)

pub edit-requires : goal.edit-requires
edit-requires c =
    let there : IsSome (kept_at (table_in c.self.inside) c.args.number) = rw (← c.self.view_is) at c.requires in
    let place : KeptPlace c.self.inside.slots.items c.args.number =
    kept-place (paths_in c.self.inside) c.self.inside.slots.items c.args.number c.self.invariant there in
    subst (λ (s : Slot). IsSome (kept_of s)) (sym c.index_mut.ensures.value) (place.kept c.index_mut.result.now)

pub invariant_of-self : goal.invariant_of-self
invariant_of-self c =
    file_table-after c.edit.result (paths_in c.self.inside) c.self.inside.slots.items (c.args.number - 1) c.args.bytes.items c.index_mut.result.now
    c.edit.new.self c.index_mut.ensures.value c.edit.ensures.ok c.edit.ensures.unchanged c.self.invariant

pub returns-clause-ok : goal.returns-clause-ok
returns-clause-ok c =
    let there : IsSome (kept_at (table_in c.self.inside) c.args.number) = rw (← c.self.view_is) at c.requires in
    let place : KeptPlace c.self.inside.slots.items c.args.number =
    kept-place (paths_in c.self.inside) c.self.inside.slots.items c.args.number c.self.invariant there in
    rw (← c.self.view_is)
    (on_ok _ _ c.edit.result c.edit.ensures.ok
    (λ e. rw e (table-edited (paths_in c.self.inside) c.self.inside.slots.items c.args.number c.args.bytes.items c.index_mut.result.now c.self.invariant
    place.some place.within c.index_mut.ensures.value)))

pub returns-clause-readable : goal.returns-clause-readable
returns-clause-readable c =
    let there : IsSome (kept_at (table_in c.self.inside) c.args.number) = rw (← c.self.view_is) at c.requires in
    let place : KeptPlace c.self.inside.slots.items c.args.number =
    kept-place (paths_in c.self.inside) c.self.inside.slots.items c.args.number c.self.invariant there in
    let number : number_in c.index_mut.result.now ≡ c.args.number =
    kept-number (paths_in c.self.inside) c.self.inside.slots.items c.args.number c.index_mut.result.now c.self.invariant place c.index_mut.ensures.value in
    rw number at c.edit.ensures.readable

pub returns-clause-refused : goal.returns-clause-refused
returns-clause-refused c =
    let there : IsSome (kept_at (table_in c.self.inside) c.args.number) = rw (← c.self.view_is) at c.requires in
    let place : KeptPlace c.self.inside.slots.items c.args.number =
    kept-place (paths_in c.self.inside) c.self.inside.slots.items c.args.number c.self.invariant there in
    let number : number_in c.index_mut.result.now ≡ c.args.number =
    kept-number (paths_in c.self.inside) c.self.inside.slots.items c.args.number c.index_mut.result.now c.self.invariant place c.index_mut.ensures.value in
    rw number at c.edit.ensures.refused
