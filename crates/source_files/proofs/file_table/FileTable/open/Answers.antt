use Rattle.std.proofs.Common.{◌+◌, sym, ◌∙◌, ap, None, ◌≡◌, true, false}
use Rattle.std.specs.Str.{bytes_eq}
use Rattle.source_files.specs.Files.{found_at}
use Rattle.source_files.specs.FileTableFields.{paths_in, table_in, is_unread}
use Rattle.source_files.proofs.FileTableLemmas.{position-map, none-at}
use Rattle.source_files.proofs.OpenedLemmas.{OpensAt, opens-at, numbered-after, opened-after, file_table-opened, on_ok}
use Rattle.source_files.proofs.file_table.FileTable.open.Goals as goal

opens : (c : goal.After-index_mut) → OpensAt (paths_in c.self.inside) c.self.inside.slots.items c.args.path.now c.in-Some.i c.index_mut.result.now
opens c =
    let there : is_unread (found_at c.args.path.now (table_in c.self.inside)) ≡ true = rw (← c.self.view_is) at c.requires.there in
    opens-at (paths_in c.self.inside) c.self.inside.slots.items c.args.path.now c.in-Some.i c.index_mut.result.now c.self.invariant c.requires.other
    (sym (position-map (λ k. k.items) (bytes_eq c.args.path.now) c.self.inside.paths.keys) ∙ sym c.in-Some.ensures.index) c.index_mut.ensures.value there

pub open-requires : goal.open-requires
open-requires c = (opens c).unopened

opens_then : (c : goal.After-self-1) → OpensAt (paths_in c.self.inside) c.self.inside.slots.items c.args.path.now c.in-Some.i c.index_mut.result.now
opens_then c =
    let there : is_unread (found_at c.args.path.now (table_in c.self.inside)) ≡ true = rw (← c.self.view_is) at c.requires.there in
    opens-at (paths_in c.self.inside) c.self.inside.slots.items c.args.path.now c.in-Some.i c.index_mut.result.now c.self.invariant c.requires.other
    (sym (position-map (λ k. k.items) (bytes_eq c.args.path.now) c.self.inside.paths.keys) ∙ sym c.in-Some.ensures.index) c.index_mut.ensures.value there

pub invariant_of-self : goal.invariant_of-self
invariant_of-self c =
    file_table-opened (paths_in c.self.inside) c.self.inside.slots.items c.args.path.now c.in-Some.i c.open.new.self c.self.invariant (opens_then c).at
    (numbered-after c.open.result (c.in-Some.i + 1) c.args.path.now c.index_mut.result.now c.open.new.self c.open.ensures.ok c.open.ensures.unchanged (opens_then c).stands.numbered)

pub unreachable-requires : goal.unreachable-requires
unreachable-requires c =
    let none : found_at c.args.path.now (table_in c.self.inside) ≡ None =
    none-at (paths_in c.self.inside) c.self.inside.slots.items c.args.path.now c.self.invariant.each c.requires.other
    (sym (position-map (λ k. k.items) (bytes_eq c.args.path.now) c.self.inside.paths.keys) ∙ sym c.in-None.ensures.index) in
    let there : is_unread (found_at c.args.path.now (table_in c.self.inside)) ≡ true = rw (← c.self.view_is) at c.requires.there in
    let wrong : false ≡ true = sym (ap is_unread none) ∙ there in cc

pub returns-clause-ok : goal.returns-clause-ok
returns-clause-ok c =
    rw (← c.self.view_is)
    (on_ok _ _ c.open.result c.open.ensures.ok
    (λ e. opened-after (paths_in c.self.inside) c.self.inside.slots.items c.args.path.now c.in-Some.i c.index_mut.result.now c.open.new.self c.self.invariant c.requires.other (opens_then c) e))

pub returns-clause-readable : goal.returns-clause-readable
returns-clause-readable c = rw (← c.self.view_is) (rw ((opens_then c).stands.number_is, (opens_then c).bytes) c.open.ensures.readable)

pub returns-clause-refused : goal.returns-clause-refused
returns-clause-refused c = rw (← c.self.view_is) (rw ((opens_then c).stands.number_is, (opens_then c).bytes) c.open.ensures.refused)
