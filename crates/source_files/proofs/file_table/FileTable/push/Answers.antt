use Rattle.std.proofs.Common.{◌≡◌, false, [], ◌∷◌, ◌++◌, map, ◌∙◌, ap, length, arith, None}
use Rattle.std.specs.List.{list_any}
use Rattle.std.specs.Str.{bytes_eq}
use Rattle.line_shape.proofs.NameLemmas.{map-push, list_any-map}
use Rattle.source_files.specs.Files.{found_at}
use Rattle.source_files.specs.Slots.{IsNumbered}
use Rattle.source_files.specs.FileTableFields.{paths_in, table_in}
use Rattle.source_files.proofs.FileTableLemmas.{none-any, table-pushed, file_table-pushed}
use Rattle.source_files.proofs.file_table.FileTable.push.Goals as goal

absent : (c : goal.After-unwrap) → list_any (λ k. bytes_eq c.in_ok-key.key.items k.items) c.self.inside.paths.keys ≡ false
absent c =
    let fresh : found_at c.args.path.now (table_in c.self.inside) ≡ None = rw (← c.self.view_is) at c.requires.fresh in
    list_any-map (λ k. k.items) (bytes_eq c.in_ok-key.key.items) c.self.inside.paths.keys
    ∙ ap (λ n. list_any (bytes_eq n) (paths_in c.self.inside)) c.in_ok-key.ensures.items
    ∙ none-any c.args.path.now (paths_in c.self.inside) c.self.inside.slots.items c.self.invariant.each fresh

more_paths : (c : goal.After-unwrap) → map (λ k. k.items) c.insert.new.self.keys ≡ paths_in c.self.inside ++ c.args.path.now ∷ []
more_paths c =
    map-push (λ k. k.items) c.self.inside.paths.keys c.insert.new.self.keys c.in_ok-key.key (rw (absent c) at c.in_ok-insert.ensures.keys)
    ∙ ap (λ n. paths_in c.self.inside ++ n ∷ []) c.in_ok-key.ensures.items

more_slots : (c : goal.After-unwrap) → c.push.new.self.items ≡ c.self.inside.slots.items ++ c.args.slot ∷ []
more_slots c = rw c.in_ok-reserve.ensures.items at (rw c.unwrap.ensures at c.push.ensures.items)

pub invariant_of-self-2 : goal.invariant_of-self-2
invariant_of-self-2 c =
    let new : IsNumbered (length (table_in c.self.inside)) c.args.path.now c.args.slot = rw (← c.self.view_is) at c.requires.numbered in
    let fresh : found_at c.args.path.now (table_in c.self.inside) ≡ None = rw (← c.self.view_is) at c.requires.fresh in
    file_table-pushed (paths_in c.self.inside) (map (λ k. k.items) c.insert.new.self.keys) c.self.inside.slots.items c.push.new.self.items c.args.path.now c.args.slot
    c.self.invariant (more_paths c) (more_slots c) fresh c.requires.text new (omega (arith, c.if-len.false, c.len.ensures))

pub returns-clause-ok : goal.returns-clause-ok
returns-clause-ok c =
    rw (← c.self.view_is)
    (table-pushed (paths_in c.self.inside) (map (λ k. k.items) c.insert.new.self.keys) c.self.inside.slots.items c.push.new.self.items c.args.path.now c.args.slot
    c.self.invariant (more_paths c) (more_slots c))
