use Rattle.std.proofs.Common.{◌≡◌, ◌+◌, None, Some, position, sym, ◌∙◌, slice_get}
use Rattle.std.specs.Option.{option_map}
use Rattle.source_files.specs.Files.{is_made, made_path}
use Rattle.source_files.specs.Slots.{found_of}
use Rattle.source_files.specs.FileTableFields.{paths_in}
use Rattle.source_files.proofs.MadeLemmas.{made-at, made-nowhere, made-other}
use Rattle.source_files.proofs.file_table.FileTable.made.Goals as goal

pub returns-in-Some-clause-answer : goal.returns-in-Some-clause-answer
returns-in-Some-clause-answer c =
    let place : position (λ s. is_made c.args.text.now (found_of s)) c.self.inside.slots.items ≡ Some c.in-Some.i = sym (rw c.as_slice.ensures.value at c.in-Some.ensures.answer) in
    let is : option_map (λ e. e.path) (slice_get c.args.self.now (c.in-Some.i + 1)) ≡ made_path c.args.text.now c.args.self.now =
    rw (← c.self.view_is) (made-at c.args.text.now (paths_in c.self.inside) c.self.inside.slots.items c.in-Some.i c.self.invariant.each place) in
    c.path.ensures ∙ is

pub returns-in-None-clause-answer : goal.returns-in-None-clause-answer
returns-in-None-clause-answer c =
    let nowhere : position (λ s. is_made c.args.text.now (found_of s)) c.self.inside.slots.items ≡ None = sym (rw c.as_slice.ensures.value at c.in-None.ensures.answer) in
    rw (← c.self.view_is) (sym (made-nowhere c.args.text.now (paths_in c.self.inside) c.self.inside.slots.items nowhere))

pub returns-in-Some-clause-other : goal.returns-in-Some-clause-other
returns-in-Some-clause-other c = rw (← c.self.view_is) (made-other c.args.text.now (paths_in c.self.inside) c.self.inside.slots.items c.self.invariant)

pub returns-in-None-clause-other : goal.returns-in-None-clause-other
returns-in-None-clause-other c = rw (← c.self.view_is) (made-other c.args.text.now (paths_in c.self.inside) c.self.inside.slots.items c.self.invariant)
