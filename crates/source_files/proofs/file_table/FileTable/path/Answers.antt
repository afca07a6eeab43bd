use Rattle.std.proofs.Common.{Some, refl, sym, ap, ◌∙◌}
use Rattle.std.specs.Option.{option_map}
use Rattle.source_files.proofs.FileTableLemmas.{path-at}
use Rattle.source_files.proofs.file_table.FileTable.path.Goals as goal

pub returns-then-number-eq0 : goal.returns-then-number-eq0
returns-then-number-eq0 c = rw (← c.self.view_is, c.if-number-eq0.true) refl

pub returns-in-Some : goal.returns-in-Some
returns-in-Some c =
    rw (← c.self.view_is)
    (ap Some c.as_slice.ensures.value ∙ ap (option_map (λ k. k.items)) c.in-Some.ensures.key
    ∙ sym (path-at (λ k. k.items) c.self.inside.paths.keys c.self.inside.slots.items c.args.number c.self.invariant.each c.if-number-eq0.false))

pub returns-in-None : goal.returns-in-None
returns-in-None c =
    rw (← c.self.view_is)
    (ap (option_map (λ k. k.items)) c.in-None.ensures.key
    ∙ sym (path-at (λ k. k.items) c.self.inside.paths.keys c.self.inside.slots.items c.args.number c.self.invariant.each c.if-number-eq0.false))
