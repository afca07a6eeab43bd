use Rattle.std.proofs.Common.{◌≡◌, drop}
use Rattle.scope_bind.specs.Known.{known}
use Rattle.scope_bind.specs.Labels.{with_jumps}
use Rattle.scope_bind.proofs.facts.Facts.join_all.Given as goal

abbrev pub invariant-jumps : goal.invariant-jumps
invariant-jumps l =
    known l.self.toks (with_jumps l.self.toks l.b (drop l.i-index l.jumps) l.self.facts)
    ≡ known l.initial.self.toks (with_jumps l.initial.self.toks l.b l.jumps l.initial.self.facts)
