use Rattle.std.proofs.Common.{◌≡◌, ℕ, List, take}
use Rattle.linkage_join.specs.Firsts.{first_at, with_names}
use Rattle.linkage_join.proofs.firsts.Firsts.add.Given as goal

abbrev pub invariant-loop-name : goal.invariant-loop-name
invariant-loop-name l = (project text : List ℕ) →
    first_at l.self.toks project text ≡ with_names l.unit.project (take l.name-index l.unit.names) (first_at l.initial.self.toks) project text
