use Rattle.std.proofs.Common.{◌≡◌, ◌++◌, map, take}
use Rattle.scope_bind.specs.Known.{known}
use Rattle.scope_bind.specs.Carried.{behind_front}
use Rattle.gnu_bind.proofs.known.jump_all.Given as goal

-- the first k are there
abbrev pub invariant-labels : goal.invariant-labels
invariant-labels l =
    l.facts ≡ known l.fn.facts.toks (record l.fn.facts.facts { jumps = l.fn.facts.facts.jumps ++ map (behind_front l.way.front l.way.text) (take l.k l.jumps) })
