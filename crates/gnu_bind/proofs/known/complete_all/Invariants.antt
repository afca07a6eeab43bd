use Rattle.std.proofs.Common.{◌≡◌, ◌++◌, map, take}
use Rattle.scope_bind.specs.Known.{known}
use Rattle.scope_bind.specs.Carried.{behind_front}
use Rattle.gnu_bind.proofs.known.complete_all.Given as goal

-- the first k are complete
abbrev pub invariant-numbers : goal.invariant-numbers
invariant-numbers l =
    l.facts
    ≡ known l.fn.facts.toks (record l.fn.facts.facts { complete = l.fn.facts.facts.complete ++ map (behind_front l.way.front l.way.text) (take l.k l.complete) })
