use Rattle.std.proofs.Common.{◌≡◌, ◌++◌, map, take}
use Rattle.scope_bind.specs.Known.{known}
use Rattle.scope_bind.specs.Carried.{behind_front}
use Rattle.gnu_bind.proofs.known.begin_all.Given as goal

-- the first k have begun
abbrev pub invariant-entities : goal.invariant-entities
invariant-entities l =
    l.facts ≡ known l.fn.facts.toks (record l.fn.facts.facts { begun = l.fn.facts.facts.begun ++ map (behind_front l.way.front l.way.text) (take l.k l.begun) })
