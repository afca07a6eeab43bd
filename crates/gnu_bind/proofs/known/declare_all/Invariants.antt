use Rattle.std.proofs.Common.{◌≡◌, ◌++◌, map, reverse, take}
use Rattle.scope_bind.specs.Known.{known}
use Rattle.scope_bind.specs.Carried.{behind_front, carried}
use Rattle.gnu_bind.proofs.known.declare_all.Given as goal

-- the first k are declared
abbrev pub invariant-declarations : goal.invariant-declarations
invariant-declarations l =
    l.facts ≡ known l.fn.facts.toks (record l.fn.facts.facts {
      declared = map (carried (behind_front l.way.front l.way.text)) (reverse (take l.k l.declared)) ++ l.fn.facts.facts.declared;
    })
