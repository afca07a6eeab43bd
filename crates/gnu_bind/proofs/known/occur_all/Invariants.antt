use Rattle.std.proofs.Common.{◌≡◌, ◌++◌, map, reverse, take}
use Rattle.scope_bind.specs.Known.{known}
use Rattle.scope_bind.specs.Carried.{behind_front}
use Rattle.scope_bind.specs.Moved.{moved_occurrence}
use Rattle.gnu_bind.proofs.known.occur_all.Given as goal

-- the first k are bound
abbrev pub invariant-occurrences : goal.invariant-occurrences
invariant-occurrences l =
    l.facts ≡ known l.fn.facts.toks (record l.fn.facts.facts {
      occurrences = map (moved_occurrence (behind_front l.way.front l.way.text)) (reverse (take l.k l.occurrences)) ++ l.fn.facts.facts.occurrences;
    })
