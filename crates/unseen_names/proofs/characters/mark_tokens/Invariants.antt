use Rattle.std.proofs.Common.{take}
use Rattle.std.specs.List.{list_any}
use Rattle.unseen_names.specs.Characters.{Adds}
use Rattle.unseen_names.specs.Unseen.{comes_from}
use Rattle.unseen_names.proofs.characters.mark_tokens.Given as goal

abbrev pub invariant-loop-tok : goal.invariant-loop-tok
invariant-loop-tok l = Adds (λ p. list_any (comes_from p) (take l.tok-index l.toks)) l.initial.marks.items l.marks.items
