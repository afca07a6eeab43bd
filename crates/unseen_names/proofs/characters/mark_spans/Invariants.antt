use Rattle.std.proofs.Common.{take}
use Rattle.std.specs.List.{list_any}
use Rattle.unseen_names.specs.Characters.{covers, Adds}
use Rattle.unseen_names.proofs.characters.mark_spans.Given as goal

abbrev pub invariant-loop-span : goal.invariant-loop-span
invariant-loop-span l = Adds (λ p. list_any (covers p) (take l.span-index l.spans)) l.initial.marks.items l.marks.items
