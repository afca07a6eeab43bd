use Rattle.std.proofs.Common.{◌≡◌, ◌||◌, drop, length}
use Rattle.unseen_names.specs.Characters.{is_marked}
use Rattle.unseen_names.specs.Groups.{in_tokens}
use Rattle.unseen_names.proofs.NameLemmas.{Lacks}
use Rattle.unseen_names.proofs.names.mark_bound.Given as goal

abbrev pub invariant-loop-k : goal.invariant-loop-k
invariant-loop-k l = record {
  counted : l.count ≡ length l.toks;
  lacks : Lacks l.group l.bound.names l.k (drop l.k l.toks)
      (λ p. is_marked l.initial.marks.items p || in_tokens l.group p l.bound.names 0 l.toks) l.marks.items;
}
