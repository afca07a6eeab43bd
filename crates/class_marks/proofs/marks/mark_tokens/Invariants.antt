use Rattle.std.proofs.Common.{◌≡◌, drop, length}
use Rattle.class_marks.specs.Marks.{with_tokens}
use Rattle.class_marks.specs.Roles.{tokens_with}
use Rattle.class_marks.proofs.marks.mark_tokens.Given as goal

abbrev pub invariant-loop-k : goal.invariant-loop-k
invariant-loop-k l = record {
  counted : l.count ≡ length l.toks;
  rest : with_tokens l.classes l.marks.items (tokens_with l.role l.bound.names l.k (drop l.k l.toks))
      ≡ with_tokens l.classes l.initial.marks.items (tokens_with l.role l.bound.names 0 l.toks);
}
