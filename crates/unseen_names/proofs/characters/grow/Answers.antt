use Rattle.std.proofs.Common.{Bool, false, List, get_or, ap, ◌∙◌, arith}
use Rattle.unseen_names.proofs.SpanMarks.{longer_same}
use Rattle.unseen_names.proofs.characters.grow.Goals as goal

pub returns : goal.returns
returns c = record {
  longer = omega (arith, c.in_ok-extend_from_slice.ensures.len);
  same =
      λ k.
      ap (λ (xs : List Bool). get_or xs k false) c.in_ok-extend_from_slice.ensures.items ∙ longer_same c.args.chars.now.items 256 k;
}
