use Rattle.std.proofs.Common.{◌≡◌, length, take}
use Rattle.std.specs.List.{flat_map}
use Rattle.macro_body.proofs.name_parts.are_alike_parts.Given as goal

abbrev pub invariant-loop-k : goal.invariant-loop-k
invariant-loop-k l = record {
  same : flat_map (λ p. p) (take l.k l.xs) ≡ flat_map (λ p. p) (take l.k l.ys);
  end : l.k-end ≡ length l.xs;
}
