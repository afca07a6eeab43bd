use Rattle.std.proofs.Common.{◌≡◌, true, length, take}
use Rattle.std.specs.Prelude.{is_some}
use Rattle.std.specs.List.{list_all}
use Rattle.macro_body.proofs.pasting.is_wholly_traced.Given as goal

abbrev pub invariant-loop-k : goal.invariant-loop-k
invariant-loop-k l = record {
  traced : list_all is_some (take l.k l.tok.origins) ≡ true;
  end : l.k-end ≡ length l.tok.origins;
}
