use Rattle.std.proofs.Common.{◌≡◌, [], length}
use Rattle.std.specs.Vec.Iter.{into_iter_items, into_iter_len}
use Rattle.macro_body.specs.Substitution.{chain_pasted}
use Rattle.macro_body.specs.Kept.{made_kept}
use Rattle.macro_body.proofs.pasting.chain_pasted.Given as goal

abbrev pub invariant-loop-operand : goal.invariant-loop-operand
invariant-loop-operand l = record {
  pasted : made_kept l.initial.notes (chain_pasted l.name [] l.fn.chain) ≡ made_kept l.notes (chain_pasted l.name l.left.items (into_iter_items l.operand-iterator));
  counted : into_iter_len l.operand-iterator ≡ length (into_iter_items l.operand-iterator);
}
