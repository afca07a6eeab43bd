use Rattle.std.proofs.Common.{◌≡◌, length}
use Rattle.std.specs.Vec.Iter.{into_iter_items, into_iter_len}
use Rattle.macro_body.specs.Substitution.{chains_pasted}
use Rattle.macro_body.specs.Kept.{made_kept}
use Rattle.macro_body.proofs.MakingLemmas.{behind}
use Rattle.macro_body.proofs.pasting.chains_pasted.Given as goal

abbrev pub invariant-loop-chain : goal.invariant-loop-chain
invariant-loop-chain l = record {
  pasted : made_kept l.initial.notes (chains_pasted l.name l.fn.chains.items) ≡ behind l.all.items l.notes (chains_pasted l.name (into_iter_items l.chain-iterator));
  counted : into_iter_len l.chain-iterator ≡ length (into_iter_items l.chain-iterator);
}
