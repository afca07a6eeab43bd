use Rattle.std.proofs.Common.{◌≡◌, ◌≤◌, length}
use Rattle.macro_expand.specs.Calls.{call_from}
use Rattle.macro_expand.proofs.CallLemmas.{in_front}
use Rattle.macro_expand.proofs.calls.take_call.Given as goal

abbrev pub invariant-toks : goal.invariant-toks
invariant-toks l = record {
  open_below : l.level ≤ length l.present.items;
  same : in_front l.finished.items l.present.items (call_from l.rest l.commas l.level) ≡ call_from l.fn.rest l.fn.commas 0;
}

abbrev pub decreases-toks : goal.decreases-toks
decreases-toks l = length l.rest
