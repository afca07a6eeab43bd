use Rattle.std.proofs.Common.{map}
use Rattle.list_cuts.specs.Cuts.{picked}
use Rattle.list_cuts.specs.Spans.{text_of, between}
use Rattle.list_cuts.proofs.WovenLemmas.{IsWoven}
use Rattle.list_cuts.proofs.rearranging.woven.Given as goal

abbrev pub invariant-loop-place : goal.invariant-loop-place
invariant-loop-place l = IsWoven (picked l.order (map (text_of l.bytes) l.list)) (between l.bytes l.list) l.out.items l.place
