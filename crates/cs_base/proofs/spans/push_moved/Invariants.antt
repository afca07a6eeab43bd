use Rattle.std.proofs.Common.{◌≡◌, ◌++◌, take, map}
use Rattle.cs_base.specs.Spans.{moved}
use Rattle.cs_base.proofs.spans.push_moved.Given as goal

abbrev pub invariant-loop-span : goal.invariant-loop-span
invariant-loop-span l = l.spans.items ≡ l.initial.spans.items ++ map (moved l.from) (take l.span-index l.more)
