use Rattle.std.proofs.Common.{◌≡◌, ◌++◌, take}
use Rattle.unit_steps.proofs.unit_text.pieces.push_links.Given as goal

abbrev pub invariant-loop-link : goal.invariant-loop-link
invariant-loop-link l = l.all.items ≡ l.initial.all.items ++ take l.link-index l.links
