use Rattle.std.proofs.Common.{◌≡◌, take}
use Rattle.std.specs.List.{flat_map}
use Rattle.unit_steps.specs.Keeping.{noted_in}
use Rattle.unit_steps.proofs.DefiningLemmas.{use_links}
use Rattle.unit_steps.proofs.directives.link_body.Given as goal

abbrev pub invariant-loop-tok : goal.invariant-loop-tok
invariant-loop-tok l = l.text ≡ noted_in l.initial.text (flat_map (use_links l.params) (take l.tok-index l.body))
