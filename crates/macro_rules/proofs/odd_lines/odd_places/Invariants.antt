use Rattle.std.proofs.Common.{◌≡◌, take}
use Rattle.std.specs.List.{flat_map}
use Rattle.macro_rules.specs.FileOffences.{odd_place}
use Rattle.macro_rules.proofs.odd_lines.odd_places.Given as goal

abbrev pub invariant-loop-tok : goal.invariant-loop-tok
invariant-loop-tok l = l.out.items ≡ flat_map odd_place (take l.tok-index l.toks)
