use Rattle.std.proofs.Common.{◌≡◌, ◌++◌, take}
use Rattle.std.specs.List.{flat_map}
use Rattle.source_files.specs.HeaderNames.{gap_text}
use Rattle.source_files.proofs.header.push_spaced.Given as goal

abbrev pub invariant-loop-tok : goal.invariant-loop-tok
invariant-loop-tok l = l.text.items ≡ l.initial.text.items ++ flat_map (λ t. gap_text t.gap ++ t.text) (take l.tok-index l.toks)
