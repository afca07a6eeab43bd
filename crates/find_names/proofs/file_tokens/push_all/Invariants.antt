use Rattle.std.proofs.Common.{◌≡◌, ◌||◌, take, drop}
use Rattle.std.specs.List.{list_any}
use Rattle.cs_base.specs.declared.positions.Part.{Part}
use Rattle.find_names.specs.FileTokens.{has_span, is_span}
use Rattle.find_names.proofs.file_tokens.push_all.Given as goal

abbrev pub invariant-loop-tok : goal.invariant-loop-tok
invariant-loop-tok l =
    (part : Part) → has_span l.spans.items part ≡ (has_span l.initial.spans.items part || list_any (is_span part) (take l.tok-index l.toks))
