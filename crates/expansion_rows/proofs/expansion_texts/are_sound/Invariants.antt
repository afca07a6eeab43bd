use Rattle.std.proofs.Common.{◌≡◌, ◌&&◌, true, take}
use Rattle.std.specs.List.{list_all}
use Rattle.macro_body.specs.Sound.{is_traced, is_low}
use Rattle.expansion_rows.proofs.expansion_texts.are_sound.Given as goal

abbrev pub invariant-loop-tok : goal.invariant-loop-tok
invariant-loop-tok l = list_all (λ t. is_traced t && is_low t) (take l.tok-index l.toks) ≡ true
