use Rattle.std.proofs.Common.{◌≡◌, ◌++◌, drop, length}
use Rattle.std.specs.List.{flat_map}
use Rattle.cs_base.specs.Spans.{AreSpans}
use Rattle.paste_origin.specs.Strings.{later_spelling, later_origins}
use Rattle.paste_origin.specs.Told.{told_so_far}
use Rattle.paste_origin.proofs.strings.push_spellings.Given as goal

-- the tokens read so far are added
abbrev pub invariant-loop-tok : goal.invariant-loop-tok
invariant-loop-tok l = record {
  text : l.text.items ++ flat_map later_spelling (drop l.tok-index l.later) ≡ l.initial.text.items ++ flat_map later_spelling l.later;
  origins : told_so_far l.text.items l.spans.items ++ flat_map later_origins (drop l.tok-index l.later)
      ≡ told_so_far l.initial.text.items l.initial.spans.items ++ flat_map later_origins l.later;
  sound : AreSpans (length l.text.items) l.spans.items;
}
