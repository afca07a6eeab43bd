use Rattle.std.proofs.Common.{◌≡◌, ◌++◌, drop, length}
use Rattle.std.specs.List.{flat_map}
use Rattle.cs_base.specs.Spans.{AreSpans}
use Rattle.paste_origin.specs.Strings.{escaped, spelling_of, origins_of, origins_along}
use Rattle.paste_origin.specs.Told.{told_so_far}
use Rattle.paste_origin.proofs.strings.push_quoted.Given as goal

-- the characters before this one are added
abbrev pub invariant-loop-k : goal.invariant-loop-k
invariant-loop-k l = record {
  text : l.text.items ++ flat_map (escaped l.tok.kind) (drop l.k l.tok.text) ≡ l.initial.text.items ++ spelling_of l.tok;
  origins : told_so_far l.text.items l.spans.items ++ origins_along l.tok.kind (drop l.k l.tok.text) (drop l.k l.tok.origins)
      ≡ told_so_far l.initial.text.items l.initial.spans.items ++ origins_of l.tok;
  sound : AreSpans (length l.text.items) l.spans.items;
  each : length l.tok.origins ≡ length l.tok.text;
  end : l.k-end ≡ length l.tok.text;
}
