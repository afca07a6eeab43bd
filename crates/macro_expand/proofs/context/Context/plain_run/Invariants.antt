use Rattle.std.proofs.Common.{◌≡◌, ◌+◌, ◌≤◌, length, [], IsTrue}
use Rattle.macro_body.specs.declared.notes.Work.{Work}
use Rattle.macro_body.specs.Kept.{Kept, finished}
use Rattle.macro_body.specs.Sound.{all_sound}
use Rattle.macro_expand.specs.Going.{whole_in, plain}
use Rattle.macro_expand.proofs.context.Context.plain_run.Given as goal

-- What is left behind what was put out comes to what all comes to.
abbrev pub invariant-toks : goal.invariant-toks
invariant-toks l = record {
  same : (kept : Kept) (left : Work) → plain l.out.items (finished kept [] (whole_in l.self l.before l.rest left)) ≡ plain l.initial.out.items (finished kept [] (whole_in l.self l.initial.before l.initial.rest left));
  counted : l.before + length l.rest ≡ l.initial.before + length l.initial.rest;
  shorter : length l.rest ≤ length l.initial.rest;
  few : length l.out.items + length l.rest ≡ length l.initial.out.items + length l.initial.rest;
  sound : IsTrue (all_sound l.initial.rest) → IsTrue (all_sound l.rest);
}

abbrev pub decreases-toks : goal.decreases-toks
decreases-toks l = length l.rest
