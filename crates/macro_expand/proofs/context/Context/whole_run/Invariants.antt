use Rattle.std.proofs.Common.{◌≡◌, ◌+◌, ◌<◌, ◌≤◌, ◌^◌, length, [], IsTrue}
use Rattle.macro_body.specs.Kept.{finished}
use Rattle.macro_body.specs.Sound.{all_sound}
use Rattle.macro_expand.specs.Going.{whole_in, plain}
use Rattle.macro_expand.proofs.context.Context.whole_run.Given as goal

-- What is left behind what was put out comes to what all comes to.
abbrev pub invariant-toks : goal.invariant-toks
invariant-toks l = record {
  same : plain l.out.items (finished l.notes [] (whole_in l.self l.before l.rest l.work)) ≡ plain [] (finished l.initial.notes [] (whole_in l.self 0 l.fn.rest l.initial.work));
  fits : l.before + l.work.left + length l.rest < 2 ^ 32;
  falls : l.work.left ≤ l.initial.work.left;
  few : length l.out.items + l.work.left + length l.rest ≤ l.initial.work.left + length l.fn.rest;
  sound : IsTrue (all_sound l.rest);
}

abbrev pub decreases-toks : goal.decreases-toks
decreases-toks l = l.work.left + length l.rest
