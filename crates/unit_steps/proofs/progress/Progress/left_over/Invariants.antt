use Rattle.std.proofs.Common.{◌≡◌, drop}
use Rattle.source_files.specs.Files.{Table}
use Rattle.unit_steps.specs.Conditions.{left_over}
use Rattle.unit_steps.specs.Answering.{left_kept}
use Rattle.unit_steps.specs.Moments.{state_in, IsAble}
use Rattle.unit_steps.proofs.progress.Progress.left_over.Given as goal

abbrev pub invariant-loop-tok : goal.invariant-loop-tok
invariant-loop-tok l = record {
  able : IsAble l.self;
  most : l.self.most ≡ l.fn.self.most;
  answer : (table : Table) → left_kept l.fn.self.text (left_over l.toks (state_in table l.fn.self)) ≡ left_kept l.self.text (left_over (drop l.tok-index l.toks) (state_in table l.self));
}
