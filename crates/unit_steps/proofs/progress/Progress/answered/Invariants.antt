use Rattle.std.proofs.Common.{◌≡◌, length}
use Rattle.source_files.specs.Files.{Table}
use Rattle.unit_steps.specs.Answering.{asked_in, behind}
use Rattle.unit_steps.specs.Moments.{state_in, IsAble}
use Rattle.unit_steps.proofs.progress.Progress.answered.Given as goal

abbrev pub invariant-pieces : goal.invariant-pieces
invariant-pieces l = record {
  able : IsAble l.self;
  most : l.self.most ≡ l.fn.self.most;
  answer : (table : Table) → asked_in l.fn.self.text 0 l.fn.toks (state_in table l.fn.self) ≡ behind l.out.items (asked_in l.self.text 0 l.rest (state_in table l.self));
}

abbrev pub decreases-pieces : goal.decreases-pieces
decreases-pieces l = length l.rest
