use Rattle.std.proofs.Common.{length, ap, arith}
use Rattle.macro_expand.specs.Below.macro_body.Live.{table_of}
use Rattle.unit_steps.proofs.BeginningLemmas.{traced-first}
use Rattle.unit_steps.proofs.progress.Progress.begin.Goals as goal

pub returns-clause-able : goal.returns-clause-able
returns-clause-able c = record {
  few = omega (arith, ap (λ t. length t.toks) c.new-2.ensures);
  low = c.requires;
  little = omega arith;
  traced = traced-first c.args.gnu (table_of c.in_ok-first_macros.field-0) c.in_ok-first_macros.ensures;
}
