use Rattle.std.proofs.Common.{ap, ◌∙◌, arith}
use Rattle.std.specs.Prelude.{length}
use Rattle.std.proofs.lemmas.List.{length-set}
use Rattle.offences.proofs.PutLemmas.{marks_none, marks_more, marks_end}
use Rattle.offences.proofs.puts.mark.Goals as goal

pub loop-o-init : goal.loop-o-init
loop-o-init c = record { marked = marks_none c.args.member c.args.puts.now.items; end = omega arith; all = λ i. length c.args.puts.now.items }

pub loop-o-preserved : goal.loop-o-preserved
loop-o-preserved c = record {
  marked = marks_more c.args.member c.loop-o.o c.args.puts.now.items c.loop-o.puts.items c.set.new.puts.items c.put_of.result c.put_of.ensures c.set.ensures c.loop-o.invariant.marked;
  end = omega (arith, c.loop-o-test.true);
  all = ap length c.set.ensures ∙ (length-set c.loop-o.puts.items _ c.put_of.result ∙ c.loop-o.invariant.all);
}

pub returns-clause-marked : goal.returns-clause-marked
returns-clause-marked c = marks_end c.args.member c.loop-o.o c.args.puts.now.items c.loop-o.puts.items c.loop-o-test.false c.loop-o.invariant.end c.loop-o.invariant.marked
