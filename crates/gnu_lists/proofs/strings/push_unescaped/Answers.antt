use Rattle.gnu_lists.proofs.StringLemmas.{read_on, read_all}
use Rattle.gnu_lists.proofs.strings.push_unescaped.Goals as goal

pub loop-k-preserved : goal.loop-k-preserved
loop-k-preserved c =
    read_on c.loop-k.out.items c.push_given_at.new.out.items _ c.loop-k.escape c.step-escape.result c.args.text.now c.loop-k.k c.loop-k-test.true
    c.loop-k.invariant c.in_ok-push_given_at.ensures c.step-escape.ensures

pub returns : goal.returns
returns c = rw (read_all c.loop-k.out.items _ c.loop-k.escape c.args.text.now c.loop-k.k c.loop-k-test.false c.loop-k.invariant) at c.push_value.ensures
