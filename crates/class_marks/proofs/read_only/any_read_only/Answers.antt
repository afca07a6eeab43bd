use Rattle.std.proofs.Common.{arith}
use Rattle.class_marks.proofs.ReadOnlyLemmas.{editable_more, none_read_only, read_only_member}
use Rattle.class_marks.proofs.read_only.any_read_only.Goals as goal

pub returns-then-is_read_only : goal.returns-then-is_read_only
returns-then-is_read_only c = λ part are.
    read_only_member c.args.a.now.value part c.args.members.now c.loop-member.member-index _ are c.loop-member-test.true c.if-is_read_only.ensures

pub loop-member-preserved : goal.loop-member-preserved
loop-member-preserved c =
    editable_more c.args.a.now.value c.args.members.now c.loop-member.member-index _ c.loop-member-test.true c.if-is_read_only.ensures
    c.loop-member.invariant

pub returns : goal.returns
returns c = λ part are.
    none_read_only c.args.a.now.value part c.args.members.now are (λ j within. c.loop-member.invariant j (omega (arith, within, c.loop-member-test.false)))
