use Rattle.std.proofs.Common.{◌<◌, ℕ, length, arith}
use Rattle.find_names.specs.Question.{IsNamed}
use Rattle.find_names.proofs.QuestionLemmas.{member_at, none_at_all, none_more}
use Rattle.find_names.proofs.questions.is_nameable.Goals as goal

pub is_named-requires : goal.is_named-requires
is_named-requires c = (member_at c.args.a.now.value c.args.part c.args.members.now c.loop-member.member-index _ c.requires c.loop-member-test.true).is_part

pub returns-then-is_named : goal.returns-then-is_named
returns-then-is_named c = record {
  member = _;
  is_member = member_at c.args.a.now.value c.args.part c.args.members.now c.loop-member.member-index _ c.requires c.loop-member-test.true;
  named = c.if-is_named.ensures;
}

pub loop-member-preserved : goal.loop-member-preserved
loop-member-preserved c =
    none_more (IsNamed c.args.a.now.value) c.args.members.now c.loop-member.member-index _ c.loop-member-test.true c.if-is_named.ensures
    c.loop-member.invariant

pub returns : goal.returns
returns c = λ x.
    none_at_all c.args.a.now.value c.args.part (IsNamed c.args.a.now.value) c.args.members.now c.requires
    (λ j within. c.loop-member.invariant j (omega (arith, within, c.loop-member-test.false))) x.member x.is_member x.named
