use Rattle.std.proofs.Common.{◌<◌, ℕ, length, arith}
use Rattle.find_names.specs.Question.{IsWholeKeyword}
use Rattle.find_names.proofs.QuestionLemmas.{member_at, none_at_all, none_more}
use Rattle.find_names.proofs.questions.is_keyword_class.Goals as goal

pub is_whole_keyword-requires : goal.is_whole_keyword-requires
is_whole_keyword-requires c = record {
  part = (member_at c.args.a.now.value c.args.part c.args.members.now c.loop-member.member-index _ c.requires.members c.loop-member-test.true).is_part;
  tokens = c.requires.tokens;
}

pub returns-then-is_whole_keyword : goal.returns-then-is_whole_keyword
returns-then-is_whole_keyword c = record {
  member = _;
  is_member = member_at c.args.a.now.value c.args.part c.args.members.now c.loop-member.member-index _ c.requires.members c.loop-member-test.true;
  keyword = c.if-is_whole_keyword.ensures;
}

pub loop-member-preserved : goal.loop-member-preserved
loop-member-preserved c =
    none_more (IsWholeKeyword c.args.a.now.value) c.args.members.now c.loop-member.member-index _ c.loop-member-test.true c.if-is_whole_keyword.ensures
    c.loop-member.invariant

pub returns : goal.returns
returns c = λ x.
    none_at_all c.args.a.now.value c.args.part (IsWholeKeyword c.args.a.now.value) c.args.members.now c.requires.members
    (λ j within. c.loop-member.invariant j (omega (arith, within, c.loop-member-test.false))) x.member x.is_member x.keyword
