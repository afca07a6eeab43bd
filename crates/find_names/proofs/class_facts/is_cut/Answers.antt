use Rattle.std.proofs.Common.{◌<◌, ℕ, length, arith}
use Rattle.cs_base.specs.declared.positions.Part.{Part}
use Rattle.analysis.specs.FileTokens.{IsFileToken}
use Rattle.find_names.proofs.QuestionLemmas.{member_at, none_at_all, none_more}
use Rattle.find_names.proofs.class_facts.is_cut.Goals as goal

pub returns-then-not-has : goal.returns-then-not-has
returns-then-not-has c = record {
  member = _;
  is_member = member_at c.args.a.now.value c.args.part c.args.members.now c.loop-member.member-index _ c.requires.members c.loop-member-test.true;
  cut = c.if-not-has.ensures;
}

pub loop-member-preserved : goal.loop-member-preserved
loop-member-preserved c =
    none_more (λ (m : Part). IsFileToken c.args.a.now.value m → ⊥) c.args.members.now c.loop-member.member-index _ c.loop-member-test.true (λ not. not c.if-not-has.ensures)
    c.loop-member.invariant

pub returns : goal.returns
returns c = λ x.
    none_at_all c.args.a.now.value c.args.part (λ (m : Part). IsFileToken c.args.a.now.value m → ⊥) c.args.members.now c.requires.members
    (λ j within. c.loop-member.invariant j (omega (arith, within, c.loop-member-test.false))) x.member x.is_member x.cut
