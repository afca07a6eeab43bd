use Rattle.std.proofs.Common.{◌≡◌, ℕ, List, sym, subst}
use Rattle.cs_base.specs.declared.positions.Part.{Part}
use Rattle.analysis.specs.Analysis.{AnalysisValue}
use Rattle.analysis.specs.Parts.{AreMembers, IsPart}
use Rattle.kept_analysis.specs.Following.{IsFollowed}
use Rattle.batch_run.proofs.StandingLemmas.{value_settled, renamed_is}
use Rattle.batch_run.proofs.standing.Standing.followed.Goals as goal

pub members-requires : goal.members-requires
members-requires c =
    let same = value_settled c.self.inside.analysis.value c.self.inside.ahead c.args.self c.self.view_is c.requires.settled in
    subst (λ (a : AnalysisValue). IsPart a c.args.part) (sym same) c.requires.part

pub invariant_of-result : goal.invariant_of-result
invariant_of-result c =
    let a : AnalysisValue = c.self.inside.analysis.value in
    let same = value_settled a c.self.inside.ahead c.args.self c.self.view_is c.requires.settled in
    let follows : IsFollowed a c.args.part c.args.name.now = subst (λ (b : AnalysisValue). IsFollowed b c.args.part c.args.name.now) (sym same) c.requires.follows in (
      subst (λ (text : List ℕ). IsFollowed a c.args.part text) (sym c.in_ok-name.ensures.items) follows,
      subst (λ (ms : List Part). AreMembers a c.args.part ms) (sym c.in_ok-members.ensures.items) c.members.ensures,
    )

pub returns : goal.returns
returns c =
    let a : AnalysisValue = c.self.inside.analysis.value in
    let same = value_settled a c.self.inside.ahead c.args.self c.self.view_is c.requires.settled in
    renamed_is a c.args.self.value c.args.part c.members.result.now c.in_ok-members.members.items c.args.name.now c.in_ok-name.name.items same c.members.ensures
    c.in_ok-members.ensures.items c.in_ok-name.ensures.items
