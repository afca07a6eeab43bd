use Rattle.std.proofs.Common.{◌≡◌, ℕ, List, None, Some, sym, ap, subst, ◌∙◌}
use Rattle.analysis.specs.Analysis.{AnalysisValue}
use Rattle.kept_analysis.specs.Following.{IsFollowed}
use Rattle.batch_run.specs.Standing.{IsAhead, StandingValue, settled_value, standing_value}
use Rattle.batch_run.proofs.StandingLemmas.{renamed_at}
use Rattle.batch_run.proofs.standing.Standing.settled.Goals as goal

pub returns-in-None : goal.returns-in-None
returns-in-None c =
    let a : AnalysisValue = c.self.inside.analysis.value in
    c.at.ensures ∙ ap (λ (v : StandingValue). settled_value v.value) (ap (standing_value a) (sym c.in-None.is) ∙ c.self.view_is)

pub advance-requires : goal.advance-requires
advance-requires c =
    let a : AnalysisValue = c.self.inside.analysis.value in
    let r = c.in-Some.ahead in
    let held : IsAhead a (Some r) = subst (IsAhead a) c.in-Some.is c.self.invariant in
    subst (λ (name : List ℕ). IsFollowed a r.part name) (sym c.as_slice.ensures.value) held.0

pub returns-in_ok-analysis-in-Some : goal.returns-in_ok-analysis-in-Some
returns-in_ok-analysis-in-Some c =
    let a : AnalysisValue = c.self.inside.analysis.value in
    let r = c.in-Some.ahead in
    let held : IsAhead a (Some r) = subst (IsAhead a) c.in-Some.is c.self.invariant in
    c.at-in-Some.ensures
    ∙ ap settled_value (c.in_ok-analysis-in-Some.ensures.answer r.members.items held.1 ∙ ap (renamed_at a r.members.items) c.as_slice.ensures.value)
    ∙ ap (λ (v : StandingValue). settled_value v.value) (ap (standing_value a) (sym c.in-Some.is) ∙ c.self.view_is)
