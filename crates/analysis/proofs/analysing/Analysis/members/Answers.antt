use Rattle.std.proofs.Common.{◌≡◌, List, None, Some, sym, ap, subst, ◌∙◌}
use Rattle.cs_base.specs.declared.positions.Part.{Part}
use Rattle.analysis.specs.Analysed.{Analysed}
use Rattle.analysis.specs.Analysis.{AnalysisValue}
use Rattle.analysis.specs.Parts.{AreMembers, IsPart}
use Rattle.analysis.proofs.ClassLemmas.{part_held}
use Rattle.analysis.proofs.analysing.Analysis.members.Goals as goal

pub returns-in-Some : goal.returns-in-Some
returns-in-Some c =
    rw (← c.self.view_is)
    (subst (λ (parts : List Part). AreMembers c.self.inside.accepted c.args.part parts) (sym c.members.ensures)
    (c.self.invariant.listed.members c.args.part c.in-Some.class (sym c.in-Some.ensures.answer)))

pub returns-in-None : goal.returns-in-None
returns-in-None c =
    let own = c.self.invariant.own in
    let value : c.self.inside.accepted ≡ c.args.self.now.value = ap (λ (a : Analysed). a.value) c.self.view_is in
    let is : IsPart c.self.inside.accepted c.args.part = subst (λ (a : AnalysisValue). IsPart a c.args.part) (sym value) c.requires in
    let number = own.parts.each c.args.part (part_held c.self.inside.accepted c.self.inside.classes own c.args.part is) in
    let none : None ≡ Some number.0 = c.in-None.ensures.answer ∙ number.1 in
    absurd (cc)
