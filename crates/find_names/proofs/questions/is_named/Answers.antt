use Rattle.std.proofs.Common.{◌≡◌, None, true, sym, ◌∙◌, subst}
use Rattle.cs_base.specs.declared.positions.Part.{Part}
use Rattle.cs_base.specs.declared.positions.Place.{Place}
use Rattle.analysis.specs.Analysis.{AnalysisValue}
use Rattle.analysis.specs.Naming.{Names}
use Rattle.analysis.specs.Places.{place_at}
use Rattle.class_marks.proofs.AnswerLemmas.{told}
use Rattle.find_names.specs.FileTokens.{is_part}
use Rattle.find_names.specs.Question.{IsNamed, NamesPart}
use Rattle.find_names.proofs.QuestionLemmas.{named_never, named_once}
use Rattle.find_names.proofs.TokenLemmas.{part_itself, same_part}
use Rattle.find_names.proofs.questions.is_named.Goals as goal

pub returns-in-Some : goal.returns-in-Some
returns-in-Some c =
    let a = c.args.a.now.value in
    let found = c.in-Some.found in
    let place : Place = place_at a.table c.args.part.start in
    let here : NamesPart a place found = subst (λ (p : Place). NamesPart a p found) c.place-line.ensures c.in-Some.ensures in
    told c.is_part.result (IsNamed a c.args.part)
    (λ yes. subst (λ (m : Part). NamesPart a place m) (same_part found c.args.part (sym c.is_part.ensures ∙ yes)) here)
    (λ not x.
    let same : found ≡ c.args.part = named_once a place.path place.line place.column found c.args.part here x in
    let itself : is_part found c.args.part ≡ true = subst (λ (m : Part). is_part found m ≡ true) same (part_itself found) in
    let answer = c.is_part.ensures in
    cc)

pub returns-in-None : goal.returns-in-None
returns-in-None c = λ x.
    let a = c.args.a.now.value in
    let place : Place = place_at a.table c.args.part.start in
    let none : Names a place.path place.line place.column None =
    subst (λ (p : Place). Names a p.path p.line p.column None) c.place-line.ensures c.in-None.ensures in
    named_never a place.path place.line place.column c.args.part none x
