use Rattle.std.proofs.Common.{◌≡◌, true, None, Some, Err, refl, rules}
use Rattle.lexer.specs.Spelling.{is_identifier_text}
use Rattle.rename_rules.specs.Renaming.{IsClassRenamed, IsRenaming}
use Rattle.offences.specs.declared.refusals.Refusal.TheVariants.{NoName}
use Rattle.offences.specs.Refusals.{refusal_of}
use Rattle.offences.proofs.AnswerLemmas.{gives_also}
use Rattle.rename_plan.proofs.PlanLemmas.{named_part}
use Rattle.rename_plan.proofs.plan.plan_named.Goals as goal

pub returns-in-Some : goal.returns-in-Some
returns-in-Some c =
    let id : is_identifier_text c.args.name.now ≡ true = search rules in
    gives_also (λ edits. edits) refusal_of (IsClassRenamed c.args.a.now.value c.in-Some.part c.args.name.now c.args.strings)
    (IsRenaming c.args.a.now.value c.args.path.now c.args.line c.args.column c.args.name.now c.args.strings)
    (λ r h. named_part c.args.a.now.value c.args.path.now c.args.line c.args.column c.args.name.now c.args.strings (Some c.in-Some.part) r id c.in-Some.ensures h)
    c.plan_part.result c.plan_part.ensures

pub returns-in-None : goal.returns-in-None
returns-in-None c =
    let id : is_identifier_text c.args.name.now ≡ true = search rules in
    named_part c.args.a.now.value c.args.path.now c.args.line c.args.column c.args.name.now c.args.strings None (Err NoName) id c.in-None.ensures refl
