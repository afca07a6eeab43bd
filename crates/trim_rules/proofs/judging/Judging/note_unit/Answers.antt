use Rattle.std.proofs.Common.{◌∙◌, sym, ap}
use Rattle.std.specs.List.{list_any}
use Rattle.analysis.specs.Below.unit_steps.Texts.{UnitTextValue}
use Rattle.trim_rules.specs.JudgedLines.{is_open}
use Rattle.trim_rules.specs.Judging.{told_of}
use Rattle.trim_rules.proofs.JudgingLemmas.{unit-closed}
use Rattle.trim_rules.proofs.judging.Judging.note_unit.Goals as goal

pub returns-then-not-any_open : goal.returns-then-not-any_open
returns-then-not-any_open c =
    unit-closed c.args.a.now.value.table c.args.unit.now (told_of c.args.self.now.whys)
    (ap (λ (t : UnitTextValue). list_any (is_open (told_of c.args.self.now.whys)) t.events) (sym c.text.ensures)
    ∙ sym (ap (list_any (is_open (told_of c.args.self.now.whys))) c.events-events.ensures)
    ∙ sym c.if-not-any_open.ensures)

pub note_events-requires-clause-own : goal.note_events-requires-clause-own
note_events-requires-clause-own c =
    ap (λ (t : UnitTextValue). t.events) (c.in_ok-reasons.ensures.text ∙ sym c.text.ensures) ∙ sym c.events-events.ensures

pub returns : goal.returns
returns c = c.in_ok-note_events.ensures c.args.a.now.value.table c.args.unit.now c.in_ok-reasons.ensures.own
