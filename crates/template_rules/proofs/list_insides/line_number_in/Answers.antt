use Rattle.std.proofs.Common.{true, false, refl, sym}
use Rattle.template_rules.proofs.CoverLemmas.{no_numbers_told, numbers_told}
use Rattle.template_rules.proofs.TurnLemmas.{not_numbered}
use Rattle.template_rules.proofs.list_insides.line_number_in.Goals as goal

pub returns-then-not-is_line_number : goal.returns-then-not-is_line_number
returns-then-not-is_line_number c ls moved =
    not_numbered c.args.a.now.value.table c.args.event.now (λ m. m.now) ls c.args.first (sym c.if-not-is_line_number.ensures)

pub returns-then-holds : goal.returns-then-holds
returns-then-holds c ls moved =
    numbers_told c.args.a.now.value.table ls c.args.lists.now.lists.items moved c.args.first c.first_with.result true c.args.event.now
    (sym c.if-not-is_line_number.ensures) c.if-holds.ensures refl c.first_with.ensures

pub returns-else-holds : goal.returns-else-holds
returns-else-holds c ls moved =
    no_numbers_told c.args.a.now.value.table ls c.args.lists.now.lists.items moved c.args.first c.args.first false c.args.event.now
    (sym c.if-not-is_line_number.ensures) c.if-holds.ensures refl
