use Rattle.std.proofs.Common.{true, false, refl, sym}
use Rattle.template_rules.proofs.CoverLemmas.{declarations_told, no_declarations_told}
use Rattle.template_rules.proofs.TurnLemmas.{not_declaring}
use Rattle.template_rules.proofs.list_insides.declaration_in.Goals as goal

pub returns-then-not-declares_more : goal.returns-then-not-declares_more
returns-then-not-declares_more c ls moved =
    not_declaring c.args.a.now.value.table c.args.toks.now c.args.name (λ m. m.now) ls c.args.first (sym c.if-not-declares_more.ensures)

pub returns-then-holds : goal.returns-then-holds
returns-then-holds c ls moved =
    declarations_told c.args.a.now.value.table ls c.args.lists.now.lists.items moved c.args.first c.at_token.result true c.args.toks.now c.args.name
    (sym c.if-not-declares_more.ensures) c.if-holds.ensures refl c.at_token.ensures

pub returns-else-holds : goal.returns-else-holds
returns-else-holds c ls moved =
    no_declarations_told c.args.a.now.value.table ls c.args.lists.now.lists.items moved c.args.first c.args.first false c.args.toks.now c.args.name
    (sym c.if-not-declares_more.ensures) c.if-holds.ensures refl
