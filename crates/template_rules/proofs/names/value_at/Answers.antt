use Rattle.std.proofs.Common.{◌≡◌, true, sym, ◌∙◌}
use Rattle.template_rules.specs.Functions.{holds_at}
use Rattle.template_rules.proofs.NameLemmas.{as_value, calling, declaring, not_held}
use Rattle.template_rules.proofs.names.value_at.Goals as goal

pub returns-then-not-holds_at : goal.returns-then-not-holds_at
returns-then-not-holds_at c =
    let unit = c.args.unit.now in
    not_held c.args.a.now.value.table unit.class.members unit.text.now.toks unit.bound.now.names c.args.name c.args.first unit.bound.now.calls
    (sym (rw c.toks.ensures at c.if-not-holds_at.ensures))

pub returns-then-declares_function : goal.returns-then-declares_function
returns-then-declares_function c =
    let unit = c.args.unit.now in
    declaring c.args.a.now.value.table unit.class.members unit.text.now.toks unit.bound.now.names c.args.name c.args.first unit.bound.now.calls
    (sym (rw c.toks.ensures at c.if-not-holds_at.ensures)) (sym c.if-declares_function.ensures)

pub returns-then-is_callee : goal.returns-then-is_callee
returns-then-is_callee c =
    let unit = c.args.unit.now in
    calling c.args.a.now.value.table unit.class.members unit.text.now.toks unit.bound.now.names c.args.name c.args.first unit.bound.now.calls
    (sym (rw c.toks.ensures at c.if-not-holds_at.ensures)) (sym c.if-declares_function.ensures) (sym (rw c.calls.ensures at c.if-is_callee.ensures))

pub returns : goal.returns
returns c =
    let unit = c.args.unit.now in
    as_value c.args.a.now.value.table unit.class.members unit.text.now.toks unit.bound.now.names c.args.name c.args.first unit.bound.now.calls c.at_token.result
    (sym (rw c.toks.ensures at c.if-not-holds_at.ensures)) (sym c.if-declares_function.ensures) (sym (rw c.calls.ensures at c.if-is_callee.ensures))
    (rw c.toks-2.ensures at c.at_token.ensures)
