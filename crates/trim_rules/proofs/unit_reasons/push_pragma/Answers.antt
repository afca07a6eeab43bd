use Rattle.std.proofs.Common.{rules, sym}
use Rattle.trim_rules.proofs.HeldLemmas.{pragma-other, pragma-one}
use Rattle.trim_rules.proofs.unit_reasons.push_pragma.Goals as goal

pub returns-then-not-is_pragma : goal.returns-then-not-is_pragma
returns-then-not-is_pragma c = pragma-other c.args.a.now.value.table c.args.one.now c.args.counts.now.items (sym c.if-not-is_pragma.ensures)

pub returns : goal.returns
returns c =
    pragma-one c.args.a.now.value.table c.args.one.now c.args.counts.now.items c.push.new.self.items (sym c.if-not-is_pragma.ensures) (search rules)
