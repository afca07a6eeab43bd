use Rattle.std.proofs.Common.{sym}
use Rattle.trim_rules.proofs.TrimmedLemmas.{parts-other, count-other, parts-one, count-one}
use Rattle.trim_rules.proofs.trimming.Gone.add.Goals as goal

pub returns-then-not-has-clause-parts : goal.returns-then-not-has-clause-parts
returns-then-not-has-clause-parts c = parts-other c.args.lines.now c.args.file.now c.args.item.now c.args.self.now.parts.items (sym c.if-not-has.ensures)

pub returns-then-not-has-clause-count : goal.returns-then-not-has-clause-count
returns-then-not-has-clause-count c = count-other c.args.lines.now c.args.file.now c.args.item.now c.args.self.now.count (sym c.if-not-has.ensures)

pub returns-clause-parts : goal.returns-clause-parts
returns-clause-parts c =
    parts-one c.args.lines.now c.args.file.now c.args.item.now c.args.self.now.parts.items c.push_parts.new.parts.items c.toks_in.result.now
    (sym c.if-not-has.ensures) c.toks_in.ensures c.in_ok-push_parts.ensures

pub returns-clause-count : goal.returns-clause-count
returns-clause-count c = count-one c.args.lines.now c.args.file.now c.args.item.now c.args.self.now.count (sym c.if-not-has.ensures)
