use Rattle.std.proofs.Common.{sym}
use Rattle.std.proofs.lemmas.Bool.{eqb-true, eqb-false}
use Rattle.trim_rules.proofs.TrimmedLemmas.{none-trimmed, some-trimmed}
use Rattle.trim_rules.proofs.trimming.trimmed.Goals as goal

pub returns-then-is_empty : goal.returns-then-is_empty
returns-then-is_empty c =
    none-trimmed c.args.lines.now c.args.file.now c.in_ok-gone.gone.count c.in_ok-gone.ensures.count_is
    (eqb-true c.in_ok-gone.gone.count 0 (sym c.if-is_empty.ensures))

pub returns : goal.returns
returns c =
    some-trimmed c.args.lines.now c.args.file.now c.in_ok-gone.gone.parts.items c.in_ok-gone.gone.count c.in_ok-bytes.bytes.items
    c.in_ok-gone.ensures.parts_are c.in_ok-gone.ensures.count_is (eqb-false c.in_ok-gone.gone.count 0 (sym c.if-is_empty.ensures)) (rw c.deref.ensures.value at c.in_ok-bytes.ensures)
