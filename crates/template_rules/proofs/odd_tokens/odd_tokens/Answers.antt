use Rattle.std.proofs.Common.{arith}
use Rattle.template_rules.specs.LineOffences.{odd_position, odd_positions}
use Rattle.template_rules.proofs.OddLemmas.{odd_files_next, odd_files_all}
use Rattle.template_rules.proofs.odd_tokens.odd_tokens.Goals as goal

pub loop-number-preserved : goal.loop-number-preserved
loop-number-preserved c =
    odd_files_next odd_position c.args.a.now.value.table c.loop-number.number c.loop-number.out.items c.push_odd_in.new.out.items
    (odd_positions c.args.a.now.value.table) (omega (arith, c.files-number-end.ensures.answer)) c.loop-number.invariant c.in_ok-push_odd_in.ensures

pub returns : goal.returns
returns c =
    odd_files_all odd_position c.args.a.now.value.table c.loop-number.number c.loop-number.out.items (odd_positions c.args.a.now.value.table)
    (omega (arith, c.files-number-end.ensures.answer)) c.loop-number.invariant
