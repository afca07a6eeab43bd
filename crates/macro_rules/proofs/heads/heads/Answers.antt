use Rattle.std.proofs.Common.{arith}
use Rattle.macro_rules.specs.Files.{in_files, in_items}
use Rattle.macro_rules.specs.Macros.{in_define, own_head}
use Rattle.macro_rules.proofs.WalkLemmas.{files_next, files_all}
use Rattle.macro_rules.proofs.heads.heads.Goals as goal

pub loop-number-preserved : goal.loop-number-preserved
loop-number-preserved c =
    files_next (in_items (in_define (own_head c.args.macros.now))) c.args.a.now.value.table c.loop-number.number c.loop-number.out.items c.push_numbered.new.out.items (in_files (in_items (in_define (own_head c.args.macros.now))) c.args.a.now.value.table)
    (omega (arith, c.files-number-end.ensures.answer)) c.loop-number.invariant c.in_ok-push_numbered.ensures

pub returns : goal.returns
returns c =
    files_all (in_items (in_define (own_head c.args.macros.now))) c.args.a.now.value.table c.loop-number.number c.loop-number.out.items (in_files (in_items (in_define (own_head c.args.macros.now))) c.args.a.now.value.table)
    (omega (arith, c.files-number-end.ensures.answer)) c.loop-number.invariant
