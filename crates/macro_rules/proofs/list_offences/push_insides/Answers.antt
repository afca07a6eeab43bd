use Rattle.std.proofs.Common.{◌≡◌, ◌+◌, ◌-◌, arith}
use Rattle.macro_rules.specs.FileOffences.{begin_of, end_of, inside_at}
use Rattle.macro_rules.proofs.WalkLemmas.{range_none}
use Rattle.macro_rules.proofs.list_offences.push_insides.Goals as goal

pub returns-then-begin-end : goal.returns-then-begin-end
returns-then-begin-end c =
    let begin = begin_of c.args.list.now in
    let end = end_of c.args.list.now in
    let none : end - (begin + 1) ≡ 0 = omega (arith, c.if-begin-end.true, c.begin_of-begin.ensures, c.end_of-end.ensures) in
    range_none (inside_at c.args.torn.now c.args.lines.now c.args.toks.now) (begin + 1) (end - (begin + 1)) c.args.out.now.items none
