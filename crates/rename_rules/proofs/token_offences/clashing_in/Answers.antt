use Rattle.std.proofs.Common.{◌∙◌}
use Rattle.rename_rules.specs.RenamingValue.{held}
use Rattle.offences.proofs.FirstLemmas.{then_none}
use Rattle.rename_rules.proofs.RespellingLemmas.{clash_told}
use Rattle.rename_rules.proofs.token_offences.clashing_in.Goals as goal

pub returns-then-is_clash : goal.returns-then-is_clash
returns-then-is_clash c =
    let class = c.args.renaming.now.class in
    let name = c.args.renaming.now.name in
    rw (clash_told class.members name (held class) c.args.tok.now c.table.result.now c.text.result.now c.deref.result.now _ c.table.ensures
    c.text.ensures.answer (c.deref.ensures.value ∙ rw (c.class.ensures, c.name.ensures) at c.in_ok-new.ensures) c.if-is_clash.ensures)
    (rw c.class-then-is_clash.ensures at c.in_token.ensures)

pub returns : goal.returns
returns c =
    let class = c.args.renaming.now.class in
    let name = c.args.renaming.now.name in
    rw (clash_told class.members name (held class) c.args.tok.now c.table.result.now c.text.result.now c.deref.result.now _ c.table.ensures
    c.text.ensures.answer (c.deref.ensures.value ∙ rw (c.class.ensures, c.name.ensures) at c.in_ok-new.ensures) c.if-is_clash.ensures)
    (then_none c.args.a.now.value.table c.args.first)
