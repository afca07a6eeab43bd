use Rattle.std.proofs.Common.{◌≡◌, true, sym}
use Rattle.std.specs.Prelude.{◌||◌}
use Rattle.cs_base.specs.Reserved.{is_reserved_in}
use Rattle.part_respell.specs.Respelled.{spelled}
use Rattle.rename_rules.specs.LibraryNames.{is_closed_in}
use Rattle.offences.proofs.FirstLemmas.{then_none}
use Rattle.rename_rules.proofs.token_offences.reserved_in.Goals as goal

pub returns-then-is_reserved : goal.returns-then-is_reserved
returns-then-is_reserved c =
    let reserved : (is_reserved_in c.args.gnu c.args.tok.now.text || is_closed_in c.args.gnu (spelled c.args.class.now.members c.args.name.now c.args.tok.now)) ≡ true =
    rw (c.deref.ensures.value, c.in_ok-new.ensures) at (sym c.if-is_reserved.ensures) in
    rw reserved c.in_token.ensures

pub returns : goal.returns
returns c =
    let free = rw (c.deref.ensures.value, c.in_ok-new.ensures) at (sym c.if-is_reserved.ensures) in
    rw free (then_none c.args.a.now.value.table c.args.first)
