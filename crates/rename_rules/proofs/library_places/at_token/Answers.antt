use Rattle.std.proofs.Common.{sym}
use Rattle.offences.proofs.FirstLemmas.{then_none}
use Rattle.rename_rules.proofs.library_places.at_token.Goals as goal

pub returns-then-is_library_name : goal.returns-then-is_library_name
returns-then-is_library_name c =
    let named = rw (c.deref.ensures.value, c.in_ok-new.ensures, c.name.ensures, c.class-class.ensures) at (sym c.if-is_library_name.ensures) in
    rw named (rw c.class-class.ensures at c.in_token.ensures)

pub returns : goal.returns
returns c =
    let free = rw (c.deref.ensures.value, c.in_ok-new.ensures, c.name.ensures, c.class-class.ensures) at (sym c.if-is_library_name.ensures) in
    rw free (then_none c.args.a.now.value.table c.args.first)
