use Rattle.std.proofs.Common.{ap, List}
use Rattle.std.proofs.lemmas.Result.{on_ok_weaker}
use Rattle.c99_read.specs.State.{Names, Head}
use Rattle.c99_read.specs.contracts.names.NameTable.{the_view}
use Rattle.c99_read.proofs.HeadLemmas.{given_names-kept}
use Rattle.c99_read.proofs.names.NameTable.give_to.Goals as goal

pub returns-clause-ok : goal.returns-clause-ok
returns-clause-ok c =
    let names : Names = the_view c.self.inside in
    let with_heads : List Head → Names = λ h. record names { heads = h } in
    let found = rw (← c.self.view_is) at c.requires in
    let given : List Head = c.self.inside.heads.items in
    rw (← c.self.view_is)
    (on_ok_weaker c.give.result
    (λ e. ap with_heads (given_names-kept _ names.ended given c.args.k c.index_mut.result.now c.give.new.self found c.index_mut.ensures.value (rw (← c.as_slice.ensures.value) e)))
    c.give.ensures)
