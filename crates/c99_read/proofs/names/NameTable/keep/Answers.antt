use Rattle.std.proofs.Common.{sym, ap, ◌∙◌, List}
use Rattle.c99_read.specs.State.{Names, Head}
use Rattle.c99_read.proofs.HeadLemmas.{given_names-none}
use Rattle.c99_read.proofs.names.NameTable.keep.Goals as goal

pub returns-in-None-clause-ok : goal.returns-in-None-clause-ok
returns-in-None-clause-ok c =
    let with_heads : List Head → Names = λ h. record c.args.self.now { heads = h } in
    ap with_heads (sym (given_names-none _ _ _ (sym c.head_here.ensures ∙ c.in-None.is)))
