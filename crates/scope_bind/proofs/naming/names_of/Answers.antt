use Rattle.std.proofs.Common.{◌≡◌, IfOk, subst}
use Rattle.scope_bind.proofs.NamingLemmas.{names-by}
use Rattle.scope_bind.proofs.naming.names_of.Goals as goal

pub returns : goal.returns
returns c =
    subst (λ ns. IfOk c.names_by.result (λ v. v.items ≡ ns))
    (names-by c.args.facts.now.facts c.declared.result.now c.occurrences.result.now c.in_ok-table.table c.in_ok-table.ensures
    c.declared.ensures c.occurrences.ensures) c.names_by.ensures
