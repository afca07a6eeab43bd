use Rattle.std.proofs.Common.{◌≡◌, ◌∙◌, IfOk, subst}
use Rattle.scope_bind.proofs.NamingLemmas.{function-lists}
use Rattle.scope_bind.proofs.naming.declarators_of.Goals as goal

pub returns : goal.returns
returns c =
    subst (λ ls. IfOk c.lists_of.result (λ v. v.items ≡ ls))
    (function-lists c.args.names.now c.in_ok-table.table c.args.lists.items (c.in_ok-table.ensures ∙ c.in_ok-functions.ensures))
    c.lists_of.ensures
