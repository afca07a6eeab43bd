use Rattle.std.proofs.Common.{◌∙◌}
use Rattle.name_chains.proofs.LinkedLemmas.{linked_found}
use Rattle.name_chains.proofs.chains.Chains.linked.Goals as goal

pub returns : goal.returns
returns c =
    rw (← c.self.view_is)
    (rw c.as_slice-2.ensures.value at c.declaration_at.ensures
    ∙ linked_found c.self.inside.toks.now c.self.inside.numbers.items c.self.invariant.numbered c.args.i c.self.inside.declared.items c.self.inside.linked
    c.self.invariant.joined c.linked_place-place.result (rw c.as_slice.ensures.value at c.linked_place-place.ensures))
