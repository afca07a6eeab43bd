use Rattle.std.proofs.Common.{◌∙◌}
use Rattle.name_chains.proofs.LinkedLemmas.{other_told}
use Rattle.name_chains.proofs.chains.Chains.is_mixed.Goals as goal

pub returns : goal.returns
returns c =
    rw (← c.self.view_is)
    (rw c.as_slice.ensures.value at c.has_other.ensures
    ∙ other_told c.self.inside.toks.now c.self.inside.numbers.items c.self.invariant.numbered c.args.i c.self.inside.declared.items c.self.inside.linked
    c.self.invariant.joined c.args.linkage)
