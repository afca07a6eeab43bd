use Rattle.std.proofs.Common.{◌-◌, inl, sym, ◌∙◌, arith}
use Rattle.std.proofs.lemmas.List.{reverse-reverse}
use Rattle.name_chains.proofs.ChainedMore.{none_before, before_place}
use Rattle.name_chains.proofs.chains.Chains.count_before.Goals as goal

pub returns-in-0 : goal.returns-in-0
returns-in-0 c depth from end =
    rw (← c.self.view_is)
    (rw (reverse-reverse c.self.inside.declared.items)
    (none_before c.self.inside.declared.items c.self.inside.ends.items c.args.to c.self.invariant.ended depth from end c.len-in-0.result
    (omega (arith, c.if-at-len.false, c.len.ensures, c.self.inside.ends.ok))
    (inl (sym (rw c.as_slice.ensures.value at c.place_at.ensures) ∙ c.in-0.is))))

pub returns-in_default : goal.returns-in_default
returns-in_default c depth from end =
    rw (← c.self.view_is)
    (rw (reverse-reverse c.self.inside.declared.items)
    (none_before c.self.inside.declared.items c.self.inside.ends.items c.args.to c.self.invariant.ended depth from end (c.place_at.result - 1)
    (omega (arith, c.if-at-len.false, c.len.ensures, c.self.inside.ends.ok))
    (before_place c.self.inside.ends.items c.args.to c.place_at.result (rw c.as_slice.ensures.value at c.place_at.ensures))))
