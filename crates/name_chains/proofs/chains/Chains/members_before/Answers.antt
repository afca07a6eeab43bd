use Rattle.std.proofs.Common.{sym, ap, ◌∙◌}
use Rattle.name_chains.specs.Places.{is_member_of, place_of}
use Rattle.name_chains.proofs.Reversed.{filter_twice}
use Rattle.name_chains.proofs.chains.Chains.members_before.Goals as goal

pub returns : goal.returns
returns c =
    rw (← c.self.view_is)
    (rw c.as_slice.ensures.value at c.members_before.ensures
    ∙ ap (λ ds. place_of ds c.args.name_at) (sym (filter_twice (is_member_of c.args.number) c.self.inside.declared.items)))
