use Rattle.std.proofs.Common.{sym, ap, ◌∙◌}
use Rattle.std.specs.Prelude.{slice_get}
use Rattle.name_chains.specs.Places.{is_member_of}
use Rattle.name_chains.proofs.Reversed.{filter_twice}
use Rattle.name_chains.proofs.chains.Chains.member.Goals as goal

pub returns : goal.returns
returns c =
    rw (← c.self.view_is)
    (rw c.as_slice.ensures.value at c.member_numbered.ensures
    ∙ ap (λ ds. slice_get ds c.args.n) (sym (filter_twice (is_member_of c.args.number) c.self.inside.declared.items)))
