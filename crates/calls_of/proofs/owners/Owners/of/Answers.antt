use Rattle.std.proofs.Common.{ap, ◌∙◌}
use Rattle.std.specs.Prelude.{Option}
use Rattle.std.specs.Option.{option_or}
use Rattle.cs_base.specs.Token.{Token}
use Rattle.calls_of.specs.Bodies.{owned_from, owner_of, owner_among}
use Rattle.calls_of.proofs.owners.Owners.of.Goals as goal

pub returns : goal.returns
unfolding owner_of
returns c =
    λ p. c.in_ok-keep_files.ensures p
    ∙ ap (λ (o : Option Token). option_or o (owner_among (owned_from 0 c.args.a.now.value.table) p)) (c.new-owners.ensures p)
