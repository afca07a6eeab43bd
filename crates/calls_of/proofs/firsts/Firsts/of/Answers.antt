use Rattle.std.proofs.Common.{Option, ap, ◌∙◌}
use Rattle.std.specs.Option.{option_or}
use Rattle.cs_base.specs.Token.{Token}
use Rattle.analysis.specs.Below.linkage_join.Linkage.{first_spelled, names_of}
use Rattle.analysis.specs.Links.{names_of_units}
use Rattle.calls_of.proofs.firsts.Firsts.of.Goals as goal

pub returns : goal.returns
returns c = λ project text.
    let us = c.args.all.now in
    c.in_ok-keep_units.ensures project text
    ∙ ap (λ (o : Option Token). option_or o (first_spelled text (names_of project (names_of_units c.args.units.now us)))) (c.new-firsts.ensures project text)
