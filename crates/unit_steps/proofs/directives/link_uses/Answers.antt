use Rattle.std.proofs.Common.{List, ◌∙◌, ap}
use Rattle.cs_base.specs.Token.{Token}
use Rattle.unit_steps.specs.Names.{spelled_in}
use Rattle.unit_steps.proofs.DefiningLemmas.{uses-all}
use Rattle.unit_steps.proofs.directives.link_uses.Goals as goal

pub returns : goal.returns
returns c =
    uses-all c.args.text.now c.link_body.new.text c.args.m.now c.in_ok-params.params c.as_slice-2.result.now c.as_slice-2.ensures
    (λ text. c.in_ok-params.ensures text ∙ ap (λ (ps : List Token). spelled_in ps text) c.as_slice.ensures) c.in_ok-link_body.ensures
