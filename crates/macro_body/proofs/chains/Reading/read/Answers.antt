use Rattle.std.proofs.Common.{◌≡◌, ap, ◌∙◌}
use Rattle.std.specs.Prelude.{is_some}
use Rattle.macro_body.specs.Bodies.{lone_part, quote_or, quoted_parameter}
use Rattle.macro_body.specs.BodyParts.{part_as}
use Rattle.macro_body.proofs.ChainLemmas.{read-taken, read-part}
use Rattle.macro_body.proofs.chains.Reading.read.Goals as goal

pub returns-then-self : goal.returns-then-self
returns-then-self c = read-taken c.args.m.now c.args.tok.now c.args.behind.now c.args.self.now.operand c.args.self.now.taken c.args.self.now.chains.items c.if-self.true

pub returns : goal.returns
returns c =
    let takes : c.is_some-self.result ≡ is_some (quoted_parameter c.args.m.now c.args.tok.now c.args.behind.now) =
    c.is_some-self.ensures ∙ ap is_some c.quoted_parameter-quoted.ensures in
    let part : part_as c.in_ok-shared.field-0 c.role_of.result ≡ quote_or c.args.tok.now (lone_part c.args.m.now c.args.tok.now) (quoted_parameter c.args.m.now c.args.tok.now c.args.behind.now) =
    ap (λ t. part_as t c.role_of.result) c.in_ok-shared.ensures ∙ c.role_of.ensures
    ∙ ap (quote_or c.args.tok.now (lone_part c.args.m.now c.args.tok.now)) c.quoted_parameter-quoted.ensures in
    read-part c.args.m.now c.args.tok.now c.args.behind.now c.args.self.now.operand c.in_ok-self.field-0 c.args.self.now.taken c.is_some-self.result
    c.args.self.now.chains.items c.add_part.new.chains.items (part_as c.in_ok-shared.field-0 c.role_of.result) c.if-self.false takes part c.in_ok-self.ensures
