use Rattle.std.proofs.Common.{◌∙◌, sym, ap}
use Rattle.c99_grammar.specs.Classes.{among}
use Rattle.c99_read.specs.Operators.{signs}
use Rattle.c99_read.proofs.OperatorLemmas.{goes-assign, goes-sign}
use Rattle.c99_read.proofs.reader.Reader.goes_on.Goals as goal

pub returns-then-is_assign : goal.returns-then-is_assign
returns-then-is_assign c =
    c.begins.ensures ∙ goes-assign c.args.dialect c.args.production c.args.self.now.state (sym c.is_assign.ensures ∙ c.if-is_assign.true)

pub returns-else-is_assign : goal.returns-else-is_assign
returns-else-is_assign c =
    c.is_sign.ensures
    ∙ ap (among (signs c.args.production)) c.class_here.ensures
    ∙ goes-sign c.args.dialect c.args.production c.args.self.now.state c.requires.binary (sym c.is_assign.ensures ∙ c.if-is_assign.false)
