use Rattle.std.proofs.Common.{sym}
use Rattle.template_rules.specs.Functions.{is_named}
use Rattle.template_rules.proofs.FunctionLemmas.{one_more, one_there, one_other}
use Rattle.template_rules.proofs.functions.push.Goals as goal

pub returns-then-not-is_named : goal.returns-then-not-is_named
returns-then-not-is_named c =
    λ e. one_other c.args.out.now.items c.args.name.entity e (is_named c.args.class.now.members c.args.toks.now c.args.name) (sym c.if-not-is_named.ensures)

pub returns-then-has : goal.returns-then-has
returns-then-has c =
    λ e. one_there c.args.out.now.items c.args.name.entity e (is_named c.args.class.now.members c.args.toks.now c.args.name) (rw c.deref.ensures.value at (sym c.if-has.ensures))

pub returns : goal.returns
returns c =
    λ e. one_more c.args.out.now.items c.push.new.self.items c.args.name.entity e (is_named c.args.class.now.members c.args.toks.now c.args.name) c.in_ok-push.ensures.items
    (sym c.if-not-is_named.ensures)
