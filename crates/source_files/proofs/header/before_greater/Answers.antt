use Rattle.std.proofs.Common.{sym, ◌∙◌}
use Rattle.source_files.proofs.HeaderLemmas.{before_greater-some, before_greater-none}
use Rattle.source_files.proofs.header.before_greater.Goals as goal

pub returns-then-ends_there : goal.returns-then-ends_there
returns-then-ends_there c =
    before_greater-some c.args.toks.now c.in-Some.front.now c.in-Some.last.now c.in-Some.ensures.cases.0 (sym c.ends_there.ensures ∙ c.if-ends_there.true)

pub returns-else-ends_there : goal.returns-else-ends_there
returns-else-ends_there c =
    before_greater-none c.args.toks.now c.in-Some.front.now c.in-Some.last.now c.in-Some.ensures.cases.0 (sym c.ends_there.ensures ∙ c.if-ends_there.false)
