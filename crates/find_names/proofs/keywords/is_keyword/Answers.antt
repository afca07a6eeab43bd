use Rattle.std.proofs.Common.{sym, ◌∙◌}
use Rattle.find_names.proofs.KeywordLemmas.{no_keyword}
use Rattle.find_names.proofs.keywords.is_keyword.Goals as goal

pub returns-then-not-is_some_keyword : goal.returns-then-not-is_some_keyword
returns-then-not-is_some_keyword c = sym (no_keyword c.args.units.now c.args.text.now (sym c.is_some_keyword.ensures ∙ c.if-not-is_some_keyword.true))
