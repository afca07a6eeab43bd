use Rattle.std.proofs.Common.{◌≡◌, ◌+◌, ap, ◌∙◌, arith}
use Rattle.c99_grammar.specs.Standard.{grammar}
use Rattle.c99_read.specs.Kept.{class_among}
use Rattle.c99_read.proofs.ahead.moved_on.Goals as goal

pub returns : goal.returns
returns c =
    let further : c.args.at + 2 ≡ c.args.at + 1 + 1 = omega arith in
    record {
      here = c.requires.ahead_of.behind;
      behind = c.class_at.ensures ∙ ap (class_among (grammar c.args.dialect) c.args.toks.now c.args.visible.now) further;
    }
