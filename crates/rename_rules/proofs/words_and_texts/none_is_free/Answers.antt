use Rattle.std.proofs.Common.{sym, arith}
use Rattle.rename_rules.specs.GnuTexts.{is_free}
use Rattle.rename_rules.proofs.QuietLemmas.{free_all, free_next}
use Rattle.rename_rules.proofs.words_and_texts.none_is_free.Goals as goal

pub loop-k-init : goal.loop-k-init
loop-k-init c = λ j less. absurd (omega (arith, less))

pub loop-k-preserved : goal.loop-k-preserved
loop-k-preserved c =
    free_next (is_free c.args.class.now.members c.args.bound.now.names c.args.toks.now) c.loop-k.k c.loop-k.invariant (sym c.if-is_free.ensures)
