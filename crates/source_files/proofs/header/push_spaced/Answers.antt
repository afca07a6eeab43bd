use Rattle.source_files.proofs.HeaderLemmas.{spaced-all}
use Rattle.source_files.proofs.header.push_spaced.Goals as goal

pub returns : goal.returns
returns c = spaced-all c.loop-tok.text.items c.args.text.now.items c.args.toks.now c.loop-tok.tok-index c.loop-tok-test.false c.loop-tok.invariant
