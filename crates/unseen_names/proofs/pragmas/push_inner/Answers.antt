use Rattle.std.proofs.Common.{◌<◌, ◌++◌, length}
use Rattle.unseen_names.specs.Pragmas.{inner_words}
use Rattle.unseen_names.proofs.PragmaLemmas.{words_next}
use Rattle.unseen_names.proofs.pragmas.push_inner.Goals as goal

pub loop-k-preserved : goal.loop-k-preserved
loop-k-preserved c =
    let t = c.args.tok.now in
    let within : c.loop-k.k < length t.text = rw c.text-text.ensures.answer at c.loop-k-test.true in
    words_next c.args.name.now t c.loop-k.k within c.loop-k.out.items c.push_behind.new.out.items
    (c.args.out.now.items ++ inner_words c.args.name.now t) c.loop-k.invariant c.in_ok-push_behind.ensures
