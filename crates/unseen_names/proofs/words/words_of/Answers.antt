use Rattle.std.proofs.Common.{arith}
use Rattle.unseen_names.specs.Words.{edited_words, words_of}
use Rattle.unseen_names.proofs.WalkLemmas.{files_next, files_all}
use Rattle.unseen_names.proofs.words.words_of.Goals as goal

pub loop-number-preserved : goal.loop-number-preserved
loop-number-preserved c =
    let a = c.args.a.now.value in
    files_next (edited_words a c.args.source c.args.name.now) a.table c.loop-number.number c.loop-number.out.items c.push_numbered.new.out.items
    (words_of a c.args.source c.args.name.now) (omega (arith, c.files-number-end.ensures.answer)) c.loop-number.invariant c.in_ok-push_numbered.ensures

pub returns : goal.returns
returns c =
    let a = c.args.a.now.value in
    files_all (edited_words a c.args.source c.args.name.now) a.table c.loop-number.number c.loop-number.out.items (words_of a c.args.source c.args.name.now)
    (omega (arith, c.files-number-end.ensures.answer)) c.loop-number.invariant
