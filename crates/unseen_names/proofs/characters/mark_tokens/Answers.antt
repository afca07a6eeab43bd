use Rattle.std.proofs.Common.{take, refl, ap}
use Rattle.std.specs.List.{list_any}
use Rattle.unseen_names.specs.Unseen.{comes_from}
use Rattle.unseen_names.proofs.CharacterLemmas.{adds_all, adds_more, adds_none, adds_same}
use Rattle.unseen_names.proofs.characters.mark_tokens.Goals as goal

pub loop-tok-init : goal.loop-tok-init
loop-tok-init c = adds_none (λ p. list_any (comes_from p) (take 0 c.args.toks.now)) c.args.marks.now.items (λ p. refl)

pub loop-tok-preserved : goal.loop-tok-preserved
loop-tok-preserved c =
    let item = c.tok-item.result in
    adds_more (λ p x. comes_from p x) c.args.toks.now c.loop-tok.tok-index item c.args.marks.now.items c.loop-tok.marks.items
    c.mark_token.new.marks.items c.loop-tok-test.true c.loop-tok.invariant
    (adds_same (λ p. comes_from p item) _ c.loop-tok.marks.items c.mark_token.new.marks.items c.in_ok-mark_token.ensures (λ p. ap (comes_from p) c.tok-item.is))

pub returns : goal.returns
returns c =
    adds_all (λ p x. comes_from p x) c.args.toks.now c.loop-tok.tok-index c.args.marks.now.items c.loop-tok.marks.items c.loop-tok-test.false
    c.loop-tok.invariant
