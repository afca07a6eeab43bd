use Rattle.std.proofs.Common.{refl, sym}
use Rattle.trim_plan.proofs.CompareLemmas.{alike-gone, alike-left}
use Rattle.trim_plan.proofs.comparing.is_alike.Goals as goal

pub returns-then-is_gone : goal.returns-then-is_gone
returns-then-is_gone c = λ passed gone count is. alike-gone gone count c.args.left.now c.args.u.now c.args.v.now c.args.k is (sym c.if-is_gone.ensures)

pub returns : goal.returns
returns c = λ passed gone count is.
    alike-left gone c.args.u.now c.args.v.now c.args.k c.text-had.result.now c.text-has.result.now c.toks-old.result.now c.toks-new.result.now c.bound-names.result.now
    c.bound-others.result.now c.text-had.ensures c.text-has.ensures c.toks-old.ensures c.toks-new.ensures c.bound-names.ensures c.bound-others.ensures
    (c.if-not-is_left_tok.ensures refl gone count is) (c.is_left_name.ensures passed gone count is)
