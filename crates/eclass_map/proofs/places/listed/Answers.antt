use Rattle.std.proofs.Common.{◌≡◌, ◌+◌, [], ◌∷◌, ◌++◌, suc, take, get_or, sym, ap, ◌∙◌, arith}
use Rattle.std.proofs.Math.Seq.{take-suc}
use Rattle.eclass_map.specs.ClassTable.{nowhere}
use Rattle.eclass_map.proofs.places.listed.Goals as goal

pub loop-k-preserved : goal.loop-k-preserved
loop-k-preserved c =
    let all = c.args.positions.now in
    let k = c.loop-k.k in
    let e : suc k ≡ k + 1 = omega arith in
    c.push_one.ensures
    ∙ ap (λ v. v ++ get_or all k nowhere ∷ []) (c.reserve.ensures.list ∙ c.loop-k.invariant)
    ∙ sym (take-suc all k nowhere c.loop-k-test.true)
    ∙ ap (λ n. take n all) e
