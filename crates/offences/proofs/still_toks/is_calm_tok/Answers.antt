use Rattle.std.proofs.Common.{◌≡◌, Option, length, ap, arith, subst, sym}
use Rattle.cs_base.specs.declared.positions.Pos.{Pos}
use Rattle.offences.specs.Still.{IsStill}
use Rattle.offences.proofs.StillLemmas.{all_still}
use Rattle.offences.proofs.still_toks.is_calm_tok.Goals as goal

pub returns-in-Some : goal.returns-in-Some
returns-in-Some c = λ calm.
    let m = c.args.moves.now in
    let t = c.args.tok.now in
    let same : length c.args.chars.now ≡ length t.text = ap length c.requires.same in
    all_still m t c.requires.sound
    (λ k less. subst (λ (o : Option Pos). IsStill m o) (sym (c.in-Some.ensures k less)) (c.is_calm.ensures calm k (omega (arith, less, same))))
