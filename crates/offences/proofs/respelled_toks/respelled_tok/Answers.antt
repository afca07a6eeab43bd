use Rattle.std.proofs.Common.{◌≡◌, ◌++◌, ℕ, List, Option, length, ap, sym, subst, ◌∙◌}
use Rattle.cs_base.specs.declared.positions.Pos.{Pos}
use Rattle.cs_base.specs.Token.{IsTraced}
use Rattle.offences.specs.Moves.{spell_by, trace_by}
use Rattle.offences.proofs.TokLemmas.{as_long, new_traced}
use Rattle.offences.proofs.respelled_toks.respelled_tok.Goals as goal

pub tok_of-requires-clause-each : goal.tok_of-requires-clause-each
tok_of-requires-clause-each c =
    let m = c.args.moves.now in
    let t = c.args.tok.now in
    let spelled : c.as_slice.result.now ≡ spell_by m t.origins t.text =
    c.as_slice.ensures.value ∙ (c.in_ok-respell.ensures.text ∙ ap (λ (w : List ℕ). w ++ spell_by m t.origins t.text) c.clear.ensures.items) in
    let traced : c.as_slice-2.result.now ≡ trace_by m t.origins t.text =
    c.as_slice-2.ensures.value ∙ (c.in_ok-respell.ensures.origins ∙ ap (λ (w : List (Option Pos)). w ++ trace_by m t.origins t.text) c.clear-2.ensures.items) in
    ap length traced ∙ (as_long m t.origins t.text c.text.ensures.sound.each ∙ sym (ap length spelled))

pub tok_of-requires-clause-traced : goal.tok_of-requires-clause-traced
tok_of-requires-clause-traced c =
    let m = c.args.moves.now in
    let t = c.args.tok.now in
    let traced : c.as_slice-2.result.now ≡ trace_by m t.origins t.text =
    c.as_slice-2.ensures.value ∙ (c.in_ok-respell.ensures.origins ∙ ap (λ (w : List (Option Pos)). w ++ trace_by m t.origins t.text) c.clear-2.ensures.items) in
    subst (λ (os : List (Option Pos)). IsTraced t.kind os) (sym traced) (new_traced m t c.text.ensures.sound)
