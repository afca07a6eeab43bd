use Rattle.std.proofs.Common.{◌≡◌, ◌∷◌, [], rules, Ok}
use Rattle.cs_base.specs.Answer.{result_map_err}
use Rattle.paste_origin.specs.Pasting.{glue_of}
use Rattle.macro_body.specs.Hides.{hidden, in_both}
use Rattle.macro_body.specs.Notes.{NotOneToken, Pasted}
use Rattle.macro_body.specs.Substitution.{put_in}
use Rattle.macro_body.specs.Kept.{kept_with}
use Rattle.macro_body.proofs.PastingLemmas.{token-is}
use Rattle.macro_body.proofs.pasting.token_pasted.Goals as goal

pub returns : goal.returns
returns c =
    let name = c.args.name.now in
    let x = c.args.x.now in
    let y = c.args.y.now in
    let glued : result_map_err (λ _. NotOneToken name.at) (glue_of x.tok y.tok) ≡ Ok c.in_ok-glued.glued = search rules in
    let made : c.in_ok-made.made ≡ put_in name x.tok.gap c.in_ok-glued.glued = search rules in
    let hides : c.in_ok-common.field-0 ≡ in_both x.hides y.hides = search rules in
    let value : c.new.result ≡ hidden c.in_ok-made.made c.in_ok-common.field-0 = search rules in
    let notes : c.note_pasted.new.self ≡ kept_with c.args.notes.now (Pasted x.tok y.tok c.in_ok-made.made ∷ []) = c.in_ok-note_pasted.ensures x.tok y.tok in
    record {
      answer = token-is name x y (glue_of x.tok y.tok) c.in_ok-glued.glued c.in_ok-made.made c.in_ok-common.field-0 c.args.notes.now c.note_pasted.new.self c.new.result glued made hides value notes;
    }
