use Rattle.std.proofs.Common.{None, refl}
use Rattle.std.specs.Prelude.{map, string_bytes}
use Rattle.cscout_run.specs.Noted.{note_text}
use Rattle.cscout_run.proofs.RunLemmas.{if_told}
use Rattle.cscout_run.proofs.noting.explain.Goals as goal

pub returns-in-Ok-clause-told : goal.returns-in-Ok-clause-told
returns-in-Ok-clause-told g c =
    let words = map string_bytes c.args.words.now in (note_text words c.in-Ok.note, c.tell_note.ensures, c.in-Ok.ensures.answer)

pub returns-in-Err-clause-told : goal.returns-in-Err-clause-told
returns-in-Err-clause-told g c =
    (None, (refl, refl), if_told (g.F.Files.told c.args.files.now).held _ (λ fs. (c.in-Err.ensures.stops, refl)))
