use Rattle.std.proofs.Common.{Some, refl}
use Rattle.std.specs.Prelude.{map, string_bytes}
use Rattle.usage_notes.specs.Notes.{usage_note}
use Rattle.cscout_run.specs.declared.status.Status.TheVariants as status
use Rattle.cscout_run.proofs.NoteLemmas.{noted}
use Rattle.cscout_run.proofs.noting.note_on.Goals as goal

pub returns-in-Usage-clause-answer : goal.returns-in-Usage-clause-answer
returns-in-Usage-clause-answer g c =
    let words = map string_bytes c.args.words.now in
    noted (g.F.Files.told c.args.files.now).held words c.args.status status.Usage (Some (usage_note words)) c.in-Usage.is (λ fs. refl)
