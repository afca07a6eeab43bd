use Rattle.reordered_text_laws.proofs.TidyLemmas.{cuts_are_tidied, tidied_cuts_arrange}
use Rattle.reordered_text_laws.proofs.cuts.cuts_are_tidied.Goals as goal

pub returns : goal.returns
returns g c = record { tidied = cuts_are_tidied; arranged = tidied_cuts_arrange }
