use Rattle.arranged_text_laws.proofs.CalmLemmas.{calm_texts_settle}
use Rattle.arranged_text_laws.proofs.LeadLemmas.{leads_settle}
use Rattle.arranged_text_laws.proofs.PartLemmas.{parts_settle}
use Rattle.arranged_text_laws.proofs.texts.texts_settle.Goals as goal

pub returns : goal.returns
returns c = record { items = calm_texts_settle; leads = leads_settle; parts = parts_settle }
