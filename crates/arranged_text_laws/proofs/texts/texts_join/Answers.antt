use Rattle.arranged_text_laws.proofs.JoinLemmas.{texts_join, logical_texts_join, files_begin}
use Rattle.arranged_text_laws.proofs.PlaceLemmas.{places_do_not_matter}
use Rattle.arranged_text_laws.proofs.texts.texts_join.Goals as goal

pub returns : goal.returns
returns c = record { texts = texts_join; logical = logical_texts_join; files = files_begin; places = places_do_not_matter }
