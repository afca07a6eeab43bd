use Rattle.std.proofs.Common.{sym, ap, ◌∙◌}
use Rattle.std.specs.Prelude.{slice_get}
use Rattle.std.proofs.lemmas.Option.{none-some}
use Rattle.query_words.proofs.TellingLemmas.{same_decided}
use Rattle.query_words.proofs.told.Told.of.Goals as goal

pub returns : goal.returns
returns c = record {
  said = λ k facts holds spelling at. absurd (none-some _ (sym (ap (λ xs. slice_get xs k) c.new.ensures.items) ∙ at));
  unspelled = λ none facts spelling other. same_decided facts spelling other c.args.query.now (sym c.asks_spelling.ensures ∙ none);
}
