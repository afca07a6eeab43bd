use Rattle.std.proofs.Common.{◌≡◌, Ok}
use Rattle.query_words.specs.Queries.{Query}
use Rattle.query_words.specs.Reading.{parsed}
use Rattle.query_words.specs.Telling.{AreTold}
use Rattle.find_names.proofs.FoundLemmas.{Shown}
use Rattle.find_names.proofs.found_classes.lines.Given as goal

abbrev pub invariant-loop-part : goal.invariant-loop-part
invariant-loop-part l = record {
  shown : (q : Query) → parsed l.query ≡ Ok q → Shown l.a.value q l.firsts l.part-index l.text.items;
  told : AreTold l.query l.told;
}
