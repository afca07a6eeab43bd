use Rattle.std.proofs.Common.{ap, ◌∙◌, List, ℕ, length}
use Rattle.std.specs.Prelude.{filter}
use Rattle.query_words.specs.PlaceMarks.{is_kept}
use Rattle.query_words.specs.Steps.{put}
use Rattle.query_words.proofs.LawLemmas.{least_first}
use Rattle.query_words.proofs.steps.spelled.Goals as goal

pub returns : goal.returns
returns c = λ facts spelling values.
    let least = c.count_kept-least.ensures ∙ ap (λ (xs : List ℕ). length (filter is_kept xs)) c.deref.ensures.value in
    ap (put values) (least_first c.in_ok-bytes.bytes.items c.args.pattern.now spelling c.count_kept-least.result least c.in_ok-bytes.ensures)
