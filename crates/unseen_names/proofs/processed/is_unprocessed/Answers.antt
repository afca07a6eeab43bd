use Rattle.std.proofs.Common.{sym, ◌∙◌}
use Rattle.class_marks.proofs.AnswerLemmas.{told_not}
use Rattle.unseen_names.specs.Unseen.{IsUnprocessed}
use Rattle.unseen_names.proofs.processed.is_unprocessed.Goals as goal

pub returns : goal.returns
returns c =
    let is = c.is_marked.ensures ∙ c.requires c.args.place.start in
    told_not c.is_marked.result (IsUnprocessed c.args.a.now.value c.args.place) (λ marked none. none (sym is ∙ marked))
    (λ unmarked some. cc)
