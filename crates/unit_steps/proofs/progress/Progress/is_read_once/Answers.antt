use Rattle.std.proofs.Common.{ℕ, ◌==◌, List, ◌∙◌, ap}
use Rattle.std.specs.List.{list_any}
use Rattle.unit_steps.proofs.progress.Progress.is_read_once.Goals as goal

pub returns : goal.returns
returns c = λ table. c.has_number.ensures ∙ ap (λ (ns : List ℕ). list_any (λ n. n == c.args.file) ns) c.as_slice.ensures.value
