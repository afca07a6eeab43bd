use Rattle.std.proofs.Common.{◌≡◌, Ok}
use Rattle.unit_steps.specs.State.{State}
use Rattle.include_tree.specs.Walk.{file_end}
use Rattle.unit_steps.specs.Texts.{UnitTextValue}
use Rattle.unit_steps.specs.Keeping.{put_after}
use Rattle.source_files.specs.Sources.{source_at}
use Rattle.include_tree.proofs.StayingLemmas.{some_all}
use Rattle.include_tree.proofs.WalkedLemmas.{none-open, end-none}
use Rattle.include_tree.proofs.walking.file_end.Goals as goal

pub returns-in-None-clause-answer : goal.returns-in-None-clause-answer
returns-in-None-clause-answer c =
    some_all (source_at c.args.cache.now.table c.args.number)
    (λ file. (s : State) (k : UnitTextValue) → put_after k (file_end file c.args.sections.now s) ≡ Ok (s, k))
    (λ file s k. end-none k file c.args.sections.now s (none-open c.args.sections.now c.in-None.ensures))
