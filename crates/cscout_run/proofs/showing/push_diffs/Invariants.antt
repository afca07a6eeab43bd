use Rattle.std.proofs.Common.{◌≡◌, ◌++◌, drop}
use Rattle.std.specs.Prelude.{IfSome}
use Rattle.std.specs.List.{flat_map}
use Rattle.cs_base.specs.Outside.{NoneFailed, ReadsOnly}
use Rattle.cscout_run.specs.Shown.{diff_of}
use Rattle.cscout_run.proofs.showing.push_diffs.Given as goal

abbrev pub invariant-loop-k : goal.invariant-loop-k
invariant-loop-k g l =
    IfSome (g.F.Files.told l.initial.files).held
    (λ fs. l.text.items ++ flat_map (diff_of fs) (drop l.k l.edits) ≡ l.initial.text.items ++ flat_map (diff_of fs) l.edits)
    × ReadsOnly (g.F.Files.told l.initial.files) (g.F.Files.told l.files) NoneFailed
