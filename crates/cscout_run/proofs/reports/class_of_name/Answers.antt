use Rattle.std.proofs.Common.{◌≡◌, ◌∙◌, ap}
use Rattle.cs_base.specs.Paths.{normal_path_of}
use Rattle.cscout_run.proofs.reports.class_of_name.Goals as goal

pub returns : goal.returns
returns c =
    let path : c.in_ok-path.path ≡ normal_path_of c.args.q.now.path.now = c.in_ok-path.ensures ∙ ap normal_path_of c.as_bytes.ensures.value in
    rw (← path) c.queried.ensures
