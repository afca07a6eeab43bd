use Rattle.std.proofs.Common.{◌≡◌, sym, ◌∙◌}
use Rattle.std.specs.Prelude.{nat_lt}
use Rattle.template_rules.proofs.HalvingLemmas.{across_by_runs}
use Rattle.template_rules.proofs.run_list.Runs.is_across.Goals as goal

pub returns : goal.returns
returns c =
    rw (c.run_of.ensures, c.run_of-2.ensures) (sym (across_by_runs c.args.list.now.name c.args.list.now.close c.args.self.now))
