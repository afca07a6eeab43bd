use Rattle.std.specs.Prelude.{◌++◌}
use Rattle.cs_base.specs.declared.causes.Cause.TheVariants as cause
use Rattle.offences.specs.First.{standing}
use Rattle.offences.proofs.FirstLemmas.{then_both}
use Rattle.template_rules.specs.Marks.{read_only_place, main_place, across_place, count_place}
use Rattle.template_rules.proofs.list_marks.marks_at.Goals as goal

pub returns : goal.returns
returns c =
    let table = c.args.a.now.value.table in
    let kept = standing cause.ReadOnly (read_only_place c.args.a.now.value c.args.toks.now c.args.list.now) in
    let reserved = standing cause.Reserved (main_place c.args.toks.now c.args.list.now) in
    let across = standing cause.AcrossDirective (across_place c.args.toks.now c.args.reached.now c.args.list.now) in
    let counted = standing cause.ArgumentCount (count_place c.args.count c.args.length c.args.toks.now c.args.list.now) in
    then_both table kept (reserved ++ (across ++ counted)) c.args.first c.read_only_at-kept.result c.count_at.result c.read_only_at-kept.ensures
    (then_both table reserved (across ++ counted) c.read_only_at-kept.result c.main_at-main.result c.count_at.result c.main_at-main.ensures
    (then_both table across counted c.main_at-main.result c.across_at-across.result c.count_at.result c.across_at-across.ensures c.count_at.ensures))
