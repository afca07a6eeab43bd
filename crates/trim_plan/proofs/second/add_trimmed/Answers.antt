use Rattle.std.proofs.Common.{◌∙◌, sym, ap}
use Rattle.trim_rules.specs.Made.{edit_made}
use Rattle.trim_plan.proofs.OverLemmas.{trimmed-made, trimmed-none}
use Rattle.trim_plan.proofs.second.add_trimmed.Goals as goal

pub returns-in-Some : goal.returns-in-Some
returns-in-Some c =
    rw (
      c.deref.ensures.value,
      trimmed-made c.args.lines.now c.args.file.now c.in-Some.new (ap (edit_made c.args.file.now) (sym c.in-Some.is) ∙ c.in_ok-made.ensures),
    ) at c.add_new.ensures

pub returns-in-None : goal.returns-in-None
returns-in-None c =
    rw (
      c.bytes.ensures,
      trimmed-none c.args.lines.now c.args.file.now (ap (edit_made c.args.file.now) (sym c.in-None.is) ∙ c.in_ok-made.ensures),
    ) at c.add_new-in-None.ensures
