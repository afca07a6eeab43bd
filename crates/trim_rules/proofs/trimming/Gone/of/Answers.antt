use Rattle.std.proofs.Common.{◌∙◌, sym, ap}
use Rattle.analysis.specs.Below.include_tree.PseudoFiles.{is_pseudo}
use Rattle.trim_rules.proofs.TrimmedLemmas.{gone-pseudo, gone-begin, gone-all}
use Rattle.trim_rules.proofs.trimming.Gone.of.Goals as goal

pub returns-then-is_pseudo : goal.returns-then-is_pseudo
returns-then-is_pseudo c =
    gone-pseudo c.args.lines.now c.args.file.now c.none-gone.result.parts.items c.none-gone.result.count
    (ap is_pseudo (sym c.path.ensures) ∙ sym c.if-is_pseudo.ensures) c.none-gone.ensures.parts c.none-gone.ensures.count

pub add_each-requires : goal.add_each-requires
add_each-requires c =
    gone-begin c.args.lines.now c.args.file.now c.none-gone.result.parts.items c.none-gone.result.count c.none-gone.ensures.parts c.none-gone.ensures.count

pub returns : goal.returns
returns c =
    gone-all c.args.lines.now c.args.file.now c.add_each.new.self.parts.items c.add_each.new.self.count
    (ap is_pseudo (sym c.path.ensures) ∙ sym c.if-is_pseudo.ensures) c.in_ok-add_each.ensures
