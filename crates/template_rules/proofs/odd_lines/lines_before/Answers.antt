use Rattle.std.proofs.Common.{rules}
use Rattle.std.proofs.lemmas.List.Sorted.{IsPartitionPoint-from_clause}
use Rattle.template_rules.specs.OddLines.{is_before}
use Rattle.template_rules.proofs.LineLemmas.{before_partitioned}
use Rattle.template_rules.proofs.odd_lines.lines_before.Goals as goal

pub returns : goal.returns
returns c =
    IsPartitionPoint-from_clause (is_before c.args.p) _ _ c.partition_point.ensures.partitioned
    (before_partitioned c.args.lines.now c.args.p c.requires.placed c.requires.ordered) (λ a r f k. search rules)
