use Rattle.std.proofs.Common.{rules}
use Rattle.std.specs.Prelude.{nat_le}
use Rattle.std.proofs.lemmas.List.Sorted.{IsPartitionPoint-from_clause, IsPartitionedBy-leb}
use Rattle.cs_base.specs.Token.{Token}
use Rattle.template_rules.proofs.HalvingLemmas.{count_cut, rising}
use Rattle.template_rules.proofs.begun_tokens.by_halves.Goals as goal

pub returns : goal.returns
returns c =
    count_cut (λ (t : Token). nat_le t.at.at c.args.at) c.args.toks.now c.partition_point.result c.partition_point.ensures.bound
    (IsPartitionPoint-from_clause (λ (t : Token). nat_le t.at.at c.args.at) _ _ c.partition_point.ensures.partitioned
    (IsPartitionedBy-leb (λ (t : Token). t.at.at) c.args.toks.now c.args.at (rising c.args.toks.now c.requires)) (λ a r f k. search rules))
