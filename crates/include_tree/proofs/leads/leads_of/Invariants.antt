use Rattle.std.proofs.Common.{◌≡◌, length}
use Rattle.std.specs.Prelude.{IfSome}
use Rattle.source_files.specs.Sources.{source_at}
use Rattle.include_tree.specs.Leads.{AreLeads}
use Rattle.include_tree.proofs.leads.leads_of.Given as goal

abbrev pub invariant-loop-k : goal.invariant-loop-k
invariant-loop-k l = record {
  count : length l.all.items ≡ l.k;
  leads : IfSome (source_at l.cache.table l.main) (λ file. AreLeads l.unit l.cache.table file 0 l.all.items);
}
