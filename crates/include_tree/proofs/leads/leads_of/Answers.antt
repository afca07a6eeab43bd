use Rattle.std.proofs.Common.{◌+◌, ℕ, Option, List, length, sym, ap, subst, ◌∙◌}
use Rattle.std.specs.Prelude.{IfSome}
use Rattle.source_files.specs.Sources.{source_at}
use Rattle.include_tree.specs.declared.leads.Lead.{Lead}
use Rattle.include_tree.specs.Leads.{AreLeads, IsLead}
use Rattle.include_tree.proofs.FrontLemmas.{length-more}
use Rattle.include_tree.proofs.LeadLemmas.{some-none, some-pushed}
use Rattle.include_tree.proofs.leads.leads_of.Goals as goal

pub loop-k-init : goal.loop-k-init
loop-k-init c = record {
  count = ap length c.new-all.ensures.items;
  leads = subst (λ (ls : List Lead). IfSome (source_at c.args.cache.now.table c.args.main) (λ file. AreLeads c.args.unit.now c.args.cache.now.table file 0 ls)) (sym c.new-all.ensures.items)
      (some-none (source_at c.args.cache.now.table c.args.main) c.args.unit.now c.args.cache.now.table);
}

pub loop-k-preserved : goal.loop-k-preserved
loop-k-preserved c = record {
  count = length-more c.push.new.self.items c.loop-k.all.items c.in-Some.lead c.in_ok-push-in-Some.ensures.items ∙ ap (λ (n : ℕ). n + 1) c.loop-k.invariant.count;
  leads = some-pushed (source_at c.args.cache.now.table c.args.main) c.args.unit.now c.args.cache.now.table c.loop-k.k c.loop-k.all.items c.push.new.self.items c.in-Some.lead
      c.in_ok-push-in-Some.ensures.items c.loop-k.invariant.count c.loop-k.invariant.leads
      (subst (λ (o : Option Lead). IfSome o (λ l. IfSome (source_at c.args.cache.now.table c.args.main) (λ file. IsLead c.args.unit.now c.args.cache.now.table file c.loop-k.k l))) c.in-Some.is c.in_ok-lead.ensures);
}
