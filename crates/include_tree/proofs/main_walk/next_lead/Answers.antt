use Rattle.std.proofs.Common.{Option, subst}
use Rattle.source_files.specs.Sources.{source_at}
use Rattle.include_tree.specs.declared.leads.Lead.{Lead}
use Rattle.std.specs.Prelude.{IfSome}
use Rattle.include_tree.specs.Leads.{IsLead}
use Rattle.include_tree.proofs.LeadLemmas.{lead-kept}
use Rattle.include_tree.proofs.main_walk.next_lead.Goals as goal

pub returns-then-is_line_before-clause-lead : goal.returns-then-is_line_before-clause-lead
returns-then-is_line_before-clause-lead c =
    lead-kept c.unless_passed.result c.in-Some.lead (λ l. IfSome (source_at c.args.cache.now.table c.args.main) (λ file. IsLead c.args.unit.now c.args.cache.now.table file c.args.k l))
    c.unless_passed.ensures.same
    (subst (λ (o : Option Lead). IfSome o (λ l. IfSome (source_at c.args.cache.now.table c.args.main) (λ file. IsLead c.args.unit.now c.args.cache.now.table file c.args.k l))) c.in-Some.is c.in_ok-lead.ensures)
