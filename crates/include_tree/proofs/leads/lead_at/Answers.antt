use Rattle.std.proofs.Common.{Option, subst}
use Rattle.std.specs.Prelude.{IfSome}
use Rattle.source_files.specs.Search.{Header}
use Rattle.source_files.specs.Sources.{source_at, source_kept}
use Rattle.include_tree.specs.ItemTexts.{item_in}
use Rattle.include_tree.specs.Leads.{IsWritten}
use Rattle.include_tree.proofs.LeadLemmas.{lead-found}
use Rattle.include_tree.proofs.leads.lead_at.Goals as goal

pub returns-in-Some-2 : goal.returns-in-Some-2
returns-in-Some-2 c =
    lead-found c.lead_to.result (source_at c.args.cache.now.table c.args.main) (source_kept c.kept_file.result.now) c.args.unit.now c.args.cache.now.table c.args.k (item_in c.in-Some.item) c.in-Some-2.header
    c.kept_file.ensures c.in-Some.ensures.answer (subst (λ (o : Option Header). IfSome o (λ h. IsWritten (item_in c.in-Some.item) h)) c.in-Some-2.is c.in_ok-header-in-Some.ensures) c.lead_to.ensures
