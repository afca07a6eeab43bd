use Rattle.std.proofs.Common.{ℕ, List, refl, subst}
use Rattle.source_files.specs.Sources.{source_at}
use Rattle.include_tree.specs.Leads.{IsKnownFile}
use Rattle.include_tree.proofs.LeadLemmas.{lead-opens, known-there}
use Rattle.include_tree.proofs.leads.lead_to.Goals as goal

pub behind_found-requires-clause-there : goal.behind_found-requires-clause-there
behind_found-requires-clause-there c = known-there c.args.cache.now.table c.as_slice.result.now c.in-Some.number c.in-Some.ensures

pub returns-in-Some : goal.returns-in-Some
returns-in-Some c = (
  refl,
  lead-opens (source_at c.args.cache.now.table c.args.main) c.args.cache.now.table c.args.unit.now c.args.at c.args.header.now
      (record { at = c.args.at; number = c.in-Some.number; behind = c.in_ok-behind-in-Some.behind })
      c.in_ok-asked.asked.paths.items c.in_ok-asked.asked.place c.in_ok-asked.ensures.paths c.in_ok-asked.ensures.place
      (subst (λ (ps : List (List ℕ)). IsKnownFile c.args.cache.now.table ps c.in-Some.number) c.as_slice.ensures.value c.in-Some.ensures) c.in_ok-behind-in-Some.ensures,
)
