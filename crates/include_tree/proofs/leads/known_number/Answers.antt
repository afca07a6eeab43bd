use Rattle.std.proofs.Common.{sym}
use Rattle.unit_steps.specs.SourceTexts.{source_in}
use Rattle.include_tree.proofs.LeadLemmas.{kept-known, absent-found}
use Rattle.include_tree.proofs.leads.known_number.Goals as goal

pub returns-in-Some : goal.returns-in-Some
returns-in-Some c = λ path h.
    kept-known path c.args.cache.now.table c.args.number c.in-Some.file.now (source_in c.source_of-source.result) (sym c.in-Some.ensures) c.source_of-source.ensures h

pub returns-in-Some-absent : goal.returns-in-Some-absent
returns-in-Some-absent c = λ path h. absent-found path c.in-Some-absent._path.now c.args.cache.now.table c.args.number h (sym c.in-Some-absent.ensures)
