use Rattle.std.proofs.Common.{sym, subst}
use Rattle.cs_base.specs.Answer.{Gives}
use Rattle.include_tree.specs.Preprocessed.{with_text}
use Rattle.include_tree.specs.Below.source_files.Files.{Carried, nothing_carried}
use Rattle.include_tree.specs.Below.source_files.Tables.{StaysHeld}
use Rattle.analysis.specs.Texts.{one_text_of, unit_with}
use Rattle.analysis.specs.Answers.{fault_of}
use Rattle.analysis.specs.Carrying.{IsFresh}
use Rattle.analysis.proofs.CarryLemmas.{fresh_first, none_found, found_more, over_held, over_nothing}
use Rattle.analysis.proofs.AnswerLemmas.{gives_one, memory_one}
use Rattle.analysis.proofs.preprocessing.one_text.Goals as goal

pub returns-in-Err-clause-over : goal.returns-in-Err-clause-over
returns-in-Err-clause-over g c =
    (nothing_carried.table, over_nothing (g.F.Files.told c.args.files.now).held _ (λ source. memory_one (one_text_of source c.args.ws.now.units c.args.number)))

pub returns-in-Err-clause-answer : goal.returns-in-Err-clause-answer
returns-in-Err-clause-answer g c =
    let over = returns-in-Err-clause-over g c in
    over_held (g.F.Files.told c.args.files.now).held over.0 _ over.1

pub returns-clause-over : goal.returns-clause-over
returns-clause-over g c =
    let is = rw c.units-units.ensures.answer at c.index-units-number.is in
    let fresh : IsFresh c.args.number c.in-Ok.cache.table =
    subst (λ (k : Carried). IsFresh c.args.number k.table) (sym c.in-Ok.ensures) (fresh_first c.args.number) in (
      c.next_text.new.cache.table,
      record {
        once = c.next_text.ensures.reads.once;
        found = found_more (g.F.Files.told c.args.files.now).held nothing_carried.table c.next_text.new.cache.table (none_found (g.F.Files.told c.args.files.now).held)
            (subst (λ (k : Carried). StaysHeld (g.F.Files.told c.args.files.now).held k.table c.next_text.new.cache.table) c.in-Ok.ensures c.next_text.ensures.reads.found);
        each = λ source found.
            gives_one source c.args.ws.now.units c.args.number c.index-units-number.result c.next_text.new.cache c.next_text.result c.requires.first c.requires.last is
            (subst (λ (k : Carried). Gives (with_text c.next_text.new.cache) fault_of c.next_text.result (unit_with source c.args.number c.index-units-number.result k)) c.in-Ok.ensures
            (c.next_text.ensures.answer fresh source found));
      },
    )

pub returns-clause-answer : goal.returns-clause-answer
returns-clause-answer g c =
    let over = returns-clause-over g c in
    let held = over_held (g.F.Files.told c.args.files.now).held over.0 _ over.1 in held

pub next_text-requires : goal.next_text-requires
next_text-requires g c = record { fronts = c.new-fronts.ensures c.in-Ok.cache.table }
