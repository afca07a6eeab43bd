use Rattle.std.proofs.Common.{Ok, Err, ◌∙◌, ap, is_some, length}
use Rattle.source_files.specs.Answers.{fault_of}
use Rattle.source_files.specs.Sources.{source_at}
use Rattle.source_files.proofs.TableLemmas.{earlier_found, reads-refl, reads-trans, grown_trans}
use Rattle.unit_steps.specs.Moments.{state_in}
use Rattle.include_tree.proofs.StayingLemmas.{source-same}
use Rattle.include_tree.proofs.FrontLemmas.{fronts-later, fronts-told}
use Rattle.include_tree.proofs.RestLemmas.{shared-rest, shared-stops}
use Rattle.include_tree.proofs.main_walk.walk_shared.Goals as goal

pub walk_from-requires-clause-kept : goal.walk_from-requires-clause-kept
walk_from-requires-clause-kept g c =
    ap is_some (source-same c.args.cache.now.table c.go_along.new.cache.table c.args.main c.in-Ok.ensures.reads.grown c.requires.kept) ∙ c.requires.kept

pub leads_of-requires : goal.leads_of-requires
leads_of-requires g c = record {
  kept = ap is_some (source-same c.args.cache.now.table c.walk_from.new.cache.table c.args.main
      (grown_trans c.args.cache.now.table c.go_along.new.cache.table c.walk_from.new.cache.table c.in-Ok.ensures.reads.grown c.in-Ok-walk_from.ensures.reads.grown) c.requires.kept) ∙ c.requires.kept;
}

pub returns-in_err-trail-clause-reads : goal.returns-in_err-trail-clause-reads
returns-in_err-trail-clause-reads g c = reads-refl (g.F.Files.told c.args.files.now).held c.args.cache.now

pub returns-in_err-leads-in-Ok-walk_from-clause-reads : goal.returns-in_err-leads-in-Ok-walk_from-clause-reads
returns-in_err-leads-in-Ok-walk_from-clause-reads g c =
    reads-trans (g.F.Files.told c.args.files.now).held (g.F.Files.told c.go_along.new.files).held c.args.cache.now c.go_along.new.cache c.walk_from.new.cache c.in-Ok.ensures.faults.held
    c.in-Ok.ensures.reads c.in-Ok-walk_from.ensures.reads

pub returns-in_err-tell-in-Ok-walk_from-clause-reads : goal.returns-in_err-tell-in-Ok-walk_from-clause-reads
returns-in_err-tell-in-Ok-walk_from-clause-reads g c =
    reads-trans (g.F.Files.told c.args.files.now).held (g.F.Files.told c.go_along.new.files).held c.args.cache.now c.go_along.new.cache c.walk_from.new.cache c.in-Ok.ensures.faults.held
    c.in-Ok.ensures.reads c.in-Ok-walk_from.ensures.reads

pub returns-in_ok-tell-in-Ok-walk_from-clause-answer : goal.returns-in_ok-tell-in-Ok-walk_from-clause-answer
returns-in_ok-tell-in-Ok-walk_from-clause-answer g c = λ source found.
    shared-rest source (source_at c.args.cache.now.table c.args.main) c.args.unit.now c.args.cache.now.toks (length c.in_ok-trail.trail.lines.items)
    (state_in c.args.cache.now.table c.args.p.now) (state_in c.args.cache.now.table c.put_longest.new.p) c.args.p.now.text c.put_longest.new.p.text (c.in_ok-trail.ensures.answer source)
    (source_at c.go_along.new.cache.table c.args.main) c.go_along.new.cache.toks c.in-Ok.k (state_in c.go_along.new.cache.table c.go_along.new.p) (state_in c.walk_from.new.cache.table c.walk_from.new.p)
    c.go_along.new.p.text c.walk_from.new.p.text (Ok (tt {0}))
    (source-same c.args.cache.now.table c.go_along.new.cache.table c.args.main c.in-Ok.ensures.reads.grown c.requires.kept) c.in-Ok.ensures.reads.counted
    (c.in-Ok.ensures.answer source (earlier_found source c.go_along.new.cache.table c.walk_from.new.cache.table c.in-Ok-walk_from.ensures.reads.grown found))
    (c.in-Ok-walk_from.ensures.answer source found)

pub returns-in_ok-tell-in-Ok-walk_from-clause-fronts : goal.returns-in_ok-tell-in-Ok-walk_from-clause-fronts
returns-in_ok-tell-in-Ok-walk_from-clause-fronts g c =
    fronts-told c.walk_from.new.cache.table c.go_along.new.fronts c.tell.new.self c.tell.ensures
    (fronts-later c.go_along.new.cache.table c.walk_from.new.cache.table c.go_along.new.fronts.all.items c.in-Ok-walk_from.ensures.reads.grown c.in-Ok.ensures.fronts)

pub returns-in_ok-tell-in-Ok-walk_from-clause-reads : goal.returns-in_ok-tell-in-Ok-walk_from-clause-reads
returns-in_ok-tell-in-Ok-walk_from-clause-reads g c =
    reads-trans (g.F.Files.told c.args.files.now).held (g.F.Files.told c.go_along.new.files).held c.args.cache.now c.go_along.new.cache c.walk_from.new.cache c.in-Ok.ensures.faults.held
    c.in-Ok.ensures.reads c.in-Ok-walk_from.ensures.reads

pub returns-in-Err-walk_from-clause-answer : goal.returns-in-Err-walk_from-clause-answer
returns-in-Err-walk_from-clause-answer g c = λ source found.
    shared-rest source (source_at c.args.cache.now.table c.args.main) c.args.unit.now c.args.cache.now.toks (length c.in_ok-trail.trail.lines.items)
    (state_in c.args.cache.now.table c.args.p.now) (state_in c.args.cache.now.table c.put_longest.new.p) c.args.p.now.text c.put_longest.new.p.text (c.in_ok-trail.ensures.answer source)
    (source_at c.go_along.new.cache.table c.args.main) c.go_along.new.cache.toks c.in-Ok.k (state_in c.go_along.new.cache.table c.go_along.new.p) (state_in c.walk_from.new.cache.table c.walk_from.new.p)
    c.go_along.new.p.text c.walk_from.new.p.text (Err c.in-Err-walk_from.fault)
    (source-same c.args.cache.now.table c.go_along.new.cache.table c.args.main c.in-Ok.ensures.reads.grown c.requires.kept) c.in-Ok.ensures.reads.counted
    (c.in-Ok.ensures.answer source (earlier_found source c.go_along.new.cache.table c.walk_from.new.cache.table c.in-Err-walk_from.ensures.reads.grown found))
    (c.in-Err-walk_from.ensures.answer source found)

pub returns-in-Err-walk_from-clause-reads : goal.returns-in-Err-walk_from-clause-reads
returns-in-Err-walk_from-clause-reads g c =
    reads-trans (g.F.Files.told c.args.files.now).held (g.F.Files.told c.go_along.new.files).held c.args.cache.now c.go_along.new.cache c.walk_from.new.cache c.in-Ok.ensures.faults.held
    c.in-Ok.ensures.reads c.in-Err-walk_from.ensures.reads

pub returns-in-Err-clause-answer : goal.returns-in-Err-clause-answer
returns-in-Err-clause-answer g c = λ source found.
    shared-stops source (source_at c.args.cache.now.table c.args.main) c.args.unit.now c.args.cache.now.toks (length c.in_ok-trail.trail.lines.items)
    (state_in c.args.cache.now.table c.args.p.now) (state_in c.args.cache.now.table c.put_longest.new.p) c.args.p.now.text c.put_longest.new.p.text (c.in_ok-trail.ensures.answer source)
    (fault_of c.in-Err.fault) (c.in-Err.ensures.answer source found)
