use Rattle.std.proofs.Common.{refl, ◌∙◌, ap, is_some}
use Rattle.std.specs.Prelude.{IsSome}
use Rattle.cs_base.specs.Outside.{FilesTold}
use Rattle.source_files.specs.Answers.{fault_of}
use Rattle.source_files.specs.Sources.{source_at}
use Rattle.source_files.proofs.TableLemmas.{earlier_found, reads-refl, reads-trans}
use Rattle.unit_steps.specs.Moments.{state_in}
use Rattle.include_tree.specs.GivenFiles.{unit_context}
use Rattle.include_tree.specs.Leads.{rest_at}
use Rattle.include_tree.proofs.StayingLemmas.{source-same}
use Rattle.include_tree.proofs.RestLemmas.{rest-begins, rest-goes, rest-faulted, rest-ends}
use Rattle.include_tree.proofs.main_walk.walk_from.Goals as goal

pub loop-k-init : goal.loop-k-init
loop-k-init g c = record {
  told = refl;
  rest = λ source found. rest-begins source (source_at c.args.cache.now.table c.args.main) c.args.unit.now c.args.cache.now.toks c.args.from (state_in c.args.cache.now.table c.args.p.now) c.args.p.now.text
      c.new-sections.result c.new-sections.ensures;
  same = refl;
  able = c.requires.ready.able;
  most = refl;
  cache = reads-refl (g.F.Files.told c.args.files.now).held c.args.cache.now;
}

pub loop-k-preserved : goal.loop-k-preserved
loop-k-preserved g c =
    let i = c.loop-k.invariant in
    let there : IsSome (source_at c.loop-k.cache.table c.args.main) = ap is_some i.same ∙ c.requires.kept in
    record {
      told = c.in-Ok.ensures.faults.told ∙ i.told;
      rest = λ source found.
          rest-goes source (source_at c.args.cache.now.table c.args.main) c.args.unit.now c.args.cache.now.toks 199
          (state_in c.args.cache.now.table c.args.p.now) c.args.p.now.text
          (λ file. rest_at (unit_context source c.args.unit.now c.args.cache.now.toks) file c.args.from (state_in c.args.cache.now.table c.args.p.now) c.args.p.now.text)
          (source_at c.loop-k.cache.table c.args.main) c.loop-k.cache.toks
          c.in_ok-count.count c.loop-k.k c.loop-k.sections (state_in c.loop-k.cache.table c.loop-k.p) c.loop-k.p.text i.same i.cache.counted c.in_ok-count.ensures c.loop-k-test.true
          (i.rest source (earlier_found source c.loop-k.cache.table c.walk_item.new.cache.table c.in-Ok.ensures.reads.grown found))
          c.walk_item.new.sections (state_in c.walk_item.new.cache.table c.walk_item.new.p) c.walk_item.new.p.text (c.in-Ok.ensures.answer source found);
      same = source-same c.loop-k.cache.table c.walk_item.new.cache.table c.args.main c.in-Ok.ensures.reads.grown there ∙ i.same;
      able = c.in-Ok.ensures.goes_on.able;
      most = c.in-Ok.ensures.goes_on.most ∙ i.most;
      cache = reads-trans (g.F.Files.told c.args.files.now).held (g.F.Files.told c.loop-k.files).held c.args.cache.now c.loop-k.cache c.walk_item.new.cache (ap (λ (o : FilesTold). o.held) i.told) i.cache c.in-Ok.ensures.reads;
    }

pub returns-in-Err-clause-answer : goal.returns-in-Err-clause-answer
returns-in-Err-clause-answer g c =
    let i = c.loop-k.invariant in
    λ source found.
    rest-faulted source (source_at c.args.cache.now.table c.args.main) c.args.unit.now c.args.cache.now.toks 199
    (state_in c.args.cache.now.table c.args.p.now) c.args.p.now.text
    (λ file. rest_at (unit_context source c.args.unit.now c.args.cache.now.toks) file c.args.from (state_in c.args.cache.now.table c.args.p.now) c.args.p.now.text)
    (source_at c.loop-k.cache.table c.args.main) c.loop-k.cache.toks
    c.in_ok-count.count c.loop-k.k c.loop-k.sections (state_in c.loop-k.cache.table c.loop-k.p) c.loop-k.p.text i.same i.cache.counted c.in_ok-count.ensures c.loop-k-test.true
    (i.rest source (earlier_found source c.loop-k.cache.table c.walk_item.new.cache.table c.in-Err.ensures.reads.grown found))
    (fault_of c.in-Err.fault) (c.in-Err.ensures.answer source found)

pub returns-clause-answer : goal.returns-clause-answer
returns-clause-answer g c =
    let i = c.loop-k.invariant in
    λ source found.
    rest-ends source (source_at c.args.cache.now.table c.args.main) c.args.unit.now c.args.cache.now.toks 199
    (state_in c.args.cache.now.table c.args.p.now) c.args.p.now.text
    (λ file. rest_at (unit_context source c.args.unit.now c.args.cache.now.toks) file c.args.from (state_in c.args.cache.now.table c.args.p.now) c.args.p.now.text)
    (source_at c.loop-k.cache.table c.args.main) c.in_ok-count.count c.loop-k.k c.loop-k.sections
    (state_in c.loop-k.cache.table c.loop-k.p) c.loop-k.p.text c.file_end.result i.same c.in_ok-count.ensures c.loop-k-test.false (i.rest source found) c.file_end.ensures.answer

pub returns-in_err-count-clause-reads : goal.returns-in_err-count-clause-reads
returns-in_err-count-clause-reads g c = reads-refl (g.F.Files.told c.args.files.now).held c.args.cache.now

pub returns-in-Err-clause-reads : goal.returns-in-Err-clause-reads
returns-in-Err-clause-reads g c =
    reads-trans (g.F.Files.told c.args.files.now).held (g.F.Files.told c.loop-k.files).held c.args.cache.now c.loop-k.cache c.walk_item.new.cache (ap (λ (o : FilesTold). o.held) c.loop-k.invariant.told) c.loop-k.invariant.cache c.in-Err.ensures.reads
