use Rattle.std.proofs.Common.{◌≡◌, ℕ, length, refl, sym, ◌∙◌, ap, subst, is_some, arith}
use Rattle.std.specs.Prelude.{IfSome, IsSome}
use Rattle.include_tree.specs.GivenFiles.{unit_context}
use Rattle.include_tree.specs.Leads.{rest_at}
use Rattle.cs_base.specs.Outside.{FilesTold}
use Rattle.source_files.specs.Answers.{fault_of}
use Rattle.source_files.specs.Sources.{source_at}
use Rattle.source_files.proofs.TableLemmas.{earlier_found, reads-refl, reads-trans}
use Rattle.unit_steps.specs.Moments.{state_in}
use Rattle.include_tree.proofs.StayingLemmas.{source-same}
use Rattle.include_tree.proofs.RestLemmas.{some-begins, some-next, some-stops}
use Rattle.include_tree.proofs.main_walk.walk_leads.Goals as goal

pub loop-k-init : goal.loop-k-init
loop-k-init g c = record {
  told = refl;
  rest = λ source found. some-begins source (source_at c.args.cache.now.table c.args.main) c.args.unit.now c.args.cache.now.toks (state_in c.args.cache.now.table c.args.p.now) c.args.p.now.text c.in_ok-from.ensures;
  count = sym c.in_ok-from.ensures;
  along = c.requires.along;
  place = c.requires.place;
  same = refl;
  able = c.requires.ready.able;
  most = refl;
  cache = reads-refl (g.F.Files.told c.args.files.now).held c.args.cache.now;
}

pub go_line-requires-clause-kept : goal.go_line-requires-clause-kept
go_line-requires-clause-kept g c = ap is_some c.loop-k.invariant.same ∙ c.requires.kept

pub next_lead-requires : goal.next_lead-requires
next_lead-requires g c = record { kept = ap is_some c.loop-k.invariant.same ∙ c.requires.kept }

pub loop-k-preserved : goal.loop-k-preserved
loop-k-preserved g c =
    let i = c.loop-k.invariant in
    let there : IsSome (source_at c.loop-k.cache.table c.args.main) = ap is_some i.same ∙ c.requires.kept in
    record {
      told = c.in-Ok.ensures.faults.told ∙ i.told;
      rest = λ source found.
          some-next source (source_at c.args.cache.now.table c.args.main) (source_at c.loop-k.cache.table c.args.main) c.args.unit.now c.args.cache.now.toks c.loop-k.cache.toks
          (length c.args.trail.now.lines.items) c.loop-k.k (state_in c.args.cache.now.table c.args.p.now) (state_in c.loop-k.cache.table c.loop-k.p) (state_in c.go_line.new.cache.table c.go_line.new.p)
          c.args.p.now.text c.loop-k.p.text c.go_line.new.p.text i.same i.cache.counted
          (i.rest source (earlier_found source c.loop-k.cache.table c.go_line.new.cache.table c.in-Ok.ensures.reads.grown found)) (c.in-Ok.ensures.answer source found);
      count = omega (arith, c.in-Ok.ensures.count, i.count);
      along = c.in-Ok.ensures.along;
      place = c.in-Ok.ensures.place;
      same = source-same c.loop-k.cache.table c.go_line.new.cache.table c.args.main c.in-Ok.ensures.reads.grown there ∙ i.same;
      able = c.in-Ok.ensures.goes_on.able;
      most = c.in-Ok.ensures.goes_on.most ∙ i.most;
      cache = reads-trans (g.F.Files.told c.args.files.now).held (g.F.Files.told c.loop-k.files).held c.args.cache.now c.loop-k.cache c.go_line.new.cache (ap (λ (o : FilesTold). o.held) i.told) i.cache c.in-Ok.ensures.reads;
    }

pub returns-in_err-from-clause-reads : goal.returns-in_err-from-clause-reads
returns-in_err-from-clause-reads g c = reads-refl (g.F.Files.told c.args.files.now).held c.args.cache.now

pub returns-in_err-count-clause-reads : goal.returns-in_err-count-clause-reads
returns-in_err-count-clause-reads g c = reads-refl (g.F.Files.told c.args.files.now).held c.args.cache.now

pub returns-in-Err-clause-answer : goal.returns-in-Err-clause-answer
returns-in-Err-clause-answer g c =
    let i = c.loop-k.invariant in
    λ source found.
    some-stops source (source_at c.args.cache.now.table c.args.main) (source_at c.loop-k.cache.table c.args.main) c.args.unit.now c.args.cache.now.toks c.loop-k.cache.toks
    (length c.args.trail.now.lines.items) c.loop-k.k (state_in c.args.cache.now.table c.args.p.now) (state_in c.loop-k.cache.table c.loop-k.p) c.args.p.now.text c.loop-k.p.text (fault_of c.in-Err.fault)
    i.same i.cache.counted (i.rest source (earlier_found source c.loop-k.cache.table c.go_line.new.cache.table c.in-Err.ensures.reads.grown found)) (c.in-Err.ensures.answer source found)

pub returns-in-Err-clause-reads : goal.returns-in-Err-clause-reads
returns-in-Err-clause-reads g c =
    reads-trans (g.F.Files.told c.args.files.now).held (g.F.Files.told c.loop-k.files).held c.args.cache.now c.loop-k.cache c.go_line.new.cache (ap (λ (o : FilesTold). o.held) c.loop-k.invariant.told) c.loop-k.invariant.cache c.in-Err.ensures.reads

pub returns-clause-answer : goal.returns-clause-answer
returns-clause-answer g c =
    let i = c.loop-k.invariant in
    λ source found.
    subst (λ (n : ℕ). IfSome (source_at c.args.cache.now.table c.args.main) (λ file.
    rest_at (unit_context source c.args.unit.now c.args.cache.now.toks) file (length c.args.trail.now.lines.items) (state_in c.args.cache.now.table c.args.p.now) c.args.p.now.text
    ≡ rest_at (unit_context source c.args.unit.now c.args.cache.now.toks) file n (state_in c.loop-k.cache.table c.loop-k.p) c.loop-k.p.text)) (sym (c.in_ok-count-2.ensures ∙ i.count)) (i.rest source found)
