use Rattle.std.proofs.Common.{arith, rules, inl, inr, ⊎_elim, ◌∙◌}
use Rattle.edited_files.proofs.ApplyingLemmas.{held_more}
use Rattle.edited_files.proofs.applying.apply.Goals as goal

pub returns-in-Failed-clause-held : goal.returns-in-Failed-clause-held
returns-in-Failed-clause-held g c = (
  omega arith,
  ⊎_elim
      (λ same. inl (same ∙ c.loop-k.invariant.held))
      (λ put. inr (held_more c.args.edits.now c.loop-k.k c.path_text.result.now c.bytes.result.now (g.F.Files.told c.args.files.now).held (g.F.Files.told c.loop-k.files).held (g.F.Files.told c.put.new.self).held (omega arith) c.path_text.ensures c.bytes.ensures c.loop-k.invariant.held put))
      c.in-Failed.ensures.held,
)

pub loop-k-preserved : goal.loop-k-preserved
loop-k-preserved g c = record {
  held = held_more c.args.edits.now c.loop-k.k c.path_text.result.now c.bytes.result.now (g.F.Files.told c.args.files.now).held (g.F.Files.told c.loop-k.files).held (g.F.Files.told c.put.new.self).held (omega arith) c.path_text.ensures c.bytes.ensures c.loop-k.invariant.held c.in-Done.ensures.held;
  reads = search rules;
  puts = search rules;
  last = search rules;
}
