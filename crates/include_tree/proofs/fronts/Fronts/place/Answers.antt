use Rattle.std.proofs.Common.{◌≡◌, ◌<◌, ℕ, Option, Some, rules, length, sym, subst}
use Rattle.std.specs.Prelude.{IfSome, slice_get}
use Rattle.cs_base.proofs.ListLemmas.{read_at}
use Rattle.include_tree.specs.declared.fronts.Front.{Front}
use Rattle.include_tree.specs.Fronts.{Fits}
use Rattle.include_tree.proofs.fronts.Fronts.place.Goals.{then-count-size+then-fits, else-count-size}
use Rattle.include_tree.proofs.fronts.Fronts.place.Goals as goal

pub loop-k-preserved : goal.loop-k-preserved
loop-k-preserved c = elim c.if-count-size.branch [
  | then-count-size+then-fits w ↦
      let less : c.loop-k.k < length c.args.self.now.all.items = search rules in
      subst (λ (o : Option ℕ). IfSome o (λ f. (front : Front) × (slice_get c.args.self.now.all.items f ≡ Some front) × Fits c.args.unit.now c.args.pseudo c.args.leads.now c.args.most front)) (sym w.best-is)
      (w.index-then-count-size.result.now, read_at c.args.self.now.all.items c.loop-k.k w.index-then-count-size.result.now less w.index-then-count-size.ensures, w.if-fits.ensures)
  | else-count-size w ↦
      subst (λ (o : Option ℕ). IfSome o (λ f. (front : Front) × (slice_get c.args.self.now.all.items f ≡ Some front) × Fits c.args.unit.now c.args.pseudo c.args.leads.now c.args.most front)) (sym w.best-is)
      c.loop-k.invariant
]
