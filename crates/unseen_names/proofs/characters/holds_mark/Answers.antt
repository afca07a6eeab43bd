use Rattle.std.proofs.Common.{◌≡◌, false, refl, sym, below_more}
use Rattle.eclass_map.specs.Positions.{along}
use Rattle.unseen_names.specs.Characters.{is_marked}
use Rattle.unseen_names.proofs.characters.holds_mark.Goals as goal

pub returns-then-is_marked_at : goal.returns-then-is_marked_at
returns-then-is_marked_at c = record {
  offset = c.loop-k.k;
  within = c.loop-k-test.true;
  marked = sym (c.if-is_marked_at.ensures (along c.args.part.start c.loop-k.k) refl refl);
}

pub loop-k-preserved : goal.loop-k-preserved
loop-k-preserved c =
    below_more (λ o. is_marked c.args.marks.now (along c.args.part.start o) ≡ false) c.loop-k.k c.loop-k.invariant
    (sym (c.if-is_marked_at.ensures (along c.args.part.start c.loop-k.k) refl refl))
