use Rattle.std.proofs.Common.{◌≡◌, [], ◌∷◌, ◌++◌, sym, ◌∙◌, ap, arith, append_assoc, rules}
use Rattle.std.proofs.lemmas.List.{append-nil}
use Rattle.class_labels.specs.Labels.{fresh_part, spot}
use Rattle.class_labels.proofs.AddFacts.{fresh_part_none, fresh_part_more}
use Rattle.class_labels.proofs.partition.add_spots.Goals as goal

pub loop-offset-init : goal.loop-offset-init
loop-offset-init c = record {
  items = sym (ap (λ v. c.args.spots.now.items ++ v) (fresh_part_none c.args.class) ∙ append-nil c.args.spots.now.items);
  kept = omega arith;
  room = omega arith;
}

pub loop-offset-preserved : goal.loop-offset-preserved
loop-offset-preserved c =
    let old = c.args.spots.now.items in
    let offset = c.loop-offset.offset in
    let pushed : c.push.new.self.items ≡ c.loop-offset.spots.items ++ spot c.args.class offset ∷ [] = search rules in
    record {
      items = pushed ∙ ap (λ v. v ++ spot c.args.class offset ∷ []) c.loop-offset.invariant.items
          ∙ append_assoc old (fresh_part c.args.class offset) (spot c.args.class offset ∷ []) ∙ ap (λ v. old ++ v) (sym (fresh_part_more c.args.class offset));
      kept = grind arith;
      room = grind arith;
    }
