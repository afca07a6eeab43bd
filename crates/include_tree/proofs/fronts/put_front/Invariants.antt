use Rattle.std.proofs.Common.{◌≡◌, drop}
use Rattle.include_tree.specs.Fronts.{trail_texts, with_pieces}
use Rattle.include_tree.proofs.fronts.put_front.Given as goal

-- The texts that are left, put in behind what is there, give what all of them give.
abbrev pub invariant-loop-k : goal.invariant-loop-k
invariant-loop-k l = record {
  text : with_pieces l.main 0 l.leads (trail_texts l.front.trail) l.fn.p.text ≡ with_pieces l.main l.k (drop l.k l.leads) (drop l.k (trail_texts l.front.trail)) l.p.text;
  state : l.p ≡ record l.fn.p { text = l.p.text };
}
