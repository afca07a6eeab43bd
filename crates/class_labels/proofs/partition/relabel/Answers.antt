use Rattle.std.proofs.Common.{◌≡◌, ◌+◌, ◌≤◌, ◌-◌, get_or, length, sym, ◌∙◌, ap, arith}
use Rattle.class_labels.specs.Links.{members, with_parts, with_part}
use Rattle.class_labels.proofs.MemberFacts.{members_first, members_rest, members_none}
use Rattle.class_labels.proofs.PartFacts.{with_parts_step, with_parts_nil, length-with_part}
use Rattle.class_labels.proofs.partition.relabel.Goals as goal

pub write_part-requires : goal.write_part-requires
write_part-requires g c = c.loop-left.invariant.within c.loop-left.x (members_first c.loop-left.left c.args.nexts.now c.loop-left.x c.loop-left-test.true)

pub bounds-nexts-x : goal.bounds-nexts-x
bounds-nexts-x g c =
    let within : c.loop-left.x + c.args.row.len ≤ length c.loop-left.spots = c.loop-left.invariant.within c.loop-left.x (members_first c.loop-left.left c.args.nexts.now c.loop-left.x c.loop-left-test.true) in
    omega arith

pub loop-left-preserved : goal.loop-left-preserved
loop-left-preserved g c =
    let left = c.loop-left.left in
    let nexts = c.args.nexts.now in
    let none : c.loop-left.x + 0 ≡ c.loop-left.x = omega arith in
    let same : with_part c.args.class c.args.row.len (c.loop-left.x + 0) c.loop-left.spots ≡ c.write_part.new.spots =
    ap (λ v. with_part c.args.class c.args.row.len v c.loop-left.spots) none ∙ sym c.write_part.ensures in
    let long : length c.write_part.new.spots ≡ length c.loop-left.spots = ap length c.write_part.ensures ∙ length-with_part c.args.class c.args.row.len c.loop-left.x c.loop-left.spots in
    record {
      rest = sym (with_parts_step c.args.class 0 c.args.row.len left nexts c.loop-left.x c.loop-left.spots c.loop-left-test.true
          ∙ ap (λ v. with_parts c.args.class 0 c.args.row.len (members (left - 1) nexts (get_or nexts c.loop-left.x 0)) v) same) ∙ c.loop-left.invariant.rest;
      ticks = omega arith;
      within = λ x i. let w : x + c.args.row.len ≤ length c.loop-left.spots = c.loop-left.invariant.within x (members_rest left nexts c.loop-left.x x c.loop-left-test.true i) in omega arith;
    }

pub returns-clause-labels : goal.returns-clause-labels
returns-clause-labels g c =
    sym (ap (λ v. with_parts c.args.class 0 c.args.row.len v c.loop-left.spots) (members_none c.loop-left.left c.args.nexts.now c.loop-left.x (omega arith))
    ∙ with_parts_nil c.args.class 0 c.args.row.len c.loop-left.spots) ∙ c.loop-left.invariant.rest
