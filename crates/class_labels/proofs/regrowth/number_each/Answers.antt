use Rattle.std.proofs.Common.{◌≡◌, ◌+◌, length, set, sym, ap, ◌∙◌, arith, length-set}
use Rattle.class_labels.specs.Labels.{spot}
use Rattle.class_labels.specs.Regrown.{place}
use Rattle.class_labels.proofs.PlaceFacts.{AreTo, place_none, place_more, place_fits, to_more}
use Rattle.class_labels.proofs.regrowth.number_each.Goals as goal

pub loop-index-init : goal.loop-index-init
loop-index-init c = record {
  long = c.requires.long;
  each = λ i less. absurd (omega arith);
  at = sym (place_none c.args.class c.args.len c.args.spots.now);
}

pub overflow_add-at : goal.overflow_add-at
overflow_add-at c = omega (arith, place_fits c.args.class c.args.len c.args.spots.now c.loop-index.index (spot 0 0) c.loop-index-test.true, c.loop-index.invariant.at, c.share_of-at.ensures, c.requires.short)

pub loop-index-preserved : goal.loop-index-preserved
loop-index-preserved c =
    let spots = c.args.spots.now in
    let index = c.loop-index.index in
    let numbers = c.loop-index.numbers in
    let less = c.loop-index-test.true in
    record {
      long = length-set numbers index c.loop-index.at ∙ c.loop-index.invariant.long;
      each = to_more c.args.class c.args.len spots index c.loop-index.at numbers (omega (arith, less, c.loop-index.invariant.long)) c.loop-index.invariant.at c.loop-index.invariant.each;
      at = omega (arith, place_more c.args.class c.args.len spots index (spot 0 0) less, c.loop-index.invariant.at, c.share_of-at.ensures);
    }

pub returns : goal.returns
returns c =
    let spots = c.args.spots.now in
    let n = length spots in
    let numbers = c.loop-index.numbers in
    let end : c.loop-index.index ≡ n = omega (arith, c.loop-index-test.false) in
    let at : c.loop-index.at ≡ place c.args.class c.args.len spots n = c.loop-index.invariant.at ∙ ap (place c.args.class c.args.len spots) end in
    let each : AreTo c.args.class c.args.len spots n numbers = λ i less. c.loop-index.invariant.each i (omega (arith, less, end)) in
    record {
      long = length-set numbers n c.loop-index.at ∙ c.loop-index.invariant.long;
      each = λ i within. to_more c.args.class c.args.len spots n c.loop-index.at numbers (omega (arith, c.loop-index.invariant.long)) at each i (omega (arith, within));
    }
