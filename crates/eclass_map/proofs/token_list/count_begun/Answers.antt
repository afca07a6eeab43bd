use Rattle.std.proofs.Common.{◌≡◌, ◌+◌, ◌-◌, ◌/◌, ◌<◌, length, get_or, sym, ◌∙◌, false, arith}
use Rattle.std.proofs.lemmas.Option.{slice_get-get_or}
use Rattle.eclass_map.specs.Positions.{begins_by}
use Rattle.eclass_map.proofs.TokenFacts.{halve_down, no_added}
use Rattle.eclass_map.proofs.token_list.count_begun.Goals as goal

pub loop-low-preserved : goal.loop-low-preserved
loop-low-preserved c =
    let tokens = c.args.tokens.now in
    let middle = c.loop-low.low + (c.loop-low.high - c.loop-low.low) / 2 in
    let in_half : middle < c.loop-low.high = let t = c.loop-low-test.true in omega arith in
    let within : middle < length tokens = omega (arith, c.loop-low.invariant.within) in
    let later : begins_by (get_or tokens middle no_added) c.args.pos ≡ false = sym c.has_begun.ensures ∙ c.if-has_begun.false in
    record {
      within_low = c.loop-low.invariant.within_low;
      within = omega arith;
      before = c.loop-low.invariant.before;
      behind = halve_down tokens c.args.pos middle (get_or tokens middle no_added) c.requires (slice_get-get_or tokens middle no_added within) later;
    }
