use Rattle.std.proofs.Common.{◌≡◌, ◌+◌, ◌-◌, ◌++◌, List, [], length, take, drop, ap, sym, ◌∙◌, arith, length-append, length-drop}
use Rattle.std.specs.List.{flat_map}
use Rattle.std.proofs.lemmas.List.{append-nil}
use Rattle.class_labels.specs.declared.spots.Spot.{Spot}
use Rattle.class_labels.specs.Regrown.{piece, place}
use Rattle.class_labels.proofs.PlaceFacts.{none_left, stay_whole}
use Rattle.class_labels.proofs.RegrownRows.{length-regrown}
use Rattle.class_labels.proofs.regrowth.new_spots.Goals as goal

pub rest-init : goal.rest-init
rest-init c =
    let all = flat_map (piece c.args.class c.args.len) c.args.spots.now in
    record {
      rest = ap (λ v. v ++ all) c.in_ok-all.ensures.items;
      room = omega (arith, c.in_ok-all.ensures.exact);
    }

pub add_first-rest-requires : goal.add_first-rest-requires
add_first-rest-requires c =
    let f = piece c.args.class c.args.len in
    let rest = c.rest.rest.now in
    let n = c.others.result in
    let stay = c.split_at.ensures.front in
    let back : c.split_at.result.1.now ≡ drop n rest = c.split_at.ensures.back in
    let pushed : c.extend_from_slice.new.self.items ≡ c.rest.all.items ++ take n rest =
    c.in_ok-extend_from_slice.ensures.items ∙ ap (λ v. c.rest.all.items ++ v) stay in
    let whole : c.extend_from_slice.new.self.items ++ flat_map f (drop n rest) ≡ flat_map f c.args.spots.now =
    stay_whole c.args.class c.args.len n c.rest.all.items c.extend_from_slice.new.self.items rest (flat_map f c.args.spots.now) c.others.ensures.stay pushed c.rest.invariant.rest in
    let both = length-append c.extend_from_slice.new.self.items (flat_map f (drop n rest)) in
    let long = length-regrown c.args.class c.args.len c.args.spots.now in
    rw back
    (omega (arith, ap length whole, both, long, c.rest.invariant.room, c.in_ok-extend_from_slice.ensures.capacity, c.requires, c.extend_from_slice.new.self.ok.0))

pub rest-preserved : goal.rest-preserved
rest-preserved c =
    let f = piece c.args.class c.args.len in
    let rest = c.rest.rest.now in
    let n = c.others.result in
    let stay = c.split_at.ensures.front in
    let back : c.split_at.result.1.now ≡ drop n rest = c.split_at.ensures.back in
    let pushed : c.extend_from_slice.new.self.items ≡ c.rest.all.items ++ take n rest =
    c.in_ok-extend_from_slice.ensures.items ∙ ap (λ v. c.rest.all.items ++ v) stay in
    let whole : c.extend_from_slice.new.self.items ++ flat_map f (drop n rest) ≡ flat_map f c.args.spots.now =
    stay_whole c.args.class c.args.len n c.rest.all.items c.extend_from_slice.new.self.items rest (flat_map f c.args.spots.now) c.others.ensures.stay pushed c.rest.invariant.rest in
    record {
      rest = c.add_first-rest.ensures.rest ∙ ap (λ v. c.extend_from_slice.new.self.items ++ flat_map f v) back ∙ whole;
      room = omega (arith, c.rest.invariant.room, c.in_ok-extend_from_slice.ensures.capacity, c.add_first-rest.ensures.room);
    }

pub rest-smaller : goal.rest-smaller
rest-smaller c =
    let rest = c.rest.rest.now in
    let n = c.others.result in
    let back : c.split_at.result.1.now ≡ drop n rest = c.split_at.ensures.back in
    omega (arith, c.rest-test.true, c.add_first-rest.ensures.less, ap length back, length-drop n rest)

pub returns : goal.returns
returns c =
    let f = piece c.args.class c.args.len in
    sym (append-nil c.rest.all.items) ∙ ap (λ v. c.rest.all.items ++ v) (sym (none_left f c.rest.rest.now (omega (arith, c.rest-test.false)))) ∙ c.rest.invariant.rest
