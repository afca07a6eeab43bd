use Rattle.std.proofs.Common.{◌≡◌, ◌+◌, ◌++◌, length, drop, replicate, get_or, ap, sym, ◌∙◌, arith, length-append}
use Rattle.std.proofs.lemmas.List.{length-replicate, drop_all, append-nil}
use Rattle.std.proofs.lemmas.Option.{get_or_from_slice_get}
use Rattle.class_labels.specs.Labels.{spot}
use Rattle.class_labels.specs.Regrown.{place, share, regrown_links}
use Rattle.class_labels.proofs.PlaceFacts.{place_none, place_more, place_fits, links_none, links_more}
use Rattle.class_labels.proofs.regrowth.new_links.Goals as goal

pub loop-index-init : goal.loop-index-init
loop-index-init c =
    let spots = c.args.spots.now in
    let all = regrown_links c.args.class c.args.len c.args.numbers.now spots c.args.nexts.now in
    let last : get_or c.args.numbers.now (length spots) 0 ≡ place c.args.class c.args.len spots (length spots) = get_or_from_slice_get c.args.numbers.now (length spots) _ 0 (c.requires.numbers.each (length spots) (omega arith)) in
    record {
      rest = ap (λ v. v ++ all) c.in_ok-all.ensures.items;
      long = c.in_ok-all.ensures.len ∙ sym (place_none c.args.class c.args.len spots);
      room = omega (arith, c.in_ok-all.ensures.exact, last);
    }

pub add_links-requires : goal.add_links-requires
add_links-requires c = omega (arith, place_fits c.args.class c.args.len c.args.spots.now c.loop-index.index (spot 0 0) c.loop-index-test.true, c.loop-index.invariant.long, c.loop-index.invariant.room, c.share_of.ensures)

pub loop-index-preserved : goal.loop-index-preserved
loop-index-preserved c =
    let spots = c.args.spots.now in
    let nexts = c.args.nexts.now in
    let numbers = c.args.numbers.now in
    let index = c.loop-index.index in
    let less = c.loop-index-test.true in
    let s = get_or spots index (spot 0 0) in
    let next = get_or numbers (get_or nexts index 0) 0 in
    let copies = replicate (share c.args.class c.args.len s) next in
    let items : c.add_links.new.nexts.items ≡ c.loop-index.all.items ++ copies =
    c.add_links.ensures.items ∙ ap (λ v. c.loop-index.all.items ++ replicate v c.new_number-next.result) c.share_of.ensures ∙ ap (λ v. c.loop-index.all.items ++ replicate (share c.args.class c.args.len s) v) c.new_number-next.ensures in
    let both : length (c.loop-index.all.items ++ copies) ≡ length c.loop-index.all.items + length copies = length-append c.loop-index.all.items copies in
    let many : length copies ≡ share c.args.class c.args.len s = length-replicate (share c.args.class c.args.len s) next in
    record {
      rest = links_more c.args.class c.args.len numbers spots nexts _ _ _ index (spot 0 0) less (let linked = c.requires.linked in omega arith) items c.loop-index.invariant.rest;
      long = omega (arith, place_more c.args.class c.args.len spots index (spot 0 0) less, c.loop-index.invariant.long, ap length items, c.add_links.new.nexts.ok.0, c.loop-index.all.ok.0);
      room = omega (arith, c.loop-index.invariant.room, c.add_links.ensures.room);
    }

pub returns : goal.returns
returns c =
    let numbers = c.args.numbers.now in
    let rest = drop c.loop-index.index c.args.nexts.now in
    sym (append-nil c.loop-index.all.items)
    ∙ ap (λ v. c.loop-index.all.items ++ v) (sym (links_none c.args.class c.args.len numbers rest))
    ∙ ap (λ v. c.loop-index.all.items ++ regrown_links c.args.class c.args.len numbers v rest) (sym (drop_all c.loop-index.index c.args.spots.now (omega (arith, c.loop-index-test.false)))) ∙ c.loop-index.invariant.rest
