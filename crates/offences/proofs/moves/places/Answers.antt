use Rattle.std.proofs.Common.{◌<◌, length, inl, refl, arith}
use Rattle.std.proofs.lemmas.List.{get_or_read}
use Rattle.offences.proofs.PutPlaceLemmas.{places_more, places_end}
use Rattle.offences.proofs.moves.places.Goals as goal

pub loop-at-preserved : goal.loop-at-preserved
loop-at-preserved c members are =
    let puts = c.args.puts.items in
    let less : c.loop-at.at < length puts = omega (arith, c.loop-at-test.true, c.len-at-end.ensures) in
    places_more members c.args.name.now c.args.number c.args.file.now.bytes c.loop-at.at c.loop-at.places.items c.push.new.self.items c.loop-at.end c.in_ok-end.end puts c.index.result.now
    less c.requires (get_or_read puts c.loop-at.at c.index.result.now less c.index.ensures c.index.result.now) are c.in_ok-push.ensures.items c.in_ok-end.ensures (c.loop-at.invariant members are)

pub returns : goal.returns
returns c members are = inl (
  refl,
  record {
    puts = are;
    all = c.requires;
    places = places_end members c.args.name.now c.args.number c.args.file.now.bytes c.loop-at.at c.loop-at.places.items c.loop-at.end (omega (arith, c.loop-at-test.false, c.len-at-end.ensures, c.requires)) (c.loop-at.invariant members are);
  },
)
