use Rattle.std.proofs.Common.{◌-◌, length, get_or, ◌∙◌, refl}
use Rattle.offences.proofs.PutLemmas.{no_part, puts_more}
use Rattle.offences.proofs.puts.puts.Goals as goal

pub loop-k-preserved : goal.loop-k-preserved
loop-k-preserved c =
    let members = c.args.members.now in
    record {
      each = puts_more members c.args.number c.loop-k.k (get_or members (length members - 1 - c.loop-k.k) no_part) c.loop-k.puts.items c.add.new.puts.items c.loop-k-test.true refl
          c.add.ensures.added c.loop-k.invariant.each;
      all = c.add.ensures.all ∙ c.loop-k.invariant.all;
    }
