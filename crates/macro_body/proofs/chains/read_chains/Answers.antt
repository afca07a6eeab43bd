use Rattle.std.proofs.Common.{false, length, sym, ap, ◌∙◌, arith}
use Rattle.std.proofs.lemmas.List.{at_drop_all}
use Rattle.macro_body.specs.Bodies.{parts_from, chains_in}
use Rattle.macro_body.specs.BodyParts.{onto_last, with_parts}
use Rattle.macro_body.proofs.ChainLemmas.{read-all, read-none}
use Rattle.macro_body.proofs.chains.read_chains.Goals as goal

pub loop-k-init : goal.loop-k-init
loop-k-init c =
    let m = c.args.m.now in
    record {
      chains = ap (λ v. onto_last v (chains_in (parts_from m false m.body))) c.in_ok-with_capacity.ensures.items ∙ read-none m;
      end = ap length c.as_slice-body.ensures;
    }

pub returns : goal.returns
returns c =
    let m = c.args.m.now in
    let r = c.loop-k.reading in
    let end = c.loop-k.invariant.end in
    sym (at_drop_all (λ ts. with_parts r.operand r.chains.items (parts_from m r.taken ts)) m.body c.loop-k.k (omega arith) ∙ read-all m r.operand r.taken r.chains.items)
    ∙ c.loop-k.invariant.chains
