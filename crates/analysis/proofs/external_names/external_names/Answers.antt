use Rattle.std.proofs.Common.{◌≡◌, ◌≤◌, ◌<◌, ◌++◌, true, false, length, sym, ap, ◌∙◌, arith}
use Rattle.analysis.specs.Links.{external_names_from, is_external_name}
use Rattle.analysis.proofs.ExternalLemmas.{names_skip, names_more, names_end}
use Rattle.analysis.proofs.external_names.external_names.Goals as goal
use Rattle.analysis.proofs.external_names.external_names.Goals.{then-is_external_name+in_ok-shared+in_ok-push, else-is_external_name}

pub loop-k-preserved : goal.loop-k-preserved
loop-k-preserved c =
    let names = c.args.bound.now.names in
    let toks = c.args.toks.now in
    let k = c.loop-k.k in
    let whole = external_names_from names 0 toks in
    let within : k < length toks = omega (arith, c.loop-k.invariant.counted, c.loop-k-test.true) in
    elim c.if-is_external_name.branch [
      | then-is_external_name+in_ok-shared+in_ok-push w ↦
          let t = w.index-toks-k.result in
          let own : is_external_name names k ≡ true = sym c.is_external_name.ensures ∙ w.if-is_external_name.true in
          record {
            counted = c.loop-k.invariant.counted;
            rest = names_more names toks k t w.in_ok-shared.field-0 c.loop-k.all.items c.if-is_external_name.all.items whole within own w.index-toks-k.is w.in_ok-shared.ensures (rw w.all-is w.in_ok-push.ensures.items)
                c.loop-k.invariant.rest;
          }
      | else-is_external_name w ↦
          let other : is_external_name names k ≡ false = sym c.is_external_name.ensures ∙ w.if-is_external_name.false in
          record {
            counted = c.loop-k.invariant.counted;
            rest = rw w.all-is (ap (λ v. c.loop-k.all.items ++ v) (names_skip names toks k within other) ∙ c.loop-k.invariant.rest);
          }
    ]

pub returns : goal.returns
returns c =
    let past : length c.args.toks.now ≤ c.loop-k.k = omega (arith, c.loop-k.invariant.counted, c.loop-k-test.false) in
    names_end c.args.bound.now.names c.args.toks.now c.loop-k.k c.loop-k.all.items (external_names_from c.args.bound.now.names 0 c.args.toks.now) past c.loop-k.invariant.rest
