use Rattle.std.proofs.Common.{◌∙◌}
use Rattle.std.specs.Option.{option_to_list}
use Rattle.name_chains.specs.Entering.{kept_here}
use Rattle.name_chains.proofs.KeptChains.{kept-one, kept-all, same_toks, toks_stay, declared_grows}
use Rattle.name_chains.proofs.chains.Chains.keep.Goals as goal

pub kept-preserved : goal.kept-preserved
kept-preserved c = record {
  same = toks_stay c.push_some.new.self c.kept.self (option_to_list c.in_ok-kept.kept) c.in_ok-push_some.ensures ∙ c.kept.invariant.same;
  kept = kept-one (kept_here c.args.list c.args.depth c.args.from c.args.to) c.args.self.now.declared c.kept.k c.in_ok-kept.kept
      c.kept.self.declared c.declared.result.now c.push_some.new.self.declared c.declared-count.result.now c.declared-count.ensures c.kept-test.true
      c.declared.ensures c.kept.invariant.kept c.in_ok-kept.ensures
      (declared_grows c.push_some.new.self c.kept.self (option_to_list c.in_ok-kept.kept) c.in_ok-push_some.ensures);
}

pub returns : goal.returns
returns c =
    same_toks c.kept.self c.args.self.now _ c.kept.invariant.same
    (kept-all (kept_here c.args.list c.args.depth c.args.from c.args.to) c.args.self.now.declared c.kept.k c.kept.self.declared c.declared-count.result.now
    c.declared-count.ensures c.kept-test.false c.kept.invariant.kept)
