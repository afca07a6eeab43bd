use Rattle.analysis.specs.Below.linkage_join.Firsts.{first_at}
use Rattle.analysis.specs.Links.{external_names_from}
use Rattle.calls_of.proofs.ExternalLemmas.{adds-next, adds-all}
use Rattle.calls_of.proofs.firsts.Firsts.keep_unit.Goals as goal

pub loop-k-preserved : goal.loop-k-preserved
loop-k-preserved c =
    let names = c.args.bound.now.names in
    let toks = c.args.toks.now in
    adds-next c.args.project.now names toks c.loop-k.k c.index-toks-k.result (external_names_from names 0 toks)
    (first_at c.args.self.now.toks) (first_at c.loop-k.self.toks) (first_at c.keep_own.new.self.toks)
    c.loop-k-test.true c.index-toks-k.is c.loop-k.invariant c.in_ok-keep_own.ensures

pub returns : goal.returns
returns c =
    let names = c.args.bound.now.names in
    let toks = c.args.toks.now in
    adds-all c.args.project.now names toks c.loop-k.k (external_names_from names 0 toks) (first_at c.args.self.now.toks) (first_at c.loop-k.self.toks)
    c.loop-k-test.false c.loop-k.invariant
