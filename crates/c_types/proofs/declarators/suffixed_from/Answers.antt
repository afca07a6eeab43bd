use Rattle.std.proofs.Common.{◌+◌, ◌-◌, ◌≡◌, sym, ap, ◌∙◌, arith}
use Rattle.c_types.specs.Children.{from_child}
use Rattle.c_types.specs.Trees.{suffixed}
use Rattle.c_types.specs.Fronts.{front_suffixed}
use Rattle.c_types.proofs.ChildWalks.{from_child-end}
use Rattle.c_types.proofs.FrontLemmas.{suffixed-front}
use Rattle.c_types.proofs.declarators.suffixed_from.Goals as goal

pub returns-then-k-from : goal.returns-then-k-from
returns-then-k-from c =
    sym (ap (suffixed c.args.t) (from_child-end c.args.tree.now.under c.args.from (omega (arith, c.len-k.ensures, c.if-k-from.true))))

pub suffixes-init : goal.suffixes-init
suffixes-init c = record {
  above = omega (arith, c.if-k-from.false);
  behind = sym (ap (suffixed c.args.t) (from_child-end c.args.tree.now.under c.len-k.result (omega (arith, c.len-k.ensures))));
}

pub suffixes-preserved : goal.suffixes-preserved
suffixes-preserved c =
    let back : c.suffixes.k ≡ c.suffixes.k - 1 + 1 = omega (arith, c.suffixes-test.true) in
    record {
      above = omega (arith, c.suffixes-test.true);
      behind = c.in_ok-typed.ensures
          ∙ (ap (λ u. front_suffixed u (from_child (c.suffixes.k - 1) c.args.tree.now.under))
          (c.suffixes.invariant.behind ∙ ap (λ n. suffixed c.args.t (from_child n c.args.tree.now.under)) back)
          ∙ sym (suffixed-front c.args.t c.args.tree.now.under (c.suffixes.k - 1)));
    }
