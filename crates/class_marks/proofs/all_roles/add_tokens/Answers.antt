use Rattle.std.proofs.Common.{◌<◌, ◌≤◌, length, arith}
use Rattle.class_marks.specs.ClassRoles.{of_role}
use Rattle.class_marks.specs.Marks.{with_tokens}
use Rattle.class_marks.specs.Roles.{tokens_with}
use Rattle.class_marks.proofs.MarkLemmas.{tokens_end, tokens_step}
use Rattle.class_marks.proofs.all_roles.add_tokens.Goals as goal

pub loop-k-preserved : goal.loop-k-preserved
loop-k-preserved c =
    let names = c.args.bound.now.names in
    let toks = c.args.toks.now in
    let k = c.loop-k.k in
    let within : k < length toks = omega (arith, c.loop-k.invariant.counted, c.loop-k-test.true) in
    record {
      counted = c.loop-k.invariant.counted;
      rest = λ role. tokens_step c.args.classes.now role names toks k c.index-toks-k.result (of_role role c.loop-k.all.items) (of_role role c.add_bound.new.all.items)
          (with_tokens c.args.classes.now (of_role role c.args.all.now.items) (tokens_with role names 0 toks)) within c.index-toks-k.is
          (c.add_bound.ensures role) (c.loop-k.invariant.rest role);
    }

pub returns : goal.returns
returns c = λ role.
    let names = c.args.bound.now.names in
    let toks = c.args.toks.now in
    let past : length toks ≤ c.loop-k.k = omega (arith, c.loop-k.invariant.counted, c.loop-k-test.false) in
    tokens_end c.args.classes.now role names toks c.loop-k.k (of_role role c.loop-k.all.items)
    (with_tokens c.args.classes.now (of_role role c.args.all.now.items) (tokens_with role names 0 toks)) past (c.loop-k.invariant.rest role)
