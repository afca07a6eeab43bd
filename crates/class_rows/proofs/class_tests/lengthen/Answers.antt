use Rattle.std.proofs.Common.{arith}
use Rattle.eclass_map.proofs.CallerFacts.{few_after, near_after}
use Rattle.class_rows.proofs.class_tests.lengthen.Goals as goal

pub resize-requires-clause-short : goal.resize-requires-clause-short
resize-requires-clause-short c = few_after c.args.class 5 5 c.args.classes.now (omega (arith, c.first_member.ensures.few, c.requires.few)) (omega (arith, c.requires.few))

pub resize-requires-clause-within : goal.resize-requires-clause-within
resize-requires-clause-within c =
    near_after c.args.class 5 5 c.args.classes.now (omega (arith, c.first_member.ensures.few, c.requires.few)) (λ token added. let near = c.requires.near token added in omega arith)
