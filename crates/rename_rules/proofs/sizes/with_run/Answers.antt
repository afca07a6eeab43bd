use Rattle.rename_rules.proofs.sizes.with_run.Goals as goal

pub returns-clause-first : goal.returns-clause-first
returns-clause-first c = c.large_at.ensures c.args.name.now c.in_ok-size.ensures
