use Rattle.rename_rules.proofs.SizeLemmas.{all_large, all_sizes}
use Rattle.rename_rules.proofs.sizes.too_large_in.Goals as goal

pub returns : goal.returns
returns c =
    all_large c.args.a.now.value c.args.name.now c.args.members.now c.args.first c.in_ok-grown.grown.first c.full_at.result c.in_ok-grown.ensures.first
    (c.full_at.ensures c.args.name.now
    (all_sizes c.args.a.now.value c.args.name.now c.args.members.now c.kept_sizes-total.result c.in_ok-grown.grown.total c.kept_sizes-total.ensures c.in_ok-grown.ensures.total))
