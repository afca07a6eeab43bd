use Rattle.std.proofs.Common.{rules, ◌≡◌, None, ap, ◌∙◌}
use Rattle.std.specs.Option.{option_copied}
use Rattle.analysis.proofs.Below.linkage_join.FirstsLemmas.{option_copied-cond}
use Rattle.calls_of.specs.Owners.{owner_at}
use Rattle.calls_of.proofs.OwnerLemmas.{owner_with-put}
use Rattle.calls_of.proofs.owners.Owners.keep_at.Goals as goal

pub returns-in_ok-insert : goal.returns-in_ok-insert
returns-in_ok-insert c =
    let absent : owner_at c.args.self.now.names c.args.pos ≡ None = search rules in
    owner_with-put (owner_at c.args.self.now.names) (owner_at c.insert.new.self) c.args.name.now c.args.pos absent
    (λ p. ap option_copied (c.in_ok-insert.ensures.updates.0 (p.file, p.at)) ∙ option_copied-cond _ _ _)
