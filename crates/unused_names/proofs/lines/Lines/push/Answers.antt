use Rattle.std.proofs.Common.{rules}
use Rattle.unused_names.specs.Lines.{has_position}
use Rattle.unused_names.proofs.LineLemmas.{meets_needed, meets_unneeded}
use Rattle.unused_names.proofs.lines.Lines.push.Goals as goal

pub returns-then-unneeded : goal.returns-then-unneeded
returns-then-unneeded c =
    meets_unneeded c.args.at c.args.unneeded c.args.self.now.all.items c.push.new.self.items (has_position c.args.self.now.needed) c.if-unneeded.true
    (search rules)

pub returns : goal.returns
returns c =
    meets_needed c.args.at c.args.unneeded c.args.self.now.all.items c.push.new.self.items (has_position c.args.self.now.needed)
    (has_position c.insert.new.self) c.if-unneeded.false (search rules)
    (λ p. c.in_ok-insert.ensures.updates.0 (p.file, p.at))
