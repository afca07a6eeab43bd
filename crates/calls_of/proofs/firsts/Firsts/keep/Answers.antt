use Rattle.std.proofs.Common.{rules, ◌≡◌, List, ℕ, Bor, None, ap, ◌∙◌}
use Rattle.std.specs.Option.{option_copied}
use Rattle.analysis.specs.Below.linkage_join.Firsts.{first_at}
use Rattle.analysis.proofs.Below.linkage_join.FirstsLemmas.{option_copied-cond}
use Rattle.calls_of.proofs.ExternalLemmas.{adds-put}
use Rattle.calls_of.proofs.firsts.Firsts.keep.Goals as goal

-- a key of these bytes
abbrev lent : List ℕ → Bor (List ℕ)
lent bytes = record { ref_ptr = (0, 0); now = bytes }

pub returns-in_ok-insert : goal.returns-in_ok-insert
returns-in_ok-insert c =
    let spelled = c.text-then-is_none.ensures.answer in
    let absent : first_at c.args.self.now.toks c.args.project.now c.args.name.now.text ≡ None = search rules in
    adds-put (first_at c.args.self.now.toks) (first_at c.insert.new.self) c.args.project.now _ c.args.name.now spelled absent
    (λ project text. ap option_copied (c.in_ok-insert.ensures.updates.0 (lent project, lent text)) ∙ option_copied-cond _ _ _)
