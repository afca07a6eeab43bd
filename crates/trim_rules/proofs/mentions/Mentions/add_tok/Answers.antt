use Rattle.std.proofs.Common.{List, ℕ, Bor, sym, ap, ◌∙◌}
use Rattle.trim_rules.specs.Mentions.{told_at}
use Rattle.trim_rules.proofs.MentionLemmas.{widens-other, widens-at}
use Rattle.trim_rules.proofs.mentions.Mentions.add_tok.Goals as goal

-- a key of these bytes
abbrev lent : List ℕ → Bor (List ℕ)
lent bytes = record { ref_ptr = (0, 0); now = bytes }

pub returns-in_default : goal.returns-in_default
returns-in_default c =
    widens-other c.args.tok.now c.args.behind (told_at c.args.self.now.spans) (ap (told_at c.args.self.now.spans) (sym c.text-text.ensures.answer) ∙ sym c.in_default.ensures)

pub returns : goal.returns
returns c =
    widens-at c.args.tok.now c.args.behind c.in-Some.mention (told_at c.args.self.now.spans) (told_at c.insert.new.self) c.text-text.result.now
    c.text-text.ensures.answer (sym c.in-Some.ensures) c.widened.result c.widened.ensures (λ text. c.in_ok-insert.ensures.updates.0 (lent text))
