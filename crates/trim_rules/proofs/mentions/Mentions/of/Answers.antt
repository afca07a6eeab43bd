use Rattle.std.proofs.Common.{List, length, subst}
use Rattle.cs_base.specs.Token.{Token}
use Rattle.analysis.specs.Below.unit_steps.declared.events.Event.{Event}
use Rattle.analysis.specs.Below.unit_steps.declared.events.Reached.{Reached}
use Rattle.trim_rules.specs.Mentions.{told_at, with_items, with_tokens, HasNames, Widens}
use Rattle.trim_rules.proofs.MentionLemmas.{mentions-all}
use Rattle.trim_rules.proofs.mentions.Mentions.of.Goals as goal

pub returns : goal.returns
returns c =
    let table = c.args.a.now.value.table in
    let named = told_at c.in_ok-mentions.mentions.spans in
    let mid = told_at c.add_toks.new.self.spans in
    let all = told_at c.add_items.new.self.spans in
    mentions-all table c.args.text.now named mid all
    (subst (λ (events : List Event). HasNames events (length events) named) c.events.ensures c.in_ok-mentions.ensures)
    (subst (λ (toks : List Token). Widens (λ name m. with_tokens name 0 m toks) named mid) c.pasted.ensures c.in_ok-add_toks.ensures)
    (subst (λ (reached : List Reached). Widens (λ name m. with_items table name m reached) mid all) c.reached.ensures c.in_ok-add_items.ensures)
