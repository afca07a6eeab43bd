use Rattle.std.proofs.Common.{rules, ◌≡◌, ◌+◌, ◌++◌, ◌∷◌, [], length, arith, take, List, subst}
use Rattle.std.proofs.lemmas.List.{take_more}
use Rattle.cs_base.specs.Token.{Token}
use Rattle.trim_rules.specs.Mentions.{told_at, with_tokens, Widens}
use Rattle.trim_rules.proofs.MentionLemmas.{items-begin, items-next, items-all}
use Rattle.trim_rules.proofs.mentions.Mentions.add_items.Goals as goal

pub loop-one-init : goal.loop-one-init
loop-one-init c = items-begin c.args.a.now.value.table c.args.reached.now (told_at c.args.self.now.spans)

pub loop-one-preserved : goal.loop-one-preserved
loop-one-preserved c =
    let reached = c.args.reached.now in
    items-next c.args.a.now.value.table reached c.loop-one.one-index _ (told_at c.args.self.now.spans) (told_at c.loop-one.self.spans) (told_at c.add_toks.new.self.spans)
    (take_more reached c.loop-one.one-index _ (omega (arith, c.loop-one-test.true))) c.loop-one.invariant
    (rw c.toks_reached.ensures at c.in_ok-add_toks.ensures)

pub returns : goal.returns
returns c =
    items-all c.args.a.now.value.table c.args.reached.now c.loop-one.one-index (told_at c.args.self.now.spans) (told_at c.loop-one.self.spans)
    (omega (arith, c.loop-one-test.false)) c.loop-one.invariant
