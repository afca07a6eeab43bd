use Rattle.std.proofs.Common.{rules, ◌≡◌, ◌+◌, ◌++◌, ◌∷◌, [], take, length, arith}
use Rattle.std.proofs.lemmas.List.{take_more}
use Rattle.trim_rules.specs.Mentions.{told_at}
use Rattle.trim_rules.proofs.MentionLemmas.{tokens-begin, tokens-next, tokens-all}
use Rattle.trim_rules.proofs.mentions.Mentions.add_toks.Goals as goal

pub loop-tok-init : goal.loop-tok-init
loop-tok-init c = tokens-begin c.args.behind c.args.toks.now (told_at c.args.self.now.spans)

pub loop-tok-preserved : goal.loop-tok-preserved
loop-tok-preserved c =
    let toks = c.args.toks.now in
    let tok = c.tok-item.result in
    let more : take (c.loop-tok.tok-index + 1) toks ≡ take c.loop-tok.tok-index toks ++ tok ∷ [] = search (rules, take_more) in
    tokens-next c.args.behind toks c.loop-tok.tok-index tok (told_at c.args.self.now.spans) (told_at c.loop-tok.self.spans) (told_at c.add_tok.new.self.spans)
    more c.loop-tok.invariant c.in_ok-add_tok.ensures

pub returns : goal.returns
returns c =
    let toks = c.args.toks.now in
    tokens-all c.args.behind toks c.loop-tok.tok-index (told_at c.args.self.now.spans) (told_at c.loop-tok.self.spans)
    (omega (arith, c.loop-tok-test.false)) c.loop-tok.invariant
