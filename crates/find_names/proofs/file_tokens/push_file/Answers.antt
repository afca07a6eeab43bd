use Rattle.std.proofs.Common.{◌||◌, List, ap, ◌∙◌, sym}
use Rattle.std.specs.List.{list_any}
use Rattle.std.proofs.lemmas.List.{take_all}
use Rattle.std.proofs.Math.Bool.{or-false}
use Rattle.cs_base.specs.Token.{Token}
use Rattle.find_names.specs.FileTokens.{has_span, is_span}
use Rattle.find_names.proofs.TokenLemmas.{parted, parted_more}
use Rattle.find_names.proofs.file_tokens.push_file.Goals as goal

pub loop-tok-init : goal.loop-tok-init
loop-tok-init c =
    λ part. sym (or-false (has_span c.args.spans.now.items part))

pub loop-tok-preserved : goal.loop-tok-preserved
loop-tok-preserved c =
    λ part.
    parted_more part c.toks-toks.result.now c.loop-tok.tok-index c.tok-item.result (has_span c.args.spans.now.items part) _ _ c.loop-tok-test.true c.tok-item.is
    (c.loop-tok.invariant part) (c.in_ok-push_token.ensures part)

pub returns : goal.returns
returns c =
    λ part.
    c.loop-tok.invariant part
    ∙ ap (λ (ts : List Token). has_span c.args.spans.now.items part || list_any (is_span part) (parted ts))
    (take_all c.loop-tok.tok-index c.toks-toks.result.now c.loop-tok-test.false
    ∙ c.toks-toks.ensures.answer c.args.file.now.number c.args.file.now.bytes c.text.ensures)
