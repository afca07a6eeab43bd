use Rattle.std.proofs.Common.{◌∷◌, [], ◌||◌, ap, sym, ◌∙◌}
use Rattle.std.specs.List.{list_any}
use Rattle.std.proofs.Math.Bool.{or-false}
use Rattle.std.proofs.lemmas.List.Folds.{list_any-append}
use Rattle.cs_base.specs.declared.positions.Part.{Part}
use Rattle.find_names.specs.FileTokens.{has_span, is_part}
use Rattle.find_names.proofs.file_tokens.push.Goals as goal

pub returns : goal.returns
returns c = λ part.
    let old = c.args.spans.now.items in
    let span = c.span_of.result in
    ap (λ ps. has_span ps part) c.in_ok-push.ensures.items ∙ list_any-append (λ p. is_part p part) old (span ∷ [])
    ∙ ap (λ b. has_span old part || b) (or-false (is_part span part))
    ∙ ap (λ (p : Part). has_span old part || is_part p part) c.span_of.ensures
