use Rattle.std.proofs.Common.{◌≡◌, true, false, refl, sym, ap, ◌∙◌}
use Rattle.cs_base.specs.Token.{has_origins}
use Rattle.find_names.specs.FileTokens.{has_span}
use Rattle.find_names.proofs.TokenLemmas.{on_ok_then, parted_none, parted_one}
use Rattle.find_names.proofs.file_tokens.push_token.Goals as goal

pub returns-then-has_origins : goal.returns-then-has_origins
returns-then-has_origins c =
    let has : has_origins c.args.tok.now.kind ≡ true = sym (c.if-has_origins.ensures ∙ ap has_origins c.kind.ensures) in
    on_ok_then c.push.result _ _ c.push.ensures
    (λ before part. parted_one part c.args.tok.now (has_span c.args.spans.now.items part) (has_span c.push.new.spans.items part) has (before part))

pub returns-else-has_origins : goal.returns-else-has_origins
returns-else-has_origins c =
    let not : has_origins c.args.tok.now.kind ≡ false = sym (c.if-has_origins.ensures ∙ ap has_origins c.kind.ensures) in
    λ part. parted_none part c.args.tok.now (has_span c.args.spans.now.items part) (has_span c.args.spans.now.items part) not refl
