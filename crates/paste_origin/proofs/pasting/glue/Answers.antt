use Rattle.std.proofs.Common.{rules, ◌≡◌, ◌∙◌, ap, sym, ◌++◌, ℕ, ◌+◌, List, length, length-append, Some, None, Ok}
use Rattle.cs_base.specs.declared.spans.Span.{Span}
use Rattle.cs_base.specs.declared.tokens.Kind.{Kind}
use Rattle.cs_base.specs.Spans.{origins_by}
use Rattle.cs_base.specs.Token.{Token, token}
use Rattle.lexer.specs.OneToken.{one_token_of}
use Rattle.paste_origin.specs.Pasting.{glue_of, pasted_as}
use Rattle.paste_origin.proofs.pasting.glue.Goals as goal

pub returns-in-None : goal.returns-in-None
unfolding glue_of
returns-in-None c = let h : one_token_of (c.args.x.now.text ++ c.args.y.now.text) ≡ None = search rules in record { answer = ap (pasted_as c.args.x.now c.args.y.now) h }

-- the token is the one that two make
made : (x y t : Token) (kind : Kind) (text : List ℕ) (spans : List Span) → text ≡ x.text ++ y.text
    → origins_by (length x.text + length y.text) spans ≡ x.origins ++ y.origins → one_token_of text ≡ Some kind
    → t ≡ token kind text (origins_by (length text) spans) x.gap x.at x.line x.direct → glue_of x y ≡ Ok t
unfolding glue_of
made x y t kind text spans same told one is =
    let one_is : one_token_of (x.text ++ y.text) ≡ Some kind = ap one_token_of (sym same) ∙ one in
    let size : length text ≡ length x.text + length y.text = ap length same ∙ length-append x.text y.text in
    ap (pasted_as x y) one_is
    ∙ ap Ok (sym (is ∙ ap (λ n. token kind text (origins_by n spans) x.gap x.at x.line x.direct) size
    ∙ ap (λ os. token kind text os x.gap x.at x.line x.direct) told
    ∙ ap (λ v. token kind v (x.origins ++ y.origins) x.gap x.at x.line x.direct) same))

pub returns : goal.returns
returns c =
    let x = c.args.x.now in
    let y = c.args.y.now in
    let text : c.as_slice-in-Some.result.now ≡ x.text ++ y.text = search rules in
    let told : origins_by (length x.text + length y.text) c.as_slice-in-Some-2.result.now ≡ x.origins ++ y.origins = search rules in
    let one : one_token_of c.as_slice-in-Some.result.now ≡ Some c.in-Some.kind = search rules in
    let is : c.in_ok-with_spans-in-Some.field-0 ≡ token c.in-Some.kind c.as_slice-in-Some.result.now (origins_by (length c.as_slice-in-Some.result.now) c.as_slice-in-Some-2.result.now) x.gap x.at x.line x.direct = search rules in
    record { answer = made x y c.in_ok-with_spans-in-Some.field-0 c.in-Some.kind c.as_slice-in-Some.result.now c.as_slice-in-Some-2.result.now text told one is }
