use Rattle.std.proofs.Common.{◌≡◌, ◌+◌, ◌++◌, ◌∙◌, ap, sym, rules, ℕ, List, length, length-append}
use Rattle.cs_base.specs.Spans.{AreSpans, origins_by}
use Rattle.paste_origin.proofs.StringLemmas.{plain_spelling, plain_origins}
use Rattle.paste_origin.proofs.strings.push_plain.Goals as goal

pub returns-clause-text : goal.returns-clause-text
returns-clause-text c =
    let t = c.args.tok.now in
    let items : c.extend_from_slice.new.self.items ≡ c.args.text.now.items ++ t.text = search rules in
    items ∙ ap (λ (w : List ℕ). c.args.text.now.items ++ w) (sym (plain_spelling t.kind t.text c.requires.plain))

pub returns-clause-origins : goal.returns-clause-origins
returns-clause-origins c =
    let t = c.args.tok.now in
    let items : c.extend_from_slice.new.self.items ≡ c.args.text.now.items ++ t.text = search rules in
    let size : length c.extend_from_slice.new.self.items ≡ length c.args.text.now.items + length t.text = ap length items ∙ length-append c.args.text.now.items t.text in
    let told : origins_by (length c.args.text.now.items + length t.text) c.push_spans.new.spans.items ≡ origins_by (length c.args.text.now.items) c.args.spans.now.items ++ t.origins = search rules in
    let is = c.text-more.ensures.sound in
    ap (λ (n : ℕ). origins_by n c.push_spans.new.spans.items) size ∙ told
    ∙ ap (λ (os : List _). origins_by (length c.args.text.now.items) c.args.spans.now.items ++ os) (sym (plain_origins t.kind t.text t.origins c.requires.plain is.each))
