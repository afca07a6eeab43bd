use Rattle.std.proofs.Common.{List, ℕ, Bool, true, false, ap, ◌∙◌}
use Rattle.std.specs.Prelude.{map}
use Rattle.cs_base.specs.declared.causes.Cause.TheVariants as cause
use Rattle.cs_base.specs.Token.{Token}
use Rattle.offences.proofs.FirstLemmas.{then_none}
use Rattle.template_rules.specs.GnuOffences.{brought_place, has_word, joined, text_toks}
use Rattle.template_rules.proofs.GnuLemmas.{placed}
use Rattle.template_rules.proofs.gnu_texts.in_text.Goals as goal

pub returns-then-has_word : goal.returns-then-has_word
returns-then-has_word c =
    let words = map (λ t. t.now) c.args.words.now in
    let given = c.deref.ensures.value ∙ c.in_ok-given.ensures ∙ ap joined c.text_toks.ensures in
    placed c.args.a.now.value.table cause.AssemblerText (has_word (joined (text_toks c.args.toks.now c.args.text)) words) true
    (brought_place c.args.toks.now c.args.text.from) c.args.first c.at_brought.result
    (c.if-has_word.ensures ∙ ap (λ (text : List ℕ). has_word text words) given) c.at_brought.ensures

pub returns : goal.returns
returns c =
    let words = map (λ t. t.now) c.args.words.now in
    let given = c.deref.ensures.value ∙ c.in_ok-given.ensures ∙ ap joined c.text_toks.ensures in
    placed c.args.a.now.value.table cause.AssemblerText (has_word (joined (text_toks c.args.toks.now c.args.text)) words) false
    (brought_place c.args.toks.now c.args.text.from) c.args.first c.args.first
    (c.if-has_word.ensures ∙ ap (λ (text : List ℕ). has_word text words) given) (then_none c.args.a.now.value.table c.args.first)
