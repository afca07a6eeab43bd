use Rattle.std.proofs.Common.{◌≡◌, ◌+◌, ◌-◌, take, drop, length, refl, sym, ◌∙◌}
use Rattle.std.proofs.lemmas.List.{take_rest}
use Rattle.macro_body.proofs.DefiningLemmas.{close-is_some, close-parts, some-same}
use Rattle.macro_body.proofs.define_line.function_like.Goals as goal

pub unwrap-close-requires : goal.unwrap-close-requires
unwrap-close-requires c = rw c.close_at.ensures.answer (close-is_some c.args.toks.now c.requires.closed)

pub returns : goal.returns
returns c = λ body is.
    let toks = c.args.toks.now in
    let parts = close-parts toks c.unwrap-close.result c.args.name.now (sym c.close_at.ensures.answer ∙ c.unwrap-close.ensures) in
    let behind : body ≡ take (length toks - (c.unwrap-close.result + 1)) (drop (c.unwrap-close.result + 1) toks) = some-same (sym is ∙ parts.1) ∙ sym (take_rest toks _) in
    rw (c.in_ok-shared.ensures, c.new.ensures, c.in_ok-names_shared.ensures, c.has_plain_rest.ensures, c.has_named_rest.ensures, c.new-2.ensures, c.in_ok-all_shared.ensures, behind, parts.0) refl
