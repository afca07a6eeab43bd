use Rattle.std.proofs.Common.{◌≡◌, List, Some, None, sym, subst, ◌∙◌}
use Rattle.cs_base.specs.Token.{Token}
use Rattle.lexer.specs.Tokens.{tokens_of}
use Rattle.analysis.specs.TokenSearch.{IsOver}
use Rattle.analysis.proofs.PlaceNameLemmas.{file_in_line, processed_some, processed_none}
use Rattle.analysis.proofs.naming.is_processed.Goals as goal

pub token_over-requires : goal.token_over-requires
token_over-requires c =
    let file = c.args.file.now in
    file_in_line c.args.a.now.table c.args.pos.file file c.toks.result.now c.requires.kept (c.toks.ensures.answer file.number file.bytes c.text.ensures)

pub returns-in-Some : goal.returns-in-Some
returns-in-Some c =
    let file = c.args.file.now in
    let toks : c.toks.result.now ≡ tokens_of file.number file.bytes = c.toks.ensures.answer file.number file.bytes c.text.ensures in
    c.is_marked.ensures
    ∙ processed_some c.args.a.now c.args.marks.now file c.args.pos c.in-Some.token c.requires.kept c.requires.marked
    (subst (λ (ts : List Token). IsOver ts c.args.pos (Some c.in-Some.token)) toks c.in-Some.ensures)

pub returns-in-None : goal.returns-in-None
returns-in-None c =
    let file = c.args.file.now in
    let toks : c.toks.result.now ≡ tokens_of file.number file.bytes = c.toks.ensures.answer file.number file.bytes c.text.ensures in
    sym (processed_none c.args.a.now c.args.marks.now file c.args.pos c.requires.kept c.requires.marked
    (subst (λ (ts : List Token). IsOver ts c.args.pos None) toks c.in-None.ensures))
