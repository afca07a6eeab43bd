use Rattle.std.proofs.Common.{◌≡◌, List, sym, ap, ◌∙◌}
use Rattle.std.specs.Prelude.{slice_get}
use Rattle.cs_base.specs.Token.{Token}
use Rattle.lexer.specs.Tokens.{tokens_of}
use Rattle.analysis.specs.BroughtNumbers.{all_brought}
use Rattle.analysis.proofs.PlaceNameLemmas.{file_in_line}
use Rattle.analysis.proofs.SpellingLemmas.{spelled_kept, spelled_number, number_file, numbers_in_line}
use Rattle.analysis.proofs.spelling.spelling.Goals as goal

pub slice_in-requires : goal.slice_in-requires
slice_in-requires c =
    let file = c.in-Some.file.now in
    file_in_line c.args.a.now.table c.args.part.start.file file c.toks.result.now (sym c.in-Some.ensures) (c.toks.ensures.answer file.number file.bytes c.text.ensures)

pub slice_in-requires-in-None : goal.slice_in-requires-in-None
slice_in-requires-in-None c =
    numbers_in_line (all_brought c.args.a.now.units) c.args.numbers.now c.args.part.start.file c.requires.numbers
    (number_file c.args.a.now c.args.numbers.now c.args.part.start c.requires.numbers c.requires.held (sym c.in-None.ensures))

pub returns-in-Some : goal.returns-in-Some
returns-in-Some c =
    let file = c.in-Some.file.now in
    let toks : c.toks.result.now ≡ tokens_of file.number file.bytes = c.toks.ensures.answer file.number file.bytes c.text.ensures in
    spelled_kept c.args.a.now c.args.numbers.now c.args.part file c.slice_in.result.now c.requires.lines c.requires.numbers c.requires.held (sym c.in-Some.ensures)
    (λ k t at held. c.slice_in.ensures k t (ap (λ (ts : List Token). slice_get ts k) toks ∙ at) held)

pub returns-in-None : goal.returns-in-None
returns-in-None c =
    spelled_number c.args.a.now c.args.numbers.now c.args.part c.slice_in-in-None.result.now c.requires.numbers c.requires.held (sym c.in-None.ensures)
    c.slice_in-in-None.ensures
