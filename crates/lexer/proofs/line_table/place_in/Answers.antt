use Rattle.lexer.proofs.LineLemmas.{Found-some, Found-reached, Found-place}
use Rattle.lexer.proofs.line_table.place_in.Goals as goal

pub overflow_sub-result : goal.overflow_sub-result
overflow_sub-result c =
    Found-some c.args.starts.now c.args.at c.args.len c.lines_to-line.result c.requires.table c.lines_to-line.ensures.found

pub overflow_sub-result-2 : goal.overflow_sub-result-2
overflow_sub-result-2 c =
    let some = Found-some c.args.starts.now c.args.at c.args.len c.lines_to-line.result c.requires.table c.lines_to-line.ensures.found in
    Found-reached c.args.starts.now c.args.at c.lines_to-line.result some c.lines_to-line.ensures.found

pub returns : goal.returns
returns c =
    Found-place c.args.starts.now c.args.at c.args.len c.lines_to-line.result c.requires.table
    c.lines_to-line.ensures.bound c.lines_to-line.ensures.found
