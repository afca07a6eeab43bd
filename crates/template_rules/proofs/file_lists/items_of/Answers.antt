use Rattle.std.proofs.Common.{◌≡◌, ◌+◌, ◌-◌, ◌≤◌, ◌++◌, List, [], length, drop, sym, ap, ◌∙◌, append-nil, arith}
use Rattle.list_cuts.specs.declared.spans.Span.{Span}
use Rattle.analysis.specs.Below.lexer.Tokens.{tokens_of}
use Rattle.template_rules.specs.FileLists.{items_of}
use Rattle.template_rules.proofs.ListLemmas.{items_end}
use Rattle.template_rules.proofs.file_lists.items_of.Goals as goal

pub returns : goal.returns
returns c =
    let bytes = c.args.file.now.bytes in
    let toks = tokens_of c.args.file.now.number bytes in
    let past : length c.args.list.now ≤ c.items.k - 1 + 1 = omega (arith, c.items-test.false, c.items.invariant.0) in
    c.new.ensures ∙ sym (append-nil c.items.items.items)
    ∙ ap (λ (rest : List Span). c.items.items.items ++ rest) (sym (items_end bytes toks c.args.list.now (c.items.k - 1) past))
    ∙ c.items.invariant.1
