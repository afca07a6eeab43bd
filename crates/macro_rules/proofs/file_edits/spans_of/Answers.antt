use Rattle.std.proofs.Common.{◌+◌, ◌-◌, ◌≤◌, ◌++◌, List, length, sym, ap, ◌∙◌, append-nil, arith}
use Rattle.list_cuts.specs.declared.spans.Span.{Span}
use Rattle.macro_rules.specs.Files.{toks_in}
use Rattle.macro_rules.proofs.EditLemmas.{spans_end}
use Rattle.macro_rules.proofs.file_edits.spans_of.Goals as goal

pub returns : goal.returns
returns c =
    let bytes = c.args.file.now.bytes in
    let toks = toks_in c.args.file.now in
    let past : length c.args.list.now ≤ c.items.k - 1 + 1 = omega (arith, c.items-test.false, c.items.invariant.0) in
    c.new.ensures ∙ sym (append-nil c.items.items.items)
    ∙ ap (λ (rest : List Span). c.items.items.items ++ rest) (sym (spans_end bytes toks c.args.list.now (c.items.k - 1) past))
    ∙ c.items.invariant.1
