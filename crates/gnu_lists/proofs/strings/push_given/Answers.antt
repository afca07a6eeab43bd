use Rattle.std.proofs.Common.{List, ℕ, ◌++◌, sym, ap, ◌∙◌}
use Rattle.gnu_lists.specs.Strings.{unescaped}
use Rattle.gnu_lists.proofs.StringLemmas.{unescaped_plain}
use Rattle.gnu_lists.proofs.strings.push_given.Goals as goal

pub returns : goal.returns
returns c =
    let inner = c.unquoted-inner.result.now in
    let plain = unescaped_plain inner (sym c.if-has_backslash.ensures) in
    c.in_ok-extend_from_slice.ensures.items ∙ ap (λ (ts : List ℕ). c.args.out.now.items ++ ts) (sym plain ∙ ap (λ (ts : List ℕ). unescaped ts) c.unquoted-inner.ensures)
