use Rattle.std.proofs.Common.{◌≡◌, List, ℕ, None, subst}
use Rattle.analysis.specs.Naming.{file_named}
use Rattle.query_report.proofs.NamedLemmas.{unnamed}
use Rattle.query_report.proofs.class_lines.unreadable.Goals as goal

pub returns-else-is_kept-clause-no_name : goal.returns-else-is_kept-clause-no_name
returns-else-is_kept-clause-no_name c = λ same.
    let P : List ℕ → Type 0 = λ path. file_named path 0 c.args.a.now.value.table ≡ None in
    unnamed c.args.a.now.value c.args.place.now.path c.args.place.now.line c.args.place.now.column
    (subst P c.bytes.ensures (c.is_kept.ensures c.if-is_kept.false))
