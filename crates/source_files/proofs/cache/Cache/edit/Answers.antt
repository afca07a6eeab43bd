use Rattle.std.proofs.Common.{◌≡◌, ◌≤◌, ℕ, length, arith, rules, subst, sym, ap, ◌∙◌, Ok, Option}
use Rattle.std.specs.Prelude.{IfSome}
use Rattle.lexer.specs.FileText.{file_text}
use Rattle.lexer.specs.Refusal.{fault_of as lex_fault_of}
use Rattle.source_files.specs.Files.{bytes_opened}
use Rattle.source_files.specs.Edited.{bytes_with, edited, edited_as, size_at}
use Rattle.source_files.proofs.OpeningLemmas.{ok_value}
use Rattle.source_files.proofs.EditedLemmas.{size-within, cache-edited, edit-much, edit-fits, edit-refused}
use Rattle.source_files.proofs.cache.Cache.edit.Goals as goal

pub bytes_with-all-requires-clause-within : goal.bytes_with-all-requires-clause-within
bytes_with-all-requires-clause-within c =
    subst (λ (n : ℕ). IfSome c.opened_size.result (λ o. o ≤ n)) (sym c.self.invariant.measured)
    (subst (λ (o : Option ℕ). IfSome o (λ size. size ≤ bytes_opened c.self.inside.table)) (sym c.opened_size.ensures) (size-within c.self.inside.table c.args.number))

-- how many bytes there are, by the table
counted : (all new : ℕ) (told at : Option ℕ) (opened len size : ℕ) → new ≡ bytes_with all told len → all ≡ opened → told ≡ at → len ≡ size
    → new ≡ bytes_with opened at size
counted all new told at opened len size is a t l =
    is ∙ ap (λ (n : ℕ). bytes_with n told len) a ∙ ap (λ (o : Option ℕ). bytes_with opened o len) t ∙ ap (bytes_with opened at) l

pub returns-then-all-gt-MOST_BYTES_OF_ALL-clause-answer : goal.returns-then-all-gt-MOST_BYTES_OF_ALL-clause-answer
returns-then-all-gt-MOST_BYTES_OF_ALL-clause-answer c =
    let size : c.len.result ≡ length c.args.bytes.items = search rules in
    let with : c.bytes_with-all.result ≡ bytes_with (bytes_opened c.self.inside.table) (size_at c.self.inside.table c.args.number) (length c.args.bytes.items) =
    counted c.self.inside.bytes c.bytes_with-all.result c.opened_size.result (size_at c.self.inside.table c.args.number) (bytes_opened c.self.inside.table)
    c.len.result (length c.args.bytes.items) c.bytes_with-all.ensures c.self.invariant.measured c.opened_size.ensures size in
    rw (← c.self.view_is)
    (edit-much c.self.inside.table c.args.number c.args.bytes.items c.bytes_with-all.result with (omega (arith, c.if-all-gt-MOST_BYTES_OF_ALL.true)))

pub invariant_of-self : goal.invariant_of-self
invariant_of-self c =
    let size : c.len.result ≡ length c.args.bytes.items = search rules in
    let with : c.bytes_with-all.result ≡ bytes_with c.self.inside.bytes (size_at c.self.inside.table c.args.number) (length c.args.bytes.items) =
    c.bytes_with-all.ensures ∙ ap (λ (o : Option ℕ). bytes_with c.self.inside.bytes o c.len.result) c.opened_size.ensures
    ∙ ap (bytes_with c.self.inside.bytes (size_at c.self.inside.table c.args.number)) size in
    cache-edited c.self.inside.table c.edit.new.self c.args.number c.args.bytes.items c.self.inside.files c.self.inside.bytes c.bytes_with-all.result
    c.self.inside.toks c.self.invariant c.in-Ok.ensures.ok with (omega (arith, c.if-all-gt-MOST_BYTES_OF_ALL.false))

pub returns-in-Ok-clause-answer : goal.returns-in-Ok-clause-answer
returns-in-Ok-clause-answer c =
    let size : c.len.result ≡ length c.args.bytes.items = search rules in
    let with : c.bytes_with-all.result ≡ bytes_with (bytes_opened c.self.inside.table) (size_at c.self.inside.table c.args.number) (length c.args.bytes.items) =
    counted c.self.inside.bytes c.bytes_with-all.result c.opened_size.result (size_at c.self.inside.table c.args.number) (bytes_opened c.self.inside.table)
    c.len.result (length c.args.bytes.items) c.bytes_with-all.ensures c.self.invariant.measured c.opened_size.ensures size in
    let text = ok_value (file_text c.args.number c.args.bytes.items) c.in-Ok.ensures.readable in
    rw (← c.self.view_is)
    (edit-fits c.self.inside.table c.args.number c.args.bytes.items c.bytes_with-all.result with (omega (arith, c.if-all-gt-MOST_BYTES_OF_ALL.false))
    ∙ ap (edited_as (edited c.args.number c.args.bytes.items c.self.inside.table)) text.1 ∙ ap (λ t. Ok t) (sym c.in-Ok.ensures.ok))

pub returns-in-Err-clause-answer : goal.returns-in-Err-clause-answer
returns-in-Err-clause-answer c =
    let size : c.len.result ≡ length c.args.bytes.items = search rules in
    let with : c.bytes_with-all.result ≡ bytes_with (bytes_opened c.self.inside.table) (size_at c.self.inside.table c.args.number) (length c.args.bytes.items) =
    counted c.self.inside.bytes c.bytes_with-all.result c.opened_size.result (size_at c.self.inside.table c.args.number) (bytes_opened c.self.inside.table)
    c.len.result (length c.args.bytes.items) c.bytes_with-all.ensures c.self.invariant.measured c.opened_size.ensures size in
    rw (← c.self.view_is)
    (edit-refused (lex_fault_of c.in-Err.refusal) c.self.inside.table c.args.number c.args.bytes.items
    (edit-fits c.self.inside.table c.args.number c.args.bytes.items c.bytes_with-all.result with (omega (arith, c.if-all-gt-MOST_BYTES_OF_ALL.false)))
    c.in-Err.ensures.refused)
