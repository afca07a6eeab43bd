use Rattle.std.proofs.Common.{◌≤◌, ◌^◌, Ok, sym, ◌∙◌, ap, arith}
use Rattle.cs_base.specs.declared.causes.Cause.TheVariants.{TooManyBytes}
use Rattle.lexer.specs.Refusal.{fault_of as lex_fault_of}
use Rattle.source_files.specs.Files.{found_at, opened}
use Rattle.source_files.specs.Faults.{fault}
use Rattle.source_files.specs.Answers.{fault_of}
use Rattle.source_files.specs.Opening.{file_read}
use Rattle.source_files.specs.FileTableFields.{unread_bytes}
use Rattle.source_files.specs.Statuses.{IsUnread}
use Rattle.lexer.specs.FileText.{file_text}
use Rattle.source_files.proofs.OpeningLemmas.{named_fault, refused_fault, ok_value, unread-small, cache-opened, opening-read, opening-much}
use Rattle.source_files.proofs.cache.Cache.open_first.Goals as goal

pub returns-then-is_too_much-clause-answer : goal.returns-then-is_too_much-clause-answer
returns-then-is_too_much-clause-answer c =
    let unread : IsUnread c.self.inside.table c.args.path.now c.args.number c.args.size = rw (← c.self.view_is) at c.requires.unread in
    rw (← c.self.view_is)
    (named_fault (fault_of c.fault_there-then-is_too_much.result) (fault c.args.place.now TooManyBytes) _ c.fault_there-then-is_too_much.ensures.answer
    (opening-much c.self.inside.table c.args.path.now c.args.number c.args.size unread c.args.place.now c.self.inside.files c.self.inside.bytes c.self.inside.toks c.self.invariant
    c.if-self-ge-MOST_FILES.false c.if-is_too_much.ensures.0 c.if-is_too_much.ensures.1))

small : (c : goal.After-self-1) → c.args.size ≤ 2 ^ 22
small c =
    let unread : IsUnread c.self.inside.table c.args.path.now c.args.number c.args.size = rw (← c.self.view_is) at c.requires.unread in
    unread-small c.self.inside.table c.args.path.now c.args.number c.args.size unread c.in-Ok.ensures.readable

small_then : (c : goal.After-self-in-Ok-1) → c.args.size ≤ 2 ^ 22
small_then c =
    let unread : IsUnread c.self.inside.table c.args.path.now c.args.number c.args.size = rw (← c.self.view_is) at c.requires.unread in
    unread-small c.self.inside.table c.args.path.now c.args.number c.args.size unread c.in-Ok.ensures.readable

pub overflow_cast-self : goal.overflow_cast-self
overflow_cast-self c = omega (arith, small c)

pub overflow_add-self-in-Ok : goal.overflow_add-self-in-Ok
overflow_add-self-in-Ok c = omega (arith, small c, c.self.invariant.few_bytes)

pub invariant_of-self : goal.invariant_of-self
invariant_of-self c =
    let unread : IsUnread c.self.inside.table c.args.path.now c.args.number c.args.size = rw (← c.self.view_is) at c.requires.unread in
    cache-opened c.self.inside.table c.args.path.now c.args.number c.args.size unread c.open.new.self c.self.inside.files c.self.inside.bytes c.self.inside.toks c.self.invariant
    c.in-Ok.ensures.ok c.if-self-ge-MOST_FILES.false (small_then c) c.if-is_too_much.ensures

pub returns-in-Ok-clause-answer : goal.returns-in-Ok-clause-answer
returns-in-Ok-clause-answer c =
    let unread : IsUnread c.self.inside.table c.args.path.now c.args.number c.args.size = rw (← c.self.view_is) at c.requires.unread in
    let bytes = unread_bytes (found_at c.args.path.now c.self.inside.table) in
    let text = ok_value (file_text c.args.number bytes) (rw unread.0 at c.in-Ok.ensures.readable) in
    rw (← c.self.view_is) (
      text.0,
      opening-read c.self.inside.table c.args.path.now c.args.number c.args.size unread c.args.place.now c.self.inside.files c.self.inside.bytes c.self.inside.toks c.self.invariant
          c.if-self-ge-MOST_FILES.false c.if-is_too_much.ensures
          ∙ ap (file_read c.args.place.now c.args.number c.args.path.now (opened c.args.path.now bytes c.self.inside.table)) text.1
          ∙ ap (λ t. file_read c.args.place.now c.args.number c.args.path.now t (Ok text.0)) (sym c.in-Ok.ensures.ok),
    )

pub returns-in-Err-clause-answer : goal.returns-in-Err-clause-answer
returns-in-Err-clause-answer c =
    let unread : IsUnread c.self.inside.table c.args.path.now c.args.number c.args.size = rw (← c.self.view_is) at c.requires.unread in
    let bytes = unread_bytes (found_at c.args.path.now c.self.inside.table) in
    rw (← c.self.view_is)
    (refused_fault (fault_of c.text_fault.result) (lex_fault_of c.in-Err.refusal) _ (file_text c.args.number bytes) c.args.place.now c.args.number c.args.path.now
    (opened c.args.path.now bytes c.self.inside.table) c.text_fault.ensures.answer c.text_fault.ensures.no_memory (rw unread.0 at c.in-Err.ensures.refused)
    (opening-read c.self.inside.table c.args.path.now c.args.number c.args.size unread c.args.place.now c.self.inside.files c.self.inside.bytes c.self.inside.toks c.self.invariant
    c.if-self-ge-MOST_FILES.false c.if-is_too_much.ensures))
