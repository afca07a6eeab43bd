use Rattle.std.proofs.Common.{◌≡◌, None, Ok, refl, sym, ◌∙◌, ap, subst}
use Rattle.lexer.specs.FileText.{file_text}
use Rattle.lexer.specs.Refusal.{fault_of as lex_fault_of}
use Rattle.source_files.specs.Limits.{the_limits}
use Rattle.source_files.specs.Files.{Made, found_at, numbered}
use Rattle.source_files.specs.Faults.{first_place}
use Rattle.source_files.specs.KeptFiles.{KeptValue}
use Rattle.source_files.specs.Opening.{opening}
use Rattle.source_files.specs.Tables.{Widens}
use Rattle.source_files.specs.Answers.{fault_of}
use Rattle.source_files.proofs.TableLemmas.{widens_refl, widens_push, only_asks-push}
use Rattle.source_files.proofs.OpeningLemmas.{ok_value}
use Rattle.source_files.proofs.SourcesLemmas.{made-gives, made-refused, opens-there, cache-made}
use Rattle.source_files.proofs.cache.Cache.make.Goals as goal

pub returns-in_err-place-clause-keeps : goal.returns-in_err-place-clause-keeps
returns-in_err-place-clause-keeps c = record { widens = λ source. widens_refl source c.args.self.now.table; counted = refl }

pub returns-in_err-push-in-Ok-clause-keeps : goal.returns-in_err-push-in-Ok-clause-keeps
returns-in_err-push-in-Ok-clause-keeps c = record {
  widens = λ source.
      rw (← c.self.view_is) (subst (Widens source c.self.inside.table) (sym c.in_err-push-in-Ok.ensures.unchanged) (widens_refl source c.self.inside.table));
  counted = rw (← c.self.view_is) refl;
}

pub invariant_of-self-in-Ok : goal.invariant_of-self-in-Ok
invariant_of-self-in-Ok c =
    let new : c.push.new.self ≡ numbered c.args.path.now (Made c.args.bytes.items) c.self.inside.table =
    c.in_ok-push-in-Ok.ensures.ok ∙ ap (λ (f : KeptValue). numbered c.args.path.now (Made f.bytes) c.self.inside.table) c.in-Ok.ensures.ok in
    cache-made c.self.inside.table c.push.new.self c.self.inside.files c.self.inside.bytes c.self.inside.toks c.self.invariant
    (only_asks-push None c.args.path.now (Made c.args.bytes.items) c.self.inside.table c.push.new.self refl tt new)

pub returns-in-Ok-clause-answer : goal.returns-in-Ok-clause-answer
returns-in-Ok-clause-answer c =
    let none : found_at c.args.path.now c.self.inside.table ≡ None = rw (← c.self.view_is) at c.requires.fresh in
    let new : c.push.new.self ≡ numbered c.args.path.now (Made c.args.bytes.items) c.self.inside.table =
    c.in_ok-push-in-Ok.ensures.ok ∙ ap (λ (f : KeptValue). numbered c.args.path.now (Made f.bytes) c.self.inside.table) c.in-Ok.ensures.ok in
    let text = ok_value (file_text c.next_number-number.result c.args.bytes.items) c.in-Ok.ensures.readable in
    rw (← c.self.view_is)
    (made-gives (first_place c.args.path.now) c.args.path.now c.args.bytes.items c.self.inside.table c.push.new.self c.next_number-number.result text.0 none c.next_number-number.ensures.answer text.1 new)

pub returns-in-Ok-clause-there : goal.returns-in-Ok-clause-there
returns-in-Ok-clause-there c =
    let none : found_at c.args.path.now c.self.inside.table ≡ None = rw (← c.self.view_is) at c.requires.fresh in
    let new : c.push.new.self ≡ numbered c.args.path.now (Made c.args.bytes.items) c.self.inside.table =
    c.in_ok-push-in-Ok.ensures.ok ∙ ap (λ (f : KeptValue). numbered c.args.path.now (Made f.bytes) c.self.inside.table) c.in-Ok.ensures.ok in
    let text = ok_value (file_text c.next_number-number.result c.args.bytes.items) c.in-Ok.ensures.readable in
    opens-there (Ok c.next_number-number.result)
    (opening the_limits file_text (first_place c.args.path.now) c.args.path.now (numbered c.args.path.now (Made c.args.bytes.items) c.self.inside.table)) c.push.new.self
    (made-gives (first_place c.args.path.now) c.args.path.now c.args.bytes.items c.self.inside.table c.push.new.self c.next_number-number.result text.0 none c.next_number-number.ensures.answer text.1 new)

pub returns-in-Ok-clause-keeps : goal.returns-in-Ok-clause-keeps
returns-in-Ok-clause-keeps c =
    let none : found_at c.args.path.now c.self.inside.table ≡ None = rw (← c.self.view_is) at c.requires.fresh in
    let new : c.push.new.self ≡ numbered c.args.path.now (Made c.args.bytes.items) c.self.inside.table =
    c.in_ok-push-in-Ok.ensures.ok ∙ ap (λ (f : KeptValue). numbered c.args.path.now (Made f.bytes) c.self.inside.table) c.in-Ok.ensures.ok in
    record {
      widens = λ source.
          rw (← c.self.view_is) (subst (Widens source c.self.inside.table) (sym new) (widens_push source c.args.path.now (Made c.args.bytes.items) c.self.inside.table none tt));
      counted = rw (← c.self.view_is) refl;
    }

pub returns-clause-answer : goal.returns-clause-answer
returns-clause-answer c =
    let none : found_at c.args.path.now c.self.inside.table ≡ None = rw (← c.self.view_is) at c.requires.fresh in
    rw (← c.self.view_is)
    (made-refused (fault_of c.text_fault.result) (lex_fault_of c.in-Err.unread.refusal) (first_place c.args.path.now) c.in_ok-place.place c.args.path.now c.args.bytes.items c.self.inside.table c.next_number-number.result
    none c.next_number-number.ensures.answer c.in_ok-place.ensures c.text_fault.ensures.answer c.text_fault.ensures.no_memory c.in-Err.ensures.refused)

pub returns-clause-keeps : goal.returns-clause-keeps
returns-clause-keeps c = record { widens = λ source. widens_refl source c.args.self.now.table; counted = refl }
