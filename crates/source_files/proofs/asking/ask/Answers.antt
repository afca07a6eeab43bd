use Rattle.std.proofs.Common.{◌≡◌, None, subst, sym, ◌∙◌}
use Rattle.std.proofs.lemmas.Str.{is_utf8-from_IsUtf8}
use Rattle.source_files.specs.Files.{found_at, numbered}
use Rattle.source_files.specs.Slots.{found_of}
use Rattle.source_files.specs.Tables.{OnlyAsks}
use Rattle.source_files.proofs.TableLemmas.{known-push, only_asks-refl, asks-push, none_is, asked-known, asked-push}
use Rattle.source_files.proofs.asking.ask.Goals as goal

pub push-requires-clause-numbered : goal.push-requires-clause-numbered
push-requires-clause-numbered g c = c.in-Ok.ensures.numbered _ _

pub push-requires-clause-text : goal.push-requires-clause-text
push-requires-clause-text g c = rw c.as_bytes-2.ensures.value (is_utf8-from_IsUtf8 c.args.path.now c.utf8.path)

pub returns-in-Ok-push-clause-asked : goal.returns-in-Ok-push-clause-asked
returns-in-Ok-push-clause-asked g c =
    rw c.in-Ok-push.ensures.ok (rw c.as_bytes-2.ensures.value (known-push c.args.path.now (found_of c.in-Ok.slot) c.args.table.now))

pub returns-then-is_some-clause-only : goal.returns-then-is_some-clause-only
returns-then-is_some-clause-only g c = only_asks-refl (g.F.Files.told c.args.files.now).held c.args.table.now

pub returns-in-Err-clause-only : goal.returns-in-Err-clause-only
returns-in-Err-clause-only g c = only_asks-refl (g.F.Files.told c.args.files.now).held c.args.table.now

pub returns-in-Ok-push-clause-only : goal.returns-in-Ok-push-clause-only
returns-in-Ok-push-clause-only g c =
    let new : c.push.new.self ≡ numbered c.args.path.now (found_of c.in-Ok.slot) c.args.table.now = rw c.as_bytes-2.ensures.value at c.in-Ok-push.ensures.ok in
    asks-push (g.F.Files.told c.args.files.now).held c.args.path.now (found_of c.in-Ok.slot) c.args.table.now c.push.new.self c.in-Ok.ensures.read c.in-Ok.ensures.answer new

pub returns-in-Err-push-clause-only : goal.returns-in-Err-push-clause-only
returns-in-Err-push-clause-only g c =
    subst (OnlyAsks (g.F.Files.told c.args.files.now).held c.args.table.now) (sym c.in-Err-push.ensures.unchanged)
    (only_asks-refl (g.F.Files.told c.args.files.now).held c.args.table.now)

pub returns-then-is_some-clause-answer : goal.returns-then-is_some-clause-answer
returns-then-is_some-clause-answer g c = λ source found.
    asked-known source c.args.path.now c.args.table.now
    (rw c.as_bytes.ensures.value at (sym c.find.ensures.none ∙ sym c.is_some.ensures ∙ c.if-is_some.true))

pub returns-in-Ok-push-clause-answer : goal.returns-in-Ok-push-clause-answer
returns-in-Ok-push-clause-answer g c = λ source found.
    let new : c.push.new.self ≡ numbered c.args.path.now (found_of c.in-Ok.slot) c.args.table.now = rw c.as_bytes-2.ensures.value at c.in-Ok-push.ensures.ok in
    let none : found_at c.args.path.now c.args.table.now ≡ None =
    none_is (found_at c.args.path.now c.args.table.now) (rw c.as_bytes.ensures.value at (sym c.find.ensures.none ∙ sym c.is_some.ensures ∙ c.if-is_some.false)) in
    asked-push source c.args.path.now (found_of c.in-Ok.slot) c.args.table.now c.push.new.self c.in-Ok.ensures.read none new found
