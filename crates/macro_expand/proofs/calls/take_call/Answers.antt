use Rattle.std.proofs.Common.{◌∙◌, [], ◌∷◌, length, ap, refl, sym, arith, length-append}
use Rattle.macro_expand.specs.Calls.{level_after}
use Rattle.macro_expand.proofs.CallLemmas.{taken_is, nothing_taken, call_closed, call_separated, call_belonged, call_missing, level_after-most, level-separates}
use Rattle.macro_expand.proofs.calls.take_call.Goals as goal

pub returns-in-Closes : goal.returns-in-Closes
returns-in-Closes c =
    call_closed c.toks.finished.items c.push.new.self.items c.toks.present.items c.new.result c.toks.rest c.take.new.self c.in-Some.next c.into_hides.result c.toks.commas c.toks.level c.tok.result.now _
    c.toks.invariant.same (taken_is c.in_ok-next.field-0 c.in-Some.next c.toks.rest c.take.new.self c.in-Some.is c.in_ok-next.ensures) c.tok.ensures c.in-Closes.ensures c.new.ensures
    c.in_ok-push-in-Closes.ensures.items c.into_hides.ensures

pub toks-preserved-in-Separates : goal.toks-preserved-in-Separates
toks-preserved-in-Separates c = record {
  open_below = omega (arith, level-separates c.toks.commas c.toks.level c.tok.result.now c.in-Separates.ensures);
  same =
      call_separated c.toks.finished.items c.push-in-Separates.new.self.items c.toks.present.items c.replace.new.dest.items c.new-in-Separates-2.result c.toks.rest c.take.new.self c.in-Some.next
      c.toks.commas c.fewer-commas.result c.toks.level c.toks.level c.tok.result.now _
      c.toks.invariant.same (taken_is c.in_ok-next.field-0 c.in-Some.next c.toks.rest c.take.new.self c.in-Some.is c.in_ok-next.ensures) c.tok.ensures c.in-Separates.ensures
      (c.new-in-Separates-2.ensures ∙ ap (λ v. v.items) c.replace.ensures.value) c.in_ok-push-in-Separates.ensures.items
      (ap (λ v. v.items) c.replace.ensures.after ∙ c.new-in-Separates.ensures.items) c.fewer-commas.ensures refl;
}

pub toks-preserved : goal.toks-preserved
toks-preserved c =
    let len = ap length c.in_ok-push-in-Belongs.ensures.items ∙ length-append c.toks.present.items (c.in-Some.next ∷ []) in
    record {
      open_below = omega (arith, len, c.level_after-level.ensures, level_after-most c.tok-in-Belongs.result.now c.toks.level, c.toks.invariant.open_below);
      same =
          call_belonged c.toks.finished.items c.toks.finished.items c.toks.present.items c.push-in-Belongs.new.self.items c.toks.rest c.take.new.self c.in-Some.next
          c.toks.commas c.toks.commas c.toks.level c.level_after-level.result c.tok.result.now _
          c.toks.invariant.same (taken_is c.in_ok-next.field-0 c.in-Some.next c.toks.rest c.take.new.self c.in-Some.is c.in_ok-next.ensures) c.tok.ensures c.in-Belongs.ensures refl
          c.in_ok-push-in-Belongs.ensures.items refl (c.level_after-level.ensures ∙ ap (λ t. level_after t c.toks.level) (c.tok-in-Belongs.ensures ∙ sym c.tok.ensures));
    }

pub returns : goal.returns
returns c =
    call_missing c.toks.finished.items c.toks.present.items c.toks.rest c.toks.commas c.toks.level _ c.toks.invariant.same
    (ap length (nothing_taken c.in_ok-next.field-0 c.toks.rest c.take.new.self c.in_default.is c.in_ok-next.ensures))
