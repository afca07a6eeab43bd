use Rattle.std.proofs.Common.{◌≡◌, false, true, sym, rules, arith, add-one}
use Rattle.std.specs.Prelude.{is_some, slice_get}
use Rattle.std.specs.Option.{option_and_then}
use Rattle.macro_body.proofs.PastingLemmas.{untraced, traced-more}
use Rattle.macro_body.proofs.pasting.is_wholly_traced.Goals as goal

pub returns-then-is_none : goal.returns-then-is_none
returns-then-is_none c =
    let origins = c.args.tok.now.origins in
    let end = c.loop-k.invariant.end in
    let none : is_some (option_and_then (λ o. o) (slice_get origins c.loop-k.k)) ≡ false = grind (arith, c.origins.ensures.answer, c.is_none.ensures, c.if-is_none.true) in
    sym (untraced origins c.loop-k.k (omega arith) none)

pub loop-k-preserved : goal.loop-k-preserved
loop-k-preserved c =
    let origins = c.args.tok.now.origins in
    let end = c.loop-k.invariant.end in
    let some : is_some (option_and_then (λ o. o) (slice_get origins c.loop-k.k)) ≡ true = grind (arith, c.origins.ensures.answer, c.is_none.ensures, c.if-is_none.false) in
    record {
      traced = rw add-one (traced-more origins c.loop-k.k (omega arith) some c.loop-k.invariant.traced);
      end = search rules;
    }
