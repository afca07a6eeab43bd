use Rattle.std.proofs.Common.{◌∙◌, ◌+◌, [], ◌∷◌, length, sym, ap, arith}
use Rattle.std.proofs.lemmas.Result.{err_from_is_err_and}
use Rattle.macro_body.specs.Kept.{finished, expanded_kept}
use Rattle.macro_expand.specs.Expansion.{whole}
use Rattle.macro_expand.specs.Going.{setting_of}
use Rattle.macro_expand.proofs.CallLemmas.{taken_is}
use Rattle.macro_expand.proofs.ListSound.{turn_fits}
use Rattle.macro_expand.proofs.TurnLemmas.{refused_more}
use Rattle.macro_expand.proofs.PlainLemmas.{plain-turn, plain-fault, plain-few, plain-end, plain-expanded}
use Rattle.macro_expand.proofs.context.Context.whole_run.Goals as goal

pub toks-preserved : goal.toks-preserved
toks-preserved c =
    let kept = c.toks.invariant in
    let shorter = c.in_ok-stayed.ensures.shorter in
    let less = c.in_ok-stayed.ensures.falls in
    let more = c.in_ok-before-2.ensures in
    let counted = more.counted in
    let put = more.few in
    let taken = taken_is c.in_ok-first.field-0 c.in-Some.first c.toks.rest c.take.new.self c.in-Some.is c.in_ok-first.ensures in
    let fits = turn_fits c.in_ok-stayed.stayed c.args.self.now.depth c.toks.before c.behind-before.result c.toks.work.left c.next_token.new.work.left c.in-Some.first c.toks.rest
    c.take.new.self c.next_token.new.rest c.behind-before.ensures taken shorter kept.fits in
    let few = plain-few c.in_ok-stayed.stayed c.toks.work.left c.next_token.new.work.left _ c.in-Some.first c.toks.rest c.take.new.self c.next_token.new.rest
    c.toks.out.items c.put_out_plain.new.out.items c.in_ok-put_out_plain.ensures taken shorter kept.few in
    record {
      same =
          more.answer c.next_token.new.notes c.next_token.new.work
          ∙ plain-turn (setting_of c.args.self.now) c.args.self.now.depth c.toks.before c.behind-before.result c.in-Some.first c.in_ok-stayed.stayed c.toks.rest c.take.new.self c.next_token.new.rest
          c.toks.out.items c.put_out_plain.new.out.items c.toks.work c.next_token.new.work c.toks.notes c.next_token.new.notes _
          taken c.in_ok-stayed.ensures.answer c.behind-before.ensures c.in_ok-put_out_plain.ensures kept.same;
      fits = omega (arith, fits, counted);
      falls = omega (arith, less);
      few = omega (arith, few, put);
      sound = more.sound c.in_ok-stayed.ensures.sound;
    }

pub toks-smaller : goal.toks-smaller
toks-smaller c =
    let taken = taken_is c.in_ok-first.field-0 c.in-Some.first c.toks.rest c.take.new.self c.in-Some.is c.in_ok-first.ensures in
    let len = ap length taken in
    let shorter = c.in_ok-stayed.ensures.shorter in
    let less = c.in_ok-before-2.ensures.shorter in
    omega (arith, len, shorter, less)

pub returns-in_err-stayed-clause-answer : goal.returns-in_err-stayed-clause-answer
returns-in_err-stayed-clause-answer c =
    let set = setting_of c.args.self.now in
    let depth = c.args.self.now.depth in
    let p = err_from_is_err_and c.from_residual-in_err-stayed.result c.from_residual-in_err-stayed.ensures.1 in
    let taken = taken_is c.in_ok-first.field-0 c.in-Some.first c.toks.rest c.take.new.self c.in-Some.is c.in_ok-first.ensures in
    rw (p.1, p.2)
    (refused_more c.in_err-stayed.field-0.0
    (finished c.toks.notes [] (whole set depth c.toks.before (c.in-Some.first ∷ c.take.new.self) c.toks.work))
    (expanded_kept c.args.notes.now (whole set depth 0 c.args.rest c.args.work.now))
    (λ f h. sym (plain-expanded c.args.notes.now (whole set depth 0 c.args.rest c.args.work.now))
    ∙ plain-fault set depth c.toks.before c.in-Some.first c.toks.rest c.take.new.self c.toks.out.items c.toks.work c.toks.notes _ taken c.toks.invariant.same f h)
    c.in_err-stayed.ensures.answer)

pub returns-clause-answer : goal.returns-clause-answer
returns-clause-answer c =
    sym (plain-expanded c.args.notes.now (whole (setting_of c.args.self.now) c.args.self.now.depth 0 c.args.rest c.args.work.now))
    ∙ plain-end (setting_of c.args.self.now) c.args.self.now.depth c.toks.before c.in_ok-first.field-0 c.toks.rest c.take.new.self c.toks.out.items c.toks.work c.toks.notes _
    c.in_default.is c.in_ok-first.ensures c.toks.invariant.same
