use Rattle.std.proofs.Common.{[], ◌+◌, ◌∷◌, length, length-append, refl, ap, arith}
use Rattle.macro_body.specs.Live.{table_of}
use Rattle.macro_expand.specs.Going.{setting_of}
use Rattle.macro_expand.proofs.PlainLemmas.{plain-stays, plain_taken, sound_behind}
use Rattle.macro_expand.proofs.context.Context.plain_run.Goals as goal

pub toks-preserved : goal.toks-preserved
toks-preserved c =
    let t = c.in-Some.tok in
    let new = c.take_plain.new.self in
    let taken = plain_taken (table_of c.args.self.now.macros.now) c.in_ok-tok.field-0 t c.toks.rest new c.in-Some.is c.in_ok-tok.ensures in
    let len = ap length taken.1 in
    let put = ap length c.in_ok-push.ensures.items in
    let more = length-append c.toks.out.items (t ∷ []) in
    let counted = c.toks.invariant.counted in
    let few = c.toks.invariant.few in
    let shorter = c.toks.invariant.shorter in
    record {
      same = λ k left.
          plain-stays (setting_of c.args.self.now) c.args.self.now.depth c.toks.before (c.toks.before + 1) t taken.0 c.toks.rest new c.toks.out.items c.push.new.self.items left k _
          c.requires.outermost taken.1 taken.2 refl c.in_ok-push.ensures.items (c.toks.invariant.same k left);
      counted = omega (arith, len, counted);
      shorter = omega (arith, len, shorter);
      few = omega (arith, len, put, more, few);
      sound = λ s. sound_behind t taken.0 c.toks.rest new taken.1 (c.toks.invariant.sound s);
    }
