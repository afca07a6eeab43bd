use Rattle.std.proofs.Common.{◌≡◌, ℕ, ◌+◌, ◌-◌, false, length, get_or, refl, ap, ◌∙◌, arith}
use Rattle.std.proofs.lemmas.List.{length-set}
use Rattle.query_words.proofs.PatternLemmas.{byte_begins, byte_more, before_set}
use Rattle.query_words.proofs.patterns.mark_byte.Goals as goal

pub loop-k-init : goal.loop-k-init
loop-k-init c = record {
  done = λ text marks. byte_begins c.args.pattern.now text c.args.places.now c.args.byte c.requires;
  left = λ j before. before_set c.args.places.now _ _ j before;
  behind = refl;
  within = omega arith;
}

pub loop-k-preserved : goal.loop-k-preserved
loop-k-preserved c =
    let m = c.loop-k.k - 1 in
    let room = length-set c.args.places.now (length c.args.pattern.now) false in
    let old = c.args.places.now in
    let here = c.loop-k.invariant.left m (omega arith) in
    let next : c.loop-k.k ≡ m + 1 = omega arith in
    record {
      done = λ text marks.
          byte_more c.args.pattern.now text c.loop-k.places old m c.args.byte _ _ c.loop-k.behind (omega arith) (omega arith) c.with_byte.ensures here
          (c.loop-k.invariant.behind ∙ ap (λ (k : ℕ). get_or old k false) next) marks
          (λ j low high. c.loop-k.invariant.done text marks j (omega arith) high);
      left = λ j before. before_set c.loop-k.places m _ j before ∙ c.loop-k.invariant.left j (omega arith);
      behind = here;
      within = omega arith;
    }
