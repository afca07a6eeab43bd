use Rattle.std.proofs.Common.{◌≡◌, ◌<◌, ◌≤◌, Bool, [], ◌∷◌, length, subst, arith}
use Rattle.std.specs.Prelude.{if◌then◌else◌}
use Rattle.class_marks.specs.Marks.{with_tokens}
use Rattle.class_marks.specs.Roles.{tokens_with}
use Rattle.class_marks.proofs.MarkLemmas.{tokens_end, tokens_step}
use Rattle.class_marks.proofs.marks.mark_tokens.Goals as goal

pub loop-k-preserved : goal.loop-k-preserved
loop-k-preserved c =
    let names = c.args.bound.now.names in
    let toks = c.args.toks.now in
    let k = c.loop-k.k in
    let within : k < length toks = omega (arith, c.loop-k.invariant.counted, c.loop-k-test.true) in
    let tok = c.index-toks-k.result in
    let wanted = subst (λ (b : Bool). c.mark_wanted.new.marks.items ≡ with_tokens c.args.classes.now c.loop-k.marks.items (if b then tok ∷ [] else []))
    c.token_has-wanted.ensures c.mark_wanted.ensures in
    record {
      counted = c.loop-k.invariant.counted;
      rest = tokens_step c.args.classes.now c.args.role names toks k c.index-toks-k.result c.loop-k.marks.items c.mark_wanted.new.marks.items
          (with_tokens c.args.classes.now c.args.marks.now.items (tokens_with c.args.role names 0 toks)) within c.index-toks-k.is
          wanted c.loop-k.invariant.rest;
    }

pub returns : goal.returns
returns c =
    let names = c.args.bound.now.names in
    let toks = c.args.toks.now in
    let past : length toks ≤ c.loop-k.k = omega (arith, c.loop-k.invariant.counted, c.loop-k-test.false) in
    tokens_end c.args.classes.now c.args.role names toks c.loop-k.k c.loop-k.marks.items
    (with_tokens c.args.classes.now c.args.marks.now.items (tokens_with c.args.role names 0 toks)) past c.loop-k.invariant.rest
