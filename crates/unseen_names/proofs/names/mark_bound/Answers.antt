use Rattle.std.proofs.Common.{◌<◌, ◌≤◌, Bool, ◌||◌, length, refl, subst, arith}
use Rattle.std.specs.List.{list_any}
use Rattle.unseen_names.specs.Characters.{is_marked, Adds}
use Rattle.unseen_names.specs.Groups.{in_tokens, wanted_token}
use Rattle.unseen_names.specs.Unseen.{comes_from}
use Rattle.unseen_names.proofs.NameLemmas.{lacks_less, lacks_none}
use Rattle.unseen_names.proofs.names.mark_bound.Goals as goal

pub loop-k-init : goal.loop-k-init
loop-k-init c = record { counted = c.in_ok-count.ensures; lacks = record { each = λ p. refl } }

pub loop-k-preserved : goal.loop-k-preserved
loop-k-preserved c =
    let names = c.args.bound.now.names in
    let toks = c.args.toks.now in
    let k = c.loop-k.k in
    let tok = c.index-toks-k.result in
    let within : k < length toks = omega (arith, c.loop-k.invariant.counted, c.loop-k-test.true) in
    let old = c.args.marks.now.items in
    let mid = c.loop-k.marks.items in
    let new = c.mark_wanted.new.marks.items in
    let adds = subst (λ (b : Bool). Adds (λ p. list_any (comes_from p) (wanted_token b tok)) mid new) c.token_wanted-wanted.ensures
    c.in_ok-mark_wanted.ensures in
    record {
      counted = c.loop-k.invariant.counted;
      lacks = lacks_less c.args.group names (λ p. is_marked old p || in_tokens c.args.group p names 0 toks) k toks tok mid new within c.index-toks-k.is
          adds c.loop-k.invariant.lacks;
    }

pub returns : goal.returns
returns c =
    let names = c.args.bound.now.names in
    let toks = c.args.toks.now in
    let old = c.args.marks.now.items in
    let past : length toks ≤ c.loop-k.k = omega (arith, c.loop-k.invariant.counted, c.loop-k-test.false) in
    record {
      each = lacks_none c.args.group names (λ p. is_marked old p || in_tokens c.args.group p names 0 toks) c.loop-k.k toks c.loop-k.marks.items past
          c.loop-k.invariant.lacks;
    }
