use Rattle.std.proofs.Common.{◌≡◌, ◌+◌, ◌-◌, ◌<◌, ◌≤◌, ℕ, List, length, take, get_or, sym, ap, ◌∙◌, arith}
use Rattle.std.proofs.lemmas.List.{get_or_read}
use Rattle.template_rules.specs.Covers.{last_of}
use Rattle.template_rules.proofs.CoverLemmas.{around_told, none_around}
use Rattle.template_rules.proofs.covers.Covers.holds.Goals as goal

pub returns-then-begun-eq0 : goal.returns-then-begun-eq0
returns-then-begun-eq0 c =
    let n = c.begun_before-begun.result in
    sym (none_around c.args.after c.args.to n c.args.self.now.lists.items c.requires (rw c.deref.ensures.value at c.begun_before-begun.ensures.bound)
    (rw c.deref.ensures.value at c.begun_before-begun.ensures.cut) c.if-begun-eq0.true)

pub returns : goal.returns
returns c =
    let f = c.args.self.now in
    let n = c.begun_before-begun.result in
    let lists = f.lists.items in
    let ends = f.ends.items in
    let bound : n ≤ length lists = rw c.deref.ensures.value at c.begun_before-begun.ensures.bound in
    let some = c.if-begun-eq0.false in
    let within : n - 1 < length ends = omega (arith, bound, some, f.last.0) in
    let read : c.index.result.now ≡ get_or ends (n - 1) 0 = get_or_read ends (n - 1) c.index.result.now within c.index.ensures 0 in
    let all : n - 1 + 1 ≡ n = omega (arith, some) in
    let last : c.index.result.now ≡ last_of (take n lists) = read ∙ f.last.1 (n - 1) within ∙ ap (λ (k : ℕ). last_of (take k lists)) all in
    around_told c.args.after c.args.to n lists c.requires bound (rw c.deref.ensures.value at c.begun_before-begun.ensures.cut) some c.index.result.now last
