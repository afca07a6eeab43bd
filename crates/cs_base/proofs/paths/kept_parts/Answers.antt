use Rattle.std.proofs.Common.{ℕ, List, sym, ap, ◌∙◌, eqb, rules, tests}
use Rattle.std.proofs.lemmas.List.{map-append}
use Rattle.std.proofs.lemmas.Iterator.Consumers.{YieldsList-end}
use Rattle.std.proofs.lemmas.Iterator.Splits.{YieldsList-from_slice_split}
use Rattle.cs_base.specs.Paths.{slash, kept_of}
use Rattle.cs_base.specs.Parts.{texts_of}
use Rattle.cs_base.proofs.PathLemmas.{kept_of-nil, kept_of-push}
use Rattle.cs_base.proofs.paths.kept_parts.Goals as goal

pub loop-part-init : goal.loop-part-init
loop-part-init c = rw c.new-kept.ensures.items (sym (kept_of-nil c.args.absolute))

pub loop-part-preserved : goal.loop-part-preserved
loop-part-preserved c =
    let absolute = c.args.absolute in
    let so_far = texts_of c.loop-part.yielded in
    rw (c.in_ok-keep.ensures, c.loop-part.invariant, map-append) (sym (kept_of-push absolute so_far c.in-Some.part.now))

pub returns : goal.returns
returns c =
    let all =
    YieldsList-end
    (YieldsList-from_slice_split _ (λ b. eqb b slash) c.args.path.now (cc) (cc) (cc) (λ x b q k. search (rules, tests)))
    c.loop-part.yielded _ c.loop-part.yielded_by _ _ c.in-None.is c.next.ensures.steps in
    c.loop-part.invariant ∙ ap (λ (parts : List (List ℕ)). kept_of c.args.absolute parts) all.0
