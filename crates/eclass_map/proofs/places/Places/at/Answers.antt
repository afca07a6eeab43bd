use Rattle.std.proofs.Common.{◌≡◌, ◌+◌, ◌-◌, ◌<◌, ◌≤◌, ◌^◌, List, length, get_or, drop, sym, ap, subst, ◌∙◌, arith}
use Rattle.std.proofs.lemmas.List.{get_or_read}
use Rattle.eclass_map.specs.declared.places.Run.{Run}
use Rattle.eclass_map.specs.Positions.{along}
use Rattle.eclass_map.specs.ClassTable.{nowhere}
use Rattle.eclass_map.specs.Places.{PlaceList, no_run, next_first}
use Rattle.eclass_map.proofs.RunFacts.{length-places_of, at_run, fits_run}
use Rattle.eclass_map.proofs.places.Places.at.Goals as goal

pub run_of-requires-clause-held : goal.run_of-requires-clause-held
run_of-requires-clause-held c =
    let long = length-places_of 0 c.self.inside.count c.self.inside.runs.items c.self.invariant in
    let same = ap (λ (p : PlaceList). length p.list) c.self.view_is in
    omega (arith, long, same, c.requires)

pub overflow_add-result : goal.overflow_add-result
overflow_add-result c =
    let runs = c.self.inside.runs.items in
    let k = c.run_of.result in
    let x = c.args.x in
    let n = c.self.inside.count in
    let within = subst (λ (v : List Run). k < length v) c.deref.ensures.value c.run_of.ensures.within in
    let begun = subst (λ (v : List Run). (get_or v k no_run).first ≤ x) c.deref.ensures.value c.run_of.ensures.begun in
    let last = subst (λ (v : List Run). x < next_first (drop (k + 1) v) n) c.deref.ensures.value c.run_of.ensures.last in
    let same : c.index-run.result.now ≡ get_or runs k no_run = get_or_read runs k c.index-run.result.now within c.index-run.ensures no_run in
    let P : Run → Type 0 = λ r. r.start.at + (x - r.first) < 2 ^ 32 in
    let fits = subst P (sym same) (fits_run n k x runs c.self.invariant within begun last) in
    omega (arith, fits)

pub returns : goal.returns
returns c =
    let runs = c.self.inside.runs.items in
    let k = c.run_of.result in
    let x = c.args.x in
    let n = c.self.inside.count in
    let within = subst (λ (v : List Run). k < length v) c.deref.ensures.value c.run_of.ensures.within in
    let begun = subst (λ (v : List Run). (get_or v k no_run).first ≤ x) c.deref.ensures.value c.run_of.ensures.begun in
    let last = subst (λ (v : List Run). x < next_first (drop (k + 1) v) n) c.deref.ensures.value c.run_of.ensures.last in
    let same : c.index-run.result.now ≡ get_or runs k no_run = get_or_read runs k c.index-run.result.now within c.index-run.ensures no_run in
    ap (λ (r : Run). along r.start (x - r.first)) same
    ∙ at_run n k x runs c.self.invariant within begun last
    ∙ ap (λ (p : PlaceList). get_or p.list x nowhere) c.self.view_is
