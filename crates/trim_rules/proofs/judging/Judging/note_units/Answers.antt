use Rattle.std.proofs.Common.{◌≡◌, ◌<◌, ◌∙◌, ℕ, List, Some, sym, ap, subst, length, slice_get, arith}
use Rattle.std.specs.Option.{option_or}
use Rattle.std.proofs.lemmas.Option.{slice_get-get_or}
use Rattle.analysis.specs.Analysis.{UnitAnalysis}
use Rattle.trim_rules.specs.Judging.{told_of, Learns}
use Rattle.trim_rules.specs.Numbers.{first_answer}
use Rattle.trim_rules.proofs.JudgingLemmas.{why_at, units-begin, units-next}
use Rattle.trim_rules.proofs.judging.Judging.note_units.Goals as goal

pub loop-n-init : goal.loop-n-init
loop-n-init c = units-begin c.args.a.now.value (told_of c.args.self.now.whys)

pub loop-n-preserved : goal.loop-n-preserved
loop-n-preserved c =
    let a = c.args.a.now.value in
    let units = c.args.units.now in
    let n = c.loop-n.n in
    let u = c.index-units-n.result in
    let within : n < length units = omega (arith, c.loop-n-test.true) in
    let there : slice_get units n ≡ Some u = slice_get-get_or units n u within ∙ ap (λ (v : UnitAnalysis). Some v) (sym c.index-units-n.is) in
    let at : slice_get a.units n ≡ Some u = subst (λ (us : List UnitAnalysis). slice_get us n ≡ Some u) c.requires there in
    units-next a n u (told_of c.args.self.now.whys) (told_of c.loop-n.self.whys) (told_of c.note_unit.new.self.whys) at c.loop-n.invariant
    c.in_ok-note_unit.ensures

pub returns : goal.returns
returns c =
    let a = c.args.a.now.value in
    let all : c.loop-n.n ≡ length a.units =
    omega (arith, ap (λ (us : List UnitAnalysis). length us) c.requires, c.loop-n-test.false, c.loop-n.auto.n-end) in
    subst (λ (k : ℕ). Learns (λ p w. option_or w (first_answer (why_at a p) k)) (told_of c.args.self.now.whys) (told_of c.loop-n.self.whys)) all c.loop-n.invariant
