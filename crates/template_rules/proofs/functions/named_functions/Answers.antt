use Rattle.std.proofs.Common.{◌≡◌, ◌<◌, ◌∙◌, ℕ, List, Some, length, ap, arith, slice_get, subst, sym}
use Rattle.std.proofs.lemmas.Option.{slice_get-get_or}
use Rattle.analysis.proofs.OneUnitLemmas.{same_unit}
use Rattle.analysis.specs.Analysed.{Analysed}
use Rattle.analysis.specs.Analysis.{UnitAnalysis}
use Rattle.offences.specs.Class.{ClassValue, IsClass, class_over}
use Rattle.template_rules.specs.Units.{AreUnits, IsUnit}
use Rattle.template_rules.proofs.FunctionLemmas.{before_none, before_next, before_all}
use Rattle.template_rules.proofs.functions.named_functions.Goals as goal

pub new-class-requires : goal.new-class-requires
new-class-requires c = rw c.analysis-a.ensures c.requires

pub unit_at-requires : goal.unit_at-requires
unit_at-requires c = rw c.analysis-a.ensures c.requires

pub loop-k-init : goal.loop-k-init
loop-k-init c = rw c.new-units.ensures.items (before_none (class_over c.args.all.now c.args.members.now))

pub loop-k-preserved : goal.loop-k-preserved
loop-k-preserved c =
    let class = class_over c.args.all.now c.args.members.now in
    let k = c.loop-k.k in
    let read = c.units-read.result.now in
    let one = c.index-read-k.result in
    let within : k < length read = omega (arith, c.loop-k-test.true) in
    let there : slice_get read k ≡ Some one = slice_get-get_or read k one within ∙ ap (λ (v : UnitAnalysis). Some v) (sym c.index-read-k.is) in
    let at : slice_get c.args.all.now.value.units k ≡ Some one = subst (λ (us : List UnitAnalysis). slice_get us k ≡ Some one) c.units-read.ensures there in
    let own : c.in_ok-found.found.class ≡ class =
    c.in_ok-found.ensures.class ∙ ap (λ (x : Analysed). class_over x c.args.members.now) c.analysis-a.ensures in
    before_next class c.loop-k.units.items c.push.new.self.items c.in_ok-found.found k c.loop-k.invariant own
    (λ (u : UnitAnalysis) is.
    subst (λ (v : UnitAnalysis). IsUnit v c.in_ok-found.found) (same_unit (slice_get c.args.all.now.value.units k) u one is at) c.in_ok-found.ensures.unit)
    c.in_ok-push.ensures.items

pub invariant_of-result : goal.invariant_of-result
invariant_of-result c =
    let all : c.loop-k.k ≡ length c.args.all.now.value.units =
    omega (arith, c.loop-k-test.false, c.loop-k.auto.k-end, ap (λ (us : List UnitAnalysis). length us) c.units-read.ensures) in
    let class : c.new-class.result ≡ class_over c.args.all.now c.args.members.now =
    c.new-class.ensures ∙ ap (λ (x : Analysed). class_over x c.args.members.now) c.analysis-a.ensures in
    subst (λ (k : ClassValue). AreUnits k c.loop-k.units.items) (sym class)
    (before_all (class_over c.args.all.now c.args.members.now) c.loop-k.units.items c.loop-k.k c.loop-k.invariant all)

pub returns : goal.returns
returns c = record { answer = c.new-class.ensures ∙ ap (λ (x : Analysed). class_over x c.args.members.now) c.analysis-a.ensures }
