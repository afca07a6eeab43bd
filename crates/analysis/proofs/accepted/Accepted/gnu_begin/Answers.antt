use Rattle.std.proofs.Common.{◌≡◌, ◌<◌, ◌≤◌, ◌∙◌, List, Option, Some, ap, refl, sym, subst, length, arith, slice_get}
use Rattle.std.proofs.lemmas.Option.{slice_get_read}
use Rattle.cs_base.specs.declared.positions.Pos.{Pos}
use Rattle.analysis.specs.MadeAgain.{all_units}
use Rattle.analysis.proofs.TakenLemmas.{begin_at, begins_count}
use Rattle.analysis.proofs.accepted.Accepted.gnu_begin.Goals as goal

pub returns-in-Some : goal.returns-in-Some
returns-in-Some c =
    let i = c.self.inside in
    let b = c.in-Some.begin.now in
    let begins = c.as_slice-begins.result.now in
    let had : slice_get begins c.args.k ≡ Some b = slice_get_read begins (length begins) c.args.k b refl c.in-Some.ensures.lookup.3.0 c.in-Some.ensures.lookup.1 in
    let at : slice_get i.begins.items c.args.k ≡ Some b = ap (λ (bs : List (Option Pos)). slice_get bs c.args.k) (sym c.as_slice-begins.ensures.value) ∙ had in
    rw (← c.self.view_is)
    (begin_at i.cache.table i.workspace.units i.kept.items i.others c.args.k i.begins.items i.brought.items b c.self.invariant at)

pub returns-in-None : goal.returns-in-None
returns-in-None c =
    let i = c.self.inside in
    let less : c.args.k < length (all_units i.cache.table i.workspace.units i.kept.items i.others) = rw (← c.self.view_is) at c.requires in
    let past : length i.begins.items ≤ c.args.k = subst (λ (bs : List (Option Pos)). length bs ≤ c.args.k) c.as_slice-begins.ensures.value c.in-None.ensures.lookup.3 in
    absurd (omega (arith, less, past, begins_count i.cache.table i.workspace.units i.kept.items i.others i.begins.items i.brought.items c.self.invariant))
