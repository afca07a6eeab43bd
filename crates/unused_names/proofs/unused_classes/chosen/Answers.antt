use Rattle.std.proofs.Common.{◌≡◌, List, [], refl, subst, rules}
use Rattle.std.proofs.lemmas.List.{take_all}
use Rattle.std.proofs.lemmas.Option.{slice_get-get_or}
use Rattle.cs_base.specs.declared.positions.Part.{Part}
use Rattle.analysis.specs.Parts.{part_cmp}
use Rattle.class_marks.specs.Keeping.{Keeps}
use Rattle.unused_names.specs.Unused.{IsUnused}
use Rattle.class_marks.proofs.KeepLemmas.{keeps_all, keeps_each, keeps_more, keeps_none, keeps_same, keeps_sorted}
use Rattle.unused_names.proofs.unused_classes.chosen.Goals as goal
use Rattle.unused_names.proofs.unused_classes.chosen.Goals.{then-is_unused+in_ok-push, else-is_unused}

pub loop-part-init : goal.loop-part-init
loop-part-init c =
    let none : c.new-parts.result.items ≡ [] = search rules in
    keeps_none (IsUnused c.args.a.now.value) c.new-parts.result.items none

pub is_unused-requires : goal.is_unused-requires
is_unused-requires c = record {
  first = c.firsts-firsts.ensures.each c.loop-part.part-index _ (slice_get-get_or c.firsts-firsts.result.now c.loop-part.part-index _ c.loop-part-test.true);
  declared = c.requires.declared;
  used = c.requires.used;
  files = c.requires.files;
}

pub loop-part-preserved : goal.loop-part-preserved
loop-part-preserved c =
    let P : Part → Type 0 = IsUnused c.args.a.now.value in
    let firsts = c.firsts-firsts.result.now in
    let k = c.loop-part.part-index in
    elim c.if-is_unused.branch [
      | then-is_unused+in_ok-push w ↦
          keeps_more P firsts k _ c.loop-part.parts.items c.if-is_unused.parts.items c.loop-part-test.true w.if-is_unused.ensures
          (rw w.parts-is w.in_ok-push.ensures.items) c.loop-part.invariant
      | else-is_unused w ↦
          keeps_same P firsts k _ c.loop-part.parts.items c.if-is_unused.parts.items c.loop-part-test.true w.if-is_unused.ensures
          (rw w.parts-is refl) c.loop-part.invariant
    ]

pub returns : goal.returns
returns c =
    let a = c.args.a.now.value in
    let P : Part → Type 0 = IsUnused a in
    let firsts = c.firsts-firsts.result.now in
    let parts = c.loop-part.parts.items in
    let all : Keeps P firsts parts =
    subst (λ (ps : List Part). Keeps P ps parts) (take_all c.loop-part.part-index firsts c.loop-part-test.false) c.loop-part.invariant in
    record {
      each = λ k part at. keeps_each P firsts parts all k part at;
      all = λ part unused.
          let found = c.firsts-firsts.ensures.all part unused.first in
          keeps_all P firsts parts all found.0 part found.1 unused;
      sorted = keeps_sorted P (part_cmp a) firsts parts all c.firsts-firsts.ensures.sorted;
    }
