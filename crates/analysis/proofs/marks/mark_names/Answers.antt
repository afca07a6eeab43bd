use Rattle.std.proofs.Common.{◌≡◌, ◌<◌, length, Some, sym, ap, ◌∙◌, arith}
use Rattle.std.specs.Prelude.{slice_get}
use Rattle.std.proofs.lemmas.Option.{slice_get-get_or}
use Rattle.analysis.proofs.MarkLemmas.{names_more, names_same, names_end}
use Rattle.analysis.proofs.marks.mark_names.Goals as goal
use Rattle.analysis.proofs.marks.mark_names.Goals.{then-is_name+in-Ok, else-is_name}

pub loop-k-preserved : goal.loop-k-preserved
loop-k-preserved c =
    let toks = c.args.toks.now in
    let k = c.loop-k.k in
    let token = c.index-toks-k.result in
    let within : k < length toks = omega (arith, c.loop-k-test.true, c.requires) in
    let at : slice_get toks k ≡ Some token = slice_get-get_or toks k token within ∙ ap Some (sym c.index-toks-k.is) in
    record {
      marks = elim c.if-is_name.branch [
        | then-is_name+in-Ok w ↦ names_more c.args.file toks c.args.from k token c.args.marks.now.items c.loop-k.marks.items c.if-is_name.marks.items
            c.loop-k.invariant.marks c.loop-k.auto.k at (sym c.is_name.ensures ∙ w.if-is_name.true) (rw w.marks-is w.in-Ok.ensures)
        | else-is_name w ↦ rw w.marks-is
            (names_same c.args.file toks c.args.from k token c.args.marks.now.items c.loop-k.marks.items c.loop-k.invariant.marks at (sym c.is_name.ensures ∙ w.if-is_name.false))
      ];
      end = λ begun. omega (arith, c.loop-k-test.true);
    }

pub returns : goal.returns
returns c =
    names_end c.args.file c.args.toks.now c.args.from c.loop-k.k c.args.to c.args.marks.now.items c.loop-k.marks.items
    c.loop-k.invariant.marks c.loop-k-test.false c.loop-k.invariant.end
