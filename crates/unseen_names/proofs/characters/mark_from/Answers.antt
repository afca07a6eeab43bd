use Rattle.std.proofs.Common.{◌≡◌, ℕ, List, length, ap}
use Rattle.cs_base.specs.declared.positions.Pos.{Pos}
use Rattle.cs_base.specs.declared.spans.Span.{Span}
use Rattle.unseen_names.specs.Characters.{covers, Adds}
use Rattle.unseen_names.specs.Unseen.{comes_from}
use Rattle.unseen_names.proofs.CharacterLemmas.{adds_same}
use Rattle.unseen_names.proofs.SpanMarks.{on_ok_map, whole_taken}
use Rattle.unseen_names.proofs.characters.mark_from.Goals as goal

pub returns : goal.returns
returns c =
    let t = c.args.tok.now in
    let old = c.args.marks.now.items in
    let new = c.mark_span.new.marks.items in
    let s : Span = record { from = 0; len = length c.text.result.now; start = c.args.start } in
    let len : s.len ≡ length t.text = ap (λ (xs : List ℕ). length xs) c.text.ensures.answer in
    on_ok_map c.mark_span.result (Adds (λ (q : Pos). covers q s) old new) (Adds (λ (q : Pos). comes_from q t) old new) c.mark_span.ensures
    (λ adds. adds_same (λ (q : Pos). covers q s) (λ (q : Pos). comes_from q t) old new adds
    (λ q. whole_taken q t s c.text.ensures.sound.each c.requires len))
