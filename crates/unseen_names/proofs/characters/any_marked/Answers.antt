use Rattle.std.proofs.Common.{◌≡◌, Some, slice_get, below_more}
use Rattle.std.proofs.lemmas.Option.{slice_get-get_or}
use Rattle.cs_base.specs.declared.positions.Part.{Part}
use Rattle.unseen_names.specs.Characters.{HoldsMark}
use Rattle.unseen_names.proofs.CharacterLemmas.{not_here, nowhere}
use Rattle.unseen_names.proofs.characters.any_marked.Goals as goal

pub returns-then-holds_mark : goal.returns-then-holds_mark
returns-then-holds_mark c = record {
  number = c.loop-part.part-index;
  part = _;
  at = slice_get-get_or c.args.parts.now c.loop-part.part-index _ c.loop-part-test.true;
  holds = c.if-holds_mark.ensures;
}

pub loop-part-preserved : goal.loop-part-preserved
loop-part-preserved c =
    below_more (λ k. (x : Part) → slice_get c.args.parts.now k ≡ Some x → HoldsMark c.args.marks.now x → ⊥) c.loop-part.part-index c.loop-part.invariant
    (not_here c.args.marks.now c.args.parts.now c.loop-part.part-index _ c.if-holds_mark.ensures)

pub returns : goal.returns
returns c = nowhere c.args.marks.now c.args.parts.now c.loop-part.part-index c.loop-part-test.false c.loop-part.invariant
