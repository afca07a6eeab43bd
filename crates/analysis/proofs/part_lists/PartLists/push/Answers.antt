use Rattle.std.proofs.Common.{rules, ◌≡◌, ◌++◌, ◌∷◌, [], length, ◌∙◌, ap, arith, List}
use Rattle.cs_base.specs.declared.positions.Part.{Part}
use Rattle.analysis.proofs.SegmentLemmas.{pushed_ends, pushed_segments}
use Rattle.analysis.proofs.part_lists.PartLists.push.Goals as goal

pub invariant_of-self-2 : goal.invariant_of-self-2
invariant_of-self-2 c =
    let ends = c.self.inside.ends.items in
    let parts = c.self.inside.parts.items in
    let more : c.extend_from_slice.new.self.items ≡ parts ++ c.args.list.now = search rules in
    let also : c.push.new.self.items ≡ ends ++ c.len.result ∷ [] = search rules in
    let last : c.len.result ≡ length c.extend_from_slice.new.self.items = omega (arith, c.len.ensures, c.extend_from_slice.new.self.ok.0) in
    pushed_ends ends _ parts _ c.args.list.now c.len.result c.self.invariant more last also

pub returns-clause-ok : goal.returns-clause-ok
returns-clause-ok c =
    let ends = c.self.inside.ends.items in
    let parts = c.self.inside.parts.items in
    let more : c.extend_from_slice.new.self.items ≡ parts ++ c.args.list.now = search rules in
    let also : c.push.new.self.items ≡ ends ++ c.len.result ∷ [] = search rules in
    let last : c.len.result ≡ length c.extend_from_slice.new.self.items = omega (arith, c.len.ensures, c.extend_from_slice.new.self.ok.0) in
    pushed_segments ends _ parts _ c.args.list.now c.len.result c.self.invariant more last also
    ∙ ap (λ (l : List (List Part)). l ++ c.args.list.now ∷ []) c.self.view_is
