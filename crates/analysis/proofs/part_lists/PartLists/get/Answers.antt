use Rattle.std.proofs.Common.{◌≡◌, ◌∷◌, [], length, get_or, sym, ◌∙◌, ap, arith, ◌<◌, ◌≤◌, List, ℕ}
use Rattle.std.specs.Prelude.{slice_range}
use Rattle.std.proofs.lemmas.List.{get_or_read}
use Rattle.cs_base.specs.declared.positions.Part.{Part}
use Rattle.analysis.proofs.SegmentLemmas.{ends_at, segments_at, segments_past}
use Rattle.analysis.proofs.part_lists.PartLists.get.Goals as goal

pub returns-then-place-len : goal.returns-then-place-len
returns-then-place-len c =
    let ends = c.self.inside.ends.items in
    let past : length ends ≤ c.args.number = omega (arith, c.len.ensures, c.self.inside.ends.ok.0) in
    sym (segments_past 0 ends c.self.inside.parts.items c.args.number past)
    ∙ ap (λ (l : List (List Part)). get_or l c.args.number []) c.self.view_is

pub between-requires-clause-up : goal.between-requires-clause-up
between-requires-clause-up c =
    let ends = c.self.inside.ends.items in
    let within : c.args.number < length ends = omega (arith, c.len.ensures, c.self.inside.ends.ok.0) in
    let end : c.index.result.now ≡ get_or ends c.args.number 0 = get_or_read ends c.args.number c.index.result.now within c.index.ensures 0 in
    let begin : c.begin_at.result ≡ get_or (0 ∷ ends) c.args.number 0 = c.begin_at.ensures ∙ ap (λ (l : List ℕ). get_or (0 ∷ l) c.args.number 0) c.deref-2.ensures.value in
    let at = ends_at 0 ends (length c.self.inside.parts.items) c.args.number c.self.invariant within in
    omega (arith, at.0)

pub between-requires-clause-within : goal.between-requires-clause-within
between-requires-clause-within c =
    let ends = c.self.inside.ends.items in
    let within : c.args.number < length ends = omega (arith, c.len.ensures, c.self.inside.ends.ok.0) in
    let end : c.index.result.now ≡ get_or ends c.args.number 0 = get_or_read ends c.args.number c.index.result.now within c.index.ensures 0 in
    let parts : length c.deref.result.now ≡ length c.self.inside.parts.items = ap length c.deref.ensures.value in
    let at = ends_at 0 ends (length c.self.inside.parts.items) c.args.number c.self.invariant within in
    omega (arith, at.1)

pub returns : goal.returns
returns c =
    let ends = c.self.inside.ends.items in
    let parts = c.self.inside.parts.items in
    let n = c.args.number in
    let within : n < length ends = omega (arith, c.len.ensures, c.self.inside.ends.ok.0) in
    let end : c.index.result.now ≡ get_or ends n 0 = get_or_read ends n c.index.result.now within c.index.ensures 0 in
    let begin : c.begin_at.result ≡ get_or (0 ∷ ends) n 0 = c.begin_at.ensures ∙ ap (λ (l : List ℕ). get_or (0 ∷ l) n 0) c.deref-2.ensures.value in
    c.between.ensures
    ∙ ap (λ (l : List Part). slice_range l c.begin_at.result c.index.result.now) c.deref.ensures.value
    ∙ ap (λ (k : ℕ). slice_range parts k c.index.result.now) begin
    ∙ ap (λ (k : ℕ). slice_range parts (get_or (0 ∷ ends) n 0) k) end
    ∙ sym (segments_at 0 ends parts n within)
    ∙ ap (λ (l : List (List Part)). get_or l n []) c.self.view_is
