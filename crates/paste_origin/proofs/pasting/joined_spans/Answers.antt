use Rattle.std.proofs.Common.{◌≡◌, ◌++◌, ◌+◌, ◌∙◌, ap, length, arith, ℕ}
use Rattle.std.specs.Prelude.{List, Option, []}
use Rattle.cs_base.specs.declared.positions.Pos.{Pos}
use Rattle.cs_base.specs.declared.spans.Span.{Span}
use Rattle.cs_base.specs.Spans.{origins_by}
use Rattle.cs_base.proofs.OriginLemmas.{origins_by-none}
use Rattle.paste_origin.proofs.pasting.joined_spans.Goals as goal

-- what one token tells stands before what the other tells
in_turn : (n m k : ℕ) (none first both : List Span) (xs ys : List (Option Pos)) → none ≡ [] → origins_by (0 + n) first ≡ origins_by 0 none ++ xs
    → k ≡ n → origins_by (k + m) both ≡ origins_by k first ++ ys → origins_by (n + m) both ≡ xs ++ ys
in_turn n m k none first both xs ys e l same r =
    let zero : 0 + n ≡ n = omega arith in
    let told : origins_by n first ≡ xs = rw (e, origins_by-none, zero) at l in
    rw same at r ∙ ap (λ (before : List (Option Pos)). before ++ ys) told

pub returns-clause-answer : goal.returns-clause-answer
returns-clause-answer c =
    in_turn (length c.args.x.now.text) (length c.args.y.now.text) (length c.text.result.now) c.new-spans.result.items c.push_spans.new.spans.items
    c.push_spans-2.new.spans.items c.args.x.now.origins c.args.y.now.origins c.new-spans.ensures.items c.in_ok-push_spans.ensures.answer
    (ap length c.text.ensures.answer) c.in_ok-push_spans-2.ensures.answer
