use Rattle.std.proofs.Common.{◌≡◌, ℕ, ◌+◌, ◌<◌, List, [], ◌∷◌, length, rules, ◌∙◌}
use Rattle.std.specs.Prelude.{Option, Some, None, IfSome, slice_get}
use Rattle.std.specs.Option.{option_and_then}
use Rattle.cs_base.specs.declared.positions.Pos.{Pos}
use Rattle.cs_base.specs.declared.spans.Span.{Span}
use Rattle.cs_base.specs.Form.{spelled, spans_in}
use Rattle.cs_base.specs.Spans.{AreSpans, origin_by, origins_by, whole}
use Rattle.cs_base.proofs.OriginLemmas.{origin_by-whole, slice_get-origins_by}
use Rattle.cs_base.proofs.tokens.Tok.start.Goals as goal

-- the origins of n characters, told by the span of all of them
told_by_run : (n : ℕ) (spans : List Span) → AreSpans n spans → (start : Option Pos) → IfSome start (λ first. spans ≡ whole n first ∷ [])
    → IfSome start (λ first. (k : ℕ) → k < n
    → option_and_then (λ (origin : Option Pos). origin) (slice_get (origins_by n spans) k) ≡ Some (record { file = first.file; at = first.at + k }))
told_by_run n spans are None is = is
told_by_run n spans are (Some first) is = λ k within.
    slice_get-origins_by n k spans are ∙ rw is (origin_by-whole n k first within)

pub returns : goal.returns
returns c =
    let form = c.self.inside.form in
    rw (← c.self.view_is) (told_by_run (length (spelled form)) (spans_in form) c.self.invariant.spans c.start.result c.start.ensures)
