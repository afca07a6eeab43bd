-- Spans of a token's origins (ISO/IEC 9899:1999, 5.1.1.2): characters that stand one behind the other in a file.
use Rattle.std.specs.Prelude.{ℕ, Bool, true, false, ◌&&◌, ◌≡◌, ◌≤◌, ◌+◌, ◌-◌, ◌^◌, List, [], ◌∷◌, Option, Some, None, if◌then◌else◌, map, nat_le, nat_lt}
use Rattle.std.specs.List.{range_with_len}
use Rattle.std.specs.List.Sorted.{IsPartitionPoint}
use Rattle.cs_base.specs.declared.positions.Pos.{Pos}
use Rattle.cs_base.specs.declared.spans.Span.{Span}

-- character k of the token is one of the span's
abbrev pub lies_in : Span → ℕ → Bool
lies_in s k = nat_le s.from k && nat_lt (k - s.from) s.len

-- the origin of character k of the token, where it is one of the span's
abbrev pub told_by : Span → ℕ → Pos
told_by s k = record { file = s.start.file; at = s.start.at + (k - s.from) }

-- the origin of character k of the token: none outside all spans
abbrev pub origin_by : List Span → ℕ → Option Pos
origin_by [] k = None
origin_by (s ∷ spans) k = if lies_in s k then Some (told_by s k) else origin_by spans k

-- the origins of a token's n characters
unfoldable pub origins_by : ℕ → List Span → List (Option Pos)
origins_by n spans = map (origin_by spans) (range_with_len 0 n)

-- spans of characters from `from` on, below n: in order, apart, and each character has a number
abbrev pub AreSpansFrom : ℕ → ℕ → List Span → Type 0
AreSpansFrom from n [] = from ≤ n
AreSpansFrom from n (s ∷ spans) =
    (from ≤ s.from) × (s.start.at + s.len ≤ 2 ^ 32) × AreSpansFrom (s.from + s.len) n spans

-- spans of n characters
abbrev pub AreSpans : ℕ → List Span → Type 0
AreSpans n spans = AreSpansFrom 0 n spans

-- the span of n characters, the first of which has this origin
abbrev pub whole : ℕ → Pos → Span
whole n first = record { from = 0; len = n; start = first }

-- the same characters of a token, behind n others
abbrev pub moved : ℕ → Span → Span
moved n s = record { from = n + s.from; len = s.len; start = s.start }

-- so many spans begin at character k or before it
abbrev pub Reached : List Span → ℕ → ℕ → Type 0
Reached spans k n = IsPartitionPoint (λ s. nat_le s.from k ≡ true) (λ s. nat_le s.from k ≡ false) spans n
