-- Where the file tokens of an analysis stand.
use Rattle.std.specs.Prelude.{ℕ, ◌+◌, ◌*◌, ◌^◌, ◌≡◌, ◌&&◌, nat_eq, Bool, List}
use Rattle.std.specs.List.{list_any}
use Rattle.cs_base.specs.declared.positions.Part.{Part}
use Rattle.cs_base.specs.Token.{Token}
use Rattle.analysis.specs.Analysis.{AnalysisValue}
use Rattle.analysis.specs.FileTokens.{file_tokens, span_of}

-- the number of the place where a part begins
abbrev pub place_number : Part → ℕ
place_number part = part.start.file * 2 ^ 32 + part.start.at

abbrev pub is_part : Part → Part → Bool
is_part part other =
    (nat_eq part.start.file other.start.file && nat_eq part.start.at other.start.at) && nat_eq part.len other.len

-- one of these is the part
abbrev pub has_span : List Part → Part → Bool
has_span spans part = list_any (λ span. is_part span part) spans

-- the part is the whole token
abbrev pub is_span : Part → Token → Bool
is_span part t = is_part (span_of t) part

-- These are the file tokens.
abbrev pub AreFileTokens : AnalysisValue → List Part → Type 0
AreFileTokens a spans = (part : Part) → has_span spans part ≡ list_any (is_span part) (file_tokens a)
