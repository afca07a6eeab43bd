-- What is found by a query (this project's).
use Rattle.std.specs.Prelude.{ℕ, ◌≡◌, Some, List, [], ◌∷◌, ◌++◌, Ok, Err, IfSome, codes, decimal, length, slice_get}
use Rattle.std.specs.List.Sorted.{IsStrictlySortedBy}
use Rattle.cs_base.specs.declared.positions.Part.{Part}
use Rattle.analysis.specs.Analysis.{AnalysisValue}
use Rattle.analysis.specs.ClassReport.{place_text}
use Rattle.analysis.specs.Parts.{AreMembers, IsFirst, part_cmp}
use Rattle.analysis.specs.Places.{place_at}
use Rattle.analysis.specs.Spellings.{spelling_of}
use Rattle.query_words.specs.Queries.{Query}
use Rattle.query_words.specs.Reading.{parsed}
use Rattle.find_names.specs.declared.refusal.FindRefusal.{FindRefusal}
use Rattle.find_names.specs.Question.{IsInQuestion}
use Rattle.find_names.specs.Refusals.{fault_of}
use Rattle.find_names.specs.Satisfying.{SatisfiesQuery}

-- the first member of a class in question that satisfies the query
pub record IsFound (a : AnalysisValue) (q : Query) (part : Part) : Type 0 where
  pub first : IsFirst a part
  pub in_question : IsInQuestion a part
  pub satisfies : SatisfiesQuery a part q

-- The list has each of them, once, in the order of their places.
pub record AreFound (a : AnalysisValue) (q : Query) (parts : List Part) : Type 0 where
  pub each : (k : ℕ) (part : Part) → slice_get parts k ≡ Some part → IsFound a q part
  pub all : (part : Part) → IsFound a q part → (k : ℕ) × (slice_get parts k ≡ Some part)
  pub sorted : IsStrictlySortedBy (part_cmp a) parts

-- PATH:LINE:COL COUNT TEXT
abbrev pub found_line : AnalysisValue → Part → ℕ → List ℕ
found_line a part count =
    place_text (place_at a.table part.start) ++ codes " " ++ decimal count ++ codes " " ++ spelling_of a part ++ codes "\n"

-- the line of a class behind a text, by its first member and the number of its members
pub record PrintsLine (a : AnalysisValue) (part : Part) (before after : List ℕ) : Type 0 where
  pub members : List Part
  pub are_members : AreMembers a part members
  pub line : after ≡ before ++ found_line a part (length members)

-- the lines of classes, in order
pub data PrintsLines (a : AnalysisValue) : List Part → List ℕ → Type 0 where
  nothing : PrintsLines a [] []
  more : {parts : List Part} {before after : List ℕ} → (part : Part) → PrintsLines a parts before → PrintsLine a part before after
      → PrintsLines a (parts ++ part ∷ []) after

-- The lines of all classes that are found.
pub record PrintsFound (a : AnalysisValue) (q : Query) (text : List ℕ) : Type 0 where
  pub parts : List Part
  pub are_found : AreFound a q parts
  pub lines : PrintsLines a parts text

-- The word is no query, and this is its first fault; or memory ran out.
abbrev pub Refuses : List ℕ → FindRefusal → Type 0
Refuses query refusal = IfSome (fault_of refusal) (λ fault. parsed query ≡ Err fault)
