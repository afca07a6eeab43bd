-- What is true of cuts by their marks: laws that callers' proofs cite.
use Rattle.std.specs.Prelude.{ℕ, ◌-◌, ◌<◌, ◌≤◌, ◌≡◌, ◌⊎◌, true, List, ◌++◌, map}
use Rattle.list_cuts.specs.Cuts.{Cut, arranged, AreOf}
use Rattle.list_cuts.specs.CutOf.{front, back, is_between, cut_of, are_nested}
use Rattle.reordered_text_laws.specs.Marks.{first_of, last_of, marks_of, IsMarked, HasMarks, Each, AreOfList, AreNested, spans_by, tidied}

-- ---- telling cuts by marks

-- Two cuts from an element on whose lists have the same marks are one.
abbrev pub MarksTellCuts : Type 0
MarksTellCuts = (from from2 at limit limit2 : ℕ) (c d : Cut) → IsMarked from at limit c → IsMarked from2 at limit2 d → marks_of at c ≡ marks_of at d → c ≡ d

-- the lists of a cut are nested
abbrev pub MarkedCutsAreNested : Type 0
MarkedCutsAreNested = (from at limit : ℕ) (c : Cut) → IsMarked from at limit c → Each (AreOfList limit) (marks_of at c) × AreNested (marks_of at c)

-- Lists that are nested have a cut with their marks.
pub record HasCut (limit : ℕ) (ls : List (List ℕ)) : Type 0 where
  pub nested : are_nested (map spans_by ls) ≡ true
  pub marked : IsMarked 0 0 limit (cut_of (map spans_by ls))
  pub marks : marks_of 0 (cut_of (map spans_by ls)) ≡ ls

abbrev pub NestedMarksHaveCuts : Type 0
NestedMarksHaveCuts = (limit : ℕ) (ls : List (List ℕ)) → Each (AreOfList limit) ls → AreNested ls → HasCut limit ls

-- ---- parts of cuts

-- all marks of a list stand before an element, or from it on
abbrev pub IsBeside : ℕ → List ℕ → Type 0
IsBeside p l = (last_of l < p) ⊎ (p ≤ first_of l)

-- The lists before an element and those from it on are those of the two parts of the cut.
pub record IsSplit (from at limit p : ℕ) (c : Cut) : Type 0 where
  pub between : is_between (p - at) c ≡ true
  pub marks : marks_of at c ≡ marks_of at (front (p - at) c) ++ marks_of p (back (p - at) c)
  pub first : IsMarked from at p (front (p - at) c)
  pub second : IsMarked p p limit (back (p - at) c)

abbrev pub MarkedCutsSplit : Type 0
MarkedCutsSplit = (from at limit p : ℕ) (c : Cut) → IsMarked from at limit c → at ≤ p → Each (IsBeside p) (marks_of at c) → IsSplit from at limit p c

-- ---- tidied cuts

-- They put elements in the same order, and their lists have the same marks and as many items.
pub record IsTidied (c : Cut) : Type 0 where
  pub marks : (at : ℕ) → marks_of at (tidied 0 c) ≡ marks_of at c
  pub each : (n : ℕ) → AreOf n c → AreOf n (tidied 0 c)
  pub marked : (from at limit : ℕ) → at ≤ from → HasMarks from at limit c → IsMarked from at limit (tidied 0 c)

abbrev pub CutsAreTidied : Type 0
CutsAreTidied = (c : Cut) → IsTidied c

abbrev pub TidiedCutsArrange : Type 0 → Type 0
TidiedCutsArrange X = (order : List ℕ) (c : Cut) (xs : List X) → arranged order (tidied 0 c) xs ≡ arranged order c xs
