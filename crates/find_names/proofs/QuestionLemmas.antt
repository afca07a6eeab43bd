-- Members of a class of which something holds, and what a place names.
use Rattle.std.proofs.Common.{◌≡◌, ℕ, zero, suc, ◌+◌, ◌<◌, Bool, true, false, ◌&&◌, List, [], ◌∷◌, Option, Some, None, length, get_or, slice_get, inl, inr, refl, sym, ap, ◌∙◌, subst, arith}
use Rattle.std.specs.Prelude.{map, MatchBool}
use Rattle.std.specs.List.{list_all}
use Rattle.std.specs.Str.{IsUtf8, bytes_eq, is_utf8}
use Rattle.std.proofs.lemmas.Bool.{cases_Bool, and_parts}
use Rattle.std.proofs.lemmas.Option.{none-some, same_Some, slice_get_within, slice_get-get_or, get_or_from_slice_get}
use Rattle.std.proofs.lemmas.Str.{IsUtf8-from_is_utf8}
use borrow.Author.Count.{below_more}
use Rattle.cs_base.specs.declared.positions.Part.{Part}
use Rattle.cs_base.specs.declared.positions.Pos.{Pos}
use Rattle.analysis.specs.Below.eclass_map.Positions.{holds}
use Rattle.cs_base.proofs.FileMapLemmas.{bytes_eq-equal}
use Rattle.analysis.proofs.PartLemmas.{part_once}
use Rattle.analysis.specs.Below.source_files.Files.{Entry, Table}
use Rattle.analysis.specs.Analysis.{AnalysisValue}
use Rattle.analysis.specs.Naming.{Names, file_named, named_position}
use Rattle.analysis.specs.Parts.{AreMembers, IsMember}

-- ---- members

-- of no member before number k the property holds
abbrev pub NoneBefore : (Part → Type 0) → List Part → ℕ → Type 0
NoneBefore P members k = (j : ℕ) → j < k → (m : Part) → slice_get members j ≡ Some m → P m → ⊥

pub none_more : (P : Part → Type 0) (members : List Part) (k : ℕ) (d : Part) → k < length members → (P (get_or members k d) → ⊥)
    → NoneBefore P members k → NoneBefore P members (k + 1)
none_more P members k d within fails so_far =
    below_more (λ j. (m : Part) → slice_get members j ≡ Some m → P m → ⊥) k so_far
    (λ m at holds.
    let same : get_or members k d ≡ m = get_or_from_slice_get members k m d at in
    fails (subst P (sym same) holds))

pub none_at_all : (a : AnalysisValue) (part : Part) (P : Part → Type 0) (members : List Part) → AreMembers a part members
    → NoneBefore P members (length members) → (m : Part) → IsMember a part m → P m → ⊥
none_at_all a part P members are none m is holds =
    let found = are.all m is in
    none found.0 (slice_get_within members found.0 m found.1) m found.1 holds

pub member_at : (a : AnalysisValue) (part : Part) (members : List Part) (k : ℕ) (d : Part) → AreMembers a part members → k < length members
    → IsMember a part (get_or members k d)
member_at a part members k d are within = are.each k (get_or members k d) (slice_get-get_or members k d within)

-- ---- what a place names

pub named_once : (a : AnalysisValue) (path : List ℕ) (line column : ℕ) (m n : Part) → Names a path line column (Some m)
    → Names a path line column (Some n) → m ≡ n
named_once a path line column m n p q =
    let same : q.0 ≡ p.0 = same_Some q.0 p.0 (sym q.1 ∙ p.1) in
    let held : holds n p.0 ≡ true = subst (λ (x : Pos). holds n x ≡ true) same q.3 in
    part_once a m n p.0 p.2 q.2 p.3 held

pub named_never : (a : AnalysisValue) (path : List ℕ) (line column : ℕ) (n : Part) → Names a path line column None
    → Names a path line column (Some n) → ⊥
named_never a path line column n p q = none-some q.0 (sym p ∙ q.1)

-- a path that is no text is that of no kept file
not_text : (path : List ℕ) (n : ℕ) (table : Table) → list_all is_utf8 (map (λ (e : Entry). e.path) table) ≡ true → (IsUtf8 path → ⊥)
    → file_named path n table ≡ None
unfolding file_named
not_text path n [] all not = refl
not_text path n (e ∷ table) all not =
    let each = and_parts (is_utf8 e.path) (list_all is_utf8 (map (λ (f : Entry). f.path) table)) all in
    elim (cases_Bool (bytes_eq path e.path)) [
      | inl same ↦
          let is : path ≡ e.path = bytes_eq-equal path e.path same in
          absurd (not (subst IsUtf8 (sym is) (IsUtf8-from_is_utf8 e.path each.0)))
      | inr other ↦ rw other (not_text path (n + 1) table each.1 not)
    ]

pub text_alone : (a : AnalysisValue) (path : List ℕ) (line column : ℕ) → list_all is_utf8 (map (λ (e : Entry). e.path) a.table) ≡ true → (IsUtf8 path → ⊥)
    → named_position a path line column ≡ None
unfolding named_position
text_alone a path line column all not = rw (not_text path 0 a.table all not) refl

-- ---- tests

-- a test of one thing tells of another that holds exactly then
pub told_of : (b : Bool) (A B : Type 0) → (A → B) → (B → A) → MatchBool b A (A → ⊥) → MatchBool b B (B → ⊥)
told_of true A B f g tells = f tells
told_of false A B f g tells = λ x. tells (g x)
