-- Positions, and sets of them.
use Rattle.std.specs.Prelude.{ℕ, ◌≡◌, ◌+◌, ◌*◌, ◌%◌, ◌&&◌, nat_eq, Bool, true, List, slice_index_or}
use Rattle.std.specs.List.{list_any}
use Rattle.cs_base.specs.declared.positions.Pos.{Pos}
use Rattle.indexmap.specs.IndexSet.{IndexSet, contains_by}

abbrev pub is_pos : Pos → Pos → Bool
is_pos p q = nat_eq p.file q.file && nat_eq p.at q.at

-- the position is among these
abbrev pub has : List Pos → Pos → Bool
has all p = list_any (λ (q : Pos). is_pos q p) all

-- the same of a set
abbrev pub has_position : {S : Type 0} → IndexSet (ℕ × ℕ) S → Pos → Bool
has_position set p = contains_by (λ q. nat_eq p.file q.0 && nat_eq p.at q.1) set

-- The set has these, and no other.
abbrev pub IsSet : {S : Type 0} → List Pos → IndexSet (ℕ × ℕ) S → Type 0
IsSet all set = (p : Pos) → has_position set p ≡ has all p

-- the slot of a position among marks
abbrev pub slot_of : Pos → ℕ
slot_of p = (p.at + 64 * p.file) % 4096

-- The slot of each of these is marked, or is none.
abbrev pub AreMet : List Pos → List Bool → Type 0
AreMet all marks = (p : Pos) → has all p ≡ true → slice_index_or marks (slot_of p) true ≡ true
