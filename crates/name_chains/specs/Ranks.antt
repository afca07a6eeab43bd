-- Members of a structure or union, found by their number and by their name.
use Rattle.std.specs.Prelude.{ℕ, ◌+◌, ◌-◌, ◌≤◌, ◌≡◌, Bool, true, ◌&&◌, ◌==◌, nat_lt, List, length, take, filter, reverse, get_or, slice_get, Some, if◌then◌else◌}
use Rattle.c_types.specs.declared.declarations.Declaration.{Declaration}
use Rattle.name_chains.specs.declared.structures.Rank.{Rank}
use Rattle.name_chains.specs.Links.{latest_place}
use Rattle.name_chains.specs.Places.{is_member_of, place_of}

abbrev pub no_rank : Rank
no_rank = record { depth = 0; jump = 0; first = 0 }

abbrev pub rank_at : List Rank → ℕ → Rank
rank_at ranks k = get_or ranks k no_rank

-- the place of a declaration that passes, or 0
pub record IsPlace (test : Declaration → Bool) (declared : List Declaration) (place : ℕ) : Type 0 where
  pub within : place ≤ length declared
  pub again : latest_place test (reverse (take place declared)) ≡ place

-- The rank of a member with the name behind these declarations: how many members of its structure or union there are
-- up to it, the place of one that stands before it or 0, and how many stand before the first one that has its name.
pub record IsRank (number name_at : ℕ) (before : List Declaration) (rank : Rank) : Type 0 where
  pub depth : rank.depth ≡ length (filter (is_member_of number) before) + 1
  pub jump : IsPlace (is_member_of number) before rank.jump
  pub first : rank.first ≡ place_of (filter (is_member_of number) before) name_at

-- each member has its rank
pub record AreRanked (declared : List Declaration) (ranks : List Rank) : Type 0 where
  pub each : length ranks ≡ length declared
  pub told : (k number : ℕ) (d : Declaration) → slice_get declared k ≡ Some d → is_member_of number d ≡ true
      → IsRank number d.name_at (take k declared) (rank_at ranks k)

-- of the member at the place
abbrev pub depth_at : List Rank → ℕ → ℕ
depth_at ranks place = if place == 0 then 0 else (rank_at ranks (place - 1)).depth

abbrev pub jump_at : List Rank → ℕ → ℕ
jump_at ranks place = if place == 0 then 0 else (rank_at ranks (place - 1)).jump

-- where the way from member k to the one with n before it goes on
abbrev pub next_towards : List ℕ → List Rank → ℕ → ℕ → ℕ
next_towards before ranks n k =
    if nat_lt n (depth_at ranks (rank_at ranks k).jump) then (rank_at ranks k).jump else get_or before k 0

-- the member whose name is this token
abbrev pub is_member_at : ℕ → ℕ → Declaration → Bool
is_member_at number name_at d = is_member_of number d && (d.name_at == name_at)
