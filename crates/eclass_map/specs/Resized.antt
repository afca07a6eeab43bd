-- Where tokens and parts stand once each part of one class has another length.
use Rattle.std.specs.Prelude.{ℕ, ◌+◌, ◌-◌, ◌*◌, ◌^◌, ◌<◌, ◌≡◌, Bool, ◌&&◌, cond, nat_eq, nat_lt, length, map, Some}
use Rattle.std.specs.List.{count_by}
use Rattle.cs_base.specs.declared.positions.Pos.{Pos}
use Rattle.cs_base.specs.declared.positions.Part.{Part}
use Rattle.class_labels.specs.Labels.{length_at}
use Rattle.eclass_map.specs.declared.token_list.Added.{Added}
use Rattle.eclass_map.specs.Positions.{end_of}
use Rattle.eclass_map.specs.ClassTable.{Table, class_in, members_of, added_tokens, character_count}

-- the part begins before the character, in its file
abbrev pub begins_before : Pos → Part → Bool
begins_before p part = nat_eq part.start.file p.file && nat_lt part.start.at p.at

-- how many members of class c begin before the character, in its file
abbrev pub members_before : ℕ → Table → Pos → ℕ
members_before c t p = count_by (begins_before p) (members_of t c)

-- where a character stands once the parts of class c have m characters: moved by the growth of the members before it
abbrev pub moved_to : ℕ → ℕ → Table → Pos → Pos
moved_to c m t p = record { file = p.file; at = p.at + members_before c t p * m - members_before c t p * length_at t.labels c }

-- an added token: where it begins and where it ends is moved
abbrev pub moved_token : ℕ → ℕ → Table → Part → Part
moved_token c m t token = record { start = moved_to c m t token.start; len = (moved_to c m t (end_of token)).at - (moved_to c m t token.start).at }

-- a part of class d: where it begins is moved, and a part of class c has m characters
abbrev pub moved_part : ℕ → ℕ → Table → ℕ → Part → Part
moved_part c m t d part = record { start = moved_to c m t part.start; len = cond (nat_eq d c) m part.len }

-- how many characters there are afterwards
abbrev pub count_after : ℕ → ℕ → Table → ℕ
count_after c m t = character_count t + length (members_of t c) * m - length (members_of t c) * length_at t.labels c

-- an added token ends so many characters before 2^32
abbrev pub IsNear : ℕ → Added → Type 0
IsNear more r = r.place.start.at + r.place.len + more < 2 ^ 32

-- Each part of class c has m characters. Every token and part moves, in its file, by the growth of the members before
-- it; the classes have their numbers and the walks their order.
pub record Resizes (c m : ℕ) (old new : Table) : Type 0 where
  pub tokens : added_tokens new ≡ map (moved_token c m old) (added_tokens old)
  pub members : (d : ℕ) → members_of new d ≡ map (moved_part c m old d) (members_of old d)
  pub parts : (part : Part) (d : ℕ) → class_in old part ≡ Some d → class_in new (moved_part c m old d part) ≡ Some d
  pub classes : length new.labels.walks ≡ length old.labels.walks
