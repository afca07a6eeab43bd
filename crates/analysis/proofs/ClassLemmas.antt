-- What a table of the classes of an analysis tells of the analysis.
use Rattle.std.proofs.Common.{◌≡◌, ℕ, Option, None, Some, slice_get, refl, sym, ap, ◌∙◌}
use Rattle.std.specs.Option.{option_map, option_and_then}
use Rattle.cs_base.specs.declared.positions.Part.{Part}
use Rattle.cs_base.specs.declared.positions.Pos.{Pos}
use Rattle.eclass_map.specs.Chain.{here, along as then_link, back}
use Rattle.eclass_map.specs.ClassTable.{Spot, Table, IsHeld, BeginsToken, IsStart as IsTableStart, IsPart as IsTablePart, Same, label, class_in, members_of, part_of}
use Rattle.eclass_map.specs.Positions.{along}
use Rattle.analysis.specs.Analysis.{AnalysisValue}
use Rattle.analysis.specs.Classes.{AreItsClasses}
use Rattle.analysis.specs.Parts.{AreSame, IsCharacter, Begins, IsStart, IsPart, IsMember, Holds}

-- ---- characters

pub character_told : (a : AnalysisValue) (t : Table) → AreItsClasses a t → (p : Pos) → IsHeld t p → IsCharacter a p
character_told a t h p held = let l = h.parts.lies p held in (l.0, h.tokens l.0 l.1, l.2)

pub character_held : (a : AnalysisValue) (t : Table) → AreItsClasses a t → (p : Pos) → IsCharacter a p → IsHeld t p
character_held a t h p c = h.parts.held c.0 p (h.all c.0 c.1) c.2

-- ---- the same

same_then : (t : Table) (p q r : Pos) → Same t p q → Same t q r → Same t p r
same_then t p q r s u = record { at = s.at; first = s.first; second = u.second ∙ sym u.first ∙ s.second }

same_turned : (t : Table) (p q : Pos) → Same t p q → Same t q p
same_turned t p q s = record { at = s.at; first = s.second; second = s.first }

pub same_told : (a : AnalysisValue) (t : Table) → AreItsClasses a t → (p q : Pos) → Same t p q → AreSame a p q
same_told a t h p q s = h.links.least p q s

pub same_held : (a : AnalysisValue) (t : Table) → AreItsClasses a t → (p q : Pos) → IsHeld t p → AreSame a p q → Same t p q
same_held a t h p q held here = record { at = held.0; first = held.1; second = held.1 }
same_held a t h p q held (then_link {q = r} link rest) =
    let s = h.links.holds p r link in
    same_then t p r q s (same_held a t h r q (s.at, s.second) rest)
same_held a t h p q held (back {q = r} link rest) =
    let s = h.links.holds r p link in
    same_then t p r q (same_turned t r p s) (same_held a t h r q (s.at, s.first) rest)

-- ---- starts

begins_told : (a : AnalysisValue) (t : Table) → AreItsClasses a t → (p : Pos) → BeginsToken t p → Begins a p
begins_told a t h p b = (b.0, h.tokens b.0 b.1, b.2)

begins_held : (a : AnalysisValue) (t : Table) → AreItsClasses a t → (p : Pos) → Begins a p → BeginsToken t p
begins_held a t h p b = (b.0, h.all b.0 b.1, b.2)

pub start_told : (a : AnalysisValue) (t : Table) → AreItsClasses a t → (p : Pos) → IsTableStart t p → IsStart a p
start_told a t h p s = (s.0, begins_told a t h s.0 s.1, same_told a t h p s.0 s.2)

pub start_held : (a : AnalysisValue) (t : Table) → AreItsClasses a t → (p : Pos) → IsHeld t p → IsStart a p → IsTableStart t p
start_held a t h p held s = (s.0, begins_held a t h s.0 s.1, same_held a t h p s.0 held s.2)

-- ---- parts

from_some : {X Y : Type 0} (f : X → Option Y) (o : Option X) (y : Y) → option_and_then f o ≡ Some y → (x : X) × (o ≡ Some x)
from_some f None y e = absurd (cc)
from_some f (Some x) y e = (x, refl)

-- what has a class number begins at a character
numbered_held : (t : Table) (part : Part) (c : ℕ) → class_in t part ≡ Some c → IsHeld t part.start
numbered_held t part c e = from_some {X = Spot} {Y = ℕ} _ (label t part.start) c e

pub part_told : (a : AnalysisValue) (t : Table) → AreItsClasses a t → (part : Part) → IsTablePart t part → IsPart a part
part_told a t h part is =
    let n = h.parts.each part is in
    record {
      held = character_told a t h part.start (numbered_held t part n.0 n.1);
      start = start_told a t h part.start is.start;
      some = is.some;
      goes_on = λ o past below.
          let g = is.goes_on o past below in
          (character_told a t h (along part.start o) g.0, λ s. g.1 (start_held a t h (along part.start o) g.0 s));
      ends = λ c. start_told a t h (along part.start part.len) (is.ends (character_held a t h (along part.start part.len) c));
    }

pub part_held : (a : AnalysisValue) (t : Table) → AreItsClasses a t → (part : Part) → IsPart a part → IsTablePart t part
part_held a t h part is =
    record {
      start = start_held a t h part.start (character_held a t h part.start is.held) is.start;
      some = is.some;
      goes_on = λ o past below.
          let g = is.goes_on o past below in
          (character_held a t h (along part.start o) g.0, λ s. g.1 (start_told a t h (along part.start o) s));
      ends = λ held. start_held a t h (along part.start part.len) held (is.ends (character_told a t h (along part.start part.len) held));
    }

-- ---- classes

-- each part of a class is a member of the class of its parts
pub walked_member : (a : AnalysisValue) (t : Table) → AreItsClasses a t → (part other : Part) (c k : ℕ) → class_in t part ≡ Some c
    → slice_get (members_of t c) k ≡ Some other → IsMember a part other
walked_member a t h part other c k is e =
    let number = h.parts.walked other c k e in
    record {
      is_part = part_told a t h other (h.parts.told other c number);
      same = same_told a t h part.start other.start (h.parts.one_class part other c is number);
    }

-- and the other way round
pub member_walked : (a : AnalysisValue) (t : Table) → AreItsClasses a t → (part other : Part) (c : ℕ) → class_in t part ≡ Some c
    → IsMember a part other → (k : ℕ) × (slice_get (members_of t c) k ≡ Some other)
member_walked a t h part other c is m =
    let d = h.parts.each other (part_held a t h other m.is_part) in
    let same = same_held a t h part.start other.start (numbered_held t part c is) m.same in
    let one = h.parts.one_number part other c d.0 is d.1 same in
    h.parts.member other c (d.1 ∙ ap (λ (n : ℕ). Some n) (sym one))

-- the part that holds a position is told by the table
from_none : {X Y : Type 0} (f : X → Y) (o : Option X) → option_map f o ≡ None → (x : X) → o ≡ Some x → ⊥
from_none f None e x is = absurd (cc)
from_none f (Some y) e x is = absurd (cc)

pub held_by : (a : AnalysisValue) (t : Table) → AreItsClasses a t → (p : Pos) (found : Option Part) → part_of t p ≡ found → Holds a p found
held_by a t h p None e = λ c. let held = character_held a t h p c in from_none {X = Spot} {Y = Part} _ (label t p) e held.0 held.1
held_by a t h p (Some part) e =
    let is = h.parts.parts p part e in
    (part_told a t h part is.0, is.1)
