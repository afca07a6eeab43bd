-- Labels of the characters of a table whose classes are those of another, moved.
use Rattle.std.proofs.Common.{◌≡◌, ℕ, ◌+◌, ◌-◌, ◌<◌, ◌&&◌, Bool, true, false, cond, List, map, Option, Some, inl, inr, refl, sym, ap, subst, ◌∙◌, arith}
use Rattle.std.specs.Prelude.{slice_get, option_map, nat_eq, nat_lt}
use Rattle.std.proofs.lemmas.Bool.{cases_lt, eqb-true, eq-eqb, ne_eqb, ltb-true, lt-ltb, false_from_ne_true}
use Rattle.std.proofs.lemmas.Option.{same_Some}
use Rattle.cs_base.specs.declared.positions.Part.{Part}
use Rattle.cs_base.specs.declared.positions.Pos.{Pos}
use Rattle.cs_base.proofs.PlaceLemmas.{pos_is}
use Rattle.analysis.specs.Below.eclass_map.ClassTable.{Table, Spot, label, class_in, members_of, part_from, part_of, IsStart, IsPart, HasParts}
use Rattle.analysis.specs.Below.eclass_map.Positions.{along}
use Rattle.analysis.specs.Below.eclass_map.Resized.{Resizes, begins_before, moved_to, moved_part}
use Rattle.analysis.proofs.Below.eclass_map.TokenFacts.{holding}
use Rattle.edited_unit_laws.proofs.ListLemmas.{In}
use Rattle.rename_meaning.proofs.SameElementLemmas.{mapped_at}

abbrev pub spot : ℕ → ℕ → Spot
spot c o = record { class = c; offset = o }

-- ---- the part of a character

-- The character lies in this part, at the offset of its label.
pub record InPart (t : Table) (p : Pos) (s : Spot) : Type 0 where
  pub part : Part
  pub is : IsPart t part
  pub class : class_in t part ≡ Some s.class
  pub less : s.offset < part.len
  pub there : along part.start s.offset ≡ p

pub in_part : (t : Table) → HasParts t → (p : Pos) (s : Spot) → label t p ≡ Some s → InPart t p s
in_part t h p s e =
    let part : Part = part_from t p s in
    let of : part_of t p ≡ Some part = ap (λ (o : Option Spot). option_map (part_from t p) o) e in
    let both = h.parts p part of in
    let c = h.each part both.0 in
    let k = holding part p both.1 in
    let from = k.from in
    let less = k.less in
    let o : ℕ = p.at - part.start.at in
    let there : along part.start o ≡ p = pos_is (along part.start o) p k.file (omega (arith, from)) in
    let here : label t p ≡ Some (spot c.0 o) = subst (λ (q : Pos). label t q ≡ Some (spot c.0 o)) there (h.spots part c.0 o c.1 less) in
    let same : s ≡ spot c.0 o = same_Some s (spot c.0 o) (sym e ∙ here) in
    let offset : s.offset ≡ o = ap (λ (x : Spot). x.offset) same in
    record {
      part = part;
      is = both.0;
      class = c.1 ∙ ap (λ (x : Spot). Some x.class) (sym same);
      less = omega (arith, offset, less);
      there = subst (λ (n : ℕ). along part.start n ≡ p) (sym offset) there;
    }

-- the first character of a part of a class
pub first_label : (t : Table) → HasParts t → (part : Part) (c : ℕ) → class_in t part ≡ Some c → label t part.start ≡ Some (spot c 0)
first_label t h part c e =
    let is = h.told part c e in
    let none : part.start.at + 0 ≡ part.start.at = omega arith in
    subst (λ (q : Pos). label t q ≡ Some (spot c 0)) (pos_is (along part.start 0) part.start refl none) (h.spots part c 0 e is.some)

-- ---- members before a character

module _ (t : Table) (h : HasParts t) (c : ℕ) (part : Part) (d : ℕ) (of : class_in t part ≡ Some d) (apart : d ≡ c → ⊥) (o : ℕ) (less : o < part.len) where
  -- a member that begins before a character of the part begins before the part
  earlier : (m : Part) → In m (members_of t c) → m.start.file ≡ part.start.file → m.start.at < part.start.at + o → m.start.at < part.start.at
  earlier m i file before = elim (cases_lt m.start.at part.start.at) [
    | inl before_it ↦ before_it
    | inr far ↦
        let member : class_in t m ≡ Some c = h.walked m c i.0 i.1 in
        let its = h.told m c member in
        let is = h.told part d of in
        let k : ℕ = m.start.at - part.start.at in
        let there : along part.start k ≡ m.start = pos_is (along part.start k) m.start (sym file) (omega (arith, far)) in
        elim (cases_lt 0 k) [
          | inl some ↦ absurd ((is.goes_on k some (omega (arith, before, far, less))).1 (subst (λ (q : Pos). IsStart t q) (sym there) its.start))
          | inr none ↦
              let same : part.start ≡ m.start = pos_is part.start m.start (sym file) (omega (arith, none, far)) in
              let one : label t m.start ≡ Some (spot d 0) = subst (λ (q : Pos). label t q ≡ Some (spot d 0)) same (first_label t h part d of) in
              absurd (apart (ap (λ (s : Spot). s.class) (same_Some (spot d 0) (spot c 0) (sym one ∙ first_label t h m c member))))
        ]
  ]

  same_test : (m : Part) → In m (members_of t c) → begins_before (along part.start o) m ≡ begins_before part.start m
  same_test m i = by (nat_eq m.start.file part.start.file) refl
    where
      lt_same : m.start.file ≡ part.start.file → nat_lt m.start.at (part.start.at + o) ≡ nat_lt m.start.at part.start.at
      lt_same file = elim (cases_lt m.start.at part.start.at) [
        | inl near ↦ lt-ltb m.start.at (part.start.at + o) (omega (arith, near)) ∙ sym (lt-ltb m.start.at part.start.at near)
        | inr far ↦
            let later : nat_lt m.start.at (part.start.at + o) ≡ false =
            false_from_ne_true (nat_lt m.start.at (part.start.at + o)) (λ e. (let l = earlier m i file (ltb-true m.start.at (part.start.at + o) e) in omega (arith, l, far))) in
            let never : nat_lt m.start.at part.start.at ≡ false =
            false_from_ne_true (nat_lt m.start.at part.start.at) (λ e. (let l = ltb-true m.start.at part.start.at e in omega (arith, l, far))) in
            later ∙ sym never
      ]

      by : (b : Bool) → nat_eq m.start.file part.start.file ≡ b → begins_before (along part.start o) m ≡ begins_before part.start m
      by true e = ap (λ (b : Bool). nat_eq m.start.file part.start.file && b) (lt_same (eqb-true m.start.file part.start.file e))
      by false e =
          ap (λ (b : Bool). b && nat_lt m.start.at (part.start.at + o)) e ∙ sym (ap (λ (b : Bool). b && nat_lt m.start.at part.start.at) e)

-- ---- a table whose classes have moved

module _ (c m : ℕ) (old new : Table) (h : HasParts old) (k : HasParts new) (r : Resizes c m old new) where
  len_other : (d : ℕ) (part : Part) → (d ≡ c → ⊥) → (moved_part c m old d part).len ≡ part.len
  len_other d part apart = ap (λ (b : Bool). cond b m part.len) (ne_eqb d c apart)

  len_member : (d : ℕ) (part : Part) → d ≡ c → (moved_part c m old d part).len ≡ m
  len_member d part same = ap (λ (b : Bool). cond b m part.len) (eq-eqb d c same)

  -- a character of a part of another class keeps its label
  pub label_kept : (part : Part) (d o : ℕ) → class_in old part ≡ Some d → (d ≡ c → ⊥) → o < part.len
      → label new (along (moved_to c m old part.start) o) ≡ Some (spot d o)
  label_kept part d o of apart less =
      let len = len_other d part apart in
      k.spots (moved_part c m old d part) d o (r.parts part d of) (omega (arith, len, less))

  -- each new character of a member has its own
  pub label_member : (part : Part) (o : ℕ) → class_in old part ≡ Some c → o < m → label new (along (moved_to c m old part.start) o) ≡ Some (spot c o)
  label_member part o of less =
      let len = len_member c part refl in
      k.spots (moved_part c m old c part) c o (r.parts part c of) (omega (arith, len, less))

  -- a character of the new table stands in a part that moved
  pub record FromPart (q : Pos) (u : Spot) : Type 0 where
    pub part : Part
    pub class : class_in old part ≡ Some u.class
    pub there : along (moved_to c m old part.start) u.offset ≡ q
    pub less : u.offset < (moved_part c m old u.class part).len

  pub from_part : (q : Pos) (u : Spot) → label new q ≡ Some u → FromPart q u
  from_part q u e =
      let i = in_part new k q u e in
      let at = k.member i.part u.class i.class in
      let moved : slice_get (map (moved_part c m old u.class) (members_of old u.class)) at.0 ≡ Some i.part =
      subst (λ (ms : List Part). slice_get ms at.0 ≡ Some i.part) (r.members u.class) at.1 in
      let w = mapped_at (moved_part c m old u.class) (members_of old u.class) at.0 i.part moved in
      let less = i.less in
      let len : (i.part).len ≡ (moved_part c m old u.class w.0).len = ap (λ (x : Part). x.len) w.1 in
      record {
        part = w.0;
        class = h.walked w.0 u.class at.0 w.2;
        there = ap (λ (x : Part). along x.start u.offset) (sym w.1) ∙ i.there;
        less = omega (arith, less, len);
      }
