-- What stands for the characters of a file, once member after member is put in.
use Rattle.std.proofs.Common.{◌≡◌, ℕ, zero, suc, ◌+◌, ◌-◌, ◌<◌, ◌≤◌, Bool, true, false, ◌==◌, if◌then◌else◌, List, ◌∷◌, length, drop, get_or, slice_set, ◌⊎◌, inl, inr, refl, sym, ap, subst, ◌∙◌, arith}
use Rattle.std.proofs.lemmas.Bool.{cases_Bool, cases_eq, cases_lt, eq-eqb, ne_eqb}
use Rattle.std.proofs.lemmas.List.{get_or-set_same, get_or-set_other, length-set, drop_more}
use Rattle.cs_base.specs.declared.positions.Part.{Part}
use Rattle.cs_base.specs.declared.positions.Pos.{Pos}
use Rattle.analysis.specs.Below.lexer.Places.{pos}
use Rattle.analysis.specs.Below.eclass_map.Positions.{holds}
use Rattle.analysis.proofs.Below.eclass_map.TokenFacts.{holding, holds_from}
use Rattle.offences.specs.declared.puts.Put.{Put}
use Rattle.offences.specs.declared.puts.Put.TheVariants.{Character, Name, Nothing}
use Rattle.offences.specs.Moves.{put_of, put_at, ArePuts, MarksTo, AddsMember}

-- ---- one member

-- which of its characters is its first
pub put_is : (m : Part) (file o : ℕ) → put_of (pos file (m.start.at + o)) m ≡ (if o == 0 then Name else Nothing)
put_is m file zero = let same : m.start.at ≡ m.start.at + 0 = omega arith in ap (λ (b : Bool). if b then Name else Nothing) (eq-eqb m.start.at (m.start.at + 0) same)
put_is m file (suc o) =
    ap (λ (b : Bool). if b then Name else Nothing) (ne_eqb m.start.at (m.start.at + suc o) (λ e. omega (arith, e)) ∙ sym (ne_eqb (suc o) 0 (λ e. omega (arith, e))))

pub marks_none : (m : Part) (old : List Put) → MarksTo m 0 old old
marks_none m old at within = record { inside = λ from less. absurd (omega (arith, from, less)); outside = λ side. refl }

pub marks_more : (m : Part) (o : ℕ) (old mid new : List Put) (put : Put) → put ≡ (if o == 0 then Name else Nothing)
    → new ≡ slice_set mid (m.start.at + o) put → MarksTo m o old mid → MarksTo m (o + 1) old new
marks_more m o old mid new put is sets marks at within = elim (cases_eq at i) [
  | inl same ↦ record {
    inside = λ from less.
        read ∙ (ap (λ (k : ℕ). get_or (slice_set mid i put) k Character) same
        ∙ (get_or-set_same mid i put Character (subst (λ (k : ℕ). k < length mid) same there) ∙ (is ∙ (sym (put_is m m.start.file o) ∙ ap (λ (k : ℕ). put_of (pos m.start.file k) m) (sym same)))));
    outside = λ side. absurd (elim side [ inl before ↦ omega (arith, before, same) | inr behind ↦ omega (arith, behind, same) ]);
  }
  | inr other ↦
      let was : get_or new at Character ≡ get_or mid at Character = read ∙ get_or-set_other mid i at put Character other in
      let marked = marks at there in
      record {
        inside = λ from less. was ∙ marked.inside from (omega (arith, less, other));
        outside = λ side. was ∙ marked.outside (elim side [ inl before ↦ inl before | inr behind ↦ inr (omega (arith, behind)) ]);
      }
]
  where
    i : ℕ
    i = m.start.at + o

    there : at < length mid
    there = let same = ap length sets ∙ length-set mid i put in omega (arith, within, same)

    read : get_or new at Character ≡ get_or (slice_set mid i put) at Character
    read = ap (λ (ps : List Put). get_or ps at Character) sets

-- ---- in front of others

held_put : (m : Part) (members : List Part) (p : Pos) → holds m p ≡ true → put_at (m ∷ members) p ≡ put_of p m
held_put m members p held = rw held refl

other_put : (m : Part) (members : List Part) (p : Pos) → holds m p ≡ false → put_at (m ∷ members) p ≡ put_at members p
other_put m members p other = rw other refl

pub adds_marked : (m : Part) (old new : List Put) → length new ≡ length old → MarksTo m m.len old new → AddsMember m.start.file m old new
adds_marked m old new all marks members puts at within = elim (cases_Bool (holds m (pos m.start.file at))) [
  | inl held ↦
      let h = holding m (pos m.start.file at) held in
      let from = h.from in
      let less = h.less in
      (marks at within).inside from (omega (arith, from, less)) ∙ sym (held_put m members (pos m.start.file at) held)
  | inr other ↦
      (marks at within).outside (side other) ∙ (puts at (omega (arith, within, all)) ∙ sym (other_put m members (pos m.start.file at) other))
]
  where
    side : holds m (pos m.start.file at) ≡ false → (at < m.start.at) ⊎ (m.start.at + m.len ≤ at)
    side other = elim (cases_lt at m.start.at) [
      | inl before ↦ inl before
      | inr from ↦ elim (cases_lt at (m.start.at + m.len)) [
        | inl less ↦
            let held = holds_from m (pos m.start.file at) (record { file = refl; from = from; less = omega (arith, from, less) }) in
            absurd (both other held)
        | inr behind ↦ inr behind
      ]
    ]
      where
        both : holds m (pos m.start.file at) ≡ false → holds m (pos m.start.file at) ≡ true → ⊥
        both e f = let no : true ≡ false = sym f ∙ e in cc

pub adds_by : (m : Part) (file : ℕ) (old new : List Put) → m.start.file ≡ file → length new ≡ length old → MarksTo m m.len old new → AddsMember file m old new
adds_by m file old new same all marks = subst (λ (n : ℕ). AddsMember n m old new) same (adds_marked m old new all marks)

pub marks_end : (m : Part) (n : ℕ) (old new : List Put) → m.len ≤ n → n ≤ m.len → MarksTo m n old new → MarksTo m m.len old new
marks_end m n old new past within marks = let same : n ≡ m.len = omega (arith, past, within) in subst (λ (k : ℕ). MarksTo m k old new) same marks

-- ---- all of them, the last one first

abbrev pub no_part : Part
no_part = record { start = record { file = 0; at = 0 }; len = 0 }

pub drop_last : (members : List Part) (k : ℕ) (m : Part) → k < length members → m ≡ get_or members (length members - 1 - k) no_part
    → drop (length members - (k + 1)) members ≡ m ∷ drop (length members - k) members
drop_last members k m less is =
    let j = length members - 1 - k in
    let here : length members - (k + 1) ≡ j = omega arith in
    let next : j + 1 ≡ length members - k = omega (arith, less) in
    ap (λ (n : ℕ). drop n members) here
    ∙ (drop_more members j no_part (omega (arith, less))
    ∙ (ap (λ (x : Part). x ∷ drop (j + 1) members) (sym is) ∙ ap (λ (n : ℕ). m ∷ drop n members) next))

pub puts_more : (members : List Part) (file k : ℕ) (m : Part) (old new : List Put) → k < length members → m ≡ get_or members (length members - 1 - k) no_part
    → AddsMember file m old new → ArePuts (drop (length members - k) members) file old → ArePuts (drop (length members - (k + 1)) members) file new
puts_more members file k m old new less is adds puts =
    subst (λ (ms : List Part). ArePuts ms file new) (sym (drop_last members k m less is)) (adds (drop (length members - k) members) puts)
