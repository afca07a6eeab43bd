-- Linked tokens are spelled alike anew.
use Rattle.std.proofs.Common.{◌≡◌, ℕ, zero, suc, ◌+◌, ◌-◌, ◌≤◌, ◌==◌, Bool, true, List, [], ◌∷◌, length, Option, None, Some, inl, inr, refl, sym, ap, subst, ◌∙◌, arith}
use Rattle.std.specs.Prelude.{◌⊎◌, slice_get, option_map, cond}
use Rattle.std.specs.Option.{option_map_or, option_and_then}
use Rattle.std.proofs.lemmas.Bool.{cases_eq, cases_lt, eq-eqb, ne_eqb}
use Rattle.std.proofs.lemmas.Option.{same_Some, slice_get-map}
use Rattle.cs_base.specs.declared.positions.Part.{Part}
use Rattle.cs_base.specs.declared.positions.Pos.{Pos}
use Rattle.cs_base.specs.declared.tokens.Link.{Link}
use Rattle.cs_base.specs.Token.{Token, origin_at}
use Rattle.cs_base.proofs.PlaceLemmas.{pos_is as same_pos}
use Rattle.analysis.specs.Below.eclass_map.Chain.{here}
use Rattle.analysis.specs.Below.eclass_map.ClassTable.{Table, Same, part_of}
use Rattle.analysis.specs.Below.eclass_map.Positions.{along, holds}
use Rattle.analysis.proofs.Below.eclass_map.TokenFacts.{holding, holds_from}
use Rattle.part_respell.specs.Respelled.{member_over, put_in, put_at, put_for, spelled, spelled_from}
use Rattle.analysis.specs.Analysed.{Analysed}
use Rattle.analysis.specs.Classes.{AreItsClasses}
use Rattle.analysis.specs.Links.{links_of, linked_pairs, pair_of}
use Rattle.analysis.specs.Parts.{Begins, IsCharacter, IsStart, IsPart}
use Rattle.analysis.proofs.ClassLemmas.{character_told, same_told, same_held, part_held, held_by}
use Rattle.offences.specs.Class.{IsClass}
use Rattle.offences.proofs.ClassLemmas.{over_member, over_other}
use Rattle.edited_unit_laws.proofs.ListLemmas.{In}
use Rattle.rename_meaning.proofs.SpellLemmas.{PutAlike, spelled-alike}
use Rattle.edited_unit_laws.proofs.TracedLemmas.{GoOn, AreChained, Traced}

same_then : (t : Table) (p q r : Pos) → Same t p q → Same t q r → Same t p r
same_then t p q r s u = record { at = s.at; first = s.first; second = u.second ∙ sym u.first ∙ s.second }

same_turned : (t : Table) (p q : Pos) → Same t p q → Same t q p
same_turned t p q s = record { at = s.at; first = s.second; second = s.first }

-- equal differences
even_starts : (a b c d : ℕ) → a ≤ b → c ≤ d → b - a ≡ d - c → (a == b) ≡ (c == d)
even_starts a b c d h k e = elim (cases_eq a b) [
  | inl same ↦
      let also : c ≡ d = omega arith in
      eq-eqb a b same ∙ sym (eq-eqb c d also)
  | inr apart ↦
      let also : c ≡ d → ⊥ = λ f. apart (omega arith) in
      ne_eqb a b apart ∙ sym (ne_eqb c d also)
]

module _ (a : Analysed) (own : AreItsClasses a.value a.classes) (members : List Part) (number : ℕ) (is : IsClass a members number) (name : List ℕ) where
  -- Two characters stand at one offset in parts of one class.
  pub record Beside (p q : Pos) : Type 0 where
    pub first : Part
    pub second : Part
    pub is_first : IsPart a.value first
    pub is_second : IsPart a.value second
    pub held : holds first p ≡ true
    pub also : holds second q ≡ true
    pub starts : Same a.classes first.start second.start
    pub even : p.at - first.start.at ≡ q.at - second.start.at

  in_both : (p q : Pos) (b : Beside p q) (c : ℕ) → member_over members p ≡ Some b.first → member_over members q ≡ Some b.second
      → put_at members name p c ≡ put_at members name q c
  in_both p q b c over other =
      let h = holding b.first p b.held in
      let k = holding b.second q b.also in
      let same : (b.first.start.at == p.at) ≡ (b.second.start.at == q.at) = even_starts b.first.start.at p.at b.second.start.at q.at h.from k.from b.even in
      ap (λ (o : Option Part). option_map_or (put_in name p) o (c ∷ [])) over
      ∙ ap (λ (e : Bool). cond e name []) same
      ∙ sym (ap (λ (o : Option Part). option_map_or (put_in name q) o (c ∷ [])) other)

  in_neither : (p q : Pos) (c : ℕ) → member_over members p ≡ None → member_over members q ≡ None → put_at members name p c ≡ put_at members name q c
  in_neither p q c none other =
      ap (λ (o : Option Part). option_map_or (put_in name p) o (c ∷ [])) none
      ∙ sym (ap (λ (o : Option Part). option_map_or (put_in name q) o (c ∷ [])) other)

  -- the same is put for both
  beside_put : (p q : Pos) → Beside p q → (c : ℕ) → put_at members name p c ≡ put_at members name q c
  beside_put p q b c =
      let d = own.parts.each b.first (part_held a.value a.classes own b.first b.is_first) in
      let e = own.parts.each b.second (part_held a.value a.classes own b.second b.is_second) in
      let one = own.parts.one_number b.first b.second d.0 e.0 d.1 e.1 b.starts in
      elim (cases_eq d.0 number) [
        | inl same ↦
            in_both p q b c
            (over_member a own members number is p b.first b.is_first b.held (d.1 ∙ ap (λ (n : ℕ). Some n) same))
            (over_member a own members number is q b.second b.is_second b.also (e.1 ∙ ap (λ (n : ℕ). Some n) (sym one ∙ same)))
        | inr apart ↦
            in_neither p q c
            (over_other a own members number is p b.first b.is_first b.held (λ f. apart (same_Some d.0 number (sym d.1 ∙ f))))
            (over_other a own members number is q b.second b.is_second b.also (λ f. apart (one ∙ same_Some e.0 number (sym e.1 ∙ f))))
      ]

  -- ---- the part of a character

  part_by : (p : Pos) (o : Option Part) → part_of a.classes p ≡ o → IsCharacter a.value p → (part : Part) × IsPart a.value part × (holds part p ≡ true)
  part_by p None e c = absurd (held_by a.value a.classes own p None e c)
  part_by p (Some part) e c = let h = held_by a.value a.classes own p (Some part) e in (part, h.0, h.1)

  part_at : (p : Pos) → IsCharacter a.value p → (part : Part) × IsPart a.value part × (holds part p ≡ true)
  part_at p c = part_by p (part_of a.classes p) refl c

  -- a start is where its part begins
  start_first : (p : Pos) (part : Part) → IsPart a.value part → holds part p ≡ true → IsStart a.value p → part.start ≡ p
  start_first p part it held start =
      let h = holding part p held in
      let o = p.at - part.start.at in
      elim (cases_lt 0 o) [
        | inl some ↦
            let there : along part.start o ≡ p = same_pos (along part.start o) p h.file (omega (arith, h)) in
            let P : Pos → Type 0 = IsStart a.value in
            absurd ((it.goes_on o some (omega (arith, h))).1 (subst P (sym there) start))
        | inr none ↦ same_pos part.start p h.file (omega (arith, h, none))
      ]

  is_start : (p : Pos) → IsCharacter a.value p → IsStart a.value p ⊎ (IsStart a.value p → ⊥)
  is_start p c =
      let part = part_at p c in
      let h = holding part.0 p part.2 in
      let o = p.at - part.0.start.at in
      elim (cases_lt 0 o) [
        | inl some ↦
            let there : along part.0.start o ≡ p = same_pos (along part.0.start o) p h.file (omega (arith, h)) in
            let P : Pos → Type 0 = IsStart a.value in
            inr (λ start. (part.1.goes_on o some (omega (arith, h))).1 (subst P (sym there) start))
        | inr none ↦
            let there : part.0.start ≡ p = same_pos part.0.start p h.file (omega (arith, h, none)) in
            let P : Pos → Type 0 = IsStart a.value in
            inl (subst P there part.1.start)
      ]

  start_same : (p q : Pos) → Same a.classes p q → IsStart a.value p → IsStart a.value q
  start_same p q same start =
      let back = same_turned a.classes p q same in
      let on = same_held a.value a.classes own p start.0 (same.at, same.first) start.2 in
      (start.0, start.1, same_told a.value a.classes own q start.0 (same_then a.classes q p start.0 back on))

  -- ---- one character after another

  beside_starts : (p q : Pos) → Same a.classes p q → IsStart a.value p → Beside p q
  beside_starts p q same start =
      let P = part_at p (character_told a.value a.classes own p (same.at, same.first)) in
      let Q = part_at q (character_told a.value a.classes own q (same.at, same.second)) in
      let first = start_first p P.0 P.1 P.2 start in
      let second = start_first q Q.0 Q.1 Q.2 (start_same p q same start) in
      let R : Pos → Type 0 = λ x. Same a.classes x q in
      let S : Pos → Type 0 = λ x. Same a.classes P.0.start x in
      let at : P.0.start.at ≡ p.at = ap (λ (x : Pos). x.at) first in
      let also : Q.0.start.at ≡ q.at = ap (λ (x : Pos). x.at) second in
      record {
        first = P.0;
        second = Q.0;
        is_first = P.1;
        is_second = Q.1;
        held = P.2;
        also = Q.2;
        starts = subst S (sym second) (subst R (sym first) same);
        even = omega arith;
      }

  -- a character that is no start lies in the part of the one before it
  same_part_on : (p r : Pos) (part : Part) → IsPart a.value part → holds part p ≡ true → r ≡ along p 1 → IsCharacter a.value r → (IsStart a.value r → ⊥)
      → holds part r ≡ true
  same_part_on p r part it held next c past =
      let h = holding part p held in
      let at : r.at ≡ p.at + 1 = ap (λ (x : Pos). x.at) next in
      let file : r.file ≡ p.file = ap (λ (x : Pos). x.file) next in
      elim (cases_lt (r.at - part.start.at) part.len) [
        | inl less ↦ holds_from part r (record { file = h.file ∙ sym file; from = omega (arith, h, at); less = less })
        | inr most ↦
            let end : along part.start part.len ≡ r = same_pos (along part.start part.len) r (h.file ∙ sym file) (omega (arith, h, at, most)) in
            let P : Pos → Type 0 = IsCharacter a.value in
            let Q : Pos → Type 0 = IsStart a.value in
            absurd (past (subst Q end (it.ends (subst P (sym end) c))))
      ]

  beside_next : (p q r s : Pos) → Beside p q → r ≡ along p 1 → s ≡ along q 1 → Same a.classes r s → (IsStart a.value r → ⊥) → Beside r s
  beside_next p q r s b on also_on same past =
      let c = character_told a.value a.classes own r (same.at, same.first) in
      let d = character_told a.value a.classes own s (same.at, same.second) in
      let no_s : IsStart a.value s → ⊥ = λ start. past (start_same s r (same_turned a.classes r s same) start) in
      let h = holding b.first p b.held in
      let k = holding b.second q b.also in
      let even = b.even in
      let at : r.at ≡ p.at + 1 = ap (λ (x : Pos). x.at) on in
      let also : s.at ≡ q.at + 1 = ap (λ (x : Pos). x.at) also_on in
      record {
        first = b.first;
        second = b.second;
        is_first = b.is_first;
        is_second = b.is_second;
        held = same_part_on p r b.first b.is_first b.held on c past;
        also = same_part_on q s b.second b.is_second b.also also_on d no_s;
        starts = b.starts;
        even = omega (arith, h, k, even, at, also);
      }

  begins_start : (p : Pos) → Begins a.value p → IsStart a.value p
  begins_start p b = (p, b, here)

  goes : (p r : Pos) → (r ≡ along p 1) ⊎ Begins a.value r → (IsStart a.value r → ⊥) → r ≡ along p 1
  goes p r (inl on) past = on
  goes p r (inr begins) past = absurd (past (begins_start r begins))

  step : (p q r s : Pos) → Beside p q → (r ≡ along p 1) ⊎ Begins a.value r → (s ≡ along q 1) ⊎ Begins a.value s → Same a.classes r s → Beside r s
  step p q r s b on also_on same =
      elim (is_start r (character_told a.value a.classes own r (same.at, same.first))) [
        | inl start ↦ beside_starts r s same start
        | inr past ↦
            let no_s : IsStart a.value s → ⊥ = λ start. past (start_same s r (same_turned a.classes r s same) start) in
            beside_next p q r s b (goes p r on past) (goes q s also_on no_s) same past
      ]

  -- equal places of two lists of characters are the same
  pub record AreSameAt (os ps : List (Option Pos)) : Type 0 where
    pub each : (k : ℕ) (p q : Pos) → slice_get os k ≡ Some (Some p) → slice_get ps k ≡ Some (Some q) → Same a.classes p q

  behind : (os ps : List (Option Pos)) (o p : Option Pos) → AreSameAt (o ∷ os) (p ∷ ps) → AreSameAt os ps
  behind os ps o p h = record { each = λ k x y at also. h.each (suc k) x y at also }

  walk : (p q : Pos) (os ps : List (Option Pos)) → Beside p q → GoOn a.value p os → GoOn a.value q ps → AreSameAt os ps
      → (k : ℕ) (o e : Option Pos) (c : ℕ) → slice_get os k ≡ Some o → slice_get ps k ≡ Some e → put_for members name o c ≡ put_for members name e c
  walk p q [] ps b on also h k o e c at there = absurd (cc)
  walk p q (None ∷ os) ps b on also h k o e c at there = absurd on
  walk p q (Some r ∷ os) [] b on also h k o e c at there = absurd (cc)
  walk p q (Some r ∷ os) (None ∷ ps) b on also h k o e c at there = absurd also
  walk p q (Some r ∷ os) (Some s ∷ ps) b on also h zero o e c at there =
      let next = step p q r s b on.0 also.0 (h.each 0 r s refl refl) in
      let first : Some r ≡ o = same_Some (Some r) o at in
      let second : Some s ≡ e = same_Some (Some s) e there in
      ap (λ (x : Option Pos). put_for members name x c) (sym first) ∙ beside_put r s next c ∙ ap (λ (x : Option Pos). put_for members name x c) second
  walk p q (Some r ∷ os) (Some s ∷ ps) b on also h (suc k) o e c at there =
      let next = step p q r s b on.0 also.0 (h.each 0 r s refl refl) in
      walk r s os ps next on.1 also.1 (behind os ps (Some r) (Some s) h) k o e c at there

  pub chained_alike : (os ps : List (Option Pos)) → AreChained a.value os → AreChained a.value ps → AreSameAt os ps → PutAlike members name os ps
  chained_alike [] ps on also h = record { each = λ k o p c at there. absurd (cc) }
  chained_alike (None ∷ os) ps on also h = absurd on
  chained_alike (Some p ∷ os) [] on also h = record { each = λ k o e c at there. absurd (cc) }
  chained_alike (Some p ∷ os) (None ∷ ps) on also h = absurd also
  chained_alike (Some p ∷ os) (Some q ∷ ps) on also h =
      let b = beside_starts p q (h.each 0 p q refl refl) (begins_start p on.0) in
      record { each = λ k o e c at there. first_or p q os ps b on.1 also.1 (behind os ps (Some p) (Some q) h) k o e c at there }
    where
      first_or : (p q : Pos) (os ps : List (Option Pos)) → Beside p q → GoOn a.value p os → GoOn a.value q ps → AreSameAt os ps
          → (k : ℕ) (o e : Option Pos) (c : ℕ) → slice_get (Some p ∷ os) k ≡ Some o → slice_get (Some q ∷ ps) k ≡ Some e → put_for members name o c ≡ put_for members name e c
      first_or p q os ps b on also h zero o e c at there =
          let first : Some p ≡ o = same_Some (Some p) o at in
          let second : Some q ≡ e = same_Some (Some q) e there in
          ap (λ (x : Option Pos). put_for members name x c) (sym first) ∙ beside_put p q b c ∙ ap (λ (x : Option Pos). put_for members name x c) second
      first_or p q os ps b on also h (suc k) o e c at there = walk p q os ps b on also h k o e c at there

  pub origin_is : (t : Token) (k : ℕ) (p : Pos) → slice_get t.origins k ≡ Some (Some p) → origin_at t k ≡ Some p
  origin_is t k p at = ap (λ (o : Option (Option Pos)). option_and_then (λ (x : Option Pos). x) o) at

  -- tokens that are linked, each made of whole tokens
  pub linked_alike : (l : Link) → In l (links_of a.value) → l.x.text ≡ l.y.text → Traced a.value l.x → Traced a.value l.y
      → AreChained a.value l.x.origins → AreChained a.value l.y.origins → spelled members name l.x ≡ spelled members name l.y
  linked_alike l i same first second chained also =
      let pair : slice_get (linked_pairs a.value) i.0 ≡ Some (l.x, l.y) = slice_get-map pair_of (links_of a.value) i.0 ∙ ap (λ o. option_map pair_of o) i.1 in
      let at : AreSameAt l.x.origins l.y.origins = record {
        each = λ k p q e f. own.links.holds p q (record {
          place = i.0;
          first = l.x;
          second = l.y;
          at = pair;
          link = record { place = k; first = origin_is l.x k p e; second = origin_is l.y k q f };
        });
      } in
      let alike = spelled-alike members name l.x.origins l.y.origins l.x.text first.each (second.each ∙ ap length (sym same)) (chained_alike l.x.origins l.y.origins chained also at) in
      alike ∙ ap (λ (w : List ℕ). spelled_from members name l.y.origins w) same
