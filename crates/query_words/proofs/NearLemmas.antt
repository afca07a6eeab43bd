-- What the reader gives is told by the bytes before a place, where another text begins with the same.
use Rattle.std.proofs.Common.{◌≡◌, ℕ, zero, suc, ◌+◌, ◌-◌, ◌<◌, ◌≤◌, true, false, Option, Some, None, List, [], ◌∷◌, Result, Ok, Err, length, take, drop, inl, inr, refl, sym, ap, ◌∙◌, subst, arith, length-drop}
use Rattle.std.specs.Prelude.{codes}
use Rattle.std.specs.List.{take_while}
use Rattle.std.specs.Str.{bytes_eq}
use Rattle.std.proofs.lemmas.Bool.{and_left, and_parts, cases_Bool}
use Rattle.cs_base.specs.Answer.{result_then}
use Rattle.cs_base.proofs.FileMapLemmas.{bytes_eq-equal}
use Rattle.query_words.specs.declared.attributes.Attribute.{Attribute}
use Rattle.query_words.specs.declared.faults.QueryFault.{QueryFault}
use Rattle.query_words.specs.declared.faults.QueryFault.TheVariants.{Bad, Deep}
use Rattle.query_words.specs.declared.walk.Rule.TheVariants.{Whole, Denied}
use Rattle.query_words.specs.Attributes.{attribute_of}
use Rattle.query_words.specs.Grammar.{Level, Conjunction, Operand, word_end}
use Rattle.query_words.specs.Queries.{Query, Either, Both}
use Rattle.query_words.specs.Reading.{Part, Read, read, ampersand, bar, closing, equals, exclamation, opening, atom, attribute_read, begins_name, both, chain, closed, either, enclosed, is_byte, is_of_pattern, is_small, negation, pattern_read, word_of}
use Rattle.query_words.specs.Reading.{denied as deny}
use Rattle.query_words.proofs.AtomLemmas.{atom_is, atom_named}
use Rattle.query_words.proofs.DerivingLemmas.{Means, operands, conjunctions}
use Rattle.query_words.proofs.PlaceLemmas.{byte_within, same_byte, same_drop, same_while}
use Rattle.query_words.proofs.ReadingLemmas.{chain_ends, enclosed_not, enclosed_whole, negation_atom, negation_not, negation_open}
use Rattle.query_words.proofs.WalkLemmas.{both_first, chain_fault, chain_there, either_first, enclosed_none}

-- so many bytes from the front on tell what the reader gave
abbrev pub reach : List ℕ → Result Read QueryFault → ℕ
reach text (Ok r) = r.next + 1
reach text (Err (Bad n)) = word_end text n + 1
reach text (Err (Deep n)) = n + 1

-- The other text begins with so many bytes of the text.
pub record Alike (k : ℕ) (text other : List ℕ) : Type 0 where
  pub within : k ≤ length text
  pub same : take k text ≡ take k other

-- ---- what the reader gave was found behind where it began

pub reach_past : (level : Level) (room : ℕ) (text : List ℕ) (at : ℕ) (found : Result Read QueryFault) → Means level room text at found → at < reach text found
reach_past level room text at (Ok r) m = let e = m.stands.ends in omega (arith, e)
reach_past level room text at (Err (Bad n)) m = let e = m.stands.ends in omega (arith, e)
reach_past level room text at (Err (Deep n)) m = let e = m.stands.ends in omega (arith, e)

-- ---- atoms

pattern_reach : (text : List ℕ) (at : ℕ) (pattern : List ℕ) → at + 5 + length pattern < reach text (pattern_read (at + 5) pattern)
pattern_reach text at [] = omega arith
pattern_reach text at (c ∷ pattern) = omega arith

attribute_reach : (text : List ℕ) (at : ℕ) (word : List ℕ) (found : Option Attribute) → word ≡ word_of (drop at text)
    → at + length word < reach text (attribute_read at word found)
attribute_reach text at word None is = let long = ap length is in omega (arith, long)
attribute_reach text at word (Some a) is = omega arith

-- the bytes from a place on are alike
rest_alike : (k : ℕ) (text other : List ℕ) (at m : ℕ) → Alike k text other → k ≡ at + m → take m (drop at text) ≡ take m (drop at other)
rest_alike k text other at m alike is = same_drop at m text other (subst (λ (n : ℕ). take n text ≡ take n other) is alike.same)

named_near : (k : ℕ) (text other : List ℕ) (at : ℕ) → Alike k text other → begins_name (drop at text) ≡ true
    → reach text (atom at (drop at text)) ≤ k → atom at (drop at other) ≡ atom at (drop at text)
named_near k text other at alike name near =
    let rest = drop at text in
    let pattern = take_while is_of_pattern (drop 5 rest) in
    let is = atom_named at rest name in
    let far : at + 5 + length pattern < k = let r : reach text (pattern_read (at + 5) pattern) ≤ k = rw is at near in omega (arith, pattern_reach text at pattern, r) in
    let m = k - at in
    let sum : k ≡ at + m = omega (arith, far) in
    let same : take m rest ≡ take m (drop at other) = rest_alike k text other at m alike sum in
    let parts = and_parts (bytes_eq (word_of rest) (codes "name")) (is_byte rest 4 equals) name in
    let word = bytes_eq-equal (word_of rest) (codes "name") parts.0 in
    let long : m ≤ length rest = let l = length-drop at text in omega (arith, l, alike.within) in
    let front : word_of (drop at other) ≡ word_of rest = same_while is_small m rest (drop at other) same long (let w = ap length word in omega (arith, w, far)) in
    let sign : is_byte (drop at other) 4 equals ≡ is_byte rest 4 equals = same_byte m rest (drop at other) 4 equals same (omega (arith, far)) in
    let also : begins_name (drop at other) ≡ true = rw (front, sign) name in
    let five : m ≡ 5 + (m - 5) = omega (arith, far) in
    let behind_ : take (m - 5) (drop 5 rest) ≡ take (m - 5) (drop 5 (drop at other)) =
    same_drop 5 (m - 5) rest (drop at other) (subst (λ (n : ℕ). take n rest ≡ take n (drop at other)) five same) in
    let shorter : m - 5 ≤ length (drop 5 rest) = let l = length-drop 5 rest in omega (arith, l, long) in
    let found : take_while is_of_pattern (drop 5 (drop at other)) ≡ pattern =
    same_while is_of_pattern (m - 5) (drop 5 rest) (drop 5 (drop at other)) behind_ shorter (omega (arith, far)) in
    atom_named at (drop at other) also ∙ ap (pattern_read (at + 5)) found ∙ sym is

unnamed_near : (k : ℕ) (text other : List ℕ) (at : ℕ) → Alike k text other → begins_name (drop at text) ≡ false
    → reach text (atom at (drop at text)) ≤ k → atom at (drop at other) ≡ atom at (drop at text)
unnamed_near k text other at alike unnamed near =
    let rest = drop at text in
    let is = atom_is at rest unnamed in
    let far : at + length (word_of rest) < k =
    let r : reach text (attribute_read at (word_of rest) (attribute_of (word_of rest))) ≤ k = rw is at near in
    omega (arith, attribute_reach text at (word_of rest) (attribute_of (word_of rest)) refl, r) in
    let m = k - at in
    let sum : k ≡ at + m = omega (arith, far) in
    let same : take m rest ≡ take m (drop at other) = rest_alike k text other at m alike sum in
    let long : m ≤ length rest = let l = length-drop at text in omega (arith, l, alike.within) in
    let front : word_of (drop at other) ≡ word_of rest = same_while is_small m rest (drop at other) same long (omega (arith, far)) in
    let also : begins_name (drop at other) ≡ false = elim (cases_Bool (bytes_eq (word_of rest) (codes "name"))) [
      | inl word ↦
          let four : length (word_of rest) ≡ 4 = ap length (bytes_eq-equal (word_of rest) (codes "name") word) in
          let sign : is_byte (drop at other) 4 equals ≡ is_byte rest 4 equals = same_byte m rest (drop at other) 4 equals same (omega (arith, far, four)) in
          rw (front, sign) unnamed
      | inr no_ ↦ and_left _ _ (ap (λ (x : List ℕ). bytes_eq x (codes "name")) front ∙ no_)
    ] in
    atom_is at (drop at other) also ∙ ap (λ (w : List ℕ). attribute_read at w (attribute_of w)) front ∙ sym is

atom_near : (k : ℕ) (text other : List ℕ) (at : ℕ) → Alike k text other
    → reach text (atom at (drop at text)) ≤ k → atom at (drop at other) ≡ atom at (drop at text)
atom_near k text other at alike near = elim (cases_Bool (begins_name (drop at text))) [
  | inl name ↦ named_near k text other at alike name near
  | inr unnamed ↦ unnamed_near k text other at alike unnamed near
]

-- ---- chains

-- What a part gives is told by the bytes before a place, and found behind where the part began.
pub record IsNear (k : ℕ) (text other : List ℕ) (here there : Part) : Type 0 where
  pub past : (at : ℕ) → at < reach text (here at)
  pub near : (at : ℕ) → reach text (here at) ≤ k → there at ≡ here at

module _ (join : Query → Query → Query) (sign k : ℕ) (text other : List ℕ) (here there : Part) (alike : Alike k text other) (part : IsNear k text other here there) where
  -- a chain goes forward alone
  on_past : (rest : Read → Result Read QueryFault) → ((next : Read) → next.next < reach text (rest next)) → (left : Read)
      → (found : Result Read QueryFault) → left.next + 1 < reach text found
      → left.next < reach text (result_then rest (result_then (λ (right : Read). Ok (read (join left.query right.query) right.next)) found))
  on_past rest on left (Ok right) past = let further = on (read (join left.query right.query) right.next) in omega (arith, further, past)
  on_past rest on left (Err fault) past = omega (arith, past)

  chain_past : (most : ℕ) (left : Read) → left.next < reach text (chain join sign here text most left)
  unfolding chain
  chain_past zero left = omega arith
  chain_past (suc most) left = elim (cases_Bool (is_byte text left.next sign)) [
    | inl stands ↦ rw stands (on_past (chain join sign here text most) (chain_past most) left (here (left.next + 1)) (part.past (left.next + 1)))
    | inr none ↦ rw none (let r : left.next < left.next + 1 = omega arith in r)
  ]

  -- The chain goes on alike where it does so behind the next operand.
  on_near : (most other_most : ℕ) (left : Read) → is_byte text left.next sign ≡ true → is_byte other left.next sign ≡ true
      → ((next : Read) → left.next < next.next → reach text (chain join sign here text most next) ≤ k
      → chain join sign there other other_most next ≡ chain join sign here text most next)
      → (found : Result Read QueryFault) → here (left.next + 1) ≡ found
      → reach text (chain join sign here text (suc most) left) ≤ k
      → chain join sign there other (suc other_most) left ≡ chain join sign here text (suc most) left
  on_near most other_most left stands also on (Ok right) is near =
      let step = chain_there join sign here text most left right stands is in
      let next = read (join left.query right.query) right.next in
      let far : reach text (chain join sign here text most next) ≤ k = rw step at near in
      let past : left.next + 1 < right.next + 1 = rw is at (part.past (left.next + 1)) in
      let close : reach text (here (left.next + 1)) ≤ k = rw is (let p = chain_past most next in omega (arith, far, p)) in
      let same : there (left.next + 1) ≡ Ok right = part.near (left.next + 1) close ∙ is in
      chain_there join sign there other other_most left right also same ∙ on next (omega (arith, past)) far ∙ sym step
  on_near most other_most left stands also on (Err fault) is near =
      let step = chain_fault join sign here text most left fault stands is in
      let far : reach text (Err fault) ≤ k = rw step at near in
      let same : there (left.next + 1) ≡ Err fault = part.near (left.next + 1) (rw is far) ∙ is in
      chain_fault join sign there other other_most left fault also same ∙ sym step

  no_sign_near : (most other_most : ℕ) (left : Read) → is_byte text left.next sign ≡ false → reach text (chain join sign here text most left) ≤ k
      → chain join sign there other other_most left ≡ chain join sign here text most left
  no_sign_near most other_most left none near =
      let is = chain_ends join sign here text most left none in
      let far : reach text (Ok left) ≤ k = rw is at near in
      let same : is_byte other left.next sign ≡ false = same_byte k text other left.next sign alike.same (omega (arith, far)) ∙ none in
      chain_ends join sign there other other_most left same ∙ sym is

  -- a sign that stands in the one stands in the other
  sign_near : (most : ℕ) (left : Read) → is_byte text left.next sign ≡ true → reach text (chain join sign here text most left) ≤ k
      → is_byte other left.next sign ≡ true
  sign_near most left stands near =
      let past = chain_past most left in
      same_byte k text other left.next sign alike.same (omega (arith, past, near)) ∙ stands

  chain_near : (most other_most : ℕ) (left : Read) → length text ≤ left.next + most → length other ≤ left.next + other_most
      → reach text (chain join sign here text most left) ≤ k
      → chain join sign there other other_most left ≡ chain join sign here text most left
  chain_near zero other_most left enough also near = elim (cases_Bool (is_byte text left.next sign)) [
    | inl stands ↦ let within = byte_within text left.next sign stands in absurd (omega (arith, within, enough))
    | inr none ↦ no_sign_near zero other_most left none near
  ]
  chain_near (suc most) zero left enough also near = elim (cases_Bool (is_byte text left.next sign)) [
    | inl stands ↦
        let within = byte_within other left.next sign (sign_near (suc most) left stands near) in
        absurd (omega (arith, within, also))
    | inr none ↦ no_sign_near (suc most) zero left none near
  ]
  chain_near (suc most) (suc other_most) left enough also near = elim (cases_Bool (is_byte text left.next sign)) [
    | inl stands ↦
        on_near most other_most left stands (sign_near (suc most) left stands near)
        (λ next further far. chain_near most other_most next (omega (arith, enough, further)) (omega (arith, also, further)) far)
        (here (left.next + 1)) refl near
    | inr none ↦ no_sign_near (suc most) (suc other_most) left none near
  ]

  all_found : (at : ℕ) (found : Result Read QueryFault) → here at ≡ found → reach text (result_then (chain join sign here text (length text)) found) ≤ k
      → result_then (chain join sign there other (length other)) (there at) ≡ result_then (chain join sign here text (length text)) found
  all_found at (Ok left) is near =
      let past = chain_past (length text) left in
      let close : reach text (here at) ≤ k = rw is (omega (arith, past, near)) in
      let same : there at ≡ Ok left = part.near at close ∙ is in
      rw same (chain_near (length text) (length other) left (omega arith) (omega arith) near)
  all_found at (Err fault) is near =
      let same : there at ≡ Err fault = part.near at (rw is near) ∙ is in
      ap (result_then (chain join sign there other (length other))) same

  pub all_near : (at : ℕ) → reach text (result_then (chain join sign here text (length text)) (here at)) ≤ k
      → result_then (chain join sign there other (length other)) (there at) ≡ result_then (chain join sign here text (length text)) (here at)
  all_near at near = all_found at (here at) refl near

-- ---- what stands behind an opening byte

deny_reach : (text : List ℕ) (found : Result Read QueryFault) → reach text (result_then deny found) ≡ reach text found
deny_reach text (Ok r) = refl
deny_reach text (Err fault) = refl

closed_near : (k : ℕ) (text other : List ℕ) → Alike k text other → (found : Result Read QueryFault) → reach text (result_then (closed text) found) ≤ k
    → (reach text found ≤ k) × (result_then (closed other) found ≡ result_then (closed text) found)
closed_near k text other alike (Ok r) near = elim (cases_Bool (is_byte text r.next closing)) [
  | inl ends ↦
      let far : r.next + 1 + 1 ≤ k = rw ends at near in
      let same : is_byte other r.next closing ≡ true = same_byte k text other r.next closing alike.same (omega (arith, far)) ∙ ends in
      (omega (arith, far), rw (ends, same) refl)
  | inr none ↦
      let far : word_end text r.next + 1 ≤ k = rw none at near in
      let same : is_byte other r.next closing ≡ false = same_byte k text other r.next closing alike.same (omega (arith, far)) ∙ none in
      (omega (arith, far), rw (none, same) refl)
]
closed_near k text other alike (Err fault) near = (near, refl)

record InsideNear (k : ℕ) (text other : List ℕ) (room : ℕ) : Type 0 where
  not_near : (at : ℕ) → reach text (enclosed text room Denied at) ≤ k → enclosed other room Denied at ≡ enclosed text room Denied at
  whole_near : (at : ℕ) → reach text (enclosed text room Whole at) ≤ k → enclosed other room Whole at ≡ enclosed text room Whole at

module _ (k : ℕ) (text other : List ℕ) (alike : Alike k text other) where
  operand_near_at : (room : ℕ) → InsideNear k text other room → (at : ℕ) → at < k → reach text (negation (enclosed text room) text at) ≤ k
      → negation (enclosed other room) other at ≡ negation (enclosed text room) text at
  operand_near_at room inside at less near = elim (cases_Bool (is_byte text at exclamation)) [
    | inl there ↦
        let is = negation_not (enclosed text room) text at there in
        let far : reach text (result_then deny (enclosed text room Denied at)) ≤ k = rw is at near in
        let close : reach text (enclosed text room Denied at) ≤ k = rw (deny_reach text (enclosed text room Denied at)) at far in
        let also = same_byte k text other at exclamation alike.same less ∙ there in
        negation_not (enclosed other room) other at also ∙ ap (result_then deny) (inside.not_near at close) ∙ sym is
    | inr none ↦
        let not_also = same_byte k text other at exclamation alike.same less ∙ none in
        elim (cases_Bool (is_byte text at opening)) [
          | inl there ↦
              let is = negation_open (enclosed text room) text at none there in
              let far : reach text (result_then (closed text) (enclosed text room Whole at)) ≤ k = rw is at near in
              let both_ = closed_near k text other alike (enclosed text room Whole at) far in
              let also = same_byte k text other at opening alike.same less ∙ there in
              negation_open (enclosed other room) other at not_also also ∙ ap (result_then (closed other)) (inside.whole_near at both_.0) ∙ both_.1 ∙ sym is
          | inr neither ↦
              let is = negation_atom (enclosed text room) text at none neither in
              let far : reach text (atom at (drop at text)) ≤ k = rw is at near in
              let also = same_byte k text other at opening alike.same less ∙ neither in
              negation_atom (enclosed other room) other at not_also also ∙ atom_near k text other at alike far ∙ sym is
        ]
  ]

  operand_near : (room : ℕ) → InsideNear k text other room → IsNear k text other (negation (enclosed text room) text) (negation (enclosed other room) other)
  operand_near room inside = record {
    past = λ at. reach_past Operand room text at _ (operands room text at);
    near = λ at far.
        let past = reach_past Operand room text at _ (operands room text at) in
        operand_near_at room inside at (omega (arith, past, far)) far;
  }

  conjunction_near : (room : ℕ) → InsideNear k text other room → IsNear k text other (both (enclosed text room) text) (both (enclosed other room) other)
  conjunction_near room inside = record {
    past = λ at. reach_past Conjunction room text at _ (conjunctions room text at);
    near = λ at far.
        let is = both_first (enclosed text room) text at in
        both_first (enclosed other room) other at
        ∙ all_near Both ampersand k text other (negation (enclosed text room) text) (negation (enclosed other room) other) alike
        (operand_near room inside) at (rw is at far)
        ∙ sym is;
  }

  alternatives_near : (room : ℕ) → InsideNear k text other room → (at : ℕ) → reach text (either (enclosed text room) text at) ≤ k
      → either (enclosed other room) other at ≡ either (enclosed text room) text at
  alternatives_near room inside at far =
      let is = either_first (enclosed text room) text at in
      either_first (enclosed other room) other at
      ∙ all_near Either bar k text other (both (enclosed text room) text) (both (enclosed other room) other) alike
      (conjunction_near room inside) at (rw is at far)
      ∙ sym is

  inside_near : (room : ℕ) → InsideNear k text other room
  inside_near zero = record {
    not_near = λ at far. enclosed_none other 0 Denied at refl ∙ sym (enclosed_none text 0 Denied at refl);
    whole_near = λ at far. enclosed_none other 0 Whole at refl ∙ sym (enclosed_none text 0 Whole at refl);
  }
  inside_near (suc room) =
      let inside = inside_near room in
      record {
        not_near = λ at far.
            let is = enclosed_not text room at in
            enclosed_not other room at ∙ (operand_near room inside).near (at + 1) (rw is at far) ∙ sym is;
        whole_near = λ at far.
            let is = enclosed_whole text room at in
            enclosed_whole other room at ∙ alternatives_near room inside (at + 1) (rw is at far) ∙ sym is;
      }

  pub read_near : (room : ℕ) → reach text (either (enclosed text room) text 0) ≤ k
      → either (enclosed other room) other 0 ≡ either (enclosed text room) text 0
  read_near room far = alternatives_near room (inside_near room) 0 far
