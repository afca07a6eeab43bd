-- The walk over the bytes of a file gives the edited bytes.
use Rattle.std.proofs.Common.{ℕ, zero, suc, ◌+◌, ◌-◌, ◌≡◌, ◌≢◌, ◌<◌, ◌≤◌, true, false, List, [], ◌∷◌, ◌++◌, length, take, drop, get_or, Option, Some, None, Ok, Err, ◌^◌, nat_lt, refl, sym, ap, ◌∙◌, inl, inr, arith, append_assoc, length-append, length-drop, append-nil}
use Rattle.std.specs.Prelude.{◌==◌, slice_get, unwrap_or}
use Rattle.std.specs.Option.{option_map, option_map_or}
use Rattle.std.proofs.lemmas.Bool.{both_ways, cases_Bool, ne_eqb, eq-eqb, eqb-true, le-leb}
use borrow.Author.Tests.{ltb-false, ltb-true}
use Rattle.std.proofs.lemmas.List.{drop-drop, drop_more, drop_all, length-take-le, take-append-drop, take_rest}
use Rattle.std.proofs.lemmas.Option.{same_Some}
use Rattle.cs_base.specs.declared.positions.Part.{Part}
use Rattle.cs_base.proofs.ListLemmas.{at_drop, drop-some as drop_at, drop_none}
use Rattle.eclass_map.specs.ClassTable.{nowhere}
use Rattle.eclass_map.specs.Positions.{holds}
use Rattle.lexer.specs.Logical.{Character, gone_length, logical_from, logical_of}
use Rattle.lexer.specs.FileText.{TextValue, LexFault, FileTooLarge, file_text}
use Rattle.lexer.specs.Lines.{byte_offset_of}
use Rattle.lexer.specs.Places.{pos}
use Rattle.lexer.proofs.CharacterLemmas.{character_within}
use Rattle.lexer.specs.Respelling.{Put, edited_from, edited}
use Rattle.part_respell.specs.Order.{AreInOrder, AreLeft}
use Rattle.part_respell.specs.Respelled.{member_over, put_in, put_of, respelled}
use Rattle.part_respell.specs.Walk.{edited_at, is_between, is_character, next_at, next_byte, Ascend, IsMade}

-- the first of these characters, if there is one, stands behind the offset
abbrev FirstBehind : ℕ → List Character → Type 0
FirstBehind offset [] = Unit {0}
FirstBehind offset (first ∷ chars) = offset < first.offset

logical-behind : (skip at offset : ℕ) (bs : List ℕ) → offset < at → FirstBehind offset (logical_from skip at bs)
unfolding logical_from
logical-behind zero at offset [] h = tt
logical-behind (suc skip) at offset [] h = tt
logical-behind (suc skip) at offset (c ∷ cs) h = logical-behind skip (at + 1) offset cs (omega arith)
logical-behind zero at offset (c ∷ cs) h =
    elim (cases_Bool (gone_length c cs == 0)) [
      | inl stays ↦ rw stays h
      | inr goes ↦ rw goes (logical-behind (gone_length c cs - 1) (at + 1) offset cs (omega arith))
    ]

edited_at-other : (put : Put) (at offset c : ℕ) (cs : List ℕ) (chars : List Character) → FirstBehind offset chars
    → edited_at put at chars offset (c ∷ cs) ≡ c ∷ edited_at put at chars (offset + 1) cs
unfolding edited_at
edited_at-other put at offset c cs [] h = refl
edited_at-other put at offset c cs (first ∷ chars) h = rw (ne_eqb first.offset offset (λ e. omega (arith, h, e))) refl

pub edited-at : (put : Put) (skip at offset : ℕ) (bs : List ℕ)
    → edited_from put skip at bs ≡ edited_at put at (logical_from skip offset bs) offset bs
unfolding edited_from edited_at logical_from
edited-at put zero at offset [] = refl
edited-at put (suc skip) at offset [] = refl
edited-at put (suc skip) at offset (c ∷ cs) =
    rw (edited_at-other put at offset c cs (logical_from skip (offset + 1) cs) (logical-behind skip (offset + 1) offset cs (omega arith)))
    (ap (λ (bs : List ℕ). c ∷ bs) (edited-at put skip at (offset + 1) cs))
edited-at put zero at offset (c ∷ cs) =
    elim (cases_Bool (gone_length c cs == 0)) [
      | inl stays ↦ rw (stays, eq-eqb offset offset refl) (ap (λ (bs : List ℕ). put at c ++ bs) (edited-at put 0 (at + 1) (offset + 1) cs))
      | inr goes ↦
          let skip = gone_length c cs - 1 in
          rw (goes, edited_at-other put at offset c cs (logical_from skip (offset + 1) cs) (logical-behind skip (offset + 1) offset cs (omega arith)))
          (ap (λ (bs : List ℕ). c ∷ bs) (edited-at put skip at (offset + 1) cs))
    ]

-- ---- characters in order

ascend : (skip at offset : ℕ) (bs : List ℕ) → offset ≤ at → Ascend offset (logical_from skip at bs)
unfolding logical_from
ascend zero at offset [] h = tt
ascend (suc skip) at offset [] h = tt
ascend (suc skip) at offset (c ∷ cs) h = ascend skip (at + 1) offset cs (omega (arith, h))
ascend zero at offset (c ∷ cs) h =
    elim (cases_Bool (gone_length c cs == 0)) [
      | inl stays ↦ rw stays (h, ascend 0 (at + 1) (at + 1) cs (omega arith))
      | inr goes ↦ rw goes (ascend (gone_length c cs - 1) (at + 1) offset cs (omega (arith, h)))
    ]

pub ascend-at : (offset n : ℕ) (chars : List Character) (c : Character) → Ascend offset chars → slice_get chars n ≡ Some c
    → offset + n ≤ c.offset
ascend-at offset n [] c h is = absurd (cc)
ascend-at offset zero (first ∷ chars) c h is =
    let same : first.offset ≡ c.offset = ap (λ (f : Character). f.offset) (same_Some first c is) in
    let start = h.0 in
    omega (arith, start, same)
ascend-at offset (suc n) (first ∷ chars) c h is =
    let later = ascend-at (first.offset + 1) n chars c h.1 is in
    let start = h.0 in
    omega (arith, start, later)

-- Behind the bytes of an offset, where it is that of the next character, and where it is not.
ascend-on : (offset : ℕ) (all : List Character) (at : ℕ) (c : Character) → slice_get all at ≡ Some c → (c.offset == offset) ≡ true
    → Ascend offset (drop at all) → Ascend (offset + 1) (drop (at + 1) all)
ascend-on offset all at c is here h =
    let both : Ascend offset (c ∷ drop (at + 1) all) = rw (drop_at all at c is) at h in
    let same : c.offset ≡ offset = eqb-true c.offset offset here in
    rw (← same) both.1

ascend-past : (offset : ℕ) (all : List Character) (at : ℕ) (r : Option Character) → slice_get all at ≡ r
    → option_map_or (λ byte. byte == offset) (option_map (λ (c : Character). c.offset) r) false ≡ false
    → Ascend offset (drop at all) → Ascend (offset + 1) (drop at all)
ascend-past offset all at None is other h = rw (drop_none all at is) tt
ascend-past offset all at (Some c) is other h =
    let both : Ascend offset (c ∷ drop (at + 1) all) = rw (drop_at all at c is) at h in
    let start = both.0 in
    let apart : c.offset ≢ offset = λ e. both_ways (c.offset == offset) other (eq-eqb c.offset offset e) in
    rw (drop_at all at c is) (omega (arith, start, apart), both.1)

-- from a character on
ascend-from : (offset : ℕ) (chars : List Character) (k : ℕ) (c : Character) → Ascend offset chars → slice_get chars k ≡ Some c
    → Ascend c.offset (drop k chars)
ascend-from offset [] k c h is = absurd (cc)
ascend-from offset (first ∷ chars) zero c h is =
    let same : first.offset ≡ c.offset = ap (λ (f : Character). f.offset) (same_Some first c is) in
    (omega (arith, same), h.1)
ascend-from offset (first ∷ chars) (suc k) c h is = ascend-from (first.offset + 1) chars k c h.1 is

ascends : (bytes : List ℕ) (k : ℕ) (c : Character) → slice_get (logical_of bytes) k ≡ Some c → Ascend c.offset (drop k (logical_of bytes))
unfolding logical_of
ascends bytes k c at = ascend-from 0 (logical_from 0 0 bytes) k c (ascend 0 0 0 bytes (omega arith)) at

-- ---- stretches of bytes whose characters stay

stretch-here : (put : Put) (at n offset : ℕ) (first : Character) (chars : List Character) (b : ℕ) (front back : List ℕ) (c : Character)
    → Ascend offset (first ∷ chars) → slice_get (first ∷ chars) n ≡ Some c → offset + length (b ∷ front) ≡ c.offset
    → ((p d : ℕ) → at ≤ p → p < at + n → put p d ≡ d ∷ []) → (first.offset == offset) ≡ true
    → ((m : ℕ) → Ascend (offset + 1) chars → slice_get chars m ≡ Some c → offset + 1 + length front ≡ c.offset
    → ((p d : ℕ) → at + 1 ≤ p → p < at + 1 + m → put p d ≡ d ∷ [])
    → edited_at put (at + 1) chars (offset + 1) (front ++ back) ≡ front ++ edited_at put (at + 1 + m) (drop m chars) c.offset back)
    → edited_at put at (first ∷ chars) offset (b ∷ front ++ back) ≡ b ∷ front ++ edited_at put (at + n) (drop n (first ∷ chars)) c.offset back
unfolding edited_at
stretch-here put at zero offset first chars b front back c h is long stays here on =
    let same : first.offset ≡ c.offset = ap (λ (f : Character). f.offset) (same_Some first c is) in
    let start : first.offset ≡ offset = eqb-true first.offset offset here in
    absurd (omega (arith, same, start, long))
stretch-here put at (suc n) offset first chars b front back c h is long stays here on =
    let start : first.offset ≡ offset = eqb-true first.offset offset here in
    let later : Ascend (offset + 1) chars = rw (← start) h.1 in
    let rest = on n later is (omega (arith, long)) (λ p d low high. stays p d (omega (arith, low)) (omega (arith, high))) in
    let sum : at + 1 + n ≡ at + suc n = omega arith in
    let end : edited_at put (at + 1) chars (offset + 1) (front ++ back) ≡ front ++ edited_at put (at + suc n) (drop n chars) c.offset back = rw sum at rest in
    rw (here, stays at b (omega arith) (omega arith)) (ap (λ (bs : List ℕ). b ∷ bs) end)

stretch : (put : Put) (at n offset : ℕ) (chars : List Character) (front back : List ℕ) (c : Character)
    → Ascend offset chars → slice_get chars n ≡ Some c → offset + length front ≡ c.offset
    → ((p d : ℕ) → at ≤ p → p < at + n → put p d ≡ d ∷ [])
    → edited_at put at chars offset (front ++ back) ≡ front ++ edited_at put (at + n) (drop n chars) c.offset back
unfolding edited_at
stretch put at n offset [] front back c h is long stays = absurd (cc)
stretch put at n offset (first ∷ chars) [] back c h is long stays =
    let past = ascend-at offset n (first ∷ chars) c h is in
    let none : n ≡ 0 = omega (arith, past, long) in
    let here : offset ≡ c.offset = omega (arith, long) in
    let same : at + 0 ≡ at = omega arith in
    rw (none, here, same) refl
stretch put at n offset (first ∷ chars) (b ∷ front) back c h is long stays = elim (cases_Bool (first.offset == offset)) [
  | inl here ↦
      stretch-here put at n offset first chars b front back c h is long stays here
      (λ m more later on all. stretch put (at + 1) m (offset + 1) chars front back c more later on all)
  | inr other ↦
      let apart : first.offset ≢ offset = λ e. both_ways (first.offset == offset) other (eq-eqb first.offset offset e) in
      let start = h.0 in
      let more : Ascend (offset + 1) (first ∷ chars) = (omega (arith, start, apart), h.1) in
      rw other (ap (λ (bs : List ℕ). b ∷ bs) (stretch put at n (offset + 1) (first ∷ chars) front back c more is (omega (arith, long)) stays))
]

all-stay : (put : Put) (at offset : ℕ) (chars : List Character) (cs : List ℕ)
    → ((p d : ℕ) → at ≤ p → p < at + length chars → put p d ≡ d ∷ []) → edited_at put at chars offset cs ≡ cs
unfolding edited_at
all-stay put at offset chars [] stays = refl
all-stay put at offset [] (b ∷ cs) stays = ap (λ (bs : List ℕ). b ∷ bs) (all-stay put at (offset + 1) [] cs stays)
all-stay put at offset (first ∷ chars) (b ∷ cs) stays = elim (cases_Bool (first.offset == offset)) [
  | inl here ↦
      rw (here, stays at b (omega arith) (omega arith))
      (ap (λ (bs : List ℕ). b ∷ bs) (all-stay put (at + 1) (offset + 1) chars cs (λ p d low high. stays p d (omega (arith, low)) (omega (arith, high)))))
  | inr other ↦ rw other (ap (λ (bs : List ℕ). b ∷ bs) (all-stay put at (offset + 1) (first ∷ chars) cs stays))
]

-- ---- members that are left

holds-before : (m : Part) (file at : ℕ) → at < m.start.at → holds m (pos file at) ≡ false
holds-before m file at h = grind (arith, le-leb)

pub none_over : (file from at : ℕ) (members : List Part) → AreInOrder file from members → at < from
    → member_over members (pos file at) ≡ None
none_over file from at [] order h = refl
none_over file from at (m ∷ members) order h =
    let start = order.1 in
    rw (holds-before m file at (omega (arith, start, h))) (none_over file (m.start.at + m.len) at members order.3 (omega (arith, start, h)))

abbrev pub no_part : Part
no_part = record { start = nowhere; len = 0 }

over-none : (members : List Part) (name : List ℕ) (file p d : ℕ) → member_over members (pos file p) ≡ None → put_of members name file p d ≡ d ∷ []
over-none members name file p d none = rw none refl

pub over_first : (file at : ℕ) (members : List Part) → AreLeft file at members → at < (get_or members 0 no_part).start.at
    → member_over members (pos file at) ≡ None
over_first file at [] order h = refl
over_first file at (m ∷ members) order h =
    rw (holds-before m file at h) (none_over file (m.start.at + m.len) at members order.3 (omega (arith, h)))

-- they are left at a later character too, at which the first has not begun
left-later : (file at p : ℕ) (m : Part) (members : List Part) → AreLeft file at (m ∷ members) → p ≤ m.start.at → AreLeft file p (m ∷ members)
left-later file at p m members left h = let some = left.2 in (left.0, omega (arith, h, some), some, left.3)

-- none of them holds a character before the first
none-before : (file at p : ℕ) (m : Part) (members : List Part) → AreLeft file at (m ∷ members) → p < m.start.at
    → member_over (m ∷ members) (pos file p) ≡ None
none-before file at p m members left h = over_first file p (m ∷ members) (left-later file at p m members left (omega (arith, h))) h

-- the byte of a character
no_character : (all : List Character) (at : ℕ) → option_map (λ (c : Character). c.offset) (slice_get all at) ≡ None → length all ≤ at
no_character [] at h = omega arith
no_character (c ∷ cs) zero h = absurd cc
no_character (c ∷ cs) (suc at) h = let later = no_character cs at h in omega (arith, later)

character_of : (r : Option Character) (b : ℕ) → option_map (λ (c : Character). c.offset) r ≡ Some b → (c : Character) × (r ≡ Some c) × (c.offset ≡ b)
character_of None b h = absurd cc
character_of (Some c) b h = (c, refl, same_Some c.offset b h)

left-all : (file : ℕ) (members : List Part) → AreInOrder file 0 members → AreLeft file 0 members
left-all file [] order = tt
left-all file (m ∷ members) order = (order.0, omega (arith, order.2), order.2, order.3)

-- ---- steps

pub small : (file : ℕ) (bytes : List ℕ) (text : TextValue) → file_text file bytes ≡ Ok text → length bytes ≤ 2 ^ 22
unfolding file_text
small file bytes text lexed =
    elim (cases_Bool (nat_lt (2 ^ 22) (length bytes))) [
      | inl large ↦ let fault : Err FileTooLarge ≡ Ok text = rw large at lexed in absurd (apart fault)
      | inr fits ↦ ltb-false (2 ^ 22) (length bytes) fits
    ]
  where
    apart : {X : Type 0} {x : X} {f : LexFault} → Err f ≡ Ok x → ⊥
    apart e = cc

-- the character that stands at an offset
character_is : (offset : ℕ) (r : Option Character)
    → option_map_or (λ byte. byte == offset) (option_map (λ (c : Character). c.offset) r) false ≡ true
    → (c : Character) × (r ≡ Some c) × ((c.offset == offset) ≡ true)
character_is offset None h = absurd cc
character_is offset (Some c) h = (c, refl, h)

-- a byte at which none does
pub edited_at-byte : (put : Put) (at offset b : ℕ) (bs : List ℕ) (all : List Character) (r : Option Character) → slice_get all at ≡ r
    → option_map_or (λ byte. byte == offset) (option_map (λ (c : Character). c.offset) r) false ≡ false
    → edited_at put at (drop at all) offset (b ∷ bs) ≡ b ∷ edited_at put at (drop at all) (offset + 1) bs
unfolding edited_at
edited_at-byte put at offset b bs all None is h = rw (drop_none all at is) refl
edited_at-byte put at offset b bs all (Some c) is h = rw (drop_at all at c is, h) refl

module _ (members : List Part) (name : List ℕ) (file : ℕ) (bytes : List ℕ) where
  pub made_none : AreInOrder file 0 members → IsMade members name file bytes [] 0 0 members
  unfolding respelled edited logical_of
  made_none order = record {
    made = sym (edited-at (put_of members name file) 0 0 0 bytes);
    behind = λ some. omega arith;
    ahead = λ some. ascend 0 0 0 bytes (omega arith);
    left = left-all file members order;
    same = λ p h. refl;
  }

  pub made_end : (out : List ℕ) (offset at : ℕ) (rest : List Part) → length bytes ≤ offset
      → IsMade members name file bytes out offset at rest → out ≡ respelled members name file bytes
  unfolding edited_at
  made_end out offset at rest h is =
      let none : drop offset bytes ≡ [] = drop_all offset bytes h in
      let made : out ++ [] ≡ respelled members name file bytes = rw none at is.made in
      sym (append-nil out) ∙ made

  pub made_large : (most : ℕ) (out : List ℕ) (offset at : ℕ) (rest : List Part) → most < length out
      → IsMade members name file bytes out offset at rest → most < length (respelled members name file bytes)
  made_large most out offset at rest h is =
      let rest = edited_at (put_of members name file) at (drop at (logical_of bytes)) offset (drop offset bytes) in
      let all = ap length is.made in
      omega (arith, length-append out rest, all, h)

  pub made_character : (out more : List ℕ) (offset at b : ℕ) (rest left : List Part) → offset < length bytes → b ≡ get_or bytes offset 0
      → is_character bytes at offset ≡ true → more ≡ out ++ option_map_or (put_in name (pos file at)) (member_over rest (pos file at)) (b ∷ [])
      → AreLeft file (at + 1) left → ((p : ℕ) → at + 1 ≤ p → member_over left (pos file p) ≡ member_over rest (pos file p))
      → IsMade members name file bytes out offset at rest → IsMade members name file bytes more (offset + 1) (at + 1) left
  unfolding edited_at byte_offset_of
  made_character out more offset at b rest left h item here pushed order same is =
      let found = character_is offset (slice_get (logical_of bytes) at) here in
      let put = put_of members name file in
      let later = edited_at put (at + 1) (drop (at + 1) (logical_of bytes)) (offset + 1) (drop (offset + 1) bytes) in
      let made : out ++ (put at (get_or bytes offset 0) ++ later) ≡ respelled members name file bytes =
      rw (drop_at (logical_of bytes) at found.0 found.1, drop_more bytes offset 0 h, found.2) at is.made in
      let before = is.behind h in
      record {
        made = rw (pushed, is.same at (omega arith), item) (append_assoc out (put at (get_or bytes offset 0)) later ∙ made);
        behind = λ more. omega (arith, before);
        ahead = λ more. ascend-on offset (logical_of bytes) at found.0 found.1 found.2 (is.ahead h);
        left = order;
        same = λ p k. same p k ∙ is.same p (omega (arith, k));
      }

  pub made_other : (out more : List ℕ) (offset at b : ℕ) (rest : List Part) → offset < length bytes → b ≡ get_or bytes offset 0
      → is_character bytes at offset ≡ false → more ≡ out ++ b ∷ []
      → IsMade members name file bytes out offset at rest → IsMade members name file bytes more (offset + 1) at rest
  unfolding edited_at byte_offset_of
  made_other out more offset at b rest h item here pushed is =
      let later = edited_at (put_of members name file) at (drop at (logical_of bytes)) (offset + 1) (drop (offset + 1) bytes) in
      let made : out ++ (get_or bytes offset 0 ∷ later) ≡ respelled members name file bytes =
      rw (
        drop_more bytes offset 0 h,
        edited_at-byte (put_of members name file) at offset (get_or bytes offset 0) (drop (offset + 1) bytes) (logical_of bytes) (slice_get (logical_of bytes) at) refl here,
      )
      at is.made in
      let before = is.behind h in
      record {
        made = rw (pushed, item) (append_assoc out (get_or bytes offset 0 ∷ []) later ∙ made);
        behind = λ more. omega (arith, before);
        ahead = λ more. ascend-past offset (logical_of bytes) at (slice_get (logical_of bytes) at) refl here (is.ahead h);
        left = is.left;
        same = is.same;
      }

  -- ---- bytes between members

  -- to the end of the file
  to-end : (out more : List ℕ) (offset at next : ℕ) (rest : List Part) → more ≡ out ++ take (length bytes - offset) (drop offset bytes)
      → IsMade members name file bytes out offset at rest
      → ((p d : ℕ) → at ≤ p → p < at + length (drop at (logical_of bytes)) → put_of members name file p d ≡ d ∷ [])
      → AreLeft file next rest → at ≤ next
      → IsMade members name file bytes more (length bytes) next rest
  unfolding edited_at
  to-end out more offset at next rest pushed is stays left later =
      let put = put_of members name file in
      let none : drop (length bytes) bytes ≡ [] = drop_all (length bytes) bytes (omega arith) in
      let whole : out ++ drop offset bytes ≡ respelled members name file bytes =
      rw (all-stay put at offset (drop at (logical_of bytes)) (drop offset bytes) stays) at is.made in
      record {
        made = rw (none, pushed, take_rest bytes offset, append-nil (out ++ drop offset bytes)) whole;
        behind = λ more. absurd (omega (arith, more));
        ahead = λ more. absurd (omega (arith, more));
        left = left;
        same = λ p h. is.same p (omega (arith, h, later));
      }

  -- to the byte of a character
  to-character : (out more : List ℕ) (offset at next : ℕ) (rest : List Part) (c : Character) → offset < length bytes
      → slice_get (logical_of bytes) next ≡ Some c → c.offset < length bytes → at ≤ next
      → more ≡ out ++ take (c.offset - offset) (drop offset bytes)
      → IsMade members name file bytes out offset at rest
      → ((p d : ℕ) → at ≤ p → p < next → put_of members name file p d ≡ d ∷ [])
      → AreLeft file next rest
      → IsMade members name file bytes more c.offset next rest
  to-character out more offset at next rest c some is_at within later pushed is stays left =
      let all = logical_of bytes in
      let put = put_of members name file in
      let n = next - at in
      let sum : at + n ≡ next = omega (arith, later) in
      let there : slice_get (drop at all) n ≡ Some c = at_drop all at n ∙ ap (λ (k : ℕ). slice_get all k) sum ∙ is_at in
      let past = ascend-at offset n (drop at all) c (is.ahead some) there in
      let size : offset + (c.offset - offset) ≡ c.offset = omega (arith, past) in
      let front = take (c.offset - offset) (drop offset bytes) in
      let back = drop (c.offset - offset) (drop offset bytes) in
      let long : length front ≡ c.offset - offset =
      length-take-le (c.offset - offset) (drop offset bytes) (omega (arith, length-drop offset bytes, within)) in
      let split = stretch put at n offset (drop at all) front back c (is.ahead some) there (omega (arith, long, size)) (λ p d low high. stays p d low (omega (arith, high, sum))) in
      let behind_it : back ≡ drop c.offset bytes = drop-drop (c.offset - offset) offset bytes ∙ ap (λ (k : ℕ). drop k bytes) size in
      let left_over : drop n (drop at all) ≡ drop next all = drop-drop n at all ∙ ap (λ (k : ℕ). drop k all) sum in
      let whole : front ++ back ≡ drop offset bytes = take-append-drop (c.offset - offset) (drop offset bytes) in
      let start : edited_at put at (drop at all) offset (drop offset bytes) ≡ front ++ edited_at put next (drop next all) c.offset (drop c.offset bytes) =
      rw (whole, behind_it, left_over, sum) at split in
      let before = is.behind some in
      record {
        made = rw pushed (append_assoc out front (edited_at put next (drop next all) c.offset (drop c.offset bytes)) ∙ ap (λ (bs : List ℕ). out ++ bs) (sym start) ∙ is.made);
        behind = λ more. omega (arith, before, past, sum);
        ahead = λ more. ascends bytes next c is_at;
        left = left;
        same = λ p h. is.same p (omega (arith, h, later));
      }

  between_next : (out more : List ℕ) (offset at : ℕ) (m : Part) (ms : List Part) (r : Option ℕ) → offset < length bytes → at < m.start.at
      → byte_offset_of bytes m.start.at ≡ r → more ≡ out ++ take (unwrap_or r (length bytes) - offset) (drop offset bytes)
      → IsMade members name file bytes out offset at (m ∷ ms)
      → IsMade members name file bytes more (unwrap_or r (length bytes)) m.start.at (m ∷ ms)
  unfolding byte_offset_of
  between_next out more offset at m ms None some h is pushed made =
      let few = no_character (logical_of bytes) m.start.at is in
      to-end out more offset at m.start.at (m ∷ ms) pushed made
      (λ p d low high.
      let short : p < m.start.at = omega (arith, length-drop at (logical_of bytes), few, low, high, h) in
      over-none members name file p d (sym (made.same p low) ∙ none-before file at p m ms made.left short))
      (left-later file at m.start.at m ms made.left (omega arith)) (omega (arith, h))
  between_next out more offset at m ms (Some b) some h is pushed made =
      let found = character_of (slice_get (logical_of bytes) m.start.at) b is in
      let within : b < length bytes = character_within bytes m.start.at b is in
      let done = to-character out more offset at m.start.at (m ∷ ms) found.0 some found.1 (rw found.2 within) (omega (arith, h)) (rw found.2 pushed) made
      (λ p d low high. over-none members name file p d (sym (made.same p low) ∙ none-before file at p m ms made.left high))
      (left-later file at m.start.at m ms made.left (omega arith)) in
      rw found.2 at done

  pub made_between : (out more : List ℕ) (offset at : ℕ) (rest : List Part) → offset < length bytes → is_between rest at ≡ true
      → more ≡ out ++ take (next_byte bytes rest - offset) (drop offset bytes)
      → IsMade members name file bytes out offset at rest → IsMade members name file bytes more (next_byte bytes rest) (next_at rest at) rest
  made_between out more offset at [] some h pushed made =
      to-end out more offset at at [] pushed made (λ p d low high. over-none members name file p d (sym (made.same p low))) made.left (omega arith)
  made_between out more offset at (m ∷ ms) some h pushed made =
      between_next out more offset at m ms (byte_offset_of bytes m.start.at) some (ltb-true at m.start.at h) refl pushed made

  -- some bytes stand there, and they are of the file
  next_within : (m : Part) (ms : List Part) (offset at : ℕ) (r : Option ℕ) (out : List ℕ) → offset < length bytes → at < m.start.at
      → byte_offset_of bytes m.start.at ≡ r → IsMade members name file bytes out offset at (m ∷ ms)
      → (offset < unwrap_or r (length bytes)) × (unwrap_or r (length bytes) ≤ length bytes)
  unfolding byte_offset_of
  next_within m ms offset at None out some h is made = (some, omega arith)
  next_within m ms offset at (Some b) out some h is made =
      let all = logical_of bytes in
      let found = character_of (slice_get all m.start.at) b is in
      let n = m.start.at - at in
      let sum : at + n ≡ m.start.at = omega (arith, h) in
      let there : slice_get (drop at all) n ≡ Some found.0 = at_drop all at n ∙ ap (λ (k : ℕ). slice_get all k) sum ∙ found.1 in
      let past = ascend-at offset n (drop at all) found.0 (made.ahead some) there in
      let same = found.2 in
      let within = character_within bytes m.start.at b is in
      (omega (arith, past, sum, h, same), omega (arith, within))

  pub between_within : (rest : List Part) (offset at : ℕ) (out : List ℕ) → offset < length bytes → is_between rest at ≡ true
      → IsMade members name file bytes out offset at rest → (offset < next_byte bytes rest) × (next_byte bytes rest ≤ length bytes)
  between_within [] offset at out some h made = (some, omega arith)
  between_within (m ∷ ms) offset at out some h made =
      next_within m ms offset at (byte_offset_of bytes m.start.at) out some (ltb-true at m.start.at h) refl made
