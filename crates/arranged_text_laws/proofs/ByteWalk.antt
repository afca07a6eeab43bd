-- The bytes of a file one by one: which of them are its characters, and where its tokens begin and end among them.
use Rattle.std.proofs.Common.{◌≡◌, ℕ, zero, suc, ◌+◌, ◌-◌, ◌<◌, ◌≤◌, true, ◌==◌, List, [], ◌∷◌, ◌++◌, length, take, drop, map, Option, Some, None, inl, inr, refl, sym, ap, subst, ◌∙◌, arith, take-append-drop, append_assoc}
use Rattle.std.specs.Prelude.{slice_get, unwrap_or}
use Rattle.std.specs.Option.{option_map, option_map_or, option_and_then}
use Rattle.std.proofs.lemmas.Bool.{cases_Bool, and_from, eqb-true, eq-eqb}
use Rattle.std.proofs.lemmas.List.{length-map}
use Rattle.std.proofs.lemmas.Option.{slice_get-map}
use Rattle.cs_base.specs.declared.positions.Pos.{Pos}
use Rattle.cs_base.specs.Token.{Token, origin_at}
use Rattle.lexer.specs.Places.{pos, origins_from}
use Rattle.lexer.specs.Lines.{byte_offset_of}
use Rattle.lexer.specs.Logical.{Character, character, gone_length, logical_from, logical_of}
use Rattle.lexer.specs.Tokens.{tokens_of, open_comment_of}
use Rattle.lexer.proofs.OriginLemmas.{origin_in as origins_get}
use Rattle.arranged_text_laws.specs.Labels.{starts}
use Rattle.arranged_text_laws.specs.Joining.{is_seam}
use Rattle.arranged_text_laws.specs.Seams.{kept, is_plain, ends_plain}
use Rattle.arranged_text_laws.proofs.SeamLemmas.{gone_before, gone_behind, ends_on}
use Rattle.arranged_text_laws.specs.Lists.{place_of}
use Rattle.arranged_text_laws.specs.Moving.{byte_in, first_byte, end_byte}
use Rattle.arranged_text_laws.proofs.Widened.{Widens}
use Rattle.arranged_text_laws.proofs.WeighedCut.{weight, widens_up}
use Rattle.arranged_text_laws.proofs.FileWalk.{chars_of}
use Rattle.arranged_text_laws.proofs.Bounds.{some_at, end_place, place_at, end_at, the_token, chars_widen}

-- how many bytes of what stands behind go with what stands before
pub skip_gone : ℕ → List ℕ → List ℕ → ℕ
skip_gone skip [] ys = skip
skip_gone (suc skip) (c ∷ xs) ys = skip_gone skip xs ys
skip_gone zero (c ∷ xs) ys = skip_gone (gone_length c (xs ++ ys) - 1) xs ys

pub gone_parts : (skip : ℕ) (xs ys zs : List ℕ) → skip_gone skip (xs ++ ys) zs ≡ skip_gone (skip_gone skip xs (ys ++ zs)) ys zs
unfolding skip_gone
gone_parts skip [] ys zs = refl
gone_parts (suc skip) (c ∷ xs) ys zs = gone_parts skip xs ys zs
gone_parts zero (c ∷ xs) ys zs =
    ap (λ (l : List ℕ). skip_gone (gone_length c l - 1) (xs ++ ys) zs) (append_assoc xs ys zs) ∙ gone_parts (gone_length c (xs ++ (ys ++ zs)) - 1) xs ys zs

append_none : (xs : List ℕ) → xs ++ [] ≡ xs
append_none [] = refl
append_none (x ∷ xs) = ap (λ (l : List ℕ). x ∷ l) (append_none xs)

-- no new-line goes on behind a part before a plain byte
pub seam_lead : (skip : ℕ) (xs ys : List ℕ) → skip_gone skip xs ys ≡ 0 → starts is_plain ys ≡ true → is_seam skip xs [] ≡ true
unfolding skip_gone is_seam
seam_lead skip [] ys h plain = eq-eqb skip 0 h
seam_lead (suc skip) (c ∷ xs) ys h plain = seam_lead skip xs ys h plain
seam_lead zero (c ∷ xs) ys h plain =
    let same = gone_before c xs ys plain in
    and_from (gone_length c (xs ++ []) == gone_length c xs) (is_seam (gone_length c xs - 1) xs [])
    (eq-eqb (gone_length c (xs ++ [])) (gone_length c xs) (ap (gone_length c) (append_none xs)))
    (seam_lead (gone_length c xs - 1) xs ys (ap (λ (g : ℕ). skip_gone (g - 1) xs ys) (sym same) ∙ h) plain)

-- nor behind one that ends with a plain byte
pub seam_end : (skip : ℕ) (xs ys : List ℕ) → skip_gone skip xs ys ≡ 0 → ends_plain xs ≡ true → is_seam skip xs [] ≡ true
unfolding skip_gone is_seam
seam_end skip [] ys h plain = eq-eqb skip 0 h
seam_end (suc skip) (c ∷ xs) ys h plain = seam_end skip xs ys h (ends_on c xs plain)
seam_end zero (c ∷ xs) ys h plain =
    let same = gone_behind c xs ys plain in
    and_from (gone_length c (xs ++ []) == gone_length c xs) (is_seam (gone_length c xs - 1) xs [])
    (eq-eqb (gone_length c (xs ++ [])) (gone_length c xs) (ap (gone_length c) (append_none xs)))
    (seam_end (gone_length c xs - 1) xs ys (ap (λ (g : ℕ). skip_gone (g - 1) xs ys) (sym same) ∙ h) (ends_on c xs plain))

-- ---- the byte of a character

pub record ByteAt (skip at : ℕ) (bs : List ℕ) (p : ℕ) (c : Character) : Type 0 where
  pub place : ℕ
  pub rest : List ℕ
  pub offset : c.offset ≡ at + place
  pub here : drop place bs ≡ c.byte ∷ rest
  pub index : weight (map length (kept skip bs)) place ≡ p
  pub next : weight (map length (kept skip bs)) (suc place) ≡ suc p
  pub whole : skip_gone skip (take place bs) (drop place bs) ≡ 0
  pub next_whole : skip_gone skip (take (suc place) bs) (drop (suc place) bs) ≡ 0

later_byte : (skip at b : ℕ) (cs : List ℕ) (s : ℕ) (here : List ℕ) (p : ℕ) (c : Character)
    → ((xs ys : List ℕ) → xs ++ ys ≡ cs → skip_gone skip (b ∷ xs) ys ≡ skip_gone s xs ys)
    → kept skip (b ∷ cs) ≡ here ∷ kept s cs → ByteAt s (at + 1) cs p c → ByteAt skip at (b ∷ cs) (length here + p) c
later_byte skip at b cs s here p c skips made r =
    let a = r.index in
    let n = r.next in
    let more : suc (length here + p) ≡ length here + suc p = omega arith in
    let on : at + 1 + r.place ≡ at + suc r.place = omega arith in
    record {
      place = suc r.place;
      rest = r.rest;
      offset = r.offset ∙ on;
      here = r.here;
      index = rw made (ap (λ (t : ℕ). length here + t) a);
      next = rw made (ap (λ (t : ℕ). length here + t) n ∙ sym more);
      whole = skips (take r.place cs) (drop r.place cs) (take-append-drop r.place cs) ∙ r.whole;
      next_whole = skips (take (suc r.place) cs) (drop (suc r.place) cs) (take-append-drop (suc r.place) cs) ∙ r.next_whole;
    }

byte_here : (b : ℕ) (cs : List ℕ) (at p : ℕ) (c : Character) → slice_get (character b at ∷ logical_from 0 (at + 1) cs) p ≡ Some c → kept 0 (b ∷ cs) ≡ (b ∷ []) ∷ kept 0 cs
    → ((xs ys : List ℕ) → xs ++ ys ≡ cs → skip_gone 0 (b ∷ xs) ys ≡ skip_gone 0 xs ys)
    → ((j : ℕ) → slice_get (logical_from 0 (at + 1) cs) j ≡ Some c → ByteAt 0 (at + 1) cs j c) → ByteAt 0 at (b ∷ cs) p c
unfolding skip_gone
byte_here b cs at zero c there made skips rest =
    let is : c ≡ character b at = sym (ap (λ (o : Option Character). unwrap_or o c) there) in
    let zero_plus : at ≡ at + 0 = omega arith in
    record {
      place = 0;
      rest = cs;
      offset = ap (λ (d : Character). d.offset) is ∙ zero_plus;
      here = ap (λ (d : Character). d.byte ∷ cs) (sym is);
      index = refl;
      next = ap (λ (l : List (List ℕ)). weight (map length l) 1) made;
      whole = refl;
      next_whole = skips [] cs refl;
    }
byte_here b cs at (suc p) c there made skips rest =
    let one : 1 + p ≡ suc p = omega arith in
    subst (λ (j : ℕ). ByteAt 0 at (b ∷ cs) j c) one (later_byte 0 at b cs 0 (b ∷ []) p c skips made (rest p there))

byte_at : (bs : List ℕ) (skip at p : ℕ) (c : Character) → slice_get (logical_from skip at bs) p ≡ Some c → ByteAt skip at bs p c
unfolding logical_from kept skip_gone
byte_at [] zero at p c there = absurd cc
byte_at [] (suc skip) at p c there = absurd cc
byte_at (b ∷ cs) (suc skip) at p c there =
    let zero_plus : 0 + p ≡ p = omega arith in
    subst (λ (j : ℕ). ByteAt (suc skip) at (b ∷ cs) j c) zero_plus
    (later_byte (suc skip) at b cs skip [] p c (λ xs ys e. refl) refl (byte_at cs skip (at + 1) p c there))
byte_at (b ∷ cs) zero at p c there = elim (cases_Bool (gone_length b cs == 0)) [
  | inl stays ↦
      let none = eqb-true (gone_length b cs) 0 stays in
      let skip0 : gone_length b cs - 1 ≡ 0 = omega (arith, none) in
      let there2 : slice_get (character b at ∷ logical_from 0 (at + 1) cs) p ≡ Some c = rw stays at there in
      let made : kept 0 (b ∷ cs) ≡ (b ∷ []) ∷ kept 0 cs = rw stays refl in
      let skips : (xs ys : List ℕ) → xs ++ ys ≡ cs → skip_gone 0 (b ∷ xs) ys ≡ skip_gone 0 xs ys =
      λ xs ys e. ap (λ (l : List ℕ). skip_gone (gone_length b l - 1) xs ys) e ∙ ap (λ (s : ℕ). skip_gone s xs ys) skip0 in
      byte_here b cs at p c there2 made skips (λ j h. byte_at cs 0 (at + 1) j c h)
  | inr goes ↦
      let there2 : slice_get (logical_from (gone_length b cs - 1) (at + 1) cs) p ≡ Some c = rw goes at there in
      let made : kept 0 (b ∷ cs) ≡ [] ∷ kept (gone_length b cs - 1) cs = rw goes refl in
      let zero_plus : 0 + p ≡ p = omega arith in
      subst (λ (j : ℕ). ByteAt 0 at (b ∷ cs) j c) zero_plus
      (later_byte 0 at b cs (gone_length b cs - 1) [] p c (λ xs ys e. ap (λ (l : List ℕ). skip_gone (gone_length b l - 1) xs ys) e) made
      (byte_at cs (gone_length b cs - 1) (at + 1) p c there2))
]

-- the weights of bytes
abbrev pub kept_weights : List ℕ → List ℕ
kept_weights bytes = map length (kept 0 bytes)

-- no byte goes with what stands before byte x
abbrev pub whole_at : List ℕ → ℕ → Type 0
whole_at bytes x = skip_gone 0 (take x bytes) (drop x bytes) ≡ 0

pub whole_start : (bytes : List ℕ) → whole_at bytes 0
unfolding skip_gone
whole_start bytes = refl

pub record CharByte (bytes : List ℕ) (p : ℕ) : Type 0 where
  pub c : Character
  pub there : slice_get (logical_of bytes) p ≡ Some c
  pub rest : List ℕ
  pub here : drop c.offset bytes ≡ c.byte ∷ rest
  pub char : slice_get (chars_of bytes) p ≡ Some c.byte
  pub index : weight (kept_weights bytes) c.offset ≡ p
  pub next : weight (kept_weights bytes) (suc c.offset) ≡ suc p
  pub whole : whole_at bytes c.offset
  pub next_whole : whole_at bytes (suc c.offset)

pub char_byte : (bytes : List ℕ) (p : ℕ) → p < length (chars_of bytes) → CharByte bytes p
unfolding logical_of
char_byte bytes p lt =
    let L = logical_from 0 0 bytes in
    let size = length-map L (λ (c : Character). c.byte) in
    let c = some_at L p (omega (arith, lt, size)) in
    let r = byte_at bytes 0 0 p c.0 c.1 in
    let zero_plus : 0 + r.place ≡ r.place = omega arith in
    let place : r.place ≡ c.0.offset = sym (r.offset ∙ zero_plus) in
    record {
      c = c.0;
      there = c.1;
      rest = r.rest;
      here = ap (λ (n : ℕ). drop n bytes) (sym place) ∙ r.here;
      char = slice_get-map (λ (d : Character). d.byte) L p ∙ ap (option_map (λ (d : Character). d.byte)) c.1;
      index = ap (weight (kept_weights bytes)) (sym place) ∙ r.index;
      next = ap (λ (n : ℕ). weight (kept_weights bytes) (suc n)) (sym place) ∙ r.next;
      whole = subst (whole_at bytes) place r.whole;
      next_whole = subst (λ (n : ℕ). whole_at bytes (suc n)) place r.next_whole;
    }

-- ---- the bytes of a token

abbrev pub first_of : List ℕ → List Token → ℕ → ℕ
first_of bytes toks k = option_map_or (first_byte bytes) (slice_get toks k) 0

abbrev pub end_of : List ℕ → List Token → ℕ → ℕ
end_of bytes toks k = option_map_or (end_byte bytes) (slice_get toks (k - 1)) 0

origin_is : (file : ℕ) (t : Token) (k : ℕ) → t.origins ≡ origins_from file t.at.at (length t.text) → k < length t.text → origin_at t k ≡ Some (pos file (t.at.at + k))
origin_is file t k own lt =
    ap (λ (l : List (Option Pos)). option_and_then (λ (o : Option Pos). o) (slice_get l k)) own
    ∙ ap (option_and_then (λ (o : Option Pos). o)) (origins_get file t.at.at (length t.text) k lt)

byte_is : (bytes : List ℕ) (file p : ℕ) (c : Character) → slice_get (logical_of bytes) p ≡ Some c → byte_in bytes (pos file p) ≡ c.offset
unfolding byte_offset_of
byte_is bytes file p c there = ap (λ (o : Option Character). unwrap_or (option_map (λ (d : Character). d.offset) o) 0) there

-- Where a token begins and ends.
pub record TokenBytes (file : ℕ) (bytes : List ℕ) (k : ℕ) : Type 0 where
  pub first : CharByte bytes (place_of (tokens_of file bytes) k)
  pub first_is : first_of bytes (tokens_of file bytes) k ≡ first.c.offset
  pub last : CharByte bytes (end_place (tokens_of file bytes) (suc k) - 1)
  pub end_is : end_of bytes (tokens_of file bytes) (suc k) ≡ suc last.c.offset
  pub long : place_of (tokens_of file bytes) k < end_place (tokens_of file bytes) (suc k)

pub token_bytes : (file : ℕ) (bytes : List ℕ) → open_comment_of bytes ≡ None → (k : ℕ) → k < length (tokens_of file bytes) → TokenBytes file bytes k
token_bytes file bytes none k lt =
    let toks = tokens_of file bytes in
    let r = the_token file bytes none k lt in
    let t = r.0 in
    let a = r.2 in
    let s = a.spot_of in
    let place = place_at toks k t r.1 in
    let end = end_at toks k t r.1 in
    let grows = (chars_widen file bytes none).whole k (suc k) (omega arith) (omega (arith, lt)) in
    let within = s.within in
    let ends = a.ends in
    let less : suc k - 1 ≡ k = omega arith in
    let first = char_byte bytes (place_of toks k) (omega (arith, grows, end, ends, within)) in
    let last = char_byte bytes (end_place toks (suc k) - 1) (omega (arith, grows, end, ends, within)) in
    let some : 0 < length t.text = omega (arith, grows, end, place) in
    let zero_plus : t.at.at + 0 ≡ place_of toks k = omega (arith, place) in
    let at_end : t.at.at + (length t.text - 1) ≡ end_place toks (suc k) - 1 = omega (arith, end, some) in
    record {
      first = first;
      first_is = ap (λ (o : Option Token). option_map_or (first_byte bytes) o 0) r.1
          ∙ ap (λ (o : Option Pos). option_map_or (byte_in bytes) o 0) (origin_is file t 0 a.own some)
          ∙ ap (λ (p : ℕ). byte_in bytes (pos file p)) zero_plus ∙ byte_is bytes file (place_of toks k) first.c first.there;
      last = last;
      end_is = ap (λ (j : ℕ). option_map_or (end_byte bytes) (slice_get toks j) 0) less ∙ ap (λ (o : Option Token). option_map_or (end_byte bytes) o 0) r.1
          ∙ ap (λ (o : Option Pos). option_map_or (λ p. byte_in bytes p + 1) o 0) (origin_is file t (length t.text - 1) a.own (omega (arith, some)))
          ∙ ap (λ (p : ℕ). byte_in bytes (pos file p) + 1) at_end ∙ ap (λ (n : ℕ). n + 1) (byte_is bytes file (end_place toks (suc k) - 1) last.c last.there) ∙ plus_one last.c.offset;
      long = grows;
    }
  where
    plus_one : (n : ℕ) → n + 1 ≡ suc n
    plus_one n = omega arith

module _ (file : ℕ) (bytes : List ℕ) (none : open_comment_of bytes ≡ None) where
  pub firsts_weigh : (k : ℕ) → k < length (tokens_of file bytes) → weight (kept_weights bytes) (first_of bytes (tokens_of file bytes) k) ≡ place_of (tokens_of file bytes) k
  firsts_weigh k lt = let r = token_bytes file bytes none k lt in ap (weight (kept_weights bytes)) r.first_is ∙ r.first.index

  pub first_nexts : (k : ℕ) → k < length (tokens_of file bytes) → weight (kept_weights bytes) (suc (first_of bytes (tokens_of file bytes) k)) ≡ suc (place_of (tokens_of file bytes) k)
  first_nexts k lt = let r = token_bytes file bytes none k lt in ap (λ (n : ℕ). weight (kept_weights bytes) (suc n)) r.first_is ∙ r.first.next

  pub byte_ends_weigh : (k : ℕ) → 0 < k → k ≤ length (tokens_of file bytes) → weight (kept_weights bytes) (end_of bytes (tokens_of file bytes) k) ≡ end_place (tokens_of file bytes) k
  byte_ends_weigh zero some le = absurd (omega (arith, some))
  byte_ends_weigh (suc k) some le =
      let r = token_bytes file bytes none k (omega (arith, le)) in
      let long = r.long in
      let same : suc (end_place (tokens_of file bytes) (suc k) - 1) ≡ end_place (tokens_of file bytes) (suc k) = omega (arith, long) in
      ap (weight (kept_weights bytes)) r.end_is ∙ r.last.next ∙ same

  pub bytes_widen : Widens (first_of bytes (tokens_of file bytes)) (end_of bytes (tokens_of file bytes)) (length (tokens_of file bytes))
  bytes_widen =
      widens_up (first_of bytes (tokens_of file bytes)) (end_of bytes (tokens_of file bytes)) (place_of (tokens_of file bytes)) (end_place (tokens_of file bytes))
      (length (tokens_of file bytes)) (kept_weights bytes) (chars_widen file bytes none) firsts_weigh first_nexts byte_ends_weigh
