-- Where the characters of a file move, one behind the other.
use Rattle.std.proofs.Common.{◌≡◌, ℕ, zero, suc, ◌+◌, ◌<◌, ◌≤◌, ◌==◌, List, [], ◌∷◌, ◌++◌, length, take, get_or, Option, Some, None, inl, inr, refl, sym, ap, subst, ◌∙◌, arith, length-append, nat_lt, is_some}
use Rattle.std.specs.Option.{option_map, option_map_or}
use Rattle.std.proofs.lemmas.Bool.{cases_Bool, cases_eq, cases_lt, lt-ltb, ltb-true, false_from_ne_true}
use Rattle.std.proofs.lemmas.Option.{slice_get-get_or, slice_get_past}
use Rattle.std.proofs.lemmas.List.{get_or_append_left, length-map}
use Rattle.std.proofs.Math.Seq.{get_or-append_seam}
use Rattle.cs_base.specs.declared.positions.Part.{Part}
use Rattle.cs_base.specs.declared.positions.Pos.{Pos}
use Rattle.analysis.specs.Below.lexer.Lines.{byte_offset_of}
use Rattle.analysis.specs.Below.lexer.Logical.{Character as ALogical, logical_of}
use Rattle.analysis.specs.Below.lexer.Places.{pos}
use Rattle.analysis.specs.Below.lexer.Respelling.{Put as Putting, respell}
use Rattle.analysis.proofs.Below.lexer.LogicalLemmas.{logical_from-within as logical_short}
use Rattle.part_respell.specs.Respelled.{member_over, put_in as what_in, put_at as what_at, put_of as putting, moved_to}
use Rattle.offences.specs.declared.puts.Put.{Put}
use Rattle.offences.specs.declared.puts.Put.TheVariants.{Character, Name, Nothing}
use Rattle.offences.specs.Moves.{text_for, size_of, put_of, put_at, ArePuts, text_in, ArePlaces}

-- what is put is what the kind tells
of_member : (name : List ℕ) (p : Pos) (c : ℕ) (m : Part) → text_for name (put_of p m) c ≡ what_in name p m
of_member name p c m = elim (cases_Bool (m.start.at == p.at)) [ inl first ↦ rw first refl | inr other ↦ rw other refl ]

pub text_is : (members : List Part) (name : List ℕ) (p : Pos) (c : ℕ) → text_for name (put_at members p) c ≡ what_at members name p c
text_is members name p c = by (member_over members p) refl
  where
    by : (o : Option Part) → member_over members p ≡ o → text_for name (option_map_or (put_of p) o Character) c ≡ option_map_or (what_in name p) o (c ∷ [])
    by None e = refl
    by (Some m) e = of_member name p c m

size_is : (name : List ℕ) (k : Put) (c : ℕ) → length (text_for name k c) ≡ size_of name k
size_is name Character c = refl
size_is name Name c = refl
size_is name Nothing c = refl

-- one character more
pub moves_more : (put : Putting) (at : ℕ) (text : List ℕ) (n d : ℕ) → n < length text
    → length (respell put at (take (suc n) text)) ≡ length (respell put at (take n text)) + length (put (at + n) (get_or text n d))
moves_more put at [] n d less = absurd (omega (arith, less))
moves_more put at (c ∷ cs) zero d less =
    let here : at + 0 ≡ at = omega arith in
    let both = length-append (put at c) [] in
    let same : length (put (at + 0) c) ≡ length (put at c) = ap (λ (k : ℕ). length (put k c)) here in
    omega (arith, both, same)
moves_more put at (c ∷ cs) (suc n) d less =
    let rest = moves_more put (at + 1) cs n d (omega (arith, less)) in
    let next : at + 1 + n ≡ at + suc n = omega arith in
    let same : length (put (at + 1 + n) (get_or cs n d)) ≡ length (put (at + suc n) (get_or cs n d)) = ap (λ (k : ℕ). length (put k (get_or cs n d))) next in
    let more = length-append (put at c) (respell put (at + 1) (take (suc n) cs)) in
    let less = length-append (put at c) (respell put (at + 1) (take n cs)) in
    omega (arith, rest, same, more, less)

pub next_place : (members : List Part) (name : List ℕ) (number : ℕ) (bytes : List ℕ) (n : ℕ) → n < length (text_in bytes)
    → moved_to members name number bytes (n + 1) ≡ moved_to members name number bytes n + size_of name (put_at members (pos number n))
next_place members name number bytes n less =
    let more = moves_more (putting members name number) 0 (text_in bytes) n 0 less in
    let next : n + 1 ≡ suc n = omega arith in
    let on : moved_to members name number bytes (n + 1) ≡ moved_to members name number bytes (suc n) = ap (moved_to members name number bytes) next in
    let here : 0 + n ≡ n = omega arith in
    let c = get_or (text_in bytes) n 0 in
    let size : length (what_at members name (pos number (0 + n)) c) ≡ size_of name (put_at members (pos number n)) =
    ap (λ (k : ℕ). length (what_at members name (pos number k) c)) here
    ∙ (ap length (sym (text_is members name (pos number n) c)) ∙ size_is name (put_at members (pos number n)) c) in
    omega (arith, more, size, on)

pub places_more : (members : List Part) (name : List ℕ) (number : ℕ) (bytes : List ℕ) (n : ℕ) (old new : List ℕ) (end after : ℕ) (puts : List Put) (put : Put) → n < length puts
    → length puts ≡ length (text_in bytes) → put ≡ get_or puts n put → ArePuts members number puts
    → new ≡ old ++ end ∷ [] → after ≡ end + size_of name put → ArePlaces members name number bytes n old end → ArePlaces members name number bytes (n + 1) new after
places_more members name number bytes n old new end after puts put less all is are pushed behind places =
    let count = places.count in
    let within : n < length (text_in bytes) = omega (arith, less, all) in
    let kind : put ≡ put_at members (pos number n) = is ∙ (default puts n put Character less ∙ are n less) in
    let step = next_place members name number bytes n within in
    let here = places.next in
    let size : size_of name put ≡ size_of name (put_at members (pos number n)) = ap (size_of name) kind in
    record {
      each = λ at d before. elim (cases_eq at n) [
        | inl same ↦
            let front : n ≡ length old = sym count in
            ap (λ (xs : List ℕ). get_or xs at d) pushed ∙ (ap (λ (k : ℕ). get_or (old ++ end ∷ []) k d) (same ∙ front)
            ∙ (get_or-append_seam old end [] d ∙ (here ∙ ap (λ (k : ℕ). moved_to members name number bytes k) (sym same))))
        | inr other ↦
            ap (λ (xs : List ℕ). get_or xs at d) pushed ∙ (get_or_append_left old (end ∷ []) d at (omega (arith, before, other, count)) ∙ places.each at d (omega (arith, before, other)))
      ];
      count = ap length pushed ∙ (let both = length-append old (end ∷ []) in omega (arith, both, count));
      within = omega (arith, within);
      next = omega (arith, behind, here, size, step);
    }
  where
    default : {X : Type 0} (xs : List X) (k : ℕ) (x y : X) → k < length xs → get_or xs k x ≡ get_or xs k y
    default [] k x y less = absurd (omega (arith, less))
    default (z ∷ xs) zero x y less = refl
    default (z ∷ xs) (suc k) x y less = default xs k x y (omega (arith, less))

pub places_end : (members : List Part) (name : List ℕ) (number : ℕ) (bytes : List ℕ) (n : ℕ) (places : List ℕ) (end : ℕ) → length (text_in bytes) ≤ n
    → ArePlaces members name number bytes n places end → ArePlaces members name number bytes (length (text_in bytes)) places end
places_end members name number bytes n places end past are =
    let within = are.within in
    let same : n ≡ length (text_in bytes) = omega (arith, past, within) in
    subst (λ (k : ℕ). ArePlaces members name number bytes k places end) same are

-- ---- how many characters a text has

pub text_short : (bytes : List ℕ) → length (text_in bytes) ≤ length bytes
unfolding logical_of
text_short bytes = let same = length-map (logical_of bytes) (λ c. c.byte) in let less = logical_short 0 0 bytes in omega (arith, same, less)

-- which characters are there
pub is_there : (bytes : List ℕ) (at : ℕ) → is_some (byte_offset_of bytes at) ≡ nat_lt at (length (text_in bytes))
unfolding byte_offset_of
is_there bytes at = elim (cases_lt at (length (logical_of bytes))) [
  | inl less ↦
      ap (λ (o : Option ALogical). is_some (option_map (λ (c : ALogical). c.offset) o)) (slice_get-get_or (logical_of bytes) at no_character less)
      ∙ sym (lt-ltb at (length (text_in bytes)) (omega (arith, less, same)))
  | inr past ↦
      ap (λ (o : Option ALogical). is_some (option_map (λ (c : ALogical). c.offset) o)) (slice_get_past (logical_of bytes) at past)
      ∙ sym (false_from_ne_true (nat_lt at (length (text_in bytes))) (λ e. (let less = ltb-true at (length (text_in bytes)) e in omega (arith, less, past, same))))
]
  where
    no_character : ALogical
    no_character = record { byte = 0; offset = 0 }

    same : length (text_in bytes) ≡ length (logical_of bytes)
    same = length-map (logical_of bytes) (λ c. c.byte)
