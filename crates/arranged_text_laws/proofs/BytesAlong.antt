-- The bytes of a file may stand elsewhere along the cut of its lists: no new-line that goes stands across their seams.
use Rattle.std.proofs.Common.{◌≡◌, ℕ, zero, suc, ◌+◌, ◌-◌, ◌<◌, ◌≤◌, Bool, true, nat_le, List, [], ◌∷◌, ◌++◌, length, take, drop, Option, Some, None, inl, inr, refl, sym, ap, subst, ◌∙◌, arith, length-take-le, length-drop}
use Rattle.std.specs.Prelude.{slice_get, unwrap_or}
use Rattle.std.proofs.lemmas.Bool.{cases_Bool, leb-true, leb-false}
use Rattle.std.proofs.lemmas.Option.{slice_get_within}
use Rattle.lexer.specs.Tokens.{tokens_of, open_comment_of}
use Rattle.list_cuts.specs.Cuts.{Cut, done, keep, list, Items, ended, item, count_of, span_of, extent_of}
use Rattle.arranged_text_laws.specs.Labels.{starts, IsLed}
use Rattle.arranged_text_laws.specs.Joining.{is_seam}
use Rattle.arranged_text_laws.specs.Seams.{is_plain, ends_plain, is_some_byte, HasBytes, GapSeams, SeamsAlong, ItemsSeams}
use Rattle.arranged_text_laws.specs.Lists.{place_of}
use Rattle.arranged_text_laws.proofs.Formed.{Formed, FormedItems}
use Rattle.arranged_text_laws.proofs.Widened.{gap_before, widened, widened_items, Widens, Point, begin_grows, end_keeps, at_begin, at_end, span_some, span_widened}
use Rattle.arranged_text_laws.proofs.FileWalk.{chars_of}
use Rattle.arranged_text_laws.proofs.Bounds.{end_place}
use Rattle.arranged_text_laws.proofs.GoodTokens.{Good}
use Rattle.arranged_text_laws.proofs.Tree.{Leads, AllGood, Tree, TreeItems}
use Rattle.arranged_text_laws.proofs.PartFound.{seg, seg_front, seg_rest, get_drop}
use Rattle.arranged_text_laws.proofs.TokenFacts.{facts}
use Rattle.arranged_text_laws.proofs.CharsAlong.{seg_take, seg_drop, seg_none, extent_widened}
use Rattle.arranged_text_laws.proofs.ByteWalk.{skip_gone, gone_parts, seam_lead, seam_end, whole_at, first_of, end_of, token_bytes, bytes_widen}

-- ---- the last of a text

last_get : (text : List ℕ) → starts is_plain text ≡ true → (c : ℕ) × (slice_get text (length text - 1) ≡ Some c) × (ends_plain text ≡ true → is_plain c ≡ true)
last_get [] h = absurd cc
last_get (c ∷ text) h = last_of c text
  where
    last_of : (c : ℕ) (text : List ℕ) → (d : ℕ) × (slice_get (c ∷ text) (suc (length text) - 1) ≡ Some d) × (ends_plain (c ∷ text) ≡ true → is_plain d ≡ true)
    last_of c [] = (c, refl, λ h. h)
    last_of c (d ∷ text) =
        let r = last_of d text in
        let less : suc (suc (length text)) - 1 ≡ suc (suc (length text) - 1) = omega arith in
        (r.0, ap (slice_get (c ∷ d ∷ text)) less ∙ r.1, r.2)

ends_get : (n : ℕ) (xs : List ℕ) (c : ℕ) → slice_get xs n ≡ Some c → is_plain c ≡ true → ends_plain (take (suc n) xs) ≡ true
ends_get n [] c there plain = absurd cc
ends_get zero (x ∷ xs) c there plain = ap is_plain (ap (λ (o : Option ℕ). unwrap_or o c) there) ∙ plain
ends_get (suc n) (x ∷ []) c there plain = absurd cc
ends_get (suc n) (x ∷ y ∷ xs) c there plain = ends_get n (y ∷ xs) c there plain

take_get : (n k : ℕ) (xs : List ℕ) → k < n → slice_get (take n xs) k ≡ slice_get xs k
take_get zero k xs lt = absurd (omega (arith, lt))
take_get (suc n) k [] lt = refl
take_get (suc n) zero (x ∷ xs) lt = refl
take_get (suc n) (suc k) (x ∷ xs) lt = take_get n k xs (omega (arith, lt))

starts_taken : (p : ℕ → Bool) (n : ℕ) (xs : List ℕ) → 0 < n → starts p xs ≡ true → starts p (take n xs) ≡ true
starts_taken p zero xs some h = absurd (omega (arith, some))
starts_taken p (suc n) [] some h = h
starts_taken p (suc n) (x ∷ xs) some h = h

some_bytes : (xs : List ℕ) → 0 < length xs → starts is_some_byte xs ≡ true
some_bytes [] lt = absurd (omega (arith, lt))
some_bytes (x ∷ xs) lt = refl

module _ (file : ℕ) (bytes : List ℕ) (none : open_comment_of bytes ≡ None) where
  abbrev pub B : ℕ → ℕ
  B k = first_of bytes (tokens_of file bytes) k

  abbrev pub E : ℕ → ℕ
  E k = end_of bytes (tokens_of file bytes) k

  abbrev pub many : ℕ
  many = length (tokens_of file bytes)

  wide_bytes : Widens B E many
  wide_bytes = bytes_widen file bytes none

  -- What is so of the bytes of a good token.
  record Plain (k : ℕ) : Type 0 where
    first : starts is_plain (drop (B k) bytes) ≡ true
    first_whole : whole_at bytes (B k)
    within : B k < length bytes
    last : (c : ℕ) × (slice_get bytes (E (suc k) - 1) ≡ Some c) × (is_plain c ≡ true)
    last_whole : whole_at bytes (E (suc k))
    end_within : E (suc k) ≤ length bytes
    some : 0 < E (suc k)

  plain_token : (k : ℕ) → Good file bytes k → Plain k
  plain_token k g =
      let toks = tokens_of file bytes in
      let S = chars_of bytes in
      let f = facts file bytes none k g in
      let short = slice_get_within toks k f.tok f.there in
      let t = token_bytes file bytes none k short in
      let char : f.c ≡ t.first.c.byte =
      ap (λ (o : Option ℕ). unwrap_or o f.c) (sym (ap (λ (l : List ℕ). slice_get l 0) f.here) ∙ get_drop (place_of toks k) 0 S
      ∙ ap (slice_get S) (plus_zero (place_of toks k)) ∙ t.first.char) in
      let plain_first : is_plain f.c ≡ true = sym (ap (starts is_plain) f.text) ∙ f.fine.first in
      let l = last_get f.tok.text f.fine.first in
      let ends = f.ends in
      let within = f.ends_within in
      let long : length f.tok.text ≡ suc f.word = text_long f.tok.text f.c f.rest f.word f.text (get_room (place_of toks k) f.c f.rest f.word f.here (omega (arith, ends, within))) in
      let n : length f.tok.text - 1 ≡ f.word = omega (arith, long) in
      let at : place_of toks k + f.word ≡ end_place toks (suc k) - 1 = omega (arith, ends) in
      let in_text : slice_get S (end_place toks (suc k) - 1) ≡ Some l.0 =
      ap (slice_get S) (sym at) ∙ sym (get_drop (place_of toks k) f.word S) ∙ ap (λ (xs : List ℕ). slice_get xs f.word) f.here
      ∙ sym (take_get (suc f.word) f.word (f.c ∷ f.rest) (omega arith)) ∙ ap (λ (xs : List ℕ). slice_get xs f.word) (sym f.text) ∙ ap (slice_get f.tok.text) (sym n) ∙ l.1 in
      let char2 : l.0 ≡ t.last.c.byte = ap (λ (o : Option ℕ). unwrap_or o l.0) (sym in_text ∙ t.last.char) in
      let less : E (suc k) - 1 ≡ t.last.c.offset = ap (λ (m : ℕ). m - 1) t.end_is ∙ minus_one t.last.c.offset in
      let here : slice_get bytes (E (suc k) - 1) ≡ Some t.last.c.byte =
      ap (slice_get bytes) (less ∙ sym (plus_zero t.last.c.offset)) ∙ sym (get_drop t.last.c.offset 0 bytes) ∙ ap (λ (xs : List ℕ). slice_get xs 0) t.last.here in
      let in_bytes = slice_get_within bytes (E (suc k) - 1) t.last.c.byte here in
      let end = t.end_is in
      record {
        first = ap (λ (m : ℕ). starts is_plain (drop m bytes)) t.first_is ∙ ap (starts is_plain) t.first.here ∙ ap is_plain (sym char) ∙ plain_first;
        first_whole = subst (whole_at bytes) (sym t.first_is) t.first.whole;
        within = rw t.first_is (drop_long bytes t.first.c.offset t.first.c.byte t.first.rest t.first.here);
        last = (t.last.c.byte, here, ap is_plain (sym char2) ∙ l.2 f.fine.last);
        last_whole = subst (whole_at bytes) (sym t.end_is) t.last.next_whole;
        end_within = omega (arith, in_bytes, end);
        some = omega (arith, end);
      }
    where
      plus_zero : (n : ℕ) → n + 0 ≡ n
      plus_zero n = omega arith

      minus_one : (n : ℕ) → suc n - 1 ≡ n
      minus_one n = omega arith

      drop_long : (xs : List ℕ) (n : ℕ) (c : ℕ) (rest : List ℕ) → drop n xs ≡ c ∷ rest → n < length xs
      drop_long xs n c rest h = let a = length-drop n xs in let b = ap length h in omega (arith, a, b)

      get_room : (p c : ℕ) (rest : List ℕ) (n : ℕ) → drop p (chars_of bytes) ≡ c ∷ rest → p + suc n ≤ length (chars_of bytes) → suc n ≤ length (c ∷ rest)
      get_room p c rest n h le = let a = length-drop p (chars_of bytes) in let b = ap length h in omega (arith, a, b, le)

      text_long : (text : List ℕ) (c : ℕ) (rest : List ℕ) (n : ℕ) → text ≡ take (suc n) (c ∷ rest) → suc n ≤ length (c ∷ rest) → length text ≡ suc n
      text_long text c rest n h le = ap length h ∙ length-take-le (suc n) (c ∷ rest) le

  -- ---- parts

  gone_inside : (x z : ℕ) → x ≤ z → whole_at bytes x → whole_at bytes z → skip_gone 0 (seg bytes x z) (drop z bytes) ≡ 0
  gone_inside x z le first last =
      let rest = seg_rest bytes x z le in
      let all = seg_front bytes x z le in
      let skip0 : skip_gone 0 (take x bytes) (seg bytes x z ++ drop z bytes) ≡ 0 = ap (skip_gone 0 (take x bytes)) rest ∙ first in
      ap (λ (k : ℕ). skip_gone k (seg bytes x z) (drop z bytes)) (sym skip0) ∙ sym (gone_parts 0 (take x bytes) (seg bytes x z) (drop z bytes))
      ∙ ap (λ (l : List ℕ). skip_gone 0 l (drop z bytes)) all ∙ last

  seam_to : (x l : ℕ) → whole_at bytes x → x ≤ B l → Plain l → is_seam 0 (seg bytes x (B l)) [] ≡ true
  seam_to x l first le p = seam_lead 0 (seg bytes x (B l)) (drop (B l) bytes) (gone_inside x (B l) le first p.first_whole) p.first

  plain_end : (x k : ℕ) → x < E (suc k) → Plain k → ends_plain (seg bytes x (E (suc k))) ≡ true
  plain_end x k lt p =
      let n = E (suc k) - 1 - x in
      let size : E (suc k) - x ≡ suc n = omega (arith, lt) in
      let at : x + n ≡ E (suc k) - 1 = omega (arith, lt) in
      ap (λ (m : ℕ). ends_plain (take m (drop x bytes))) size
      ∙ ends_get n (drop x bytes) p.last.0 (get_drop x n bytes ∙ ap (slice_get bytes) at ∙ p.last.1) p.last.2

  seam_over : (x k : ℕ) → whole_at bytes x → x < E (suc k) → Plain k → is_seam 0 (seg bytes x (E (suc k))) [] ≡ true
  seam_over x k first lt p =
      seam_end 0 (seg bytes x (E (suc k))) (drop (E (suc k)) bytes) (gone_inside x (E (suc k)) (omega (arith, lt)) first p.last_whole) (plain_end x k lt p)

  bytes_long : (x z : ℕ) → x < z → z ≤ length bytes → 0 < length (seg bytes x z)
  bytes_long x z lt within =
      let d = length-drop x bytes in
      let t = length-take-le (z - x) (drop x bytes) (omega (arith, d, within)) in
      omega (arith, t, lt)

  -- what is so of the byte where a part begins
  pub record Start (i x : ℕ) : Type 0 where
    pub whole : whole_at bytes x
    pub point : Point B E many i x

  past_begin : (i x l : ℕ) → Point B E many i x → i < l → l < many → x < B l
  past_begin i x l p lt within =
      let a = p.before l (omega (arith, lt)) (omega (arith, within)) lt in
      let c = wide_bytes.apart l l (omega (arith, lt)) (omega arith) within in
      omega (arith, a, c)

  led_bytes : (i : ℕ) (c : Cut) → Formed c → IsLed c → i + extent_of c ≤ many → IsLed (widened B E i (B i) c)
  unfolding widened extent_of
  led_bytes i done f led within = tt
  led_bytes i (keep k done) f led within = absurd f.0
  led_bytes i (keep k (keep n c)) f led within = absurd f.0
  led_bytes i (keep k (list is c)) f led within =
      let long = span_some B E many wide_bytes is f.1.2 f.1.0 in
      let grows = begin_grows B E many wide_bytes i (i + k) (omega (arith, led)) (omega (arith, within, long)) in
      omega (arith, grows)
  led_bytes i (list is c) f led within = absurd led

  count_bytes : (i : ℕ) (is : Items) → 0 < count_of is → 0 < count_of (widened_items B E i is)
  unfolding widened_items count_of
  count_bytes i ended some = some
  count_bytes i (item n c gap more) some = omega arith

  has_bytes : (m j : ℕ) (c : Cut) → Formed c → IsLed c → m + extent_of c ≤ j → j ≤ many → 0 < m → E j ≤ length bytes → HasBytes (widened B E m (E m) c) (seg bytes (E m) (E j))
  unfolding widened extent_of
  has_bytes m j done f led within le some inside = tt
  has_bytes m j (keep k done) f led within le some inside = absurd f.0
  has_bytes m j (keep k (keep n c)) f led within le some inside = absurd f.0
  has_bytes m j (keep k (list is c)) f led within le some inside =
      let long = span_some B E many wide_bytes is f.1.2 f.1.0 in
      let l = m + k in
      let short : l < many = omega (arith, within, le, long) in
      let past = past_begin m (E m) l (at_end B E many wide_bytes m some (omega (arith, within, le))) (omega (arith, led)) short in
      let later = (at_begin B E many wide_bytes l short).before j (omega (arith, within, some)) le (omega (arith, within, long)) in
      starts_taken is_some_byte (B l - E m) (seg bytes (E m) (E j)) (omega (arith, past)) (some_bytes (seg bytes (E m) (E j)) (bytes_long (E m) (E j) (omega (arith, past, later)) inside))
  has_bytes m j (list is c) f led within le some inside = absurd led

  ends_byte : (k j : ℕ) → suc k ≡ j → Good file bytes k → (whole_at bytes (E j)) × (E j ≤ length bytes)
  ends_byte k j on g =
      let p = plain_token k g in
      (subst (λ (q : ℕ). whole_at bytes (E q)) on p.last_whole, subst (λ (q : ℕ). E q ≤ length bytes) on p.end_within)

  done_seam : (i x j : ℕ) → Start i x → i ≤ j → (i ≡ j → x ≡ E j) → AllGood file bytes i j → 0 < j → j ≤ many → SeamsAlong done (seg bytes x (E j))
  unfolding is_seam
  done_seam i x j s low over goods some le = elim (cases_Bool (nat_le j i)) [
    | inl ends ↦
        let high = leb-true j i ends in
        let same : i ≡ j = omega (arith, low, high) in
        let empty : seg bytes x (E j) ≡ [] = ap (λ (k : ℕ). seg bytes k (E j)) (over same) ∙ seg_none bytes (E j) in
        subst (λ (l : List ℕ). SeamsAlong done l) (sym empty) (refl, refl)
    | inr on ↦
        let lt = leb-false j i on in
        let past = s.point.before j some le lt in
        let back_one : suc (j - 1) ≡ j = omega (arith, some) in
        let p = plain_token (j - 1) (goods (j - 1) (omega (arith, lt)) (omega (arith, some))) in
        subst (λ (q : ℕ). x < E q → SeamsAlong done (seg bytes x (E q))) back_one (λ h. (seam_over x (j - 1) s.whole h p, plain_end x (j - 1) h p)) past
  ]

  last_byte : (i : ℕ) (is : Items) → FormedItems is → 0 < count_of is → TreeItems file bytes i is → (whole_at bytes (E (i + span_of is))) × (E (i + span_of is) ≤ length bytes)
  unfolding span_of count_of
  last_byte i ended f some t = absurd (omega (arith, some))
  last_byte i (item n c gap ended) f some t =
      let none_left : gap ≡ 0 = f.4 in
      let long = f.0 in
      let on : suc (i + n - 1) ≡ i + (n + (gap + 0)) = omega (arith, none_left, long) in
      ends_byte (i + n - 1) (i + (n + (gap + 0))) on t.3
  last_byte i (item n c gap (item n2 c2 gap2 more)) f some t =
      let same : i + (n + gap) + span_of (item n2 c2 gap2 more) ≡ i + (n + (gap + span_of (item n2 c2 gap2 more))) = omega arith in
      subst (λ (k : ℕ). (whole_at bytes (E k)) × (E k ≤ length bytes)) same (last_byte (i + (n + gap)) (item n2 c2 gap2 more) f.5 (omega arith) t.6)

  gap_seam : (i n gap : ℕ) (c : Cut) (more : Items) (j : ℕ) → FormedItems (item n c gap more) → i + (n + (gap + span_of more)) ≤ j → j ≤ many → E j ≤ length bytes → TreeItems file bytes i (item n c gap more)
      → GapSeams (gap_before more (B (i + (n + gap)) - E (i + n))) (widened_items B E (i + (n + gap)) more) (drop (E (i + n) - B i) (seg bytes (B i) (E j)))
  unfolding widened_items span_of count_of
  gap_seam i n gap c ended j f within le inside t = refl
  gap_seam i n gap c (item n2 c2 gap2 more) j f within le inside t =
      let k = i + n in
      let l = i + (n + gap) in
      let some = f.0 in
      let later = f.5.0 in
      let y = E j in
      let over : k + gap ≡ l = omega arith in
      let leads : Leads file bytes l = subst (λ (q : ℕ). Leads file bytes q) over t.5.2 in
      let wide : 0 < gap = t.5.0 in
      let short : l < many = omega (arith, within, le, later) in
      let last : k ≤ many = omega (arith, within, le) in
      let on : suc (k - 1) ≡ k = omega (arith, some) in
      let big = wide_bytes.whole i k (omega (arith, some)) last in
      let past : E k < B l = past_begin k (E k) l (at_end B E many wide_bytes k (omega (arith, some)) last) (omega (arith, wide)) short in
      let top : B l ≤ y = let x = (at_begin B E many wide_bytes l short).before j (omega (arith, within, some)) le (omega (arith, within, later)) in omega (arith, x) in
      let there : drop (E k - B i) (seg bytes (B i) y) ≡ seg bytes (E k) y = seg_drop bytes (B i) (E k) y (omega (arith, big)) (omega (arith, past, top)) in
      let first : take (B l - E k) (seg bytes (E k) y) ≡ seg bytes (E k) (B l) = seg_take bytes (E k) (B l) y top in
      let whole = (ends_byte (k - 1) k on t.3).0 in
      let p = plain_token l leads.at in
      subst (λ (xs : List ℕ). GapSeams (B l - E k) (widened_items B E l (item n2 c2 gap2 more)) xs) (sym there) (
        starts_taken is_some_byte (B l - E k) (seg bytes (E k) y) (omega (arith, past)) (some_bytes (seg bytes (E k) y) (bytes_long (E k) y (omega (arith, past, top)) inside)),
        ap (λ (xs : List ℕ). is_seam 0 xs []) first ∙ seam_to (E k) l whole (omega (arith, past)) p,
      )

  more_seams : (i n gap : ℕ) (c : Cut) (more : Items) (j : ℕ) → FormedItems (item n c gap more) → i + (n + (gap + span_of more)) ≤ j → j ≤ many
      → ItemsSeams (widened_items B E (i + (n + gap)) more) (seg bytes (B (i + (n + gap))) (E j))
      → ItemsSeams (widened_items B E (i + (n + gap)) more) (drop (E (i + n) - B i + gap_before more (B (i + (n + gap)) - E (i + n))) (seg bytes (B i) (E j)))
  unfolding widened_items span_of count_of
  more_seams i n gap c ended j f within le rest = tt
  more_seams i n gap c (item n2 c2 gap2 more) j f within le rest =
      let k = i + n in
      let l = i + (n + gap) in
      let some = f.0 in
      let later = f.5.0 in
      let y = E j in
      let short : l < many = omega (arith, within, le, later) in
      let last : k ≤ many = omega (arith, within, le) in
      let big = wide_bytes.whole i k (omega (arith, some)) last in
      let past = wide_bytes.apart k l (omega (arith, some)) (omega arith) short in
      let top = (at_begin B E many wide_bytes l short).before j (omega (arith, within, some)) le (omega (arith, within, later)) in
      let sum : E k - B i + (B l - E k) ≡ B l - B i = omega (arith, big, past) in
      let there : drop (E k - B i + (B l - E k)) (seg bytes (B i) y) ≡ seg bytes (B l) y =
      ap (λ (m : ℕ). drop m (seg bytes (B i) y)) sum ∙ seg_drop bytes (B i) (B l) y (omega (arith, big, past)) (omega (arith, top)) in
      subst (λ (xs : List ℕ). ItemsSeams (widened_items B E l (item n2 c2 gap2 more)) xs) (sym there) rest

  mutual
    unfolding widened widened_items extent_of span_of count_of

    pub seams_of : (i x j : ℕ) (c : Cut) → Formed c → IsLed c → i + extent_of c ≤ j → j ≤ many → 0 < j → E j ≤ length bytes → Start i x → (i ≡ j → x ≡ E j) → Tree file bytes i c j
        → SeamsAlong (widened B E i x c) (seg bytes x (E j))
    seams_of i x j done f led within le some inside s over t = done_seam i x j s t.0 over t.1 some le
    seams_of i x j (keep k done) f led within le some inside s over t = absurd f.0
    seams_of i x j (keep k (keep n c)) f led within le some inside s over t = absurd f.0
    seams_of i x j (keep k (list is c)) f led within le some inside s over t =
        let l = i + k in
        let m = l + span_of is in
        let y = E j in
        let long = span_some B E many wide_bytes is f.1.2 f.1.0 in
        let short : l < many = omega (arith, within, le, long) in
        let last : m ≤ many = omega (arith, within, le) in
        let past = past_begin i x l s.point (omega (arith, led)) short in
        let big = wide_bytes.whole l m (omega (arith, long)) last in
        let top = end_keeps B E many wide_bytes m j (omega (arith, long)) (omega (arith, within)) le in
        let high : B l ≤ y = omega (arith, big, top) in
        let p = plain_token l t.0.at in
        let tr = t.1 in
        let items = items_seams_of l j is f.1.2 (omega (arith, within)) le inside tr.2 in
        let ended_whole = last_byte l is f.1.2 f.1.0 tr.2 in
        let has = has_bytes m j c f.1.4 tr.0 (omega (arith, within)) le (omega (arith, long)) inside in
        let next : Start m (E m) = record { whole = ended_whole.0; point = at_end B E many wide_bytes m (omega (arith, long)) last } in
        let rest = seams_of m (E m) j c f.1.4 tr.0 (omega (arith, within)) le some inside next (λ same. ap E same) tr.3 in
        let wide = span_widened B E many wide_bytes l is f.1.2 f.1.0 last in
        let xs2 = seg bytes (B l) y in
        let there : drop (span_of (widened_items B E l is)) xs2 ≡ seg bytes (E m) y = ap (λ (n : ℕ). drop n xs2) wide ∙ seg_drop bytes (B l) (E m) y (omega (arith, big)) top in
        let in_list : SeamsAlong (list (widened_items B E l is) (widened B E m (E m) c)) xs2 = (
          count_bytes l is f.1.0,
          items,
          subst (λ (xs : List ℕ). HasBytes (widened B E m (E m) c) xs) (sym there) has,
          subst (λ (xs : List ℕ). SeamsAlong (widened B E m (E m) c) xs) (sym there) rest,
        ) in (
          tt,
          ap (λ (xs : List ℕ). is_seam 0 xs []) (seg_take bytes x (B l) y high) ∙ seam_to x l s.whole (omega (arith, past)) p,
          subst (λ (xs : List ℕ). SeamsAlong (list (widened_items B E l is) (widened B E m (E m) c)) xs) (sym (seg_drop bytes x (B l) y (omega (arith, past)) high)) in_list,
        )
    seams_of i x j (list is c) f led within le some inside s over t = absurd led

    items_seams_of : (i j : ℕ) (is : Items) → FormedItems is → i + span_of is ≤ j → j ≤ many → E j ≤ length bytes → TreeItems file bytes i is → ItemsSeams (widened_items B E i is) (seg bytes (B i) (E j))
    items_seams_of i j ended f within le inside t = tt
    items_seams_of i j (item n c gap more) f within le inside t =
        let k = i + n in
        let some = f.0 in
        let small = f.1 in
        let short : i < many = omega (arith, within, le, some) in
        let last : k ≤ many = omega (arith, within, le) in
        let big = wide_bytes.whole i k (omega (arith, some)) last in
        let top = end_keeps B E many wide_bytes k j (omega (arith, some)) (omega (arith, within)) le in
        let xs = seg bytes (B i) (E j) in
        let first : take (E k - B i) xs ≡ seg bytes (B i) (E k) = seg_take bytes (B i) (E k) (E j) top in
        let p = plain_token i t.2 in
        let start : Start i (B i) = record { whole = p.first_whole; point = at_begin B E many wide_bytes i short } in
        let inner = seams_of i (B i) k c f.3 t.1 (omega (arith, small)) last (omega (arith, some)) (omega (arith, top, inside)) start (λ same. absurd (omega (arith, same, some))) t.4 in
        let rest = items_seams_of (i + (n + gap)) j more f.5 (omega (arith, within)) le inside t.6 in (
          led_bytes i c f.3 t.1 (omega (arith, small, last)),
          ap (starts is_plain) first ∙ starts_taken is_plain (E k - B i) (drop (B i) bytes) (omega (arith, big)) p.first,
          extent_widened B E many wide_bytes i (B i) k c f.3 f.2 (omega (arith, small)) last (omega (arith, some)) (at_begin B E many wide_bytes i short) (omega arith),
          subst (λ (us : List ℕ). SeamsAlong (widened B E i (B i) c) us) (sym first) inner,
          gap_seam i n gap c more j f within le inside t,
          more_seams i n gap c more j f within le rest,
        )
