-- The characters of a file may stand elsewhere along the cut of its lists.
use Rattle.std.proofs.Common.{◌≡◌, ℕ, zero, suc, ◌+◌, ◌-◌, ◌<◌, ◌≤◌, Bool, true, false, not, ◌||◌, nat_le, List, [], ◌∷◌, ◌++◌, length, take, drop, get_or, Option, None, inl, inr, refl, sym, ap, subst, ◌∙◌, arith, length-take-le, length-drop}
use Rattle.std.specs.Prelude.{unwrap_or}
use Rattle.std.proofs.lemmas.Bool.{cases_Bool, leb-true, leb-false}
use Rattle.std.proofs.lemmas.List.{length-map, take-map, drop-map, drop-drop, take-take, drop-take}
use Rattle.cs_base.specs.Token.{Token}
use Rattle.lexer.specs.Logical.{logical_of}
use Rattle.lexer.specs.Tokens.{is_hash_text, leaves_gap, line_front_after, piece_of, tokens_of, open_comment_of}
use Rattle.line_shape.specs.Signs.{is_hash}
use Rattle.list_cuts.specs.Cuts.{Cut, done, keep, list, Items, ended, item, count_of, span_of, extent_of}
use Rattle.arranged_text_laws.specs.Labels.{IsLed}
use Rattle.arranged_text_laws.specs.Settling.{begins_stop, gap_behind, front_behind}
use Rattle.arranged_text_laws.specs.Marks.{file_front, line_start, some_tokens, Before, front_at, behind_token, Mark, text, marks_of}
use Rattle.arranged_text_laws.specs.Along.{is_none, Leaves, BeginsToken, HasStop}
use Rattle.arranged_text_laws.specs.Parts.{IsEnd, IsLead, EndsItem, IsGap, PartsAlong, ItemsParts}
use Rattle.arranged_text_laws.proofs.FileLemmas.{text_marks}
use Rattle.arranged_text_laws.specs.Lists.{passes, may_begin, place_of}
use Rattle.arranged_text_laws.proofs.Formed.{IsKept, Formed, FormedItems}
use Rattle.arranged_text_laws.proofs.Widened.{gap_before, widened, widened_items, Widens, Point, begin_grows, end_grows, end_keeps, at_begin, at_end, span_some, span_widened}
use Rattle.arranged_text_laws.proofs.WeighedCut.{weight}
use Rattle.arranged_text_laws.proofs.FileWalk.{chars_of, weights_of}
use Rattle.arranged_text_laws.proofs.Bounds.{end_place, end_at, the_token, chars_widen, begins_weigh, ends_weigh}
use Rattle.arranged_text_laws.proofs.GoodTokens.{Good, passed}
use Rattle.arranged_text_laws.proofs.Tree.{ends_item, Ends, Leads, AllGood, Tree, TreeItems}
use Rattle.arranged_text_laws.proofs.PartFound.{StateAt, Behind, seg, seg_rest}
use Rattle.arranged_text_laws.proofs.TokenFacts.{Facts, facts, stop_at}
use Rattle.arranged_text_laws.proofs.FromThere.{From, from_state, from_token}
use Rattle.arranged_text_laws.proofs.CharParts.{lead_part, end_part}

-- ---- segments

pub seg_take : {X : Type 0} (xs : List X) (x z y : ℕ) → z ≤ y → take (z - x) (seg xs x y) ≡ seg xs x z
seg_take xs x z y le = take-take (z - x) (y - x) (drop x xs) (omega (arith, le))

pub seg_drop : {X : Type 0} (xs : List X) (x z y : ℕ) → x ≤ z → z ≤ y → drop (z - x) (seg xs x y) ≡ seg xs z y
seg_drop xs x z y low high =
    let sum : (z - x) + (y - z) ≡ y - x = omega (arith, low, high) in
    let on : x + (z - x) ≡ z = omega (arith, low) in
    ap (λ (n : ℕ). drop (z - x) (take n (drop x xs))) (sym sum) ∙ drop-take (z - x) (y - z) (drop x xs)
    ∙ ap (take (y - z)) (drop-drop (z - x) x xs ∙ ap (λ (n : ℕ). drop n xs) on)

pub seg_none : {X : Type 0} (xs : List X) (x : ℕ) → seg xs x x ≡ []
seg_none xs x = let none : x - x ≡ 0 = omega arith in ap (λ (n : ℕ). take n (drop x xs)) none

-- ---- how far a cut goes

module _ (b e : ℕ → ℕ) (size : ℕ) (w : Widens b e size) where
  pub extent_widened : (i x j : ℕ) (c : Cut) → Formed c → IsKept c → i + extent_of c ≤ j → j ≤ size → 0 < j → Point b e size i x → i ≤ j → extent_of (widened b e i x c) ≤ e j - x
  unfolding widened extent_of
  extent_widened i x j done f kept within le some p low = omega arith
  extent_widened i x j (keep k done) f kept within le some p low = absurd f.0
  extent_widened i x j (keep k (keep n c)) f kept within le some p low = absurd f.0
  extent_widened i x j (keep k (list is c)) f kept within le some p low =
      let l = i + k in
      let m = l + span_of is in
      let long = span_some b e size w is f.1.2 f.1.0 in
      let wide = span_widened b e size w l is f.1.2 f.1.0 (omega (arith, within, le)) in
      let at : x ≤ b l = p.on l (omega (arith, within, le, long)) (omega arith) in
      let big = w.whole l m (omega (arith, long)) (omega (arith, within, le)) in
      let top = end_keeps b e size w m j (omega (arith, long)) (omega (arith, within)) le in
      let rest = extent_widened m (e m) j c f.1.4 f.1.3 (omega (arith, within)) le some (at_end b e size w m (omega (arith, long)) (omega (arith, within, le))) (omega (arith, within)) in
      omega (arith, wide, at, big, top, rest)
  extent_widened i x j (list is c) f kept within le some p low = absurd kept

  extent_some : (n : ℕ) (c : Cut) → Formed (keep n c) → 0 < extent_of (keep n c)
  unfolding extent_of
  extent_some n done f = absurd f.0
  extent_some n (keep k c) f = absurd f.0
  extent_some n (list is c) f = let long = span_some b e size w is f.1.2 f.1.0 in omega (arith, long)

  -- the whole cut goes to the end of its last list
  pub extent_is : (i x : ℕ) (c : Cut) → Formed c → IsKept c → 0 < extent_of c → i + extent_of c ≤ size → Point b e size i x → x + extent_of (widened b e i x c) ≡ e (i + extent_of c)
  unfolding widened extent_of
  extent_is i x done f kept some within p = absurd (omega (arith, some))
  extent_is i x (keep k done) f kept some within p = absurd f.0
  extent_is i x (keep k (keep n c)) f kept some within p = absurd f.0
  extent_is i x (keep k (list is done)) f kept some within p =
      let l = i + k in
      let m = l + span_of is in
      let long = span_some b e size w is f.1.2 f.1.0 in
      let wide = span_widened b e size w l is f.1.2 f.1.0 (omega (arith, within)) in
      let at : x ≤ b l = p.on l (omega (arith, within, long)) (omega arith) in
      let big = w.whole l m (omega (arith, long)) (omega (arith, within)) in
      let same : m ≡ i + (k + (span_of is + 0)) = omega arith in
      let ends = ap e same in
      omega (arith, wide, at, big, ends)
  extent_is i x (keep k (list is (keep n c))) f kept some within p =
      let l = i + k in
      let m = l + span_of is in
      let long = span_some b e size w is f.1.2 f.1.0 in
      let wide = span_widened b e size w l is f.1.2 f.1.0 (omega (arith, within)) in
      let at : x ≤ b l = p.on l (omega (arith, within, long)) (omega arith) in
      let big = w.whole l m (omega (arith, long)) (omega (arith, within)) in
      let rest = extent_is m (e m) (keep n c) f.1.4 f.1.3 (extent_some n c f.1.4) (omega (arith, within)) (at_end b e size w m (omega (arith, long)) (omega (arith, within))) in
      let same : m + (n + extent_of c) ≡ i + (k + (span_of is + (n + extent_of c))) = omega arith in
      let ends = ap e same in
      omega (arith, wide, at, big, rest, ends)
  extent_is i x (keep k (list is (list is2 c))) f kept some within p = absurd f.1.3
  extent_is i x (list is c) f kept some within p = absurd kept

-- ---- characters

-- a state from which nothing is read leaves itself
rest_leaves : (ys : List ℕ) → (gap_behind 0 behind_token.gap (front_at behind_token) [] ys ≡ behind_token.gap) × (front_behind 0 (front_at behind_token) [] ys ≡ front_at behind_token)
unfolding gap_behind front_behind
rest_leaves ys = (refl, refl)

begins_from : (ms : List Mark) (ys : List ℕ) (c : ℕ) (R : List ℕ) → text ms ++ ys ≡ c ∷ R → 0 < length ms → leaves_gap (piece_of false c R) ≡ false
    → line_front_after (c ∷ R) line_start (piece_of false c R) ≡ some_tokens → line_front_after (c ∷ R) some_tokens (piece_of false c R) ≡ some_tokens → BeginsToken ms ys
begins_from [] ys c R e some gap start later = absurd (omega (arith, some))
begins_from (m ∷ ms) ys c R e some gap start later =
    let head : m.byte ≡ c = ap (λ (l : List ℕ). get_or l 0 m.byte) e in
    let tail : text ms ++ ys ≡ R = ap (λ (l : List ℕ). drop 1 l) e in (
      ap (λ (d : ℕ). leaves_gap (piece_of false d (text ms ++ ys))) head ∙ ap (λ (l : List ℕ). leaves_gap (piece_of false c l)) tail ∙ gap,
      ap (λ (d : ℕ). line_front_after (d ∷ (text ms ++ ys)) line_start (piece_of false d (text ms ++ ys))) head
          ∙ ap (λ (l : List ℕ). line_front_after (c ∷ l) line_start (piece_of false c l)) tail ∙ start,
      ap (λ (d : ℕ). line_front_after (d ∷ (text ms ++ ys)) some_tokens (piece_of false d (text ms ++ ys))) head
          ∙ ap (λ (l : List ℕ). line_front_after (c ∷ l) some_tokens (piece_of false c l)) tail ∙ later,
    )

stop_taken : (n : ℕ) (xs ys : List ℕ) → 0 < n → 0 < length xs → begins_stop (xs ++ ys) ≡ true → begins_stop (take n xs) ≡ true
stop_taken n [] ys some long h = absurd (omega (arith, long))
stop_taken zero (x ∷ xs) ys some long h = absurd (omega (arith, some))
stop_taken (suc n) (x ∷ xs) ys some long h = h

stop_front : (xs ys : List ℕ) → 0 < length xs → begins_stop (xs ++ ys) ≡ true → begins_stop xs ≡ true
stop_front [] ys long h = absurd (omega (arith, long))
stop_front (x ∷ xs) ys long h = h

module _ (file : ℕ) (bytes : List ℕ) (none : open_comment_of bytes ≡ None) where
  abbrev pub b : ℕ → ℕ
  b k = place_of (tokens_of file bytes) k

  abbrev pub e : ℕ → ℕ
  e k = end_place (tokens_of file bytes) k

  abbrev pub size : ℕ
  size = length (tokens_of file bytes)

  widens : Widens b e size
  widens = chars_widen file bytes none

  text_all : text (marks_of bytes) ≡ chars_of bytes
  text_all = text_marks bytes 0 (logical_of bytes)

  pub text_drop : (z : ℕ) → text (drop z (marks_of bytes)) ≡ drop z (chars_of bytes)
  text_drop z = sym (drop-map (λ (m : Mark). m.byte) z (marks_of bytes)) ∙ ap (λ (l : List ℕ). drop z l) text_all

  text_seg : (x z : ℕ) → text (seg (marks_of bytes) x z) ≡ seg (chars_of bytes) x z
  text_seg x z = sym (take-map (λ (m : Mark). m.byte) (z - x) (drop x (marks_of bytes))) ∙ ap (take (z - x)) (text_drop x)

  -- the first part, and what stands behind it
  part_text : (x z y : ℕ) → z ≤ y → text (take (z - x) (seg (marks_of bytes) x y)) ≡ seg (chars_of bytes) x z
  part_text x z y le = ap text (seg_take (marks_of bytes) x z y le) ∙ text_seg x z

  rest_text : (x z y : ℕ) → x ≤ z → z ≤ y → text (drop (z - x) (seg (marks_of bytes) x y)) ++ text (drop y (marks_of bytes)) ≡ drop z (chars_of bytes)
  rest_text x z y low high =
      ap (λ (l : List Mark). text l ++ text (drop y (marks_of bytes))) (seg_drop (marks_of bytes) x z y low high)
      ∙ ap (λ (l : List ℕ). l ++ text (drop y (marks_of bytes))) (text_seg z y) ∙ ap (λ (l : List ℕ). seg (chars_of bytes) z y ++ l) (text_drop y)
      ∙ seg_rest (chars_of bytes) z y high

  rest_marks : (x z y : ℕ) → x ≤ z → z ≤ y → text (drop (z - x) (seg (marks_of bytes) x y)) ++ text (drop y (marks_of bytes)) ≡ text (drop z (marks_of bytes))
  rest_marks x z y low high = rest_text x z y low high ∙ sym (text_drop z)

  seg_long : (x z : ℕ) → x < z → z ≤ length (chars_of bytes) → 0 < length (seg (chars_of bytes) x z)
  seg_long x z lt within =
      let d = length-drop x (chars_of bytes) in
      let t = length-take-le (z - x) (drop x (chars_of bytes)) (omega (arith, d, within)) in
      omega (arith, t, lt)

  hash_none : (k : ℕ) (f : Facts file bytes k) → passes may_begin (tokens_of file bytes) k ≡ true → is_hash_text f.tok.text ≡ false
  hash_none k f may =
      let p = passed may_begin (tokens_of file bytes) k may in
      let same : p.0 ≡ f.tok = ap (λ (o : Option Token). unwrap_or o p.0) (sym p.1 ∙ f.there) in
      sym f.first_hash ∙ not_true (is_hash f.tok) (ap may_begin (sym same) ∙ p.2)
    where
      not_true : (b : Bool) → not b ≡ true → b ≡ false
      not_true true h = absurd cc
      not_true false h = refl

  -- an item begins with a token
  begins_item_at : (k y : ℕ) → Good file bytes k → passes may_begin (tokens_of file bytes) k ≡ true → b k < y → y ≤ length (chars_of bytes)
      → BeginsToken (seg (marks_of bytes) (b k) y) (text (drop y (marks_of bytes)))
  unfolding file_front
  begins_item_at k y g may lt within =
      let f = facts file bytes none k g in
      let no_hash = hash_none k f may in
      let hash : is_hash_text (take (suc f.word) (f.c ∷ f.rest)) ≡ false = ap is_hash_text (sym f.text) ∙ no_hash in
      let whole : text (seg (marks_of bytes) (b k) y) ++ text (drop y (marks_of bytes)) ≡ f.c ∷ f.rest =
      ap (λ (l : List ℕ). l ++ text (drop y (marks_of bytes))) (text_seg (b k) y) ∙ ap (λ (l : List ℕ). seg (chars_of bytes) (b k) y ++ l) (text_drop y)
      ∙ seg_rest (chars_of bytes) (b k) y (omega (arith, lt)) ∙ f.here in
      let some : 0 < length (seg (marks_of bytes) (b k) y) =
      rw (← length-map (seg (marks_of bytes) (b k) y) (λ (m : Mark). m.byte)) (rw (text_seg (b k) y) (seg_long (b k) y lt within)) in
      begins_from (seg (marks_of bytes) (b k) y) (text (drop y (marks_of bytes))) f.c f.rest whole some f.gap
      (f.front (f.c ∷ f.rest) line_start ∙ rw hash refl) (f.front (f.c ∷ f.rest) some_tokens)

  -- a stop stands first where a part ends
  pub stop_behind : (j : ℕ) → StateAt bytes (e j) behind_token → 0 < j → j ≤ size → passes ends_item (tokens_of file bytes) j ≡ true → begins_stop (drop (e j) (chars_of bytes)) ≡ true
  stop_behind j s some le sign = stop_at file bytes none (e j) j behind_token s (ends_weigh file bytes none j some le) sign

  -- the state behind a token
  pub state_behind : (k j : ℕ) → suc k ≡ j → Good file bytes k → StateAt bytes (e j) behind_token
  state_behind k j on g = subst (λ (p : ℕ). StateAt bytes (e p) behind_token) on (facts file bytes none k g).behind

  -- ---- along the cut

  -- what is so of the place where a part begins
  pub record Entry (i x j : ℕ) (st : Before) : Type 0 where
    pub from : From bytes x i st
    pub index : weight (weights_of bytes) x ≡ i
    pub point : Point b e size i x
    pub over : i ≡ j → (st ≡ behind_token) × (x ≡ e j)

  before_begin : (i x l : ℕ) → Point b e size i x → i < l → l < size → x < b l
  before_begin i x l p lt within =
      let a = p.before l (omega (arith, lt)) (omega (arith, within)) lt in
      let c = widens.apart l l (omega (arith, lt)) (omega arith) within in
      omega (arith, a, c)

  led_widened : (i : ℕ) (c : Cut) → Formed c → IsLed c → i + extent_of c ≤ size → IsLed (widened b e i (b i) c)
  unfolding widened extent_of
  led_widened i done f led within = tt
  led_widened i (keep k done) f led within = absurd f.0
  led_widened i (keep k (keep n c)) f led within = absurd f.0
  led_widened i (keep k (list is c)) f led within =
      let long = span_some b e size widens is f.1.2 f.1.0 in
      let grows = begin_grows b e size widens i (i + k) (omega (arith, led)) (omega (arith, within, long)) in
      omega (arith, grows)
  led_widened i (list is c) f led within = absurd led

  count_widened : (i : ℕ) (is : Items) → 0 < count_of is → 0 < count_of (widened_items b e i is)
  unfolding widened_items count_of
  count_widened i ended some = some
  count_widened i (item n c gap more) some = omega arith

  stop_list : (m j : ℕ) (c : Cut) → Formed c → IsLed c → m + extent_of c ≤ j → j ≤ size → 0 < m → StateAt bytes (e m) behind_token → passes ends_item (tokens_of file bytes) m ≡ true
      → e j ≤ length (chars_of bytes) → HasStop (widened b e m (e m) c) (seg (marks_of bytes) (e m) (e j))
  unfolding widened extent_of
  stop_list m j done f led within le some s sign inside = elim (cases_Bool (nat_le j m)) [
    | inl over ↦
        let high = leb-true j m over in
        let same : m ≡ j = omega (arith, within, high) in
        let empty : seg (marks_of bytes) (e m) (e j) ≡ [] = ap (λ (k : ℕ). seg (marks_of bytes) (e m) (e k)) (sym same) ∙ seg_none (marks_of bytes) (e m) in
        ap (λ (ms : List Mark). is_none ms || begins_stop (text ms)) empty
    | inr on ↦
        let lt = leb-false j m on in
        let grows = end_grows b e size widens m j some lt le in
        let stop = stop_behind m s some (omega (arith, lt, le)) sign in
        let long = seg_long (e m) (e j) grows inside in
        let here = stop_front (seg (chars_of bytes) (e m) (e j)) (drop (e j) (chars_of bytes)) long (ap begins_stop (seg_rest (chars_of bytes) (e m) (e j) (omega (arith, grows))) ∙ stop) in
        or_true (is_none (seg (marks_of bytes) (e m) (e j))) (begins_stop (text (seg (marks_of bytes) (e m) (e j)))) (ap begins_stop (text_seg (e m) (e j)) ∙ here)
  ]
    where
      or_true : (x y : Bool) → y ≡ true → (x || y) ≡ true
      or_true true y h = refl
      or_true false y h = h
  stop_list m j (keep k done) f led within le some s sign inside = absurd f.0
  stop_list m j (keep k (keep n c)) f led within le some s sign inside = absurd f.0
  stop_list m j (keep k (list is c)) f led within le some s sign inside =
      let long = span_some b e size widens is f.1.2 f.1.0 in
      let l = m + k in
      let short : l < size = omega (arith, within, le, long) in
      let past = before_begin m (e m) l (at_end b e size widens m some (omega (arith, within, le))) (omega (arith, led)) short in
      let later = (at_begin b e size widens l short).before j (omega (arith, within, some)) le (omega (arith, within, long)) in
      let grows : e m < e j = omega (arith, past, later) in
      let stop = stop_behind m s some (omega (arith, within, le)) sign in
      let room = seg_long (e m) (e j) grows inside in
      let here = stop_taken (b l - e m) (seg (chars_of bytes) (e m) (e j)) (drop (e j) (chars_of bytes)) (omega (arith, past)) room
      (ap begins_stop (seg_rest (chars_of bytes) (e m) (e j) (omega (arith, grows))) ∙ stop) in
      ap begins_stop (sym (take-map (λ (n : Mark). n.byte) (b l - e m) (seg (marks_of bytes) (e m) (e j))) ∙ ap (take (b l - e m)) (text_seg (e m) (e j))) ∙ here
  stop_list m j (list is c) f led within le some s sign inside = absurd led

  -- an item's characters, from whatever state
  item_entry : (i n : ℕ) → Good file bytes i → passes may_begin (tokens_of file bytes) i ≡ true → 0 < n → i < size → Entry i (b i) (i + n) behind_token
  item_entry i n g may some within =
      let f = facts file bytes none i g in
      record {
        from = from_token file bytes i f behind_token (hash_none i f may) (begins_weigh file bytes none i within);
        index = begins_weigh file bytes none i within;
        point = at_begin b e size widens i within;
        over = λ same. absurd (omega (arith, same, some));
      }

  end_entry : (m j : ℕ) → StateAt bytes (e m) behind_token → 0 < m → m ≤ size → Entry m (e m) j behind_token
  end_entry m j s some le = record {
    from = from_state bytes (e m) m behind_token s (ends_weigh file bytes none m some le);
    index = ends_weigh file bytes none m some le;
    point = at_end b e size widens m some le;
    over = λ same. (refl, ap e same);
  }

  leaves_to : (x z y : ℕ) (st end : Before) → x ≤ z → z ≤ y → Behind bytes x z st end
      → Leaves st (take (z - x) (seg (marks_of bytes) x y)) (text (drop (z - x) (seg (marks_of bytes) x y)) ++ text (drop y (marks_of bytes))) end
  leaves_to x z y st end low high h =
      let E1 = part_text x z y high in
      let E2 = rest_text x z y low high in (
        ap (λ (l : List ℕ). gap_behind 0 st.gap (front_at st) l (text (drop (z - x) (seg (marks_of bytes) x y)) ++ text (drop y (marks_of bytes)))) E1
            ∙ ap (gap_behind 0 st.gap (front_at st) (seg (chars_of bytes) x z)) E2 ∙ h.gap,
        ap (λ (l : List ℕ). front_behind 0 (front_at st) l (text (drop (z - x) (seg (marks_of bytes) x y)) ++ text (drop y (marks_of bytes)))) E1
            ∙ ap (front_behind 0 (front_at st) (seg (chars_of bytes) x z)) E2 ∙ h.front,
      )

  lead_here : (x z y : ℕ) (st : Before) → x ≤ z → z ≤ y → IsLead st (seg (chars_of bytes) x z) (drop z (chars_of bytes))
      → IsLead st (text (take (z - x) (seg (marks_of bytes) x y))) (text (drop (z - x) (seg (marks_of bytes) x y)) ++ text (drop y (marks_of bytes)))
  lead_here x z y st low high h =
      subst (λ (l : List ℕ). IsLead st l (text (drop (z - x) (seg (marks_of bytes) x y)) ++ text (drop y (marks_of bytes)))) (sym (part_text x z y high))
      (subst (λ (l : List ℕ). IsLead st (seg (chars_of bytes) x z) l) (sym (rest_text x z y low high)) h)

  end_here : (x z : ℕ) (st : Before) → IsEnd st (seg (chars_of bytes) x z) (drop z (chars_of bytes)) → EndsItem st (seg (marks_of bytes) x z) (text (drop z (marks_of bytes)))
  end_here x z st h =
      ends_of (seg (marks_of bytes) x z) (text (drop z (marks_of bytes)))
      (subst (λ (l : List ℕ). IsEnd st l (text (drop z (marks_of bytes)))) (sym (text_seg x z)) (subst (λ (l : List ℕ). IsEnd st (seg (chars_of bytes) x z) l) (sym (text_drop z)) h))
    where
      ends_of : (ms : List Mark) (ys : List ℕ) → IsEnd st (text ms) ys → EndsItem st ms ys
      ends_of [] ys h = tt
      ends_of (m ∷ ms) ys h = h

  done_part : (i x j : ℕ) (st : Before) → Entry i x j st → i ≤ j → AllGood file bytes i j → Ends (tokens_of file bytes) j → 0 < j → j ≤ size
      → PartsAlong st done (seg (marks_of bytes) x (e j)) (text (drop (e j) (marks_of bytes))) behind_token
  done_part i x j st en low goods ends some le = elim (cases_Bool (nat_le j i)) [
    | inl over ↦
        let high = leb-true j i over in
        let same : i ≡ j = omega (arith, low, high) in
        let o = en.over same in
        let empty : seg (marks_of bytes) x (e j) ≡ [] = ap (λ (k : ℕ). seg (marks_of bytes) k (e j)) o.1 ∙ seg_none (marks_of bytes) (e j) in
        subst (λ (s : Before). PartsAlong s done (seg (marks_of bytes) x (e j)) (text (drop (e j) (marks_of bytes))) behind_token) (sym o.0)
        (subst (λ (ms : List Mark). PartsAlong behind_token done ms (text (drop (e j) (marks_of bytes))) behind_token) (sym empty)
        (tt, rest_leaves (text (drop (e j) (marks_of bytes)))))
    | inr on ↦
        let lt = leb-false j i on in
        let past = en.point.before j some le lt in
        let back_one : suc (j - 1) ≡ j = omega (arith, some) in
        let state = state_behind (j - 1) j back_one (goods (j - 1) (omega (arith, lt)) (omega (arith, some))) in
        let h = en.from.behind (e j) behind_token past state in (
          end_here x (e j) st (end_part file bytes none x i j st en.from en.index goods ends lt past),
          (
            ap (λ (l : List ℕ). gap_behind 0 st.gap (front_at st) l (text (drop (e j) (marks_of bytes)))) (text_seg x (e j))
                ∙ ap (gap_behind 0 st.gap (front_at st) (seg (chars_of bytes) x (e j))) (text_drop (e j)) ∙ h.gap,
            ap (λ (l : List ℕ). front_behind 0 (front_at st) l (text (drop (e j) (marks_of bytes)))) (text_seg x (e j))
                ∙ ap (front_behind 0 (front_at st) (seg (chars_of bytes) x (e j))) (text_drop (e j)) ∙ h.front,
          ),
        )
  ]

  ends_inside : (j : ℕ) → 0 < j → j ≤ size → e j ≤ length (chars_of bytes)
  ends_inside zero some le = absurd (omega (arith, some))
  ends_inside (suc k) some le =
      let t = the_token file bytes none k (omega (arith, le)) in
      let s = t.2.spot_of in
      let is = end_at (tokens_of file bytes) k t.0 t.1 ∙ t.2.ends in
      rw is s.within

  last_state : (i : ℕ) (is : Items) → FormedItems is → 0 < count_of is → TreeItems file bytes i is → StateAt bytes (e (i + span_of is)) behind_token
  unfolding span_of count_of
  last_state i ended f some t = absurd (omega (arith, some))
  last_state i (item n c gap ended) f some t =
      let none_left : gap ≡ 0 = f.4 in
      let long = f.0 in
      let on : suc (i + n - 1) ≡ i + (n + (gap + 0)) = omega (arith, none_left, long) in
      state_behind (i + n - 1) (i + (n + (gap + 0))) on t.3
  last_state i (item n c gap (item n2 c2 gap2 more)) f some t =
      let same : i + (n + gap) + span_of (item n2 c2 gap2 more) ≡ i + (n + (gap + span_of (item n2 c2 gap2 more))) = omega arith in
      subst (λ (k : ℕ). StateAt bytes (e k) behind_token) same (last_state (i + (n + gap)) (item n2 c2 gap2 more) f.5 (omega arith) t.6)

  gap_here : (i n gap : ℕ) (c : Cut) (more : Items) (j : ℕ) → FormedItems (item n c gap more) → i + (n + (gap + span_of more)) ≤ j → j ≤ size → TreeItems file bytes i (item n c gap more)
      → IsGap (gap_before more (b (i + (n + gap)) - e (i + n))) (widened_items b e (i + (n + gap)) more) (drop (e (i + n) - b i) (seg (marks_of bytes) (b i) (e j))) (text (drop (e j) (marks_of bytes)))
  unfolding widened_items span_of count_of
  gap_here i n gap c ended j f within le t = refl
  gap_here i n gap c (item n2 c2 gap2 more) j f within le t =
      let M = marks_of bytes in
      let k = i + n in
      let l = i + (n + gap) in
      let some = f.0 in
      let later = f.5.0 in
      let y = e j in
      let over : k + gap ≡ l = omega arith in
      let leads : Leads file bytes l = subst (λ (q : ℕ). Leads file bytes q) over t.5.2 in
      let wide : 0 < gap = t.5.0 in
      let short : l < size = omega (arith, within, le, later) in
      let last : k ≤ size = omega (arith, within, le) in
      let on : suc (k - 1) ≡ k = omega (arith, some) in
      let state = state_behind (k - 1) k on t.3 in
      let big = widens.whole i k (omega (arith, some)) last in
      let past : e k < b l = before_begin k (e k) l (at_end b e size widens k (omega (arith, some)) last) (omega (arith, wide)) short in
      let top : b l ≤ y = let x = (at_begin b e size widens l short).before j (omega (arith, within, some)) le (omega (arith, within, later)) in omega (arith, x) in
      let from = from_state bytes (e k) k behind_token state (ends_weigh file bytes none k (omega (arith, some)) last) in
      let lead = lead_part file bytes none (e k) k l behind_token from leads (omega (arith, wide)) past in
      let q = facts file bytes none l leads.at in
      let behind = from.behind (b l) q.state past q.at in
      let there : drop (e k - b i) (seg M (b i) y) ≡ seg M (e k) y = seg_drop M (b i) (e k) y (omega (arith, big)) (omega (arith, past, top)) in
      let stop = stop_behind k state (omega (arith, some)) last t.5.1 in
      let grows : e k < y = omega (arith, past, top) in
      let room = seg_long (e k) y grows (ends_inside j (omega (arith, within, some)) le) in
      let here = stop_taken (b l - e k) (seg (chars_of bytes) (e k) y) (drop y (chars_of bytes)) (omega (arith, past)) room
      (ap begins_stop (seg_rest (chars_of bytes) (e k) y (omega (arith, grows))) ∙ stop) in
      subst (λ (ms : List Mark). IsGap (b l - e k) (widened_items b e l (item n2 c2 gap2 more)) ms (text (drop y M))) (sym there) (
        ap begins_stop (sym (take-map (λ (m : Mark). m.byte) (b l - e k) (seg M (e k) y)) ∙ ap (take (b l - e k)) (text_seg (e k) y)) ∙ here,
        lead_here (e k) (b l) y behind_token (omega (arith, past)) top lead,
        (q.state, leaves_to (e k) (b l) y behind_token q.state (omega (arith, past)) top behind),
      )

  more_here : (i n gap : ℕ) (c : Cut) (more : Items) (j : ℕ) → FormedItems (item n c gap more) → i + (n + (gap + span_of more)) ≤ j → j ≤ size
      → ItemsParts (widened_items b e (i + (n + gap)) more) (seg (marks_of bytes) (b (i + (n + gap))) (e j)) (text (drop (e j) (marks_of bytes)))
      → ItemsParts (widened_items b e (i + (n + gap)) more) (drop (e (i + n) - b i + gap_before more (b (i + (n + gap)) - e (i + n))) (seg (marks_of bytes) (b i) (e j))) (text (drop (e j) (marks_of bytes)))
  unfolding widened_items span_of count_of
  more_here i n gap c ended j f within le rest = tt
  more_here i n gap c (item n2 c2 gap2 more) j f within le rest =
      let M = marks_of bytes in
      let k = i + n in
      let l = i + (n + gap) in
      let some = f.0 in
      let later = f.5.0 in
      let y = e j in
      let short : l < size = omega (arith, within, le, later) in
      let last : k ≤ size = omega (arith, within, le) in
      let big = widens.whole i k (omega (arith, some)) last in
      let past = widens.apart k l (omega (arith, some)) (omega arith) short in
      let top = (at_begin b e size widens l short).before j (omega (arith, within, some)) le (omega (arith, within, later)) in
      let sum : e k - b i + (b l - e k) ≡ b l - b i = omega (arith, big, past) in
      let there : drop (e k - b i + (b l - e k)) (seg M (b i) y) ≡ seg M (b l) y =
      ap (λ (m : ℕ). drop m (seg M (b i) y)) sum ∙ seg_drop M (b i) (b l) y (omega (arith, big, past)) (omega (arith, top)) in
      subst (λ (ms : List Mark). ItemsParts (widened_items b e l (item n2 c2 gap2 more)) ms (text (drop y M))) (sym there) rest

  mutual
    unfolding widened widened_items extent_of span_of count_of

    pub parts_of : (i x j : ℕ) (c : Cut) (st : Before) → Formed c → IsLed c → i + extent_of c ≤ j → j ≤ size → 0 < j → Entry i x j st → Tree file bytes i c j
        → PartsAlong st (widened b e i x c) (seg (marks_of bytes) x (e j)) (text (drop (e j) (marks_of bytes))) behind_token
    parts_of i x j done st f led within le some en t = done_part i x j st en t.0 t.1 t.2 some le
    parts_of i x j (keep k done) st f led within le some en t = absurd f.0
    parts_of i x j (keep k (keep n c)) st f led within le some en t = absurd f.0
    parts_of i x j (keep k (list is c)) st f led within le some en t =
        let M = marks_of bytes in
        let l = i + k in
        let m = l + span_of is in
        let y = e j in
        let ys = text (drop y M) in
        let long = span_some b e size widens is f.1.2 f.1.0 in
        let short : l < size = omega (arith, within, le, long) in
        let last : m ≤ size = omega (arith, within, le) in
        let past = before_begin i x l en.point (omega (arith, led)) short in
        let big = widens.whole l m (omega (arith, long)) last in
        let top = end_keeps b e size widens m j (omega (arith, long)) (omega (arith, within)) le in
        let high : b l ≤ y = omega (arith, big, top) in
        let lead = lead_part file bytes none x i l st en.from t.0 (omega (arith, led)) past in
        let g = t.0.at in
        let q = facts file bytes none l g in
        let tr = t.1 in
        let behind = en.from.behind (b l) q.state past q.at in
        let items = items_of_list l j is f.1.2 (omega (arith, within)) le tr.2 in
        let state = last_state l is f.1.2 f.1.0 tr.2 in
        let stop = stop_list m j c f.1.4 tr.0 (omega (arith, within)) le (omega (arith, long)) state tr.1 (ends_inside j some le) in
        let rest = parts_of m (e m) j c behind_token f.1.4 tr.0 (omega (arith, within)) le some (end_entry m j state (omega (arith, long)) last) tr.3 in
        let wide = span_widened b e size widens l is f.1.2 f.1.0 last in
        let ms2 = seg M (b l) y in
        let there : drop (span_of (widened_items b e l is)) ms2 ≡ seg M (e m) y = ap (λ (n : ℕ). drop n ms2) wide ∙ seg_drop M (b l) (e m) y (omega (arith, big)) top in
        let in_list : PartsAlong q.state (list (widened_items b e l is) (widened b e m (e m) c)) ms2 ys behind_token = (
          count_widened l is f.1.0,
          items,
          subst (λ (ms : List Mark). HasStop (widened b e m (e m) c) ms) (sym there) stop,
          subst (λ (ms : List Mark). PartsAlong behind_token (widened b e m (e m) c) ms ys behind_token) (sym there) rest,
        ) in (
          tt,
          lead_here x (b l) y st (omega (arith, past)) high lead,
          (
            q.state,
            leaves_to x (b l) y st q.state (omega (arith, past)) high behind,
            subst (λ (ms : List Mark). PartsAlong q.state (list (widened_items b e l is) (widened b e m (e m) c)) ms ys behind_token) (sym (seg_drop M x (b l) y (omega (arith, past)) high)) in_list,
          ),
        )
    parts_of i x j (list is c) st f led within le some en t = absurd led

    -- the items of a list, up to the end of a part
    items_of_list : (i j : ℕ) (is : Items) → FormedItems is → i + span_of is ≤ j → j ≤ size → TreeItems file bytes i is
        → ItemsParts (widened_items b e i is) (seg (marks_of bytes) (b i) (e j)) (text (drop (e j) (marks_of bytes)))
    items_of_list i j ended f within le t = tt
    items_of_list i j (item n c gap more) f within le t =
        let M = marks_of bytes in
        let k = i + n in
        let some = f.0 in
        let small = f.1 in
        let short : i < size = omega (arith, within, le, some) in
        let last : k ≤ size = omega (arith, within, le) in
        let big = widens.whole i k (omega (arith, some)) last in
        let top = end_keeps b e size widens k j (omega (arith, some)) (omega (arith, within)) le in
        let ms = seg M (b i) (e j) in
        let first : take (e k - b i) ms ≡ seg M (b i) (e k) = seg_take M (b i) (e k) (e j) top in
        let behind : text (drop (e k - b i) ms) ++ text (drop (e j) M) ≡ text (drop (e k) M) = rest_marks (b i) (e k) (e j) (omega (arith, big)) top in
        let inner = parts_of i (b i) k c behind_token f.3 t.1 (omega (arith, small)) last (omega (arith, some)) (item_entry i n t.2 t.0 some short) t.4 in
        let rest = items_of_list (i + (n + gap)) j more f.5 (omega (arith, within)) le t.6 in
        let begins = begins_item_at i (e k) t.2 t.0 big (ends_inside k (omega (arith, some)) last) in (
          led_widened i c f.3 t.1 (omega (arith, small, last)),
          subst (λ (us : List Mark). BeginsToken us (text (drop (e k - b i) ms) ++ text (drop (e j) M))) (sym first)
              (subst (λ (l : List ℕ). BeginsToken (seg M (b i) (e k)) l) (sym behind) begins),
          extent_widened b e size widens i (b i) k c f.3 f.2 (omega (arith, small)) last (omega (arith, some)) (at_begin b e size widens i short) (omega arith),
          subst (λ (us : List Mark). PartsAlong behind_token (widened b e i (b i) c) us (text (drop (e k - b i) ms) ++ text (drop (e j) M)) behind_token) (sym first)
              (subst (λ (l : List ℕ). PartsAlong behind_token (widened b e i (b i) c) (seg M (b i) (e k)) l behind_token) (sym behind) inner),
          gap_here i n gap c more j f within le t,
          more_here i n gap c more j f within le rest,
        )
