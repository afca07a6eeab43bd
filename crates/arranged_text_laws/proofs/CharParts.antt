-- Parts of the characters of a file, before an item and at its end, are such as may stand elsewhere.
use Rattle.std.proofs.Common.{◌≡◌, ℕ, zero, suc, ◌+◌, ◌-◌, ◌<◌, ◌≤◌, Bool, true, false, not, ◌==◌, nat_le, List, [], ◌∷◌, ◌++◌, length, take, drop, map, get_or, Option, Some, None, codes, inl, inr, refl, sym, ap, subst, ◌∙◌, arith, take-add, length-take-le, length-drop}
use Rattle.std.specs.Prelude.{slice_get, unwrap_or}
use Rattle.std.specs.List.{list_all}
use Rattle.std.specs.Option.{option_map, option_map_or}
use Rattle.std.specs.Str.{bytes_eq}
use Rattle.std.proofs.lemmas.Bool.{cases_Bool, and_parts, and_from, leb-true, leb-false}
use Rattle.std.proofs.lemmas.List.{length-map, drop-drop}
use Rattle.std.proofs.lemmas.Option.{slice_get-map, slice_get_within}
use Rattle.cs_base.specs.declared.tokens.Kind.TheVariants.{Punct}
use Rattle.cs_base.specs.Token.{Token}
use Rattle.lexer.specs.Characters.{line_feed}
use Rattle.lexer.specs.Logical.{Character, logical_of}
use Rattle.lexer.specs.Tokens.{Found, FoundToken, FoundOpen, kind_or_other, found_of, tokens_in, tokens_of, open_comment_of}
use Rattle.lexer.specs.Spelling.{kind_in, kind_of, is_punctuator_text}
use Rattle.lexer.proofs.OrderLemmas.{dark_feed}
use Rattle.line_shape.specs.Signs.{is_punctuator, is_sign, is_open}
use Rattle.arranged_text_laws.specs.Labels.{starts}
use Rattle.arranged_text_laws.specs.Settling.{is_lone, has_line_feed}
use Rattle.arranged_text_laws.specs.Marks.{Before, behind_token}
use Rattle.arranged_text_laws.specs.Calm.{is_odd, is_calm, is_even, is_shut, is_sign as is_sign_found, ends_in_sign, is_plain_at_end, ends_slash, begins_on_line}
use Rattle.arranged_text_laws.specs.Parts.{IsEnd, IsLead}
use Rattle.arranged_text_laws.specs.Weighed.{together}
use Rattle.arranged_text_laws.proofs.TokenLaw.{shut_file}
use Rattle.arranged_text_laws.specs.Lists.{is_line_feed_at, may_end, place_of}
use Rattle.arranged_text_laws.proofs.WeighedCut.{weight, weight_grows}
use Rattle.arranged_text_laws.proofs.Walk.{bare}
use Rattle.arranged_text_laws.proofs.FileWalk.{chars_of, entries_of, weights_of, entries_shut, bare_all}
use Rattle.arranged_text_laws.proofs.Bounds.{end_place, place_at, the_token, begins_weigh, nexts_weigh, ends_weigh}
use Rattle.arranged_text_laws.proofs.GoodTokens.{Good, passed}
use Rattle.arranged_text_laws.proofs.Tree.{begins_item, Ends, Leads, AllGood}
use Rattle.arranged_text_laws.proofs.PartFound.{StateAt, seg, all_at, all_part, plain_part, ends_at, get_drop}
use Rattle.arranged_text_laws.proofs.Fine.{Fine}
use Rattle.arranged_text_laws.proofs.TokenFacts.{facts, begins_lone, stop_at}
use Rattle.arranged_text_laws.proofs.FromThere.{From}

-- ---- odd tokens before

-- which token element q brings that is not even
odd_brought : (xss : List (List Found)) (q : ℕ) → list_all is_even (get_or xss q []) ≡ false
    → (k : ℕ) × (f : Found) × (slice_get (together xss) k ≡ Some f) × (is_even f ≡ false) × (weight (map length xss) q ≤ k) × (k < weight (map length xss) (suc q))
odd_brought [] q h = absurd cc
odd_brought (xs ∷ xss) zero h =
    let r = odd_in xs h in
    (r.0, r.1, in_front xs (together xss) r.0 r.1 r.2, r.3, omega arith, (let lt = slice_get_within xs r.0 r.1 r.2 in omega (arith, lt)))
  where
    odd_in : (xs : List Found) → list_all is_even xs ≡ false → (k : ℕ) × (f : Found) × (slice_get xs k ≡ Some f) × (is_even f ≡ false)
    odd_in [] h = absurd cc
    odd_in (x ∷ xs) h = elim (cases_Bool (is_even x)) [
      | inl even ↦ let r = odd_in xs (rw even at h) in (suc r.0, r.1, r.2, r.3)
      | inr odd ↦ (0, x, refl, odd)
    ]

    in_front : (xs ys : List Found) (k : ℕ) (f : Found) → slice_get xs k ≡ Some f → slice_get (xs ++ ys) k ≡ Some f
    in_front [] ys k f h = absurd cc
    in_front (x ∷ xs) ys zero f h = h
    in_front (x ∷ xs) ys (suc k) f h = in_front xs ys k f h
odd_brought (xs ∷ xss) (suc q) h =
    let r = odd_brought xss q h in
    (length xs + r.0, r.1, past xs (together xss) r.0 ∙ r.2, r.3, (let a = r.4 in omega (arith, a)), (let b = r.5 in omega (arith, b)))
  where
    past : (xs ys : List Found) (k : ℕ) → slice_get (xs ++ ys) (length xs + k) ≡ slice_get ys k
    past [] ys k = let same : 0 + k ≡ k = omega arith in ap (slice_get ys) same
    past (x ∷ xs) ys k = let same : suc (length xs) + k ≡ suc (length xs + k) = omega arith in ap (slice_get (x ∷ (xs ++ ys))) same ∙ past xs ys k

entries_long : (file : ℕ) (bytes : List ℕ) → open_comment_of bytes ≡ None → length (together (entries_of bytes)) ≡ length (tokens_of file bytes)
unfolding tokens_of
entries_long file bytes none =
    sym (length-map (together (entries_of bytes)) bare) ∙ ap length (sym (bare_all file bytes none)) ∙ length-map (found_of file bytes) bare
    ∙ sym (tokens_many (found_of file bytes) (shut_file file bytes none))
  where
    tokens_many : (fs : List Found) → list_all is_shut fs ≡ true → length (tokens_in fs) ≡ length fs
    tokens_many [] h = refl
    tokens_many (FoundToken t first ∷ fs) h = ap (λ (n : ℕ). suc n) (tokens_many fs h)
    tokens_many (FoundOpen at ∷ fs) h = absurd cc

shut_get : (fs : List Found) (k : ℕ) (f : Found) → list_all is_shut fs ≡ true → slice_get fs k ≡ Some f → is_shut f ≡ true
shut_get [] k f h there = absurd cc
shut_get (g ∷ fs) zero f h there = ap is_shut (sym (ap (λ (o : Option Found). unwrap_or o f) there)) ∙ (and_parts (is_shut g) (list_all is_shut fs) h).0
shut_get (g ∷ fs) (suc k) f h there = shut_get fs k f (and_parts (is_shut g) (list_all is_shut fs) h).1 there

even_kind : (f : Found) → is_shut f ≡ true → is_even f ≡ false → (t : Token) (b : Bool) → bare f ≡ FoundToken t b → is_odd t.kind ≡ true
even_kind (FoundToken u c) shut odd t b is = not_false (is_odd t.kind) (ap (λ (k : Found). is_even k) (sym is) ∙ odd)
  where
    not_false : (b : Bool) → not b ≡ false → b ≡ true
    not_false true h = refl
    not_false false h = absurd cc
even_kind (FoundOpen at) shut odd t b is = absurd cc

-- ---- line feeds

feed_at : (bytes : List ℕ) (r : ℕ) → is_line_feed_at bytes r ≡ option_map_or (λ (b : ℕ). b == line_feed) (slice_get (chars_of bytes) r) false
feed_at bytes r = sym (ap (λ (o : Option ℕ). option_map_or (λ (b : ℕ). b == line_feed) o false) (slice_get-map (λ (c : Character). c.byte) (logical_of bytes) r) ∙ of_option (slice_get (logical_of bytes) r))
  where
    of_option : (o : Option Character) → option_map_or (λ (b : ℕ). b == line_feed) (option_map (λ (c : Character). c.byte) o) false ≡ option_map_or (λ (c : Character). c.byte == line_feed) o false
    of_option None = refl
    of_option (Some c) = refl

no_feed : (xs : List ℕ) (r : ℕ) → has_line_feed xs ≡ false → option_map_or (λ (b : ℕ). b == line_feed) (slice_get xs r) false ≡ false
no_feed [] r h = refl
no_feed (x ∷ xs) zero h = elim (cases_Bool (x == line_feed)) [
  | inl feed ↦ let nost : true ≡ false = rw feed at h in absurd cc
  | inr on ↦ on
]
no_feed (x ∷ xs) (suc r) h = elim (cases_Bool (x == line_feed)) [
  | inl feed ↦ let nost : true ≡ false = rw feed at h in absurd cc
  | inr on ↦ no_feed xs r (rw on at h)
]

get_take : {X : Type 0} (n k : ℕ) (xs : List X) → k < n → slice_get (take n xs) k ≡ slice_get xs k
get_take zero k xs lt = absurd (omega (arith, lt))
get_take (suc n) k [] lt = refl
get_take (suc n) zero (x ∷ xs) lt = refl
get_take (suc n) (suc k) (x ∷ xs) lt = get_take n k xs (omega (arith, lt))

get_or_drop : (n p : ℕ) (xss : List (List Found)) → get_or (drop n xss) p [] ≡ get_or xss (n + p) []
get_or_drop zero p xss = let same : p ≡ 0 + p = omega arith in ap (λ (k : ℕ). get_or xss k []) same
get_or_drop (suc n) p [] = refl
get_or_drop (suc n) p (xs ∷ xss) = let same : suc (n + p) ≡ suc n + p = omega arith in get_or_drop n p xss ∙ ap (λ (k : ℕ). get_or (xs ∷ xss) k []) same

seg_split : {X : Type 0} (xs : List X) (x p z : ℕ) → x ≤ p → p ≤ z → seg xs x z ≡ seg xs x p ++ seg xs p z
seg_split xs x p z low high =
    let sum : (p - x) + (z - p) ≡ z - x = omega (arith, low, high) in
    let on : x + (p - x) ≡ p = omega (arith, low) in
    ap (λ (n : ℕ). take n (drop x xs)) (sym sum) ∙ take-add (p - x) (z - p) (drop x xs)
    ∙ ap (λ (l : List _). seg xs x p ++ take (z - p) l) (drop-drop (p - x) x xs ∙ ap (λ (n : ℕ). drop n xs) on)

slash_behind : (xs text : List ℕ) → Fine text → ends_slash (xs ++ text) ≡ ends_slash text
slash_behind xs [] f = let nost = f.first in absurd cc
slash_behind [] (c ∷ text) f = refl
slash_behind (x ∷ []) (c ∷ text) f = refl
slash_behind (x ∷ y ∷ xs) (c ∷ text) f = slash_behind (y ∷ xs) (c ∷ text) f

-- a token that may end an item does not end in `/`
no_slash : (t : Token) → Fine t.text → t.kind ≡ kind_or_other false t.text → may_end t ≡ true → ends_slash t.text ≡ false
unfolding kind_in kind_of is_punctuator_text
no_slash t f kind may = elim (cases_Bool (ends_slash t.text)) [
  | inr none ↦ none
  | inl slashed ↦
      let text = f.slashed slashed in
      let punct : t.kind ≡ Punct = kind ∙ ap (kind_or_other false) text in
      let is : is_sign (codes "/") t ≡ true = and_from (is_punctuator t.kind) (bytes_eq t.text (codes "/")) (ap is_punctuator punct) (ap (λ (l : List ℕ). bytes_eq l (codes "/")) text) in
      let parts = and_parts (not (is_sign (codes "/") t)) (not (is_open t)) may in
      let nost : false ≡ true = rw is at parts.0 in
      absurd cc
]

module _ (file : ℕ) (bytes : List ℕ) (none : open_comment_of bytes ≡ None) where
  -- the odd token that begins with a character
  odd_token : (q : ℕ) → list_all is_even (get_or (entries_of bytes) q []) ≡ false
      → (k : ℕ) × (t : Token) × (slice_get (tokens_of file bytes) k ≡ Some t) × (is_odd t.kind ≡ true) × (t.at.at ≡ q) × (is_line_feed_at bytes q ≡ false)
  odd_token q h =
      let toks = tokens_of file bytes in
      let W = weights_of bytes in
      let r = odd_brought (entries_of bytes) q h in
      let k = r.0 in
      let short : k < length toks = rw (← entries_long file bytes none) (slice_get_within (together (entries_of bytes)) k r.1 r.2) in
      let t = the_token file bytes none k short in
      let a = t.2 in
      let s = a.spot_of in
      let same : r.1 ≡ a.entry = ap (λ (o : Option Found). unwrap_or o r.1) (sym r.2 ∙ a.in_entries) in
      let even : is_even a.entry ≡ false = ap is_even (sym same) ∙ r.3 in
      let shut = shut_get (together (entries_of bytes)) k a.entry (entries_shut file bytes none) a.in_entries in
      let odd = ap is_odd a.kind ∙ even_kind a.entry shut even _ _ s.is in
      let place : place_of toks k ≡ t.0.at.at = place_at toks k t.0 t.1 in
      let begun = begins_weigh file bytes none k short in
      let next = nexts_weigh file bytes none k short in
      let low = r.4 in
      let high = r.5 in
      let at : t.0.at.at ≡ q = elim (cases_Bool (nat_le q (place_of toks k))) [
        | inr early ↦
            let lt = leb-false q (place_of toks k) early in
            let grows = weight_grows W (suc (place_of toks k)) q (omega (arith, lt)) in
            absurd (omega (arith, grows, next, low))
        | inl le_q ↦ elim (cases_Bool (nat_le (place_of toks k) q)) [
          | inl le ↦ let x = leb-true q (place_of toks k) le_q in let y = leb-true (place_of toks k) q le in omega (arith, x, y, place)
          | inr late ↦
              let lt = leb-false (place_of toks k) q late in
              let grows = weight_grows W (suc q) (place_of toks k) (omega (arith, lt)) in
              absurd (omega (arith, grows, begun, high))
        ]
      ] in
      let here : slice_get (chars_of bytes) q ≡ Some s.c =
      ap (slice_get (chars_of bytes)) (sym at ∙ a.place ∙ plus_zero s.place) ∙ sym (get_drop s.place 0 (chars_of bytes)) ∙ ap (λ (l : List ℕ). slice_get l 0) s.here in
      let line_on = feed_at bytes q ∙ ap (λ (o : Option ℕ). option_map_or (λ (b : ℕ). b == line_feed) o false) here ∙ dark_feed s.c s.word.dark in
      (k, t.0, t.1, odd, at, line_on)
    where
      plus_zero : (n : ℕ) → n ≡ n + 0
      plus_zero n = omega arith

  -- a line feed stands behind each odd token before a good one
  feed_behind : (x l q : ℕ) (g : Good file bytes l) → x < place_of (tokens_of file bytes) l → place_of (tokens_of file bytes) l ≤ length (chars_of bytes)
      → q < length (seg (chars_of bytes) x (place_of (tokens_of file bytes) l)) → list_all is_even (get_or (entries_of bytes) (x + q) []) ≡ false
      → has_line_feed (drop (suc q) (seg (chars_of bytes) x (place_of (tokens_of file bytes) l))) ≡ true
  feed_behind x l q g past within few odd =
      let toks = tokens_of file bytes in
      let S = chars_of bytes in
      let z = place_of toks l in
      let o = odd_token (x + q) odd in
      let place : z ≡ g.tok.at.at = place_at toks l g.tok g.there in
      let size : length (seg S x z) ≡ z - x = let d = length-drop x S in length-take-le (z - x) (drop x S) (omega (arith, d, within)) in
      let below : o.1.at.at < g.tok.at.at = let at = o.4 in omega (arith, at, few, size, past, place) in
      elim (cases_Bool (has_line_feed (drop (suc q) (seg S x z)))) [
        | inl feed ↦ feed
        | inr without ↦ absurd (g.alone o.0 o.1 o.2 o.3 below (λ r low high.
            elim (cases_Bool (nat_le r (x + q))) [
              | inl here ↦
                  let le = leb-true r (x + q) here in
                  let same : x + q ≡ r = let at = o.4 in omega (arith, at, low, le) in
                  ap (is_line_feed_at bytes) (sym same) ∙ o.5
              | inr later ↦
                  let lt = leb-false r (x + q) later in
                  let n = r - x - suc q in
                  let inside : suc q + n ≡ r - x = omega (arith, lt) in
                  let whole : x + (r - x) ≡ r = omega (arith, lt) in
                  let few2 : r - x < z - x = omega (arith, high, place, lt) in
                  let same : slice_get (drop (suc q) (seg S x z)) n ≡ slice_get S r =
                  get_drop (suc q) n (seg S x z) ∙ ap (slice_get (seg S x z)) inside ∙ get_take (z - x) (r - x) (drop x S) few2 ∙ get_drop x (r - x) S ∙ ap (slice_get S) whole in
                  feed_at bytes r ∙ ap (λ (o : Option ℕ). option_map_or (λ (b : ℕ). b == line_feed) o false) (sym same) ∙ no_feed (drop (suc q) (seg S x z)) n without
            ]))
      ]

  -- ---- a part before an item

  abbrev pub lead_to : ℕ → Before → ℕ → Type 0
  lead_to x st z = IsLead st (seg (chars_of bytes) x z) (drop z (chars_of bytes))

  pub lead_part : (x i l : ℕ) (st : Before) → From bytes x i st → Leads file bytes l → i < l → x < place_of (tokens_of file bytes) l → lead_to x st (place_of (tokens_of file bytes) l)
  lead_part x i l st from leads lt past =
      let toks = tokens_of file bytes in
      let S = chars_of bytes in
      let E = together (entries_of bytes) in
      let z = place_of toks l in
      let f = facts file bytes none l leads.at in
      let g = facts file bytes none (l - 1) leads.before in
      let short = slice_get_within toks l f.tok f.there in
      let within : z ≤ length S = let w = f.within in omega (arith, w) in
      let found = from.found z l past within (begins_weigh file bytes none l short) in
      let b = from.behind z f.state past f.at in
      let some = leads.some in
      let back_one : suc (l - 1) ≡ l = omega (arith, some) in
      let inside : suc (l - 1 - i) ≡ l - i = omega (arith, lt) in
      let there : i + (l - 1 - i) ≡ l - 1 = omega (arith, lt) in
      let p = passed begins_item toks (l - 1) leads.sign in
      let tok : p.0 ≡ g.tok = ap (λ (o : Option Token). unwrap_or o p.0) (sym p.1 ∙ g.there) in
      let sign : is_sign_found g.entry ≡ true = g.sign ∙ ap (λ (t : Token). starts is_lone t.text) (sym tok) ∙ begins_lone p.0 p.2 in
      let text : is_plain_at_end true (take l E) ≡ true = ap (λ (n : ℕ). is_plain_at_end true (take n E)) (sym back_one) ∙ leads.before.text in
      record {
        shut = found.shut (all_part is_shut E i (l - i) (entries_shut file bytes none));
        quiet = from.quiet z past (λ q few odd. feed_behind x l q leads.at past within few (sym (ap (list_all is_even) (get_or_drop x q (entries_of bytes))) ∙ odd));
        plain = found.plain (plain_part E i l (omega (arith, lt)) text);
        sign = found.ends (ap (λ (n : ℕ). ends_in_sign (take n (drop i E))) (sym inside)
            ∙ ends_at (l - 1 - i) (drop i E) g.entry (get_drop i (l - 1 - i) E ∙ ap (slice_get E) there ∙ g.in_entries) sign);
        whole = b.whole;
        on_line = ap begins_on_line f.here ∙ ap not (dark_feed f.c f.dark);
      }

  -- ---- the last part of an item

  pub end_part : (x i j : ℕ) (st : Before) → From bytes x i st → weight (weights_of bytes) x ≡ i → AllGood file bytes i j → Ends (tokens_of file bytes) j → i < j
      → x < end_place (tokens_of file bytes) j → IsEnd st (seg (chars_of bytes) x (end_place (tokens_of file bytes) j)) (drop (end_place (tokens_of file bytes) j) (chars_of bytes))
  end_part x i j st from index goods ends lt past =
      let toks = tokens_of file bytes in
      let S = chars_of bytes in
      let E = together (entries_of bytes) in
      let z = end_place toks j in
      let k = j - 1 in
      let back_one : suc k ≡ j = omega (arith, lt) in
      let g = goods k (omega (arith, lt)) (omega (arith, lt)) in
      let f = facts file bytes none k g in
      let over : end_place toks (suc k) ≡ z = ap (end_place toks) back_one in
      let state : StateAt bytes z behind_token = subst (λ (p : ℕ). StateAt bytes p behind_token) over f.behind in
      let short = slice_get_within toks k f.tok f.there in
      let last : weight (weights_of bytes) z ≡ j = ends_weigh file bytes none j (omega (arith, lt)) (omega (arith, short, lt)) in
      let b = from.behind z behind_token past state in
      let found = from.found z j past state.within last in
      let count : i + (j - i) ≡ j = omega (arith, lt) in
      let p = place_of toks k in
      let next = nexts_weigh file bytes none k short in
      let low : x ≤ p = elim (cases_Bool (nat_le x p)) [
        | inl good ↦ leb-true x p good
        | inr bad ↦
            let late = leb-false x p bad in
            let grows = weight_grows (weights_of bytes) (suc p) x (omega (arith, late)) in
            absurd (omega (arith, grows, next, index, lt))
      ] in
      let room : z - p ≡ suc f.word = let e = f.ends in omega (arith, e, over) in
      let text : seg S p z ≡ f.tok.text = ap (λ (n : ℕ). take n (drop p S)) room ∙ ap (take (suc f.word)) f.here ∙ sym f.text in
      let high : p ≤ z = let e = f.ends in omega (arith, e, over) in
      let parts : seg S x z ≡ seg S x p ++ f.tok.text = seg_split S x p z low high ∙ ap (λ (l : List ℕ). seg S x p ++ l) text in
      let m = passed may_end toks k ends.0 in
      let tok : m.0 ≡ f.tok = ap (λ (o : Option Token). unwrap_or o m.0) (sym m.1 ∙ f.there) in
      record {
        calm = found.calm (all_at is_calm E i (j - i) (λ q h l2 h2 there. calm_at q h l2 (omega (arith, h2, count)) there));
        whole = b.whole;
        token = b.gap;
        no_slash = ap ends_slash parts ∙ slash_behind (seg S x p) f.tok.text f.fine ∙ no_slash f.tok f.fine f.kind (ap may_end (sym tok) ∙ m.2);
        stop = stop_at file bytes none z j behind_token state last ends.1;
      }
    where
      calm_at : (q : ℕ) (h : Found) → i ≤ q → q < j → slice_get (together (entries_of bytes)) q ≡ Some h → is_calm h ≡ true
      calm_at q h low high there =
          let f = facts file bytes none q (goods q low high) in
          let same : h ≡ f.entry = ap (λ (o : Option Found). unwrap_or o h) (sym there ∙ f.in_entries) in
          ap is_calm same ∙ f.calm
