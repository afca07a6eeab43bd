-- The items of a list in a run and in what this is expanded to: each is expanded to one, so it has tokens where that has, and its
-- first and its last token are such as an item may begin and end with.
use Rattle.std.proofs.Common.{◌≡◌, ℕ, zero, suc, ◌+◌, ◌-◌, ◌<◌, Bool, true, false, not, List, [], ◌∷◌, length, take, drop, map, Option, None, Some, Ok, refl, sym, ap, ◌∙◌, arith}
use Rattle.std.specs.Prelude.{slice_get, slice_range}
use Rattle.std.specs.Option.{option_map_or}
use Rattle.std.proofs.lemmas.Bool.{false≢true}
use Rattle.std.proofs.lemmas.List.{take-map, drop-map}
use Rattle.std.proofs.lemmas.Option.{same_Some, slice_get_within}
use Rattle.cs_base.specs.Token.{Token}
use Rattle.cs_base.proofs.ListLemmas.{get_taken}
use Rattle.c99_grammar.specs.declared.dialects.Edition.{Edition}
use Rattle.c99_grammar.specs.declared.classes.Class.TheVariants.{Hash}
use Rattle.c99_grammar.specs.Standard.{iso}
use Rattle.line_shape.specs.Signs.{is_name, is_open, is_comma, is_close}
use Rattle.line_shape.proofs.SignLemmas.{close-no_name, comma-no_name}
use Rattle.macro_body.specs.declared.notes.Work.{Work}
use Rattle.macro_body.specs.Hides.{Hidden, toks_of, unhidden}
use Rattle.macro_body.specs.Notes.{Expanded}
use Rattle.unit_steps.specs.Below.macro_expand.Expansion.{Setting, whole}
use Rattle.expansion_laws.specs.Arranging.{IsSign, IsMark, AreDistinct}
use Rattle.expansion_laws.specs.Ends.{FirstPasses, LastPasses, ExpansionsEndAlike}
use Rattle.expansion_laws.proofs.MarkLemmas.{split_at, length_at, distinct_drop, open-no_name}
use Rattle.arranged_text_laws.specs.Lists.{passes, may_begin, may_end, IsItem}
use Rattle.arranged_text_laws.proofs.SignLemmas.{names_may_begin, names_may_end, closes_may_end}
use Rattle.reordered_text_laws.specs.Marks.{Each, StandFrom, spans_by}
use Rattle.reordered_text_laws.specs.Runs.{Closes, AreSigned}
use Rattle.reordered_text_laws.proofs.PartMarks.{later_by}
use Rattle.template_meaning.specs.Ends.{IsNot}
use Rattle.template_meaning.proofs.ItemEnds.{EachPair, EndsItem, begins_item, ends_item}
use Rattle.template_meaning.proofs.RunsOf.{some_at}

-- ---- places in lists

get_drop : {X : Type 0} (n : ℕ) (xs : List X) (i : ℕ) → slice_get (drop n xs) i ≡ slice_get xs (n + i)
get_drop zero xs i = let same : 0 + i ≡ i = omega arith in ap (slice_get xs) (sym same)
get_drop (suc n) [] i = refl
get_drop (suc n) (y ∷ xs) i = let on : suc n + i ≡ suc (n + i) = omega arith in rw on (get_drop n xs i)

-- a place from an element on
back_at : {X : Type 0} (n : ℕ) (xs : List X) (i j : ℕ) (x : X) → n + j ≡ i → slice_get xs i ≡ Some x → slice_get (drop n xs) j ≡ Some x
back_at n xs i j x e at = get_drop n xs j ∙ ap (slice_get xs) e ∙ at

pub range_get : (ts : List Token) (from to j : ℕ) (x : Token) → slice_get (slice_range ts from to) j ≡ Some x → slice_get ts (from + j) ≡ Some x
range_get ts from to j x at = sym (get_drop from ts j) ∙ get_taken (to - from) (drop from ts) j x at

-- ---- tests of tokens

passed : (q : Token → Bool) (toks : List Token) (k : ℕ) → passes q toks k ≡ true → (t : Token) × (slice_get toks k ≡ Some t) × (q t ≡ true)
passed q toks k h = by (slice_get toks k) refl h
  where
    by : (o : Option Token) → slice_get toks k ≡ o → option_map_or q o false ≡ true → (t : Token) × (slice_get toks k ≡ Some t) × (q t ≡ true)
    by None e p = absurd (false≢true p)
    by (Some t) e p = (t, e, p)

pub pass_at : (q : Token → Bool) (toks : List Token) (k : ℕ) (t : Token) → slice_get toks k ≡ Some t → q t ≡ true → passes q toks k ≡ true
pass_at q toks k t at h = ap (λ (o : Option Token). option_map_or q o false) at ∙ h

-- ---- an item in another text, which has its tokens

module _ (run toks : List Token) (from : ℕ) (there : (j : ℕ) (x : Token) → slice_get run j ≡ Some x → slice_get toks (from + j) ≡ Some x) where
  pass_later : (q : Token → Bool) (j k : ℕ) → from + j ≡ k → passes q run j ≡ true → passes q toks k ≡ true
  pass_later q j k e h =
      let p = passed q run j h in
      pass_at q toks k p.0 (ap (slice_get toks) (sym e) ∙ there j p.0 p.1) p.2

  pub items_later : (ms : List ℕ) → Each (IsItem run) (spans_by ms) → Each (IsItem toks) (spans_by (later_by from ms))
  items_later [] h = tt
  items_later (m ∷ []) h = tt
  items_later (m ∷ k ∷ ms) h =
      let i = h.0 in
      let some = i.some in (
        record {
          some = omega (arith, some);
          first = pass_later may_begin (m + 1) (from + m + 1) (omega arith) i.first;
          last = pass_later may_end (k - 1) (from + k - 1) (omega (arith, some)) i.last;
        },
        items_later (k ∷ ms) h.1,
      )

-- ---- an item of what a run is expanded to

module _ (s : Edition) (out toks : List Token) (before : ℕ) (there : (j : ℕ) (x : Token) → slice_get out j ≡ Some x → slice_get toks (before + j) ≡ Some x)
    (no_hash : (k : ℕ) → k < length toks → IsNot (iso s) toks Hash k) where
  item_out : (o p : ℕ) → p < length out → EndsItem (iso s) toks (before + o) (before + p) → IsItem out (record { begin = o + 1; end = p })
  item_out o p lt h =
      let some = h.0 in
      let first = some_at out (o + 1) (omega (arith, some, lt)) in
      let last = some_at out (p - 1) (omega (arith, some, lt)) in
      let first_there = there (o + 1) first.0 first.1 in
      let last_there = there (p - 1) last.0 last.1 in
      let place : before + (p - 1) ≡ before + p - 1 = omega (arith, some) in
      record {
        some = omega (arith, some);
        first = pass_at may_begin out (o + 1) first.0 first.1 (begins_item s toks (before + (o + 1)) first.0 first_there (no_hash (before + (o + 1)) (slice_get_within toks (before + (o + 1)) first.0 first_there)));
        last = pass_at may_end out (p - 1) last.0 last.1 (ends_item s toks (before + p - 1) last.0 (ap (slice_get toks) (sym place) ∙ last_there) h.1);
      }

  pub items_out : (ms : List ℕ) → Each (λ m. m < length out) ms → EachPair (EndsItem (iso s) toks) (later_by before ms) → Each (IsItem out) (spans_by ms)
  items_out [] lt h = tt
  items_out (m ∷ []) lt h = tt
  items_out (m ∷ k ∷ ms) lt h = (item_out m k lt.1.0 h.0, items_out (k ∷ ms) lt.1 h.1)

-- ---- marks

abbrev is_plain : Token → Bool
is_plain t = not (is_name t)

plain_no_name : (t : Token) → is_plain t ≡ true → is_name t ≡ false
plain_no_name t h = by (is_name t) h
  where
    by : (b : Bool) → not b ≡ true → b ≡ false
    by true e = absurd (false≢true e)
    by false e = refl

plain_by : (out : List Token) (sign : Token → Bool) (m : ℕ) → ((t : Token) → sign t ≡ true → is_name t ≡ false) → IsSign sign out m → IsSign is_plain out m
plain_by out sign m lacks i = record { mark = i.mark; has = i.has; direct = i.direct; is_sign = ap not (lacks i.mark i.is_sign) }

plain_closes : (out : List Token) (ms : List ℕ) → Closes out ms → Each (IsSign is_plain out) ms
plain_closes out [] h = tt
plain_closes out (m ∷ []) h = (plain_by out is_close m close-no_name h, tt)
plain_closes out (m ∷ k ∷ ms) h = (plain_by out is_comma m comma-no_name h.0, plain_closes out (k ∷ ms) h.1)

pub plain_signed : (out : List Token) (ms : List ℕ) → AreSigned out ms → Each (IsSign is_plain out) ms
plain_signed out [] h = tt
plain_signed out (m ∷ ms) h = (plain_by out is_open m open-no_name h.0, plain_closes out ms h.1)

-- ---- an item of a run

module _ (alike : ExpansionsEndAlike) (set : Setting) (before : ℕ) (run : List Token) (work : Work) (e : Expanded) (distinct : AreDistinct run) (is : whole set 0 before (unhidden run) work ≡ Ok e) where
  abbrev out : List Token
  out = toks_of e.toks

  -- two marks that follow each other
  item_run : (r q o p : ℕ) → r < q → slice_get run r ≡ slice_get out o → slice_get run q ≡ slice_get out p → IsSign is_plain out o → IsSign is_plain out p
      → IsItem out (record { begin = o + 1; end = p }) → IsItem run (record { begin = r + 1; end = q })
  item_run r q o p lt first second a b i =
      let some = i.some in
      let mark : IsMark is_plain run out r o = record { mark = a.mark; run_has = first ∙ a.has; out_has = a.has; direct = a.direct; is_sign = a.is_sign } in
      let x = split_at set before run work e r o is_plain mark plain_no_name distinct is in
      let n : ℕ = q - suc r in
      let m : ℕ = p - suc o in
      let rest : List Token = drop (suc r) run in
      let out_rest : toks_of x.z.toks ≡ drop (suc o) out = ap toks_of x.z_toks ∙ sym (drop-map (λ (h : Hidden). h.tok) (suc o) e.toks) in
      let n_is : suc r + n ≡ q = omega (arith, lt) in
      let m_is : suc o + m ≡ p = omega (arith, some) in
      let rest_has : slice_get rest n ≡ Some b.mark = back_at (suc r) run q n b.mark n_is (second ∙ b.has) in
      let out_has : slice_get (toks_of x.z.toks) m ≡ Some b.mark = ap (λ (ts : List Token). slice_get ts m) out_rest ∙ back_at (suc o) out p m b.mark m_is b.has in
      let mark2 : IsMark is_plain rest (toks_of x.z.toks) n m = record { mark = b.mark; run_has = rest_has; out_has = out_has; direct = b.direct; is_sign = b.is_sign } in
      let y = split_at set (before + suc o) rest x.x.left x.z n m is_plain mark2 plain_no_name (distinct_drop (suc r) run distinct) x.behind in
      let ends = alike set 0 (before + suc o) (take n rest) x.x.left y.x y.first in
      let item_is : toks_of y.x.toks ≡ take m (drop (suc o) out) = ap toks_of y.x_toks ∙ (sym (take-map (λ (h : Hidden). h.tok) m x.z.toks) ∙ ap (take m) out_rest) in
      let long_out : length (toks_of y.x.toks) ≡ m = ap length item_is ∙ length_at (drop (suc o) out) m b.mark (back_at (suc o) out p m b.mark m_is b.has) in
      let long_run : length (take n rest) ≡ n = length_at rest n b.mark rest_has in
      let has : 0 < length (take n rest) = ends.some (omega (arith, long_out, m_is, some)) in
      let some_run : r + 1 < q = omega (arith, has, long_run, n_is) in
      let out_first = passed may_begin out (o + 1) i.first in
      let out_last = passed may_end out (p - 1) i.last in
      let at_first : o + 1 ≡ suc o + 0 = omega arith in
      let at_last : p - 1 ≡ suc o + (m - 1) = omega (arith, m_is, some) in
      let out_begins : FirstPasses may_begin (toks_of y.x.toks) =
      λ t at. let same = same_Some out_first.0 t (sym out_first.1 ∙ (ap (slice_get out) at_first ∙ (sym (get_drop (suc o) out 0) ∙ get_taken m (drop (suc o) out) 0 t (ap (λ (ts : List Token). slice_get ts 0) (sym item_is) ∙ at)))) in
      ap may_begin (sym same) ∙ out_first.2 in
      let out_ends : LastPasses may_end (toks_of y.x.toks) =
      λ t at.
      let at2 : slice_get (toks_of y.x.toks) (m - 1) ≡ Some t = ap (λ (k : ℕ). slice_get (toks_of y.x.toks) (k - 1)) (sym long_out) ∙ at in
      let same = same_Some out_last.0 t (sym out_last.1 ∙ (ap (slice_get out) at_last ∙ (sym (get_drop (suc o) out (m - 1)) ∙ get_taken m (drop (suc o) out) (m - 1) t (ap (λ (ts : List Token). slice_get ts (m - 1)) (sym item_is) ∙ at2)))) in
      ap may_end (sym same) ∙ out_last.2 in
      let run_first = some_at (take n rest) 0 has in
      let run_last = some_at (take n rest) (length (take n rest) - 1) (omega (arith, has)) in
      let first_at : slice_get run (r + 1) ≡ Some run_first.0 =
      (let k : r + 1 ≡ suc r + 0 = omega arith in ap (slice_get run) k) ∙ (sym (get_drop (suc r) run 0) ∙ get_taken n rest 0 run_first.0 run_first.1) in
      let last_at : slice_get run (q - 1) ≡ Some run_last.0 =
      (let k : q - 1 ≡ suc r + (length (take n rest) - 1) = omega (arith, long_run, n_is, some_run) in ap (slice_get run) k)
      ∙ (sym (get_drop (suc r) run (length (take n rest) - 1)) ∙ get_taken n rest (length (take n rest) - 1) run_last.0 run_last.1) in
      record {
        some = some_run;
        first = pass_at may_begin run (r + 1) run_first.0 first_at (ends.first may_begin names_may_begin out_begins run_first.0 run_first.1);
        last = pass_at may_end run (q - 1) run_last.0 last_at (ends.last may_end names_may_end closes_may_end out_ends run_last.0 run_last.1);
      }

  pub items_run : (from : ℕ) (rs os : List ℕ) → StandFrom from rs → map (slice_get run) rs ≡ map (slice_get out) os → Each (IsSign is_plain out) os → Each (IsItem out) (spans_by os)
      → Each (IsItem run) (spans_by rs)
  items_run from [] os stand e signs items = tt
  items_run from (r ∷ []) os stand e signs items = tt
  items_run from (r ∷ q ∷ rs) [] stand e signs items = absurd (cc)
  items_run from (r ∷ q ∷ rs) (o ∷ []) stand e signs items = absurd (cc)
  items_run from (r ∷ q ∷ rs) (o ∷ p ∷ os) stand e signs items =
      let first : slice_get run r ≡ slice_get out o = cc in
      let second : slice_get run q ≡ slice_get out p = cc in
      let more : map (slice_get run) (q ∷ rs) ≡ map (slice_get out) (p ∷ os) = cc in
      let low = stand.1.0 in
      (item_run r q o p (omega (arith, low)) first second signs.0 signs.1.0 items.0, items_run (r + 1) (q ∷ rs) (p ∷ os) stand.1 more signs.1 items.1)
