-- The cut of lists that stand in runs of text lines has its lists in runs.
use Rattle.std.proofs.Common.{◌≡◌, ◌≤◌, ◌<◌, ℕ, zero, suc, ◌+◌, ◌-◌, Bool, true, false, List, [], ◌∷◌, length, take, drop, map, Some, refl, ap, sym, subst, ◌∙◌, arith}
use Rattle.std.specs.Prelude.{slice_get}
use Rattle.std.specs.List.{list_any}
use Rattle.std.proofs.Math.Seq.{take-add}
use Rattle.std.proofs.lemmas.List.{length-map, take-map, drop-map, drop-drop}
use Rattle.cs_base.specs.Token.{Token}
use Rattle.line_shape.specs.Signs.{is_hash}
use Rattle.lexer.specs.Tokens.{tokens_of, firsts_of}
use Rattle.lexer.proofs.ScanLemmas.{firsts_of-each as file_firsts}
use Rattle.arranged_text_laws.specs.FileItems.{placed, FileRuns}
use Rattle.arranged_text_laws.specs.Labels.{masked}
use Rattle.arranged_text_laws.specs.Runs.{Placed, begins_directive, goes_on, text_behind, ListsInRuns}
use Rattle.arranged_text_laws.specs.Tokens.{cut_in, token_there, without_gap, not_first}
use Rattle.arranged_text_laws.proofs.FileItemLemmas.{length-masked, length-placed}
use Rattle.arranged_text_laws.proofs.RunLemmas.{same_text}
use Rattle.arranged_text_laws.proofs.SeamLemmas.{masked_same}
use Rattle.arranged_text_laws.proofs.TokenLaw.{masked-image}
use Rattle.arranged_text_laws.proofs.FileRuns.{hash_there}
use Rattle.list_cuts.specs.Cuts.{Cut, done, keep, list, span_of, extent_of}
use Rattle.list_cuts.specs.CutOf.{cut_items, rest_of, back, cut_of}
use Rattle.list_cuts.specs.declared.spans.Span.{Span}
use Rattle.edited_unit_laws.specs.Texts.{AreHeads, close_of, EachInRun, ListsStandInRuns}
use Rattle.edited_unit_laws.proofs.AlongLemmas.{Along, EachHead, AreSpanned, lists_along}
use Rattle.edited_unit_laws.proofs.BoundLemmas.{IsInside, inside_list, text_both}
use Rattle.edited_unit_laws.proofs.FirstLemmas.{first_of_file}
use Rattle.edited_unit_laws.proofs.HeadLemmas.{hash_at, placed_same, any_same}

-- ---- along the cut

-- A list from one token to another: the token before it stands in a text line, and no directive line begins in it or with the token
-- behind it.
record InRun (ps vs : List Placed) (a b : ℕ) : Type 0 where
  text : text_behind true (take a ps) ≡ true
  plain : list_any begins_directive (take (b - a) (drop a ps)) ≡ false
  on : goes_on (drop b ps) ≡ true

to_runs : (ps vs : List Placed) (Q : ℕ → Type 0) (from : ℕ) (c : Cut) → map begins_directive vs ≡ map begins_directive ps → Along (InRun ps vs) Q from c
    → ListsInRuns (text_behind true (take from ps)) c (drop from ps) (drop from vs)
to_runs ps vs Q from done same a = tt
to_runs ps vs Q from (keep n c) same a =
    let rest = to_runs ps vs Q (from + n) c same a in
    let text : text_behind true (take (from + n) ps) ≡ text_behind (text_behind true (take from ps)) (take n (drop from ps)) =
    ap (text_behind true) (take-add from n ps) ∙ text_both true (take from ps) (take n (drop from ps)) in
    subst (λ (l : List Placed). ListsInRuns (text_behind (text_behind true (take from ps)) (take n (drop from ps))) c l (drop n (drop from vs))) (sym (drop-drop n from ps))
    (subst (λ (l : List Placed). ListsInRuns (text_behind (text_behind true (take from ps)) (take n (drop from ps))) c (drop (from + n) ps) l) (sym (drop-drop n from vs))
    (subst (λ (b : Bool). ListsInRuns b c (drop (from + n) ps) (drop (from + n) vs)) text rest))
to_runs ps vs Q from (list is c) same a =
    let n = span_of is in
    let here = a.0 in
    let count : from + n - from ≡ n = omega arith in
    let plain : list_any begins_directive (take n (drop from ps)) ≡ false = ap (λ (i : ℕ). list_any begins_directive (take i (drop from ps))) (sym count) ∙ here.plain in
    let parts : map begins_directive (take n (drop from vs)) ≡ map begins_directive (take n (drop from ps)) =
    sym (take-map begins_directive n (drop from vs)) ∙ ap (take n) (sym (drop-map begins_directive from vs) ∙ ap (drop from) same ∙ drop-map begins_directive from ps) ∙ take-map begins_directive n (drop from ps) in
    let plain2 : list_any begins_directive (take n (drop from vs)) ≡ false = any_same (take n (drop from ps)) (take n (drop from vs)) parts ∙ plain in
    let on : goes_on (drop n (drop from ps)) ≡ true = ap goes_on (drop-drop n from ps) ∙ here.on in
    let whole : IsInside true (drop from ps) n = inside_list n n (drop from ps) (omega arith) plain on in
    let text : text_behind true (take (from + n) ps) ≡ true =
    ap (text_behind true) (take-add from n ps) ∙ text_both true (take from ps) (take n (drop from ps)) ∙ ap (λ (b : Bool). text_behind b (take n (drop from ps))) here.text ∙ whole.text_is in
    let rest = to_runs ps vs Q (from + n) c same a.2 in (
      here.text,
      plain,
      plain2,
      on,
      subst (λ (l : List Placed). ListsInRuns true c l (drop n (drop from vs))) (sym (drop-drop n from ps))
          (subst (λ (l : List Placed). ListsInRuns true c (drop (from + n) ps) l) (sym (drop-drop n from vs))
          (subst (λ (b : Bool). ListsInRuns b c (drop (from + n) ps) (drop (from + n) vs)) text rest)),
    )

-- ---- lists

heads_of : (ps : List Placed) (ts : List Token) (fs : List Bool) (l : List Span) → ps ≡ placed ts fs → length fs ≡ length ts → AreHeads ps l → EachHead (λ k. hash_at ts k ≡ false) l
heads_of ps ts fs [] is even h = tt
heads_of ps ts fs (s ∷ more) is even h = (head_of ts fs s.begin even (λ p at. h.0 p (ap (λ (x : List Placed). slice_get x s.begin) is ∙ at)), heads_of ps ts fs more is even h.1)
  where
    head_of : (ts2 : List Token) (fs2 : List Bool) (k : ℕ) → length fs2 ≡ length ts2 → ((p : Placed) → slice_get (placed ts2 fs2) k ≡ Some p → is_hash p.tok ≡ false) → hash_at ts2 k ≡ false
    head_of [] fs2 k e told = refl
    head_of (t ∷ ts2) [] k e told = absurd (omega (arith, e))
    head_of (t ∷ ts2) (f ∷ fs2) zero e told = told (record { tok = t; first = f }) refl
    head_of (t ∷ ts2) (f ∷ fs2) (suc k) e told = head_of ts2 fs2 k (omega (arith, e)) told

-- something is left
goes_within : (n : ℕ) (ps : List Placed) → goes_on (drop n ps) ≡ true → n ≤ length ps
goes_within zero ps on = omega arith
goes_within (suc n) [] on = absurd cc
goes_within (suc n) (p ∷ ps) on = let k = goes_within n ps on in omega (arith, k)

spanned : (ts : List Token) (fs : List Bool) (vs : List Placed) (lists : List (List Span)) → length fs ≡ length ts → EachInRun (placed ts fs) lists
    → AreSpanned (InRun (placed ts fs) vs) (λ k. hash_at ts k ≡ false) (length ts) lists
spanned ts fs vs [] even all = tt
spanned ts fs vs (l ∷ lists) even all =
    let one = all.0 in
    let within = goes_within (close_of l) (placed ts fs) one.on in
    let size = length-placed ts fs even in (
      record {
        spans = one.spans;
        heads = heads_of (placed ts fs) ts fs l refl even one.heads;
        here = record { text = one.text; plain = one.plain; on = one.on };
        last = omega (arith, within, size);
      },
      spanned ts fs vs lists even all.1,
    )

-- ---- the tokens of a file

hash_image : (c : Cut) (xs : List Token) → map is_hash (masked without_gap c xs) ≡ map is_hash xs
unfolding is_hash
hash_image c xs = sym (masked-image without_gap (λ y. y) is_hash (λ x. refl) c xs) ∙ masked_same c (map is_hash xs)

-- the first list begins behind the first token
file_runs : (ts us : List Token) (fs gs : List Bool) (Q : ℕ → Type 0) (b : ℕ) (c : Cut) → 0 < b → ((first : Bool) (rest : List Bool) → fs ≡ first ∷ rest → first ≡ true)
    → length fs ≡ length ts → length gs ≡ length us → length us ≡ length ts → b ≤ length ts → map begins_directive (placed us gs) ≡ map begins_directive (placed ts fs)
    → Along (InRun (placed ts fs) (placed us gs)) Q 0 (keep b c) → FileRuns (keep b c) (placed ts fs) (placed us gs)
file_runs ts us fs gs Q zero c some first even even2 even3 within same a = absurd (omega (arith, some))
file_runs [] us fs gs Q (suc n) c some first even even2 even3 within same a = absurd (omega (arith, within))
file_runs (t ∷ ts) us [] gs Q (suc n) c some first even even2 even3 within same a = absurd (omega (arith, even))
file_runs (t ∷ ts) [] (f ∷ fs) gs Q (suc n) c some first even even2 even3 within same a = absurd (omega (arith, even3))
file_runs (t ∷ ts) (u ∷ us) (f ∷ fs) [] Q (suc n) c some first even even2 even3 within same a = absurd (omega (arith, even2))
file_runs (t ∷ ts) (u ∷ us) (f ∷ fs) (g ∷ gs) Q (suc n) c some first even even2 even3 within same a =
    let p : Placed = record { tok = t; first = f } in
    let ps : List Placed = placed ts fs in
    let place : 0 + suc n ≡ suc n = omega arith in
    let all = to_runs (placed (t ∷ ts) (f ∷ fs)) (placed (u ∷ us) (g ∷ gs)) Q (suc n) c same (subst (λ (i : ℕ). Along (InRun (placed (t ∷ ts) (f ∷ fs)) (placed (u ∷ us) (g ∷ gs))) Q i c) place a) in
    subst (λ (b : Bool). ListsInRuns (text_behind b (take n ps)) c (drop n ps) (drop n (placed us gs))) (same_text true p (first f fs refl)) all

first_list : (ts us : List Token) (fs gs : List Bool) (Q : ℕ → Type 0) (lists : List (List Span)) → 0 < length lists → EachInRun (placed ts fs) lists
    → ((first : Bool) (rest : List Bool) → fs ≡ first ∷ rest → first ≡ true) → length fs ≡ length ts → length gs ≡ length us → length us ≡ length ts → extent_of (cut_of lists) ≤ length ts
    → map begins_directive (placed us gs) ≡ map begins_directive (placed ts fs) → Along (InRun (placed ts fs) (placed us gs)) Q 0 (cut_of lists) → FileRuns (cut_of lists) (placed ts fs) (placed us gs)
unfolding cut_of extent_of
first_list ts us fs gs Q [] some each first even even2 even3 within same a = absurd (omega (arith, some))
first_list ts us fs gs Q ([] ∷ lists) some each first even even2 even3 within same a = absurd each.0.spans
first_list ts us fs gs Q ((s ∷ more) ∷ lists) some each first even even2 even3 within same a =
    file_runs ts us fs gs Q s.begin (list (cut_items (back s.begin (cut_of lists)) (s ∷ more)) (rest_of (back s.begin (cut_of lists)) (s ∷ more))) each.0.behind first even even2 even3
    (omega (arith, within)) same a

pub lists_stand_in_runs : ListsStandInRuns
unfolding extent_of
lists_stand_in_runs = λ order c file bytes lists new cut some each nested.
    let T : List Token = tokens_of file bytes in
    let F : List Bool = firsts_of bytes in
    let tc : Cut = cut_in file c bytes in
    let there : List Token = map (token_there order c bytes) T in
    let even = file_firsts file bytes in
    let long : length new.toks ≡ length T =
    sym (length-masked without_gap tc new.toks) ∙ ap length new.alike ∙ length-masked without_gap tc there ∙ length-map T (token_there order c bytes) in
    let long2 : length new.firsts ≡ length F = sym (length-masked not_first tc new.firsts) ∙ ap length new.firsts_alike ∙ length-masked not_first tc F in
    let even2 : length new.firsts ≡ length new.toks = long2 ∙ even ∙ sym long in
    let hashes : map is_hash new.toks ≡ map is_hash T =
    sym (hash_image tc new.toks) ∙ ap (map is_hash) new.alike ∙ hash_image tc there ∙ hash_there order c bytes T in
    let k = lists_along (InRun (placed T F) (placed new.toks new.firsts)) (λ i. hash_at T i ≡ false) (length T) lists nested (spanned T F (placed new.toks new.firsts) lists even each) in
    let extent = k.1 in
    let along : Along (InRun (placed T F) (placed new.toks new.firsts)) (λ i. hash_at T i ≡ false) 0 tc =
    subst (λ (x : Cut). Along (InRun (placed T F) (placed new.toks new.firsts)) (λ i. hash_at T i ≡ false) 0 x) (sym cut) k.0 in
    let same : map begins_directive (placed new.toks new.firsts) ≡ map begins_directive (placed T F) =
    placed_same (InRun (placed T F) (placed new.toks new.firsts)) tc T new.toks F new.firsts even even2 hashes new.firsts_alike along in
    let within : extent_of (cut_of lists) ≤ length T = omega (arith, extent) in (
      subst (λ (x : Cut). extent_of x ≤ length T) (sym cut) within,
      subst (λ (x : Cut). FileRuns x (placed T F) (placed new.toks new.firsts)) (sym cut)
          (first_list T new.toks F new.firsts (λ i. hash_at T i ≡ false) lists some each (first_of_file bytes) even even2 long within same k.0),
    )
