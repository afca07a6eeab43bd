-- The lists of a file stand in its runs, also once their items are in another order.
use Rattle.std.proofs.Common.{◌≡◌, ℕ, zero, suc, ◌+◌, ◌-◌, ◌<◌, ◌≤◌, Bool, true, false, not, ◌&&◌, ◌||◌, List, [], ◌∷◌, ◌++◌, length, take, drop, map, Option, Some, None, inl, inr, refl, sym, ap, subst, ◌∙◌, arith, take-add, take-append-drop, length-take-le}
use Rattle.std.specs.Prelude.{slice_get, unwrap_or}
use Rattle.std.specs.List.{list_any}
use Rattle.std.proofs.lemmas.Bool.{cases_Bool}
use Rattle.std.proofs.lemmas.List.{drop-drop, take-map, drop-map, length-map}
use Rattle.cs_base.specs.Token.{Token}
use Rattle.lexer.specs.Tokens.{tokens_of, firsts_of, open_comment_of}
use Rattle.lexer.proofs.ScanLemmas.{firsts_of-each as file_firsts}
use Rattle.line_shape.specs.Signs.{is_hash, is_close}
use Rattle.line_shape.proofs.SignLemmas.{close_no_hash}
use Rattle.list_cuts.specs.Cuts.{Cut, done, keep, list, Items, ended, item, span_of, extent_of}
use Rattle.arranged_text_laws.specs.Marks.{file_front}
use Rattle.arranged_text_laws.specs.Labels.{masked, starts, IsLed, Firsts, FirstsOfItems}
use Rattle.arranged_text_laws.specs.Tokens.{cut_in, token_there, without_gap, not_first, TokensAreArranged}
use Rattle.arranged_text_laws.specs.Runs.{Placed, begins_directive, in_text, goes_on, text_behind, ListsInRuns}
use Rattle.arranged_text_laws.specs.FileItems.{placed, FileRuns}
use Rattle.arranged_text_laws.proofs.SeamLemmas.{masked_same}
use Rattle.arranged_text_laws.proofs.TokenLaw.{masked-image}
use Rattle.arranged_text_laws.proofs.TokenLemmas.{firsts_append}
use Rattle.arranged_text_laws.proofs.FileItemLemmas.{length-placed}
use Rattle.arranged_text_laws.specs.Lists.{passes, may_begin, ListMoves}
use Rattle.arranged_text_laws.proofs.Formed.{IsKept, Formed, FormedItems, Each}
use Rattle.arranged_text_laws.proofs.FileTokens.{token_at}
use Rattle.arranged_text_laws.proofs.Bounds.{the_token}
use Rattle.arranged_text_laws.proofs.GoodTokens.{passed}
use Rattle.arranged_text_laws.proofs.Tree.{Tree, TreeItems, ListAt, list_at}
use Rattle.arranged_text_laws.proofs.PartFound.{seg, get_drop}
use Rattle.arranged_text_laws.proofs.CharsAlong.{seg_take, seg_drop}
use Rattle.arranged_text_laws.proofs.SameSigns.{both, both_placed, no_sign, same_both}

-- ---- first tokens of items are no `#`

starts_seg : (xs : List Bool) (i y : ℕ) (x : Bool) → slice_get xs i ≡ Some x → i < y → no_sign x ≡ true → starts no_sign (seg xs i y) ≡ true
starts_seg xs i y x there lt sign =
    let n = y - i - 1 in
    let same : y - i ≡ suc n = omega (arith, lt) in
    ap (λ (k : ℕ). starts no_sign (take k (drop i xs))) same ∙ at_front n (drop i xs) x (get_drop i 0 xs ∙ ap (slice_get xs) (plus_zero i) ∙ there) sign
  where
    plus_zero : (n : ℕ) → n + 0 ≡ n
    plus_zero n = omega arith

    at_front : (n : ℕ) (xs : List Bool) (x : Bool) → slice_get xs 0 ≡ Some x → no_sign x ≡ true → starts no_sign (take (suc n) xs) ≡ true
    at_front n [] x there sign = absurd cc
    at_front n (z ∷ xs) x there sign = ap no_sign (ap (λ (o : Option Bool). unwrap_or o x) there) ∙ sign

get_map : (ts : List Token) (k : ℕ) (t : Token) → slice_get ts k ≡ Some t → slice_get (map is_hash ts) k ≡ Some (is_hash t)
get_map [] k t there = absurd cc
get_map (u ∷ ts) zero t there = ap (λ (o : Option Token). Some (is_hash (unwrap_or o t))) there
get_map (u ∷ ts) (suc k) t there = get_map ts k t there

hash_masked : (c : Cut) (ts : List Token) → map is_hash ts ≡ map is_hash (masked without_gap c ts)
unfolding is_hash
hash_masked c ts = sym (masked_same c (map is_hash ts)) ∙ masked-image without_gap (λ b. b) is_hash (λ t. refl) c ts

pub hash_there : (order : List ℕ) (d : Cut) (bytes : List ℕ) (ts : List Token) → map is_hash (map (token_there order d bytes) ts) ≡ map is_hash ts
unfolding is_hash
hash_there order d bytes [] = refl
hash_there order d bytes (t ∷ ts) = ap (λ (l : List Bool). is_hash t ∷ l) (hash_there order d bytes ts)

abbrev nothing : Bool → Unit {0}
nothing x = tt

same_long : (c : Cut) (xs : List Bool) → length (masked not_first c xs) ≡ length xs
same_long c xs =
    sym (length-map (masked not_first c xs) nothing)
    ∙ ap length (sym (masked-image not_first (λ y. y) nothing (λ x. refl) c xs) ∙ masked_same c (map nothing xs)) ∙ length-map xs nothing

module _ (file : ℕ) (bytes : List ℕ) (none : open_comment_of bytes ≡ None) where
  abbrev signs : List Bool
  signs = map is_hash (tokens_of file bytes)

  mutual
    unfolding span_of extent_of

    firsts_tree : (i j : ℕ) (c : Cut) → Formed c → i + extent_of c ≤ j → Tree file bytes i c j → Firsts no_sign c (seg signs i j)
    firsts_tree i j done f within t = tt
    firsts_tree i j (keep k done) f within t = absurd f.0
    firsts_tree i j (keep k (keep n c)) f within t = absurd f.0
    firsts_tree i j (keep k (list is c)) f within t =
        let l = i + k in
        let m = l + span_of is in
        let on : k ≡ l - i = omega arith in
        let over : span_of is ≡ m - l = omega arith in
        let here : drop k (seg signs i j) ≡ seg signs l j = ap (λ (n : ℕ). drop n (seg signs i j)) on ∙ seg_drop signs i l j (omega arith) (omega (arith, within)) in
        let there : drop (span_of is) (seg signs l j) ≡ seg signs m j = ap (λ (n : ℕ). drop n (seg signs l j)) over ∙ seg_drop signs l m j (omega arith) (omega (arith, within)) in
        subst (λ (xs : List Bool). FirstsOfItems no_sign is xs × Firsts no_sign c (drop (span_of is) xs)) (sym here)
        (firsts_items l j is f.1.2 (omega (arith, within)) t.1.2, subst (Firsts no_sign c) (sym there) (firsts_tree m j c f.1.4 (omega (arith, within)) t.1.3))
    firsts_tree i j (list is c) f within t =
        let m = i + span_of is in
        let over : span_of is ≡ m - i = omega arith in
        let there : drop (span_of is) (seg signs i j) ≡ seg signs m j = ap (λ (n : ℕ). drop n (seg signs i j)) over ∙ seg_drop signs i m j (omega arith) (omega (arith, within)) in
        (firsts_items i j is f.2 (omega (arith, within)) t.2, subst (Firsts no_sign c) (sym there) (firsts_tree m j c f.4 (omega (arith, within)) t.3))

    firsts_items : (i j : ℕ) (is : Items) → FormedItems is → i + span_of is ≤ j → TreeItems file bytes i is → FirstsOfItems no_sign is (seg signs i j)
    firsts_items i j ended f within t = tt
    firsts_items i j (item n c gap more) f within t =
        let k = i + n in
        let q = i + (n + gap) in
        let some = f.0 in
        let on : n ≡ k - i = omega arith in
        let over : n + gap ≡ q - i = omega arith in
        let first : take n (seg signs i j) ≡ seg signs i k = ap (λ (m : ℕ). take m (seg signs i j)) on ∙ seg_take signs i k j (omega (arith, within)) in
        let rest : drop (n + gap) (seg signs i j) ≡ seg signs q j = ap (λ (m : ℕ). drop m (seg signs i j)) over ∙ seg_drop signs i q j (omega arith) (omega (arith, within)) in
        let p = passed may_begin (tokens_of file bytes) i t.0 in (
          ap (starts no_sign) first ∙ starts_seg signs i k (is_hash p.0) (get_map (tokens_of file bytes) i p.0 p.1) (omega (arith, some)) p.2,
          t.1,
          subst (Firsts no_sign c) (sym first) (firsts_tree i k c f.3 (let x = f.1 in omega (arith, x)) t.4),
          subst (FirstsOfItems no_sign more) (sym rest) (firsts_items q j more f.5 (omega (arith, within)) t.6),
        )

  -- the tokens that begin directive lines are those that did
  pub same_directives : (order : List ℕ) (d c : Cut) (j : ℕ) → cut_in file d bytes ≡ c → Formed c → extent_of c ≤ j → j ≤ length (tokens_of file bytes) → Tree file bytes 0 c j
      → (new : TokensAreArranged order d file bytes)
      → map begins_directive (placed new.toks new.firsts) ≡ map begins_directive (placed (tokens_of file bytes) (firsts_of bytes))
  same_directives order d c j is f within le t new =
      let T = tokens_of file bytes in
      let F = firsts_of bytes in
      let H = signs in
      let there = map (token_there order d bytes) T in
      let new_signs : map is_hash new.toks ≡ H =
      hash_masked c new.toks ∙ ap (map is_hash) (sym (ap (λ (k : Cut). masked without_gap k new.toks) is) ∙ new.alike ∙ ap (λ (k : Cut). masked without_gap k there) is)
      ∙ sym (hash_masked c there) ∙ hash_there order d bytes T in
      let firsts : masked not_first c new.firsts ≡ masked not_first c F =
      sym (ap (λ (k : Cut). masked not_first k new.firsts) is) ∙ new.firsts_alike ∙ ap (λ (k : Cut). masked not_first k F) is in
      let long : length new.firsts ≡ length F = sym (same_long c new.firsts) ∙ ap length firsts ∙ same_long c F in
      let even = file_firsts file bytes in
      let zero : j - 0 ≡ j = omega arith in
      let size : length H ≡ length T = length-map T is_hash in
      let starting : Firsts no_sign c H =
      subst (Firsts no_sign c) (take-append-drop j H)
      (firsts_append no_sign c (take j H) (drop j H) (rw (length-take-le j H (rw size le)) within) (subst (λ (n : ℕ). Firsts no_sign c (take n H)) zero (firsts_tree 0 j c f (omega (arith, within)) t))) in
      both_placed new.toks new.firsts ∙ ap (both new.firsts) new_signs ∙ same_both c new.firsts F H f long (omega (arith, long, even, within, le)) firsts starting
      ∙ sym (both_placed T F)

-- ---- runs

pub behind_append : (ps qs : List Placed) (b : Bool) → text_behind b (ps ++ qs) ≡ text_behind (text_behind b ps) qs
behind_append [] qs b = refl
behind_append (p ∷ ps) qs b = behind_append ps qs (in_text b p)

behind_more : (ps : List Placed) (b : Bool) → text_behind b ps ≡ true → text_behind true ps ≡ true
behind_more [] b h = refl
behind_more (p ∷ ps) b h = elim (cases_Bool p.first) [
  | inl first ↦ rw first (rw first at h)
  | inr later ↦ rw later (behind_more ps b (rw later at h))
]

any_mapped : (ps qs : List Placed) (i n : ℕ) → map begins_directive ps ≡ map begins_directive qs → list_any begins_directive (take n (drop i qs)) ≡ false
    → list_any begins_directive (take n (drop i ps)) ≡ false
any_mapped ps qs i n h none =
    any_map (take n (drop i ps)) ∙ ap (list_any (λ b. b)) (sym (parts ps) ∙ ap (λ (l : List Bool). take n (drop i l)) h ∙ parts qs) ∙ sym (any_map (take n (drop i qs))) ∙ none
  where
    any_map : (xs : List Placed) → list_any begins_directive xs ≡ list_any (λ b. b) (map begins_directive xs)
    any_map [] = refl
    any_map (x ∷ xs) = ap (λ (b : Bool). begins_directive x || b) (any_map xs)

    parts : (xs : List Placed) → take n (drop i (map begins_directive xs)) ≡ map begins_directive (take n (drop i xs))
    parts xs = ap (take n) (drop-map begins_directive i xs) ∙ take-map begins_directive n (drop i xs)

goes_on_at : (ps : List Placed) (m : ℕ) (p : Placed) → slice_get ps m ≡ Some p → begins_directive p ≡ false → goes_on (drop m ps) ≡ true
goes_on_at [] m p there no_sign = absurd cc
goes_on_at (q ∷ ps) zero p there no_directive = ap (λ (x : Placed). not (begins_directive x)) (ap (λ (o : Option Placed). unwrap_or o p) there) ∙ ap not no_directive
goes_on_at (q ∷ ps) (suc m) p there no_directive = goes_on_at ps m p there no_directive

module _ (file : ℕ) (bytes : List ℕ) (none : open_comment_of bytes ≡ None) (vs : List Placed)
    (same : map begins_directive vs ≡ map begins_directive (placed (tokens_of file bytes) (firsts_of bytes))) where
  abbrev ps : List Placed
  ps = placed (tokens_of file bytes) (firsts_of bytes)

  close_goes_on : (m : ℕ) → passes is_close (tokens_of file bytes) m ≡ true → goes_on (drop m ps) ≡ true
  close_goes_on m close =
      let p = passed is_close (tokens_of file bytes) m close in
      let a = token_at file bytes none m p.0 p.1 in
      goes_on_at ps m (record { tok = p.0; first = a.first }) a.in_placed (ap (λ (h : Bool). a.first && h) (close_no_hash p.0 p.2) ∙ and_false a.first)
    where
      and_false : (b : Bool) → (b && false) ≡ false
      and_false true = refl
      and_false false = refl

  runs_list : (text : Bool) (l : ℕ) (is : Items) (c : Cut) → text ≡ true → ListAt file bytes l is → ListsInRuns true c (drop (l + span_of is) ps) (drop (l + span_of is) vs)
      → ListsInRuns text (list is c) (drop l ps) (drop l vs)
  runs_list text l is c h a rest =
      let there : drop (span_of is) (drop l ps) ≡ drop (l + span_of is) ps = drop-drop (span_of is) l ps in
      let there2 : drop (span_of is) (drop l vs) ≡ drop (l + span_of is) vs = drop-drop (span_of is) l vs in (
        h,
        a.plain,
        any_mapped vs ps l (span_of is) same a.plain,
        ap goes_on there ∙ close_goes_on (l + span_of is) a.closed,
        rw (there, there2) rest,
      )

  runs_from : (m : ℕ) (c : Cut) → Formed c → IsKept c → Each (ListMoves file bytes) m c → ListsInRuns true c (drop m ps) (drop m vs)
  runs_from m done f kept e = tt
  runs_from m (keep k done) f kept e = absurd f.0
  runs_from m (keep k (keep n c)) f kept e = absurd f.0
  runs_from m (keep k (list is c)) f kept e =
      let l = m + k in
      let a = list_at file bytes none l is f.1.2 f.1.0 e.0 in
      let before : text_behind true (take k (drop m ps)) ≡ true =
      behind_more (take k (drop m ps)) (text_behind true (take m ps))
      (sym (behind_append (take m ps) (take k (drop m ps)) true) ∙ ap (text_behind true) (sym (take-add m k ps)) ∙ a.text) in
      let there : drop k (drop m ps) ≡ drop l ps = drop-drop k m ps in
      let there2 : drop k (drop m vs) ≡ drop l vs = drop-drop k m vs in
      rw (there, there2) (runs_list (text_behind true (take k (drop m ps))) l is c before a (runs_from (l + span_of is) c f.1.4 f.1.3 e.2))
  runs_from m (list is c) f kept e = absurd kept

  -- the first token of a file is the first of its line
  pub first_there : (p : Placed) → slice_get ps 0 ≡ Some p → 0 < length (tokens_of file bytes) → p.first ≡ true
  unfolding file_front
  first_there p there some =
      let t = the_token file bytes none 0 some in
      let is : record { tok = t.0; first = t.2.first } ≡ p = ap (λ (o : Option Placed). unwrap_or o p) (sym t.2.in_placed ∙ there) in
      sym (ap (λ (x : Placed). x.first) is) ∙ t.2.first_is ∙ t.2.spot_of.start refl refl

  pub file_runs : (c : Cut) → Formed c → IsLed c → Each (ListMoves file bytes) 0 c → 0 < extent_of c → 0 < length (tokens_of file bytes) → length vs ≡ length ps → FileRuns c ps vs
  unfolding extent_of
  file_runs done f led e some many long = absurd (omega (arith, some))
  file_runs (list is c) f led e some many long = absurd led
  file_runs (keep zero c) f led e some many long = absurd (omega (arith, led))
  file_runs (keep (suc k) done) f led e some many long = absurd f.0
  file_runs (keep (suc k) (keep n c)) f led e some many long = absurd f.0
  file_runs (keep (suc k) (list is c)) f led e some many long =
      let zero_plus : 0 + suc k ≡ suc k = omega arith in
      let each = subst (λ (l : ℕ). Each (ListMoves file bytes) l (list is c)) zero_plus e in
      let a = list_at file bytes none (suc k) is f.1.2 f.1.0 each.0 in
      let rest = runs_from (suc k + span_of is) c f.1.4 f.1.3 each.2 in
      let size = length-placed (tokens_of file bytes) (firsts_of bytes) (file_firsts file bytes) in
      let first = λ (p : Placed) (there : slice_get ps 0 ≡ Some p). first_there p there many in
      of_lists ps vs first (omega (arith, size, many)) long a.text
      (λ text h. runs_list text (suc k) is c h a rest)
    where
      of_lists : (us ws : List Placed) → ((p : Placed) → slice_get us 0 ≡ Some p → p.first ≡ true) → 0 < length us → length ws ≡ length us → text_behind true (take (suc k) us) ≡ true
          → ((text : Bool) → text ≡ true → ListsInRuns text (list is c) (drop (suc k) us) (drop (suc k) ws)) → FileRuns (keep (suc k) (list is c)) us ws
      of_lists [] ws first some long text runs = absurd (omega (arith, some))
      of_lists (u ∷ us) [] first some long text runs = absurd (omega (arith, long))
      of_lists (u ∷ us) (w ∷ ws) first some long text runs =
          let begins : u.first ≡ true = first u refl in
          runs (text_behind (not (is_hash u.tok)) (take k us)) (rw begins at text)
