-- What is found in a file whose items are in a new order.
use Rattle.std.proofs.Common.{◌≡◌, ℕ, zero, suc, ◌+◌, ◌-◌, ◌<◌, ◌≤◌, Bool, true, false, ◌==◌, nat_lt, cond, List, [], ◌∷◌, ◌++◌, length, take, drop, map, get_or, Some, None, refl, sym, ap, subst, ◌∙◌, arith, take-append-drop, length-take-le}
use Rattle.std.specs.Prelude.{unwrap_or}
use Rattle.std.specs.List.{position_or_len}
use Rattle.std.proofs.lemmas.Bool.{eq-eqb, lt-ltb}
use Rattle.std.proofs.lemmas.List.{map-append, length-map, take-map, drop-map, get_or-map, get_or_default, same_lists}
use Rattle.std.proofs.lemmas.List.Sums.{position_or_len_is}
use Rattle.lexer.specs.Logical.{Character, logical_of, spelling, line_at}
use Rattle.lexer.specs.Tokens.{Found, FoundToken, FoundOpen, piece_of, piece_length, leaves_gap, line_front_after, expects_header, found_in, found_from, found_of}
use Rattle.list_cuts.specs.Cuts.{Cut, done, keep, list, Items, ended, item, count_of, span_of, extent_of, numbers, IsOrder, arranged, moved, AreOf, AreItemsOf}
use Rattle.list_cuts.proofs.OrderLemmas.{length-numbers, get_or-numbers}
use Rattle.list_cuts.proofs.CutLemmas.{arranged-map, length-arranged, arranged_permutes}
use Rattle.arranged_text_laws.specs.Labels.{head_with, masked, masked_items}
use Rattle.arranged_text_laws.specs.Settling.{Front}
use Rattle.arranged_text_laws.specs.Marks.{file_front, line_start, before, Mark, mark, text, marks_from, marks_of, brought, with_labels}
use Rattle.arranged_text_laws.specs.Seams.{kept}
use Rattle.arranged_text_laws.specs.Weighed.{together, weighed, weighed_items}
use Rattle.arranged_text_laws.specs.Outside.{SameOutside}
use Rattle.arranged_text_laws.specs.Arranging.{character_cut, token_cut, moved_found, place_in, line_in, MayMove, FilesAreArranged}
use Rattle.arranged_text_laws.proofs.OrderLemmas.{are_apart, apart_permuted, apart_at}
use Rattle.arranged_text_laws.proofs.ElsewhereLemmas.{elsewhere, one_elsewhere}
use Rattle.arranged_text_laws.proofs.OutsideLemmas.{lines, rows, length-lines, widths_rows, marks_lines, arranged_outside, lines_outside, beside_rows, beside_together, Known, marks_outside, brought_outside}
use Rattle.arranged_text_laws.proofs.SeamLemmas.{length-kept, kept_arranged, spelled_arranged}
use Rattle.arranged_text_laws.proofs.TokenLemmas.{TokensArranged, tokens_arranged}

-- ---- the characters of a file

pub text_marks : (bytes : List ℕ) (at : ℕ) (cs : List Character) → text (marks_from bytes at cs) ≡ spelling cs
unfolding marks_from
text_marks bytes at [] = refl
text_marks bytes at (c ∷ cs) = ap (λ (l : List ℕ). c.byte ∷ l) (text_marks bytes (at + 1) cs)

pub length-marks : (bytes : List ℕ) (at : ℕ) (cs : List Character) → length (marks_from bytes at cs) ≡ length cs
unfolding marks_from
length-marks bytes at [] = refl
length-marks bytes at (c ∷ cs) = ap (λ (n : ℕ). suc n) (length-marks bytes (at + 1) cs)

numbers_marks : (bytes : List ℕ) (at : ℕ) (cs : List Character) → map (λ (m : Mark). m.at) (marks_from bytes at cs) ≡ numbers at (length (marks_from bytes at cs))
unfolding marks_from numbers
numbers_marks bytes at [] = refl
numbers_marks bytes at (c ∷ cs) = ap (λ (l : List ℕ). at ∷ l) (numbers_marks bytes (at + 1) cs)

-- what is found in a file is what its characters bring
brought_found : (file : ℕ) (bytes : List ℕ) (skip : ℕ) (gap : Bool) (front : Front) (at : ℕ) (cs : List Character)
    → together (brought file skip gap front (marks_from bytes at cs)) ≡ found_from file bytes skip gap front at cs
unfolding marks_from brought found_from
brought_found file bytes skip gap front at [] = refl
brought_found file bytes (suc skip) gap front at (c ∷ cs) = brought_found file bytes skip gap front (at + 1) cs
brought_found file bytes zero gap front at (c ∷ cs) =
    let ms = marks_from bytes (at + 1) cs in
    let header = expects_header front in
    let chars = text_marks bytes (at + 1) cs in
    let long = length-marks bytes (at + 1) cs in
    let P = piece_of header c.byte (spelling cs) in
    ap (λ (t : List ℕ). found_in file (line_at bytes c.offset) gap front at (c.byte ∷ t) (piece_of header c.byte t)
    ++ together (brought file (piece_length (suc (length ms)) (piece_of header c.byte t) - 1) (leaves_gap (piece_of header c.byte t))
    (line_front_after (c.byte ∷ t) front (piece_of header c.byte t)) ms)) chars
    ∙ ap (λ (n : ℕ). found_in file (line_at bytes c.offset) gap front at (c.byte ∷ spelling cs) P
    ++ together (brought file (piece_length (suc n) P - 1) (leaves_gap P) (line_front_after (c.byte ∷ spelling cs) front P) ms)) long
    ∙ ap (λ (l : List Found). found_in file (line_at bytes c.offset) gap front at (c.byte ∷ spelling cs) P ++ l)
    (brought_found file bytes (piece_length (suc (length cs)) P - 1) (leaves_gap P) (line_front_after (c.byte ∷ spelling cs) front P) (at + 1) cs)

pub file_found : (file : ℕ) (bytes : List ℕ) → together (brought file 0 true line_start (marks_of bytes)) ≡ found_of file bytes
file_found file bytes = brought_found file bytes 0 true line_start 0 (logical_of bytes) ∙ sym (file_front.1 file bytes)

-- ---- characters elsewhere

text_elsewhere : (place line : ℕ → ℕ) (ms : List Mark) → text (map (elsewhere place line) ms) ≡ text ms
text_elsewhere place line [] = refl
text_elsewhere place line (m ∷ ms) = ap (λ (l : List ℕ). m.byte ∷ l) (text_elsewhere place line ms)

brought_elsewhere : (place line : ℕ → ℕ) (file skip : ℕ) (gap : Bool) (front : Front) (ms : List Mark)
    → brought file skip gap front (map (elsewhere place line) ms) ≡ map (map (moved_found place line)) (brought file skip gap front ms)
unfolding brought
brought_elsewhere place line file skip gap front [] = refl
brought_elsewhere place line file (suc skip) gap front (m ∷ ms) = ap (λ (l : List (List Found)). [] ∷ l) (brought_elsewhere place line file skip gap front ms)
brought_elsewhere place line file zero gap front (m ∷ ms) =
    let ns = map (elsewhere place line) ms in
    let header = expects_header front in
    let P = piece_of header m.byte (text ms) in
    ap (λ (t : List ℕ). found_in file (line m.at) gap front (place m.at) (m.byte ∷ t) (piece_of header m.byte t)
    ∷ brought file (piece_length (suc (length ns)) (piece_of header m.byte t) - 1) (leaves_gap (piece_of header m.byte t))
    (line_front_after (m.byte ∷ t) front (piece_of header m.byte t)) ns) (text_elsewhere place line ms)
    ∙ ap (λ (n : ℕ). found_in file (line m.at) gap front (place m.at) (m.byte ∷ text ms) P
    ∷ brought file (piece_length (suc n) P - 1) (leaves_gap P) (line_front_after (m.byte ∷ text ms) front P) ns) (length-map ms (elsewhere place line))
    ∙ ap (λ (fs : List Found). fs ∷ brought file (piece_length (suc (length ms)) P - 1) (leaves_gap P) (line_front_after (m.byte ∷ text ms) front P) ns)
    (one_elsewhere place line file m.line gap front m.at (m.byte ∷ text ms) header m.byte (text ms))
    ∙ ap (λ (l : List (List Found)). map (moved_found place line) (found_in file m.line gap front m.at (m.byte ∷ text ms) P) ∷ l)
    (brought_elsewhere place line file (piece_length (suc (length ms)) P - 1) (leaves_gap P) (line_front_after (m.byte ∷ text ms) front P) ms)

together-map : {X Y : Type 0} (f : X → Y) (xss : List (List X)) → together (map (map f) xss) ≡ map f (together xss)
together-map f [] = refl
together-map f (xs ∷ xss) = ap (λ (l : List _). map f xs ++ l) (together-map f xss) ∙ sym (map-append f xs (together xss))

head-map : {X : Type 0} (h g : X → X) → ((x : X) → h (g x) ≡ g (h x)) → (xs : List X) → head_with h (map g xs) ≡ map g (head_with h xs)
head-map h g same [] = refl
head-map h g same (x ∷ xs) = ap (λ y. y ∷ map g xs) (same x)

mutual
  unfolding masked masked_items span_of

  masked-map : {X : Type 0} (h g : X → X) → ((x : X) → h (g x) ≡ g (h x)) → (c : Cut) (xs : List X) → masked h c (map g xs) ≡ map g (masked h c xs)
  masked-map h g same done xs = refl
  masked-map h g same (keep n c) xs =
      rw (take-map g n xs, drop-map g n xs, masked-map h g same c (drop n xs)) (sym (map-append g (take n xs) (masked h c (drop n xs))))
  masked-map h g same (list is c) xs =
      rw (masked_items-map h g same is xs, drop-map g (span_of is) xs, masked-map h g same c (drop (span_of is) xs))
      (sym (map-append g (masked_items h is xs) (masked h c (drop (span_of is) xs))))

  masked_items-map : {X : Type 0} (h g : X → X) → ((x : X) → h (g x) ≡ g (h x)) → (is : Items) (xs : List X) → masked_items h is (map g xs) ≡ map g (masked_items h is xs)
  masked_items-map h g same ended xs = refl
  masked_items-map h g same (item n c gap more) xs =
      rw (take-map g n xs, drop-map g n xs, take-map g gap (drop n xs), drop-map g (n + gap) xs, masked-map h g same c (take n xs), masked_items-map h g same more (drop (n + gap) xs), head-map h g same (masked h c (take n xs)))
      (sym (map-append g (head_with h (masked h c (take n xs))) (take gap (drop n xs) ++ masked_items h more (drop (n + gap) xs))
      ∙ ap (λ (l : List _). map g (head_with h (masked h c (take n xs))) ++ l) (map-append g (take gap (drop n xs)) (masked_items h more (drop (n + gap) xs)))))

-- ---- places

-- the number at a place of the new order goes to that place
moved_back : (n m : ℕ) (order : List ℕ) (c : Cut) (k : ℕ) → IsOrder m order → AreOf m c → k < n → moved order c n (get_or (arranged order c (numbers 0 n)) k 0) ≡ k
moved_back n m order c k is all lt =
    let P = arranged order c (numbers 0 n) in
    let long : length P ≡ n = length-arranged m order c (numbers 0 n) is all ∙ length-numbers n 0 in
    let few : k < length P = rw long lt in
    let once : are_apart P ≡ true = apart_permuted 0 n P (arranged_permutes m order c (numbers 0 n) is all) in
    let i = get_or P k 0 in
    let first : position_or_len (λ j. j == i) P ≡ k =
    position_or_len_is (λ j. j == i) P k 0 (omega (arith, few)) (λ j below. apart_at P j k 0 once below few) (λ here. eq-eqb i i refl) in
    let within : nat_lt k (length P) ≡ true = lt-ltb k (length P) few in
    ap (λ (q : ℕ). unwrap_or (cond (nat_lt q (length P)) (Some q) None) i) first ∙ rw within refl

-- ---- the file

-- one character of the new file
at_place : (m : ℕ) (order : List ℕ) (c : Cut) (bytes : List ℕ) (A : List Mark) → (k : ℕ) (d : Mark) → IsOrder m order → AreOf m (character_cut c bytes)
    → text (marks_of (arranged order c bytes)) ≡ text A → map (λ (x : Mark). x.at) A ≡ arranged order (character_cut c bytes) (numbers 0 (length (marks_of bytes)))
    → length A ≡ length (marks_of bytes) → length (marks_of (arranged order c bytes)) ≡ length A → k < length A
    → get_or (map (elsewhere (place_in order c bytes) (line_in order c bytes)) A) k d ≡ get_or (marks_of (arranged order c bytes)) k d
at_place m order c bytes A k d is all texts ats many long lt =
    let place = place_in order c bytes in
    let line = line_in order c bytes in
    let news = marks_of (arranged order c bytes) in
    let lt_new : k < length news = rw long lt in
    let a = get_or A k d in
    let x = get_or news k d in
    let byte : a.byte ≡ x.byte =
    sym (get_or-map (λ (y : Mark). y.byte) A k d 0 lt) ∙ ap (λ (l : List ℕ). get_or l k 0) (sym texts) ∙ get_or-map (λ (y : Mark). y.byte) news k d 0 lt_new in
    let number : a.at ≡ get_or (arranged order (character_cut c bytes) (numbers 0 (length (marks_of bytes)))) k 0 =
    sym (get_or-map (λ (y : Mark). y.at) A k d 0 lt) ∙ ap (λ (l : List ℕ). get_or l k 0) ats in
    let there : place a.at ≡ k = ap place number ∙ moved_back (length (marks_of bytes)) m order (character_cut c bytes) k is all (rw (← many) lt) in
    let own : x.at ≡ k =
    sym (get_or-map (λ (y : Mark). y.at) news k d 0 lt_new) ∙ ap (λ (l : List ℕ). get_or l k 0) (numbers_marks (arranged order c bytes) 0 (logical_of (arranged order c bytes)))
    ∙ get_or-numbers (length news) 0 k 0 lt_new ∙ omega arith in
    let row : line a.at ≡ x.line =
    ap (λ (j : ℕ). (get_or news j (mark 0 0 0)).line) there ∙ ap (λ (y : Mark). y.line) (get_or_default news k (mark 0 0 0) d lt_new) in
    get_or-map (elsewhere place line) A k d d lt
    ∙ ap (λ b. mark b (place a.at) (line a.at)) byte ∙ ap (λ p. mark x.byte p (line a.at)) (there ∙ sym own) ∙ ap (λ l. mark x.byte x.at l) row

-- the characters of the new file are those of the old one in the new order, each with its place and line there
marks_arranged : (m : ℕ) (order : List ℕ) (c : Cut) (bytes : List ℕ) → IsOrder m order → AreOf m (character_cut c bytes)
    → text (marks_of (arranged order c bytes)) ≡ arranged order (character_cut c bytes) (text (marks_of bytes))
    → marks_of (arranged order c bytes) ≡ map (elsewhere (place_in order c bytes) (line_in order c bytes)) (arranged order (character_cut c bytes) (marks_of bytes))
marks_arranged m order c bytes is all same =
    let cc = character_cut c bytes in
    let olds = marks_of bytes in
    let news = marks_of (arranged order c bytes) in
    let A = arranged order cc olds in
    let E = elsewhere (place_in order c bytes) (line_in order c bytes) in
    let texts : text news ≡ text A = same ∙ arranged-map (λ (x : Mark). x.byte) order cc olds in
    let ats : map (λ (x : Mark). x.at) A ≡ arranged order cc (numbers 0 (length olds)) =
    sym (arranged-map (λ (x : Mark). x.at) order cc olds) ∙ ap (arranged order cc) (numbers_marks bytes 0 (logical_of bytes)) in
    let many : length A ≡ length olds = length-arranged m order cc olds is all in
    let long : length news ≡ length A = sym (length-map news (λ (x : Mark). x.byte)) ∙ ap length texts ∙ length-map A (λ (x : Mark). x.byte) in
    let size : length (map E A) ≡ length A = length-map A E in
    sym (same_lists (map E A) news (size ∙ sym long) (λ k d lt. at_place m order c bytes A k d is all texts ats many long (rw (← size) lt)))

count_weighed : (is : Items) (ws : List ℕ) → count_of (weighed_items is ws) ≡ count_of is
unfolding weighed_items count_of
count_weighed ended ws = refl
count_weighed (item n c gap more) ws = let rest = count_weighed more (drop (n + gap) ws) in omega (arith, rest)

mutual
  unfolding weighed weighed_items

  pub of_weighed : (m : ℕ) (c : Cut) (ws : List ℕ) → AreOf m c → AreOf m (weighed c ws)
  of_weighed m done ws all = tt
  of_weighed m (keep n c) ws all = of_weighed m c (drop n ws) all
  of_weighed m (list is c) ws all = (count_weighed is ws ∙ all.0, items_of_weighed m is ws all.1, of_weighed m c (drop (span_of is) ws) all.2)

  items_of_weighed : (m : ℕ) (is : Items) (ws : List ℕ) → AreItemsOf m is → AreItemsOf m (weighed_items is ws)
  items_of_weighed m ended ws all = tt
  items_of_weighed m (item n c gap more) ws all = (of_weighed m c (take n ws) all.0, items_of_weighed m more (drop (n + gap) ws) all.1)

labels_stay : (place line : ℕ → ℕ) (f : Found) → with_labels false false (moved_found place line f) ≡ moved_found place line (with_labels false false f)
labels_stay place line (FoundToken t first) = refl
labels_stay place line (FoundOpen at) = refl

pub texts_arranged : (m : ℕ) (order : List ℕ) (c : Cut) (bytes : List ℕ) → IsOrder m order → AreOf m c → MayMove c bytes
    → text (marks_of (arranged order c bytes)) ≡ arranged order (character_cut c bytes) (text (marks_of bytes))
texts_arranged m order c bytes is all may =
    let n = extent_of c in
    let long : length (take n bytes) ≡ n = length-take-le n bytes may.within in
    let whole = take-append-drop n bytes in
    let law = spelled_arranged m order is c (take n bytes) (drop n bytes) all (rw long (omega arith)) may.seams may.more in
    let here : spelling (logical_of (arranged order c bytes)) ≡ arranged order (character_cut c bytes) (spelling (logical_of bytes)) =
    subst (λ (b : List ℕ). spelling (logical_of (arranged order c b)) ≡ arranged order (character_cut c b) (spelling (logical_of b))) whole law in
    text_marks (arranged order c bytes) 0 (logical_of (arranged order c bytes)) ∙ here
    ∙ ap (arranged order (character_cut c bytes)) (sym (text_marks bytes 0 (logical_of bytes)))

tokens_of_file : (m : ℕ) (order : List ℕ) (c : Cut) (file : ℕ) (bytes : List ℕ) → IsOrder m order → AreOf m (character_cut c bytes) → MayMove c bytes
    → TokensArranged order (character_cut c bytes) (brought file 0 true line_start (marks_of bytes))
    (brought file 0 true line_start (arranged order (character_cut c bytes) (marks_of bytes)))
tokens_of_file m order c file bytes is all may =
    let cc = character_cut c bytes in
    let n = extent_of cc in
    let long : length (take n (marks_of bytes)) ≡ n = length-take-le n (marks_of bytes) may.inside in
    subst (λ (ms : List Mark). TokensArranged order cc (brought file 0 true line_start ms) (brought file 0 true line_start (arranged order cc ms)))
    (take-append-drop n (marks_of bytes))
    (tokens_arranged m order is file (before true true) cc (take n (marks_of bytes)) (drop n (marks_of bytes)) may.end all (rw long (omega arith)) may.settles may.stop)

-- ---- outside of lists

kept_of_file : (m : ℕ) (order : List ℕ) (c : Cut) (bytes : List ℕ) → IsOrder m order → AreOf m c → MayMove c bytes
    → kept 0 (arranged order c bytes) ≡ arranged order c (kept 0 bytes)
kept_of_file m order c bytes is all may =
    let n = extent_of c in
    let long : length (take n bytes) ≡ n = length-take-le n bytes may.within in
    subst (λ (b : List ℕ). kept 0 (arranged order c b) ≡ arranged order c (kept 0 b)) (take-append-drop n bytes)
    (kept_arranged m order is c (take n bytes) (drop n bytes) all (rw long (omega arith)) may.seams may.more)

lines_of_marks : (bytes : List ℕ) → map (λ (x : Mark). x.line) (marks_of bytes) ≡ together (rows (kept 0 bytes) (lines 1 bytes))
unfolding logical_of
lines_of_marks bytes = marks_lines bytes 0 0 0 bytes refl

lines_of_file : (m : ℕ) (order : List ℕ) (c : Cut) (bytes : List ℕ) → IsOrder m order → AreOf m c → MayMove c bytes
    → SameOutside (character_cut c bytes) (map (λ (x : Mark). x.line) (marks_of (arranged order c bytes))) (map (λ (x : Mark). x.line) (marks_of bytes))
lines_of_file m order c bytes is all may =
    let news = arranged order c bytes in
    let K = kept 0 bytes in
    let size : length (lines 1 bytes) ≡ length K = length-lines 1 bytes ∙ sym (length-kept 0 bytes) in
    let size2 : length (lines 1 news) ≡ length K = length-lines 1 news ∙ length-arranged m order c bytes is all ∙ sym (length-kept 0 bytes) in
    let near = beside_rows m order c K (lines 1 bytes) (lines 1 news) is all (rw (length-kept 0 bytes) may.within) size size2 (lines_outside m order c 1 bytes is all may.within) in
    let same = beside_together c (rows (arranged order c K) (lines 1 news)) (rows K (lines 1 bytes)) near in
    let cut : weighed c (map length (rows K (lines 1 bytes))) ≡ character_cut c bytes = ap (weighed c) (widths_rows K (lines 1 bytes) size) in
    rw (lines_of_marks news, lines_of_marks bytes, kept_of_file m order c bytes is all may, ← cut) same

-- what is known of the places and lines of a file
known_file : (m : ℕ) (order : List ℕ) (c : Cut) (bytes : List ℕ) → IsOrder m order → AreOf m (character_cut c bytes)
    → length (marks_of (arranged order c bytes)) ≡ length (marks_of bytes)
    → Known (place_in order c bytes) (line_in order c bytes) 0 (marks_of bytes) (arranged order (character_cut c bytes) (numbers 0 (length (marks_of bytes))))
    (map (λ (x : Mark). x.line) (marks_of (arranged order c bytes)))
known_file m order c bytes is all long =
    let cc = character_cut c bytes in
    let n = length (marks_of bytes) in
    let news = marks_of (arranged order c bytes) in
    record {
      many_numbers = length-arranged m order cc (numbers 0 n) is all ∙ length-numbers n 0;
      many_lines = length-map news (λ (x : Mark). x.line) ∙ long;
      places = λ j lt. moved_back n m order cc j is all lt ∙ omega arith;
      lined = λ j x lt there.
          let at : place_in order c bytes x ≡ j = there ∙ omega arith in
          ap (λ (k : ℕ). (get_or news k (mark 0 0 0)).line) at ∙ sym (get_or-map (λ (y : Mark). y.line) news j (mark 0 0 0) 0 (rw long lt));
      own = λ j d lt.
          sym (get_or-map (λ (y : Mark). y.at) (marks_of bytes) j d 0 lt) ∙ ap (λ (l : List ℕ). get_or l j 0) (numbers_marks bytes 0 (logical_of bytes))
          ∙ get_or-numbers n 0 j 0 lt;
    }

-- what is found outside of lists stays
found_outside : (m : ℕ) (order : List ℕ) (c : Cut) (file : ℕ) (bytes : List ℕ) → IsOrder m order → AreOf m c → AreOf m (character_cut c bytes) → MayMove c bytes
    → SameOutside (token_cut file (character_cut c bytes) bytes) (map (moved_found (place_in order c bytes) (line_in order c bytes)) (found_of file bytes)) (found_of file bytes)
found_outside m order c file bytes is all allc may =
    let cc = character_cut c bytes in
    let place = place_in order c bytes in
    let line = line_in order c bytes in
    let ms = marks_of bytes in
    let g = moved_found place line in
    let B = brought file 0 true line_start ms in
    let texts = texts_arranged m order c bytes is all may in
    let long : length (marks_of (arranged order c bytes)) ≡ length ms =
    sym (length-map (marks_of (arranged order c bytes)) (λ (x : Mark). x.byte)) ∙ ap length texts ∙ length-arranged m order cc (text ms) is allc ∙ length-map ms (λ (x : Mark). x.byte) in
    let size : length (numbers 0 (length ms)) ≡ length ms = length-numbers (length ms) 0 in
    let inside : extent_of cc ≤ length (numbers 0 (length ms)) = rw size may.inside in
    let ats : SameOutside cc (arranged order cc (numbers 0 (length ms))) (map (λ (x : Mark). x.at) ms) =
    rw (numbers_marks bytes 0 (logical_of bytes)) (arranged_outside m order cc (numbers 0 (length ms)) is allc inside) in
    let same = marks_outside place line cc 0 ms (arranged order cc (numbers 0 (length ms))) (map (λ (x : Mark). x.line) (marks_of (arranged order c bytes)))
    may.inside (known_file m order c bytes is allc long) ats (lines_of_file m order c bytes is all may) in
    let near = beside_together cc (map (map g) B) B (brought_outside place line file cc 0 true line_start ms same) in
    let found = file_found file bytes in
    let moved : together (map (map g) B) ≡ map g (found_of file bytes) = together-map g B ∙ ap (map g) found in
    subst (λ (l : List Found). SameOutside (token_cut file cc bytes) l (found_of file bytes)) moved
    (subst (λ (l : List Found). SameOutside (token_cut file cc bytes) (together (map (map g) B)) l) found near)

pub files_are_arranged : FilesAreArranged
files_are_arranged = λ m order c file bytes is all may.
    let cc = character_cut c bytes in
    let tc = token_cut file cc bytes in
    let h = with_labels false false in
    let g = moved_found (place_in order c bytes) (line_in order c bytes) in
    let allc : AreOf m cc = of_weighed m c (map length (kept 0 bytes)) all in
    let T = tokens_of_file m order c file bytes is allc may in
    let A = arranged order cc (marks_of bytes) in
    let olds = brought file 0 true line_start (marks_of bytes) in
    record {
      new = map g T.found;
      found =
          sym (file_found file (arranged order c bytes))
          ∙ ap (λ (ms : List Mark). together (brought file 0 true line_start ms)) (marks_arranged m order c bytes is allc (texts_arranged m order c bytes is all may))
          ∙ ap together (brought_elsewhere (place_in order c bytes) (line_in order c bytes) file 0 true line_start A)
          ∙ together-map g (brought file 0 true line_start A) ∙ ap (map g) T.is ∙ sym (arranged-map g order tc T.found);
      alike =
          masked-map h g (labels_stay (place_in order c bytes) (line_in order c bytes)) tc T.found ∙ ap (map g) T.alike
          ∙ sym (masked-map h g (labels_stay (place_in order c bytes) (line_in order c bytes)) tc (together olds))
          ∙ ap (λ (fs : List Found). masked h tc (map g fs)) (file_found file bytes);
      outside = found_outside m order c file bytes is all allc may;
    }
