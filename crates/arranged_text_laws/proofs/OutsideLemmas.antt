-- What stands outside of lists stays where it is, and in its line.
use Rattle.std.proofs.Common.{◌≡◌, ℕ, zero, suc, ◌+◌, ◌-◌, ◌<◌, ◌≤◌, Bool, ◌==◌, cond, List, [], ◌∷◌, ◌++◌, length, take, drop, map, get_or, inl, inr, refl, sym, ap, subst, ◌∙◌, arith, take-append-drop, length-append, length-drop, length-take-le}
use Rattle.std.specs.Prelude.{sum_by}
use Rattle.std.proofs.lemmas.Bool.{cases_Bool}
use Rattle.std.proofs.lemmas.List.{take-map, drop-map, length-map, get_or-map, get_or-take, get_or-drop, same_lists}
use Rattle.std.proofs.lemmas.List.Sums.{sum_by-cons, sum_by-append}
use Rattle.cs_base.proofs.ListLemmas.{drop-next as drop_next}
use Rattle.lexer.specs.Characters.{line_feed, line_after}
use Rattle.lexer.specs.Logical.{gone_length, logical_from, line_at}
use Rattle.lexer.specs.Tokens.{Found, piece_of, piece_length, leaves_gap, line_front_after, expects_header, found_in}
use Rattle.lexer.proofs.EditedBytes.{line-next as line_next}
use Rattle.list_cuts.specs.Cuts.{Cut, done, keep, list, Items, count_of, span_of, extent_of, IsOrder, picked, woven, gaps_of, arranged, items_of, AreOf, AreItemsOf}
use Rattle.list_cuts.proofs.CutLemmas.{sum-arranged, length-arranged, short-drop}
use Rattle.arranged_text_laws.specs.Settling.{Front}
use Rattle.arranged_text_laws.specs.Marks.{Mark, mark, text, marks_from, brought}
use Rattle.arranged_text_laws.specs.Seams.{kept}
use Rattle.arranged_text_laws.specs.Weighed.{together, total, weighed, weighed_items}
use Rattle.arranged_text_laws.specs.Outside.{SameOutside}
use Rattle.arranged_text_laws.specs.Arranging.{moved_found}
use Rattle.arranged_text_laws.proofs.FlowLemmas.{take_front, drop_front}
use Rattle.arranged_text_laws.proofs.WeighedLemmas.{cut_together, span_weighed}
use Rattle.arranged_text_laws.proofs.ElsewhereLemmas.{elsewhere, one_elsewhere}

-- ---- a list in the new order takes the same place

abbrev pub weave_of : {X : Type 0} → List ℕ → Items → List X → List X
weave_of order is xs = woven (picked order (items_of order is xs)) (gaps_of is xs)

pub list_arranged : {X : Type 0} (order : List ℕ) (is : Items) (xs : List X) → arranged order (list is done) xs ≡ weave_of order is xs ++ drop (span_of is) xs
unfolding arranged
list_arranged order is xs = refl

woven_sum : {X : Type 0} (f : X → ℕ) (m : ℕ) (order : List ℕ) (is : Items) (xs : List X) → IsOrder m order → count_of is ≡ m → AreItemsOf m is
    → sum_by f (weave_of order is xs) ≡ sum_by f (take (span_of is) xs)
woven_sum f m order is xs permutes count all =
    let whole = sum-arranged f m order (list is done) xs permutes (count, all, tt) in
    let made = ap (sum_by f) (list_arranged order is xs) in
    let new = sum_by-append f (weave_of order is xs) (drop (span_of is) xs) in
    let old = sum_by-append f (take (span_of is) xs) (drop (span_of is) xs) in
    let same = ap (sum_by f) (take-append-drop (span_of is) xs) in
    omega (arith, whole, made, new, old, same)

pub woven_long : {X : Type 0} (m : ℕ) (order : List ℕ) (is : Items) (xs : List X) → IsOrder m order → count_of is ≡ m → AreItemsOf m is → span_of is ≤ length xs
    → length (weave_of order is xs) ≡ span_of is
woven_long m order is xs permutes count all within =
    let whole = length-arranged m order (list is done) xs permutes (count, all, tt) in
    let made = ap length (list_arranged order is xs) in
    let new = length-append (weave_of order is xs) (drop (span_of is) xs) in
    let rest = length-drop (span_of is) xs in
    omega (arith, whole, made, new, rest, within)

-- elements in the new order are the same outside of lists
pub arranged_outside : {X : Type 0} (m : ℕ) (order : List ℕ) (c : Cut) (xs : List X) → IsOrder m order → AreOf m c → extent_of c ≤ length xs → SameOutside c (arranged order c xs) xs
unfolding arranged extent_of
arranged_outside m order done xs is all within = refl
arranged_outside m order (keep n c) xs is all within =
    let long : length (take n xs) ≡ n = length-take-le n xs (omega (arith, within)) in
    let A = arranged order c (drop n xs) in (
      take_front n (take n xs) A long,
      subst (λ (l : List _). SameOutside c l (drop n xs)) (sym (drop_front n (take n xs) A long))
          (arranged_outside m order c (drop n xs) is all (short-drop n (extent_of c) xs within)),
    )
arranged_outside m order (list items c) xs is all within =
    let A = arranged order c (drop (span_of items) xs) in
    let long = woven_long m order items xs is all.0 all.1 (omega (arith, within)) in
    subst (λ (l : List _). SameOutside c l (drop (span_of items) xs)) (sym (drop_front (span_of items) (weave_of order items xs) A long))
    (arranged_outside m order c (drop (span_of items) xs) is all.2 (short-drop (span_of items) (extent_of c) xs within))

-- ---- lines, byte by byte

abbrev one_if_feed : ℕ → ℕ
one_if_feed c = cond (c == line_feed) 1 0

abbrev feeds : List ℕ → ℕ
feeds xs = sum_by one_if_feed xs

-- the line of each byte, where the first has this one
abbrev pub lines : ℕ → List ℕ → List ℕ
lines line [] = []
lines line (c ∷ cs) = line ∷ lines (line_after c line) cs

after_is : (c line : ℕ) → line_after c line ≡ line + one_if_feed c
after_is c line = elim (cases_Bool (c == line_feed)) [ inl ends ↦ rw ends refl | inr on ↦ rw on (omega arith) ]

lines-append : (line : ℕ) (xs ys : List ℕ) → lines line (xs ++ ys) ≡ lines line xs ++ lines (line + feeds xs) ys
lines-append line [] ys = ap (λ (k : ℕ). lines k ys) (omega arith)
lines-append line (x ∷ xs) ys =
    let first = sum_by-cons one_if_feed x xs in
    let next = after_is x line in
    let same : line_after x line + feeds xs ≡ line + feeds (x ∷ xs) = omega (arith, first, next) in
    ap (λ (l : List ℕ). line ∷ l) (lines-append (line_after x line) xs ys ∙ ap (λ (k : ℕ). lines (line_after x line) xs ++ lines k ys) same)

pub length-lines : (line : ℕ) (xs : List ℕ) → length (lines line xs) ≡ length xs
length-lines line [] = refl
length-lines line (x ∷ xs) = ap (λ (n : ℕ). suc n) (length-lines (line_after x line) xs)

-- the lines of what stands behind so many bytes
lines_behind : (line n : ℕ) (xs ys : List ℕ) → length xs ≡ n → (take n (lines line (xs ++ ys)) ≡ lines line xs) × (drop n (lines line (xs ++ ys)) ≡ lines (line + feeds xs) ys)
lines_behind line n xs ys long =
    let size = length-lines line xs ∙ long in (
      ap (take n) (lines-append line xs ys) ∙ take_front n (lines line xs) (lines (line + feeds xs) ys) size,
      ap (drop n) (lines-append line xs ys) ∙ drop_front n (lines line xs) (lines (line + feeds xs) ys) size,
    )

pub lines_outside : (m : ℕ) (order : List ℕ) (c : Cut) (line : ℕ) (xs : List ℕ) → IsOrder m order → AreOf m c → extent_of c ≤ length xs
    → SameOutside c (lines line (arranged order c xs)) (lines line xs)
unfolding arranged extent_of
lines_outside m order done line xs is all within = refl
lines_outside m order (keep n c) line xs is all within =
    let long : length (take n xs) ≡ n = length-take-le n xs (omega (arith, within)) in
    let new = lines_behind line n (take n xs) (arranged order c (drop n xs)) long in
    let old = lines_behind line n (take n xs) (drop n xs) long in
    let whole = take-append-drop n xs in
    let own : (take n (lines line xs) ≡ lines line (take n xs)) × (drop n (lines line xs) ≡ lines (line + feeds (take n xs)) (drop n xs)) =
    (ap (λ (l : List ℕ). take n (lines line l)) (sym whole) ∙ old.0, ap (λ (l : List ℕ). drop n (lines line l)) (sym whole) ∙ old.1) in (
      new.0 ∙ sym own.0,
      rw (new.1, own.1) (lines_outside m order c (line + feeds (take n xs)) (drop n xs) is all (short-drop n (extent_of c) xs within)),
    )
lines_outside m order (list items c) line xs is all within =
    let n = span_of items in
    let W = weave_of order items xs in
    let long : length (take n xs) ≡ n = length-take-le n xs (omega (arith, within)) in
    let new = lines_behind line n W (arranged order c (drop n xs)) (woven_long m order items xs is all.0 all.1 (omega (arith, within))) in
    let old = lines_behind line n (take n xs) (drop n xs) long in
    let own : drop n (lines line xs) ≡ lines (line + feeds (take n xs)) (drop n xs) = ap (λ (l : List ℕ). drop n (lines line l)) (sym (take-append-drop n xs)) ∙ old.1 in
    let same : feeds W ≡ feeds (take n xs) = woven_sum one_if_feed m order items xs is all.0 all.1 in
    rw (new.1, own, same) (lines_outside m order c (line + feeds (take n xs)) (drop n xs) is all.2 (short-drop n (extent_of c) xs within))

-- ---- lines of characters

-- for each byte that is a character its line
abbrev pub rows : List (List ℕ) → List ℕ → List (List ℕ)
rows [] ls = []
rows (k ∷ ks) [] = []
rows (k ∷ ks) (l ∷ ls) = map (λ x. l) k ∷ rows ks ls

take-rows : (n : ℕ) (ks : List (List ℕ)) (ls : List ℕ) → take n (rows ks ls) ≡ rows (take n ks) (take n ls)
take-rows zero [] ls = refl
take-rows zero (k ∷ ks) [] = refl
take-rows zero (k ∷ ks) (l ∷ ls) = refl
take-rows (suc n) [] ls = refl
take-rows (suc n) (k ∷ ks) [] = refl
take-rows (suc n) (k ∷ ks) (l ∷ ls) = ap (λ (r : List (List ℕ)). map (λ x. l) k ∷ r) (take-rows n ks ls)

rows-none : (ks : List (List ℕ)) → rows ks [] ≡ []
rows-none [] = refl
rows-none (k ∷ ks) = refl

drop-rows : (n : ℕ) (ks : List (List ℕ)) (ls : List ℕ) → drop n (rows ks ls) ≡ rows (drop n ks) (drop n ls)
drop-rows zero ks ls = refl
drop-rows (suc n) [] ls = refl
drop-rows (suc n) (k ∷ ks) [] = sym (rows-none (drop n ks))
drop-rows (suc n) (k ∷ ks) (l ∷ ls) = drop-rows n ks ls

pub widths_rows : (ks : List (List ℕ)) (ls : List ℕ) → length ls ≡ length ks → map length (rows ks ls) ≡ map length ks
widths_rows [] ls e = refl
widths_rows (k ∷ ks) [] e = absurd (omega (arith, e))
widths_rows (k ∷ ks) (l ∷ ls) e =
    ap (λ (n : ℕ). n ∷ map length (rows ks ls)) (length-map k (λ (x : ℕ). l)) ∙ ap (λ (ns : List ℕ). length k ∷ ns) (widths_rows ks ls (omega (arith, e)))

sizes_rows : (ks : List (List ℕ)) (ls : List ℕ) → length ls ≡ length ks → sum_by length (rows ks ls) ≡ sum_by length ks
sizes_rows [] ls e = refl
sizes_rows (k ∷ ks) [] e = absurd (omega (arith, e))
sizes_rows (k ∷ ks) (l ∷ ls) e =
    let a = sum_by-cons length (map (λ x. l) k) (rows ks ls) in
    let b = sum_by-cons length k ks in
    let here = length-map k (λ (x : ℕ). l) in
    let rest = sizes_rows ks ls (omega (arith, e)) in
    omega (arith, a, b, here, rest)

pub marks_lines : (bytes : List ℕ) (skip at o : ℕ) (bs : List ℕ) → drop o bytes ≡ bs
    → map (λ (m : Mark). m.line) (marks_from bytes at (logical_from skip o bs)) ≡ together (rows (kept skip bs) (lines (line_at bytes o) bs))
unfolding marks_from logical_from kept
marks_lines bytes zero at o [] here = refl
marks_lines bytes (suc skip) at o [] here = refl
marks_lines bytes (suc skip) at o (c ∷ cs) here =
    marks_lines bytes skip at (o + 1) cs (drop_next bytes o c cs here)
    ∙ ap (λ (k : ℕ). together (rows (kept skip cs) (lines k cs))) (line_next bytes o c cs here)
marks_lines bytes zero at o (c ∷ cs) here =
    let next = line_next bytes o c cs here in
    let rest = drop_next bytes o c cs here in
    elim (cases_Bool (gone_length c cs == 0)) [
      | inl stays ↦ rw stays (ap (λ (l : List ℕ). line_at bytes o ∷ l)
          (marks_lines bytes 0 (at + 1) (o + 1) cs rest ∙ ap (λ (k : ℕ). together (rows (kept 0 cs) (lines k cs))) next))
      | inr goes ↦ rw goes (marks_lines bytes (gone_length c cs - 1) at (o + 1) cs rest
          ∙ ap (λ (k : ℕ). together (rows (kept (gone_length c cs - 1) cs) (lines k cs))) next)
    ]

-- ---- what elements bring outside of lists

-- Outside of lists these are the same, and those of a list bring as many.
abbrev pub Beside : {X : Type 0} → Cut → List (List X) → List (List X) → Type 0
Beside done xss yss = xss ≡ yss
Beside (keep n c) xss yss = (take n xss ≡ take n yss) × Beside c (drop n xss) (drop n yss)
Beside (list is c) xss yss =
    (sum_by length (take (span_of is) xss) ≡ sum_by length (take (span_of is) yss)) × Beside c (drop (span_of is) xss) (drop (span_of is) yss)

total_is : {X : Type 0} (xss : List (List X)) → total (map length xss) ≡ sum_by length xss
total_is [] = refl
total_is (xs ∷ xss) = let a = sum_by-cons length xs xss in let rest = total_is xss in omega (arith, a, rest)

pub beside_together : {X : Type 0} (c : Cut) (xss yss : List (List X)) → Beside c xss yss → SameOutside (weighed c (map length yss)) (together xss) (together yss)
unfolding weighed weighed_items
beside_together done xss yss h = ap together h
beside_together (keep n c) xss yss h =
    let same : total (take n (map length xss)) ≡ total (take n (map length yss)) =
    ap total (take-map length n xss) ∙ ap (λ (l : List (List _)). total (map length l)) h.0 ∙ ap total (sym (take-map length n yss)) in
    let new = cut_together n xss in
    let old = cut_together n yss in
    let new_take : take (total (take n (map length yss))) (together xss) ≡ together (take n xss) = ap (λ (k : ℕ). take k (together xss)) (sym same) ∙ new.0 in
    let new_drop : drop (total (take n (map length yss))) (together xss) ≡ together (drop n xss) = ap (λ (k : ℕ). drop k (together xss)) (sym same) ∙ new.1 in (
      new_take ∙ ap together h.0 ∙ sym old.0,
      rw (new_drop, old.1, drop-map length n yss) (beside_together c (drop n xss) (drop n yss) h.1),
    )
beside_together (list is c) xss yss h =
    let n = span_of is in
    let same : total (take n (map length xss)) ≡ total (take n (map length yss)) =
    ap total (take-map length n xss) ∙ total_is (take n xss) ∙ h.0 ∙ sym (total_is (take n yss)) ∙ ap total (sym (take-map length n yss)) in
    let old = cut_together n yss in
    let new_drop : drop (total (take n (map length yss))) (together xss) ≡ together (drop n xss) = ap (λ (k : ℕ). drop k (together xss)) (sym same) ∙ (cut_together n xss).1 in
    let here : SameOutside (weighed c (drop n (map length yss))) (drop (total (take n (map length yss))) (together xss)) (drop (total (take n (map length yss))) (together yss)) =
    rw (new_drop, old.1, drop-map length n yss) (beside_together c (drop n xss) (drop n yss) h.1) in
    subst (λ (k : ℕ). SameOutside (weighed c (drop n (map length yss))) (drop k (together xss)) (drop k (together yss))) (sym (span_weighed is (map length yss))) here

pub beside_rows : (m : ℕ) (order : List ℕ) (c : Cut) (ks : List (List ℕ)) (ls ls2 : List ℕ) → IsOrder m order → AreOf m c → extent_of c ≤ length ks
    → length ls ≡ length ks → length ls2 ≡ length ks → SameOutside c ls2 ls → Beside c (rows (arranged order c ks) ls2) (rows ks ls)
unfolding arranged extent_of
beside_rows m order done ks ls ls2 is all within long long2 h = ap (rows ks) h
beside_rows m order (keep n c) ks ls ls2 is all within long long2 h =
    let size : length (take n ks) ≡ n = length-take-le n ks (omega (arith, within)) in
    let A = arranged order c (drop n ks) in
    let front = take_front n (take n ks) A size in
    let rest = drop_front n (take n ks) A size in
    let a = length-drop n ks in
    let b = length-drop n ls in
    let b2 = length-drop n ls2 in (
      take-rows n (take n ks ++ A) ls2 ∙ ap (λ (k : List (List ℕ)). rows k (take n ls2)) front ∙ ap (rows (take n ks)) h.0 ∙ sym (take-rows n ks ls),
      rw (drop-rows n (take n ks ++ A) ls2, rest, drop-rows n ks ls)
          (beside_rows m order c (drop n ks) (drop n ls) (drop n ls2) is all (short-drop n (extent_of c) ks within) (omega (arith, a, b, long)) (omega (arith, a, b2, long2)) h.1),
    )
beside_rows m order (list items c) ks ls ls2 is all within long long2 h =
    let n = span_of items in
    let W = weave_of order items ks in
    let A = arranged order c (drop n ks) in
    let small : n ≤ length ks = omega (arith, within) in
    let size = woven_long m order items ks is all.0 all.1 small in
    let front = take_front n W A size in
    let rest = drop_front n W A size in
    let a = length-drop n ks in
    let b = length-drop n ls in
    let b2 = length-drop n ls2 in
    let t = length-take-le n ks small in
    let tl : length (take n ls) ≡ length (take n ks) = length-take-le n ls (omega (arith, long, small)) ∙ sym t in
    let tl2 : length (take n ls2) ≡ length W = length-take-le n ls2 (omega (arith, long2, small)) ∙ sym size in
    let many : sum_by length (take n (rows (W ++ A) ls2)) ≡ sum_by length (take n (rows ks ls)) =
    ap (sum_by length) (take-rows n (W ++ A) ls2 ∙ ap (λ (k : List (List ℕ)). rows k (take n ls2)) front) ∙ sizes_rows W (take n ls2) tl2
    ∙ woven_sum length m order items ks is all.0 all.1 ∙ sym (sizes_rows (take n ks) (take n ls) tl) ∙ ap (sum_by length) (sym (take-rows n ks ls)) in (
      many,
      rw (drop-rows n (W ++ A) ls2, rest, drop-rows n ks ls)
          (beside_rows m order c (drop n ks) (drop n ls) (drop n ls2) is all.2 (short-drop n (extent_of c) ks within) (omega (arith, a, b, long)) (omega (arith, a, b2, long2)) h),
    )

-- ---- characters outside of lists

-- What is known of places and lines: the numbers and the lines of the new order, from a number on.
pub record Known (place line : ℕ → ℕ) (from : ℕ) (ms : List Mark) (ps ls : List ℕ) : Type 0 where
  pub many_numbers : length ps ≡ length ms
  pub many_lines : length ls ≡ length ms
  pub places : (j : ℕ) → j < length ms → place (get_or ps j 0) ≡ from + j
  pub lined : (j x : ℕ) → j < length ms → place x ≡ from + j → line x ≡ get_or ls j 0
  pub own : (j : ℕ) (d : Mark) → j < length ms → (get_or ms j d).at ≡ from + j

known_rest : (place line : ℕ → ℕ) (from n : ℕ) (ms : List Mark) (ps ls : List ℕ) → n ≤ length ms → Known place line from ms ps ls
    → Known place line (from + n) (drop n ms) (drop n ps) (drop n ls)
known_rest place line from n ms ps ls within k =
    let size = length-drop n ms in
    record {
      many_numbers = let a = length-drop n ps in let b = k.many_numbers in omega (arith, a, b, size);
      many_lines = let a = length-drop n ls in let b = k.many_lines in omega (arith, a, b, size);
      places = λ j lt.
          ap place (get_or-drop n ps j 0) ∙ k.places (n + j) (omega (arith, lt, size)) ∙ omega arith;
      lined = λ j x lt is.
          k.lined (n + j) x (omega (arith, lt, size)) (is ∙ omega arith) ∙ sym (get_or-drop n ls j 0);
      own = λ j d lt. ap (λ (m : Mark). m.at) (get_or-drop n ms j d) ∙ k.own (n + j) d (omega (arith, lt, size)) ∙ omega arith;
    }

-- the first of them, where numbers and lines are theirs
known_same : (place line : ℕ → ℕ) (from n : ℕ) (ms : List Mark) (ps ls : List ℕ) → n ≤ length ms → Known place line from ms ps ls
    → take n ps ≡ take n (map (λ (m : Mark). m.at) ms) → take n ls ≡ take n (map (λ (m : Mark). m.line) ms) → take n (map (elsewhere place line) ms) ≡ take n ms
known_same place line from n ms ps ls within k ats rowed =
    let E = elsewhere place line in
    let size : length (take n (map E ms)) ≡ n = length-take-le n (map E ms) (rw (length-map ms E) within) in
    let size2 : length (take n ms) ≡ n = length-take-le n ms within in
    same_lists (take n (map E ms)) (take n ms) (size ∙ sym size2)
    (λ j d lt.
    let below : j < n = rw size at lt in
    let few : j < length ms = omega (arith, below, within) in
    let m = get_or ms j d in
    let number : get_or ps j 0 ≡ m.at =
    sym (get_or-take n ps j 0 below) ∙ ap (λ (l : List ℕ). get_or l j 0) ats ∙ get_or-take n (map (λ (x : Mark). x.at) ms) j 0 below ∙ get_or-map (λ (x : Mark). x.at) ms j d 0 few in
    let row : get_or ls j 0 ≡ m.line =
    sym (get_or-take n ls j 0 below) ∙ ap (λ (l : List ℕ). get_or l j 0) rowed ∙ get_or-take n (map (λ (x : Mark). x.line) ms) j 0 below ∙ get_or-map (λ (x : Mark). x.line) ms j d 0 few in
    let there : place m.at ≡ from + j = ap place (sym number) ∙ k.places j few in
    let stays : place m.at ≡ m.at = there ∙ sym (k.own j d few) in
    let lined : line m.at ≡ m.line = k.lined j m.at few there ∙ row in
    get_or-take n (map E ms) j d below ∙ get_or-map E ms j d d few ∙ ap (λ p. mark m.byte p (line m.at)) stays ∙ ap (λ l. mark m.byte m.at l) lined
    ∙ sym (get_or-take n ms j d below))

take_all_of : {X : Type 0} (xs : List X) → take (length xs) xs ≡ xs
take_all_of [] = refl
take_all_of (x ∷ xs) = ap (λ (l : List _). x ∷ l) (take_all_of xs)

pub marks_outside : (place line : ℕ → ℕ) (c : Cut) (from : ℕ) (ms : List Mark) (ps ls : List ℕ) → extent_of c ≤ length ms → Known place line from ms ps ls
    → SameOutside c ps (map (λ (m : Mark). m.at) ms) → SameOutside c ls (map (λ (m : Mark). m.line) ms) → SameOutside c (map (elsewhere place line) ms) ms
unfolding extent_of
marks_outside place line done from ms ps ls within k ats rowed =
    let E = elsewhere place line in
    let same = known_same place line from (length ms) ms ps ls (omega arith) k (ap (take (length ms)) ats) (ap (take (length ms)) rowed) in
    let size : length (map E ms) ≡ length ms = length-map ms E in
    sym (take_all_of (map E ms)) ∙ ap (λ (n : ℕ). take n (map E ms)) size ∙ same ∙ take_all_of ms
marks_outside place line (keep n c) from ms ps ls within k ats rowed =
    let small : n ≤ length ms = omega (arith, within) in (
      known_same place line from n ms ps ls small k ats.0 rowed.0,
      rw (drop-map (elsewhere place line) n ms)
          (marks_outside place line c (from + n) (drop n ms) (drop n ps) (drop n ls) (short-drop n (extent_of c) ms within) (known_rest place line from n ms ps ls small k)
          (rw (← drop-map (λ (m : Mark). m.at) n ms) ats.1) (rw (← drop-map (λ (m : Mark). m.line) n ms) rowed.1)),
    )
marks_outside place line (list is c) from ms ps ls within k ats rowed =
    let n = span_of is in
    let small : n ≤ length ms = omega (arith, within) in
    rw (drop-map (elsewhere place line) n ms)
    (marks_outside place line c (from + n) (drop n ms) (drop n ps) (drop n ls) (short-drop n (extent_of c) ms within) (known_rest place line from n ms ps ls small k)
    (rw (← drop-map (λ (m : Mark). m.at) n ms) ats) (rw (← drop-map (λ (m : Mark). m.line) n ms) rowed))

-- ---- what they bring

head_of : {X : Type 0} (x y : X) (xs ys : List X) → (x ∷ xs) ≡ (y ∷ ys) → x ≡ y
head_of x y xs ys e = ap (λ (l : List _). get_or l 0 x) e

tail_of : {X : Type 0} (x y : X) (xs ys : List X) → (x ∷ xs) ≡ (y ∷ ys) → xs ≡ ys
tail_of x y xs ys e = ap (λ (l : List _). drop 1 l) e

brought_same : (place line : ℕ → ℕ) (file n skip : ℕ) (gap : Bool) (front : Front) (ms : List Mark) → take n (map (elsewhere place line) ms) ≡ take n ms
    → take n (map (map (moved_found place line)) (brought file skip gap front ms)) ≡ take n (brought file skip gap front ms)
unfolding brought
brought_same place line file zero skip gap front ms h = refl
brought_same place line file (suc n) skip gap front [] h = refl
brought_same place line file (suc n) (suc skip) gap front (m ∷ ms) h =
    ap (λ (l : List (List Found)). [] ∷ l)
    (brought_same place line file n skip gap front ms (tail_of (elsewhere place line m) m (take n (map (elsewhere place line) ms)) (take n ms) h))
brought_same place line file (suc n) zero gap front (m ∷ ms) h =
    let header = expects_header front in
    let chars = m.byte ∷ text ms in
    let P = piece_of header m.byte (text ms) in
    let same : elsewhere place line m ≡ m = head_of (elsewhere place line m) m (take n (map (elsewhere place line) ms)) (take n ms) h in
    let here : map (moved_found place line) (found_in file m.line gap front m.at chars P) ≡ found_in file m.line gap front m.at chars P =
    sym (one_elsewhere place line file m.line gap front m.at chars header m.byte (text ms))
    ∙ ap (λ (x : Mark). found_in file x.line gap front x.at chars P) same in
    let rest = brought_same place line file n (piece_length (suc (length ms)) P - 1) (leaves_gap P) (line_front_after chars front P) ms
    (tail_of (elsewhere place line m) m (take n (map (elsewhere place line) ms)) (take n ms) h) in
    ap (λ (fs : List Found). fs ∷ take n (map (map (moved_found place line)) (brought file (piece_length (suc (length ms)) P - 1) (leaves_gap P) (line_front_after chars front P) ms))) here
    ∙ ap (λ (l : List (List Found)). found_in file m.line gap front m.at chars P ∷ l) rest

-- what stands behind so many brings from some state
record From (file n skip : ℕ) (gap : Bool) (front : Front) (ms : List Mark) : Type 0 where
  later_skip : ℕ
  later_gap : Bool
  later_front : Front
  is : drop n (brought file skip gap front ms) ≡ brought file later_skip later_gap later_front (drop n ms)

from_there : (file n skip : ℕ) (gap : Bool) (front : Front) (ms : List Mark) → From file n skip gap front ms
unfolding brought
from_there file zero skip gap front ms = record { later_skip = skip; later_gap = gap; later_front = front; is = refl }
from_there file (suc n) skip gap front [] = record { later_skip = skip; later_gap = gap; later_front = front; is = refl }
from_there file (suc n) (suc skip) gap front (m ∷ ms) =
    let r = from_there file n skip gap front ms in
    record { later_skip = r.later_skip; later_gap = r.later_gap; later_front = r.later_front; is = r.is }
from_there file (suc n) zero gap front (m ∷ ms) =
    let P = piece_of (expects_header front) m.byte (text ms) in
    let r = from_there file n (piece_length (suc (length ms)) P - 1) (leaves_gap P) (line_front_after (m.byte ∷ text ms) front P) ms in
    record { later_skip = r.later_skip; later_gap = r.later_gap; later_front = r.later_front; is = r.is }

sizes_map : {X : Type 0} (g : X → X) (xss : List (List X)) → sum_by length (map (map g) xss) ≡ sum_by length xss
sizes_map g [] = refl
sizes_map g (xs ∷ xss) =
    let a = sum_by-cons length (map g xs) (map (map g) xss) in
    let b = sum_by-cons length xs xss in
    let here = length-map xs g in
    let rest = sizes_map g xss in
    omega (arith, a, b, here, rest)

pub brought_outside : (place line : ℕ → ℕ) (file : ℕ) (c : Cut) (skip : ℕ) (gap : Bool) (front : Front) (ms : List Mark) → SameOutside c (map (elsewhere place line) ms) ms
    → Beside c (map (map (moved_found place line)) (brought file skip gap front ms)) (brought file skip gap front ms)
brought_outside place line file done skip gap front ms h = all_same place line file skip gap front ms h
  where
    all_same : (place line : ℕ → ℕ) (file skip : ℕ) (gap : Bool) (front : Front) (ms : List Mark) → map (elsewhere place line) ms ≡ ms
        → map (map (moved_found place line)) (brought file skip gap front ms) ≡ brought file skip gap front ms
    all_same place line file skip gap front ms h =
        let B = brought file skip gap front ms in
        let same = brought_same place line file (length B) skip gap front ms (ap (take (length B)) h) in
        sym (take_all_of (map (map (moved_found place line)) B)) ∙ ap (λ (n : ℕ). take n (map (map (moved_found place line)) B)) (length-map B (map (moved_found place line)))
        ∙ same ∙ take_all_of B
brought_outside place line file (keep n c) skip gap front ms h =
    let g = map (moved_found place line) in
    let B = brought file skip gap front ms in
    let r = from_there file n skip gap front ms in (
      brought_same place line file n skip gap front ms h.0,
      rw (drop-map g n B, r.is) (brought_outside place line file c r.later_skip r.later_gap r.later_front (drop n ms) (rw (← drop-map (elsewhere place line) n ms) h.1)),
    )
brought_outside place line file (list is c) skip gap front ms h =
    let g = map (moved_found place line) in
    let n = span_of is in
    let B = brought file skip gap front ms in
    let r = from_there file n skip gap front ms in (
      ap (sum_by length) (take-map g n B) ∙ sizes_map (moved_found place line) (take n B),
      rw (drop-map g n B, r.is) (brought_outside place line file c r.later_skip r.later_gap r.later_front (drop n ms) (rw (← drop-map (elsewhere place line) n ms) h)),
    )
