-- Each token of a run of a file stands in a text line.
use Rattle.std.proofs.Common.{◌≡◌, ℕ, zero, suc, ◌+◌, ◌-◌, ◌<◌, ◌≤◌, Bool, true, false, not, cond, ◌&&◌, nat_le, List, [], ◌∷◌, ◌++◌, length, take, drop, Option, Some, None, inl, inr, refl, sym, ap, subst, ◌∙◌, arith, take-add}
use Rattle.std.specs.Prelude.{slice_get, unwrap_or}
use Rattle.std.specs.List.{list_any}
use Rattle.std.proofs.lemmas.Bool.{cases_Bool, and_parts, leb-true, leb-false}
use Rattle.std.proofs.lemmas.List.{drop-drop}
use Rattle.cs_base.specs.Token.{Token}
use Rattle.lexer.specs.Tokens.{tokens_of, firsts_of, open_comment_of}
use Rattle.lexer.proofs.ScanLemmas.{firsts_of-each as file_firsts}
use Rattle.line_shape.specs.declared.items.Item.{Item}
use Rattle.line_shape.specs.declared.items.ItemKind.{ItemKind}
use Rattle.line_shape.specs.declared.items.ItemKind.TheVariants.{Run}
use Rattle.line_shape.specs.Signs.{is_hash}
use Rattle.line_shape.specs.Directives.{is_run}
use Rattle.line_shape.specs.Items.{lines_of, line_kind, pieces_of, item_of, items_from, items_of}
use Rattle.arranged_text_laws.specs.Runs.{Placed, begins_directive, in_text, text_behind, firsts_of as firsts_placed_of}
use Rattle.arranged_text_laws.specs.FileItems.{placed}
use Rattle.arranged_text_laws.proofs.FileItemLemmas.{toks_placed, firsts_placed}
use Rattle.arranged_text_laws.proofs.RunLemmas.{line_from, all_lines, later_lines, run_in, behind_run, all_pieces, start_run, start_directive, kind_of_line}
use Rattle.arranged_text_laws.specs.Lists.{begin_of, close_of}
use Rattle.arranged_text_laws.specs.RunTokens.{IsTextAt, RunTokensAreText, RunListsAreText}
use Rattle.arranged_text_laws.proofs.PartFound.{get_drop}
use Rattle.arranged_text_laws.proofs.FileRuns.{behind_append, first_there}

-- ---- what stands behind a line, and behind a run

abbrev after_line : List Placed → List Placed
after_line [] = []
after_line (q ∷ qs) = cond q.first (q ∷ qs) (after_line qs)

later_is : (qs : List Placed) → later_lines qs ≡ all_lines (after_line qs)
unfolding lines_of
later_is [] = refl
later_is (q ∷ qs) = elim (cases_Bool q.first) [ inl first ↦ rw first refl | inr on ↦ rw on (later_is qs) ]

line_drop : (t : Token) (x : Placed) (qs : List Placed) → drop (length (line_from t qs)) (x ∷ qs) ≡ after_line qs
line_drop t x [] = refl
line_drop t x (q ∷ qs) = elim (cases_Bool q.first) [
  | inl first ↦
      ap (λ (b : Bool). drop (length (cond b (t ∷ []) (t ∷ line_from q.tok qs))) (x ∷ q ∷ qs)) first ∙ sym (ap (λ (b : Bool). cond b (q ∷ qs) (after_line qs)) first)
  | inr on ↦
      ap (λ (b : Bool). drop (length (cond b (t ∷ []) (t ∷ line_from q.tok qs))) (x ∷ q ∷ qs)) on ∙ line_drop q.tok q qs
      ∙ sym (ap (λ (b : Bool). cond b (q ∷ qs) (after_line qs)) on)
]

run_drop : (qs : List Placed) → drop (length (run_in qs)) qs ≡ behind_run qs
run_drop [] = refl
run_drop (q ∷ qs) = elim (cases_Bool (begins_directive q)) [ inl ends ↦ rw ends refl | inr on ↦ rw on (run_drop qs) ]

-- a line begins with the first of these
abbrev StartsLine : List Placed → Type 0
StartsLine [] = Unit {0}
StartsLine (q ∷ qs) = q.first ≡ true

line_starts : (qs : List Placed) → StartsLine (after_line qs)
line_starts [] = tt
line_starts (q ∷ qs) = elim (cases_Bool q.first) [
  | inl first ↦ subst StartsLine (sym (ap (λ (b : Bool). cond b (q ∷ qs) (after_line qs)) first)) first
  | inr on ↦ subst StartsLine (sym (ap (λ (b : Bool). cond b (q ∷ qs) (after_line qs)) on)) (line_starts qs)
]

run_starts : (qs : List Placed) → StartsLine (behind_run qs)
run_starts [] = tt
run_starts (q ∷ qs) = elim (cases_Bool (begins_directive q)) [
  | inl ends ↦ subst StartsLine (sym (ap (λ (b : Bool). cond b (q ∷ qs) (behind_run qs)) ends)) (and_parts q.first (is_hash q.tok) ends).0
  | inr on ↦ subst StartsLine (sym (ap (λ (b : Bool). cond b (q ∷ qs) (behind_run qs)) on)) (run_starts qs)
]

after_short : (qs : List Placed) → length (after_line qs) ≤ length qs
after_short [] = omega arith
after_short (q ∷ qs) = elim (cases_Bool q.first) [ inl first ↦ rw first (omega arith) | inr on ↦ rw on (let s = after_short qs in omega (arith, s)) ]

behind_short : (qs : List Placed) → length (behind_run qs) ≤ length qs
behind_short [] = omega arith
behind_short (q ∷ qs) = elim (cases_Bool (begins_directive q)) [ inl ends ↦ rw ends (omega arith) | inr on ↦ rw on (let s = behind_short qs in omega (arith, s)) ]

-- ---- the tokens of a run

still : (q : Placed) → begins_directive q ≡ false → in_text true q ≡ true
still q none = elim (cases_Bool q.first) [
  | inl first ↦ rw first (let no_hash = rw first at none in rw no_hash refl)
  | inr later ↦ rw later refl
]

run_text : (qs : List Placed) (i : ℕ) → i < length (run_in qs) → text_behind true (take (suc i) qs) ≡ true
run_text [] i lt = absurd (omega (arith, lt))
run_text (q ∷ qs) zero lt = elim (cases_Bool (begins_directive q)) [
  | inl ends ↦ let none : 0 < 0 = rw ends at lt in absurd (omega (arith, none))
  | inr on ↦ still q on
]
run_text (q ∷ qs) (suc i) lt = elim (cases_Bool (begins_directive q)) [
  | inl ends ↦ let none : suc i < 0 = rw ends at lt in absurd (omega (arith, none))
  | inr on ↦
      let few : suc i < suc (length (run_in qs)) = rw on at lt in
      ap (λ (b : Bool). text_behind b (take (suc i) qs)) (still q on) ∙ run_text qs i (omega (arith, few))
]

run_plain : (qs : List Placed) (i : ℕ) (p : Placed) → i < length (run_in qs) → slice_get qs i ≡ Some p → begins_directive p ≡ false
run_plain [] i p lt there = absurd cc
run_plain (q ∷ qs) zero p lt there = elim (cases_Bool (begins_directive q)) [
  | inl ends ↦ let none : 0 < 0 = rw ends at lt in absurd (omega (arith, none))
  | inr on ↦ ap begins_directive (sym (ap (λ (o : Option Placed). unwrap_or o p) there)) ∙ on
]
run_plain (q ∷ qs) (suc i) p lt there = elim (cases_Bool (begins_directive q)) [
  | inl ends ↦ let none : suc i < 0 = rw ends at lt in absurd (omega (arith, none))
  | inr on ↦ let few : suc i < suc (length (run_in qs)) = rw on at lt in run_plain qs i p (omega (arith, few)) there
]

-- the token with which a run begins
run_first : (ps : List Placed) (from : ℕ) (p : Placed) (qs : List Placed) → drop from ps ≡ p ∷ qs → p.first ≡ true → is_hash p.tok ≡ false → text_behind true (take (suc from) ps) ≡ true
run_first ps from p qs here first text =
    let one : from + 1 ≡ suc from = omega arith in
    ap (λ (n : ℕ). text_behind true (take n ps)) (sym one) ∙ ap (text_behind true) (take-add from 1 ps) ∙ behind_append (take from ps) (take 1 (drop from ps)) true
    ∙ ap (λ (l : List Placed). text_behind (text_behind true (take from ps)) (take 1 l)) here
    ∙ ap (λ (b : Bool). cond b (not (is_hash p.tok)) (text_behind true (take from ps))) first ∙ ap not text

run_at : (ps : List Placed) (from : ℕ) (p : Placed) (qs : List Placed) (k : ℕ) → drop from ps ≡ p ∷ qs → p.first ≡ true → is_hash p.tok ≡ false → from ≤ k → k < from + suc (length (run_in qs)) → IsTextAt ps k
run_at ps from p qs k here first text low high = elim (cases_Bool (nat_le k from)) [
  | inl at ↦
      let le = leb-true k from at in
      let same : from ≡ k = omega (arith, low, le) in
      let zero_plus : k ≡ from + 0 = omega (arith, same) in
      record {
        text = ap (λ (n : ℕ). text_behind true (take (suc n) ps)) (sym same) ∙ run_first ps from p qs here first text;
        plain = λ q there.
            let is : p ≡ q = ap (λ (o : Option Placed). unwrap_or o q)
            (sym (ap (λ (l : List Placed). slice_get l 0) here) ∙ get_drop from 0 ps ∙ ap (slice_get ps) (sym zero_plus) ∙ there) in
            ap begins_directive (sym is) ∙ ap (λ (h : Bool). p.first && h) text ∙ and_false p.first;
      }
  | inr behind ↦
      let lt = leb-false k from behind in
      let i = k - suc from in
      let few : i < length (run_in qs) = omega (arith, lt, high) in
      let sum : suc from + suc i ≡ suc k = omega (arith, lt) in
      let place : suc from + i ≡ k = omega (arith, lt) in
      let one : from + 1 ≡ suc from = omega arith in
      let rest : drop (suc from) ps ≡ qs = ap (λ (n : ℕ). drop n ps) (sym one) ∙ sym (drop-drop 1 from ps) ∙ ap (drop 1) here in
      record {
        text = ap (λ (n : ℕ). text_behind true (take n ps)) (sym sum) ∙ ap (text_behind true) (take-add (suc from) (suc i) ps)
            ∙ behind_append (take (suc from) ps) (take (suc i) (drop (suc from) ps)) true
            ∙ ap (λ (b : Bool). text_behind b (take (suc i) (drop (suc from) ps))) (run_first ps from p qs here first text)
            ∙ ap (λ (l : List Placed). text_behind true (take (suc i) l)) rest ∙ run_text qs i few;
        plain = λ q there. run_plain qs i q few (ap (λ (l : List Placed). slice_get l i) (sym rest) ∙ get_drop (suc from) i ps ∙ ap (slice_get ps) place ∙ there);
      }
]
  where
    and_false : (b : Bool) → (b && false) ≡ false
    and_false true = refl
    and_false false = refl

-- ---- items

-- so it is with each token of a run among these items
abbrev RunsAreText : List Placed → List Item → Type 0
RunsAreText ps items = (j : ℕ) (it : Item) (k : ℕ) → slice_get items j ≡ Some it → it.kind ≡ Run → it.from ≤ k → k < it.to → IsTextAt ps k

one_more_item : (ps : List Placed) (x : Item) (items : List Item) → ((k : ℕ) → x.kind ≡ Run → x.from ≤ k → k < x.to → IsTextAt ps k) → RunsAreText ps items → RunsAreText ps (x ∷ items)
one_more_item ps x items first rest zero it k there run low high =
    let is : x ≡ it = ap (λ (o : Option Item). unwrap_or o x) there in
    first k (ap (λ (i : Item). i.kind) is ∙ run) (subst (λ (i : Item). i.from ≤ k) (sym is) low) (subst (λ (i : Item). k < i.to) (sym is) high)
one_more_item ps x items first rest (suc j) it k there run low high = rest j it k there run low high

-- a directive line is no run
line_item : (ps : List Placed) (from : ℕ) (kind : ItemKind) (toks : List Token) (items : List Item) → is_run kind ≡ false → RunsAreText ps items → RunsAreText ps (item_of kind from toks ++ items)
line_item ps from kind [] items other rest = rest
line_item ps from kind (t ∷ toks) items other rest =
    one_more_item ps _ items (λ k run low high. let nost : true ≡ false = ap is_run (sym run) ∙ other in absurd cc) rest

items_walk : (n : ℕ) (ps : List Placed) (from : ℕ) (qs : List Placed) → length qs ≤ n → drop from ps ≡ qs → StartsLine qs → RunsAreText ps (items_from from (all_pieces qs))
unfolding items_from pieces_of lines_of
items_walk n ps from [] le here starts = λ j it k there run low high. absurd cc
items_walk zero ps from (p ∷ qs) le here starts = absurd (omega (arith, le))
items_walk (suc n) ps from (p ∷ qs) le here starts = elim (cases_Bool (is_hash p.tok)) [
  | inl hash ↦
      let L = line_from p.tok qs in
      let R = after_line qs in
      let short = after_short qs in
      let there : drop (from + length L) ps ≡ R = sym (drop-drop (length L) from ps) ∙ ap (drop (length L)) here ∙ line_drop p.tok p qs in
      let rest = items_walk n ps (from + length L) R (omega (arith, short, le)) there (line_starts qs) in
      let kind : is_run (line_kind L) ≡ false = kind_of_line p.tok qs ∙ ap not hash in
      let made : items_from from (all_pieces (p ∷ qs)) ≡ item_of (line_kind L) from L ++ items_from (from + length L) (all_pieces R) =
      ap (items_from from) (start_directive p qs hash) ∙ ap (λ (l : List (List Token)). item_of (line_kind L) from L ++ items_from (from + length L) (pieces_of l)) (later_is qs) in
      subst (RunsAreText ps) (sym made) (line_item ps from (line_kind L) L (items_from (from + length L) (all_pieces R)) kind rest)
  | inr text ↦
      let L = p.tok ∷ run_in qs in
      let R = behind_run qs in
      let short = behind_short qs in
      let there : drop (from + length L) ps ≡ R = sym (drop-drop (length L) from ps) ∙ ap (drop (length L)) here ∙ run_drop qs in
      let rest = items_walk n ps (from + length L) R (omega (arith, short, le)) there (run_starts qs) in
      let made : items_from from (all_pieces (p ∷ qs)) ≡ item_of Run from L ++ items_from (from + length L) (all_pieces R) = ap (items_from from) (start_run p qs text) in
      subst (RunsAreText ps) (sym made)
      (one_more_item ps _ (items_from (from + length L) (all_pieces R)) (λ k run low high. run_at ps from p qs k here starts text low high) rest)
]

-- ---- the laws

file_starts : (file : ℕ) (bytes : List ℕ) → open_comment_of bytes ≡ None → StartsLine (placed (tokens_of file bytes) (firsts_of bytes))
file_starts file bytes none = starts_by (tokens_of file bytes) (firsts_of bytes) (λ p there some. first_there file bytes none (placed (tokens_of file bytes) (firsts_of bytes)) refl p there some)
  where
    starts_by : (ts : List Token) (fs : List Bool) → ((p : Placed) → slice_get (placed ts fs) 0 ≡ Some p → 0 < length ts → p.first ≡ true) → StartsLine (placed ts fs)
    starts_by [] fs h = tt
    starts_by (t ∷ ts) [] h = tt
    starts_by (t ∷ ts) (f ∷ fs) h = h (record { tok = t; first = f }) refl (omega arith)

pub run_tokens_are_text : RunTokensAreText
unfolding items_of
run_tokens_are_text = λ file bytes j it k none there run low high.
    let T = tokens_of file bytes in
    let F = firsts_of bytes in
    let ps = placed T F in
    let even = file_firsts file bytes in
    let walk = items_walk (length ps) ps 0 ps (omega arith) refl (file_starts file bytes none) in
    let same : items_from 0 (all_pieces ps) ≡ items_of T F =
    ap (λ (l : List Token). items_from 0 (pieces_of (lines_of l (firsts_placed_of ps)))) (toks_placed T F even)
    ∙ ap (λ (l : List Bool). items_from 0 (pieces_of (lines_of T l))) (firsts_placed T F even) in
    walk j it k (ap (λ (l : List Item). slice_get l j) same ∙ there) run low high

any_none : (ps : List Placed) (i n : ℕ) → ((k : ℕ) (p : Placed) → i ≤ k → k < i + n → slice_get ps k ≡ Some p → begins_directive p ≡ false) → list_any begins_directive (take n (drop i ps)) ≡ false
any_none [] zero zero h = refl
any_none [] zero (suc n) h = refl
any_none [] (suc i) zero h = refl
any_none [] (suc i) (suc n) h = refl
any_none (p ∷ ps) (suc i) n h = any_none ps i n (λ k q low high there. h (suc k) q (omega (arith, low)) (omega (arith, high)) there)
any_none (p ∷ ps) zero zero h = refl
any_none (p ∷ ps) zero (suc n) h =
    rw (h 0 p (omega arith) (omega arith) refl) (any_none ps 0 n (λ k q low high there. h (suc k) q (omega arith) (omega (arith, high)) there))

pub run_lists_are_text : RunListsAreText
run_lists_are_text = λ file bytes j it l none there run some low short high.
    let ps = placed (tokens_of file bytes) (firsts_of bytes) in
    let on : suc (begin_of l - 1) ≡ begin_of l = omega (arith, some) in
    record {
      text = ap (λ (n : ℕ). text_behind true (take n ps)) (sym on) ∙ (run_tokens_are_text file bytes j it (begin_of l - 1) none there run low short).text;
      plain = any_none ps (begin_of l) (close_of l - begin_of l)
          (λ k p from to at. (run_tokens_are_text file bytes j it k none there run (omega (arith, low, from)) (omega (arith, to, high, short, from))).plain p at);
    }
