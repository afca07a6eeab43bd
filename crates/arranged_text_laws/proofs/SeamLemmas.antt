-- The logical text of bytes in a new order.
use Rattle.std.proofs.Common.{◌≡◌, ℕ, zero, suc, ◌+◌, ◌-◌, ◌<◌, ◌≤◌, Bool, true, false, not, ◌&&◌, ◌==◌, cond, List, [], ◌∷◌, ◌++◌, length, take, drop, map, inl, inr, refl, sym, ap, subst, ◌∙◌, arith, take-append-drop, take-add}
use Rattle.std.proofs.lemmas.List.{drop-drop}
use Rattle.std.proofs.lemmas.Bool.{cases_Bool, and_parts, eqb-true, eq-eqb}
use Rattle.cs_base.proofs.BoolLemmas.{not_true as not-true}
use Rattle.lexer.specs.Characters.{line_feed, carriage_return, backslash, begins}
use Rattle.lexer.specs.Logical.{new_line_length, gone_length, logical_from, logical_of, spelling}
use Rattle.list_cuts.specs.Cuts.{Cut, done, keep, list, Items, ended, item, span_of, extent_of, IsOrder, arranged, AreOf}
use Rattle.list_cuts.proofs.CutLemmas.{arranged-append}
use Rattle.arranged_text_laws.specs.Labels.{head_with, masked, masked_items, starts, IsLed}
use Rattle.arranged_text_laws.specs.Joining.{is_seam}
use Rattle.arranged_text_laws.specs.Seams.{kept, is_plain, ends_plain, is_some_byte, HasBytes, GapSeams, SeamsAlong, ItemsSeams}
use Rattle.arranged_text_laws.specs.Weighed.{together, weighed}
use Rattle.arranged_text_laws.proofs.Flows.{Flow, Goes, Relabels, BringsOne, Loose, HasEnd, GapFlows, Flows, ItemsFlow}
use Rattle.arranged_text_laws.proofs.FlowLaw.{flowed}
use Rattle.arranged_text_laws.proofs.WeighedLemmas.{arranged_together}

-- ---- the logical text, byte by byte

pub spelled_kept : (skip at : ℕ) (bytes : List ℕ) → spelling (logical_from skip at bytes) ≡ together (kept skip bytes)
unfolding logical_from kept
spelled_kept skip at [] = refl
spelled_kept (suc skip) at (c ∷ cs) = spelled_kept skip (at + 1) cs
spelled_kept zero at (c ∷ cs) =
    elim (cases_Bool (gone_length c cs == 0)) [
      | inl stays ↦ rw stays (ap (λ (l : List ℕ). c ∷ l) (spelled_kept 0 (at + 1) cs))
      | inr goes ↦ rw goes (spelled_kept (gone_length c cs - 1) (at + 1) cs)
    ]

pub length-kept : (skip : ℕ) (bytes : List ℕ) → length (kept skip bytes) ≡ length bytes
unfolding kept
length-kept skip [] = refl
length-kept (suc skip) (c ∷ cs) = ap (λ (n : ℕ). suc n) (length-kept skip cs)
length-kept zero (c ∷ cs) =
    elim (cases_Bool (gone_length c cs == 0)) [
      | inl stays ↦ rw stays (ap (λ (n : ℕ). suc n) (length-kept 0 cs))
      | inr goes ↦ rw goes (ap (λ (n : ℕ). suc n) (length-kept (gone_length c cs - 1) cs))
    ]

-- ---- parts

record Plain (c : ℕ) : Type 0 where
  feed : (c == line_feed) ≡ false
  return : (c == carriage_return) ≡ false
  slash : (c == backslash) ≡ false

plain_parts : (c : ℕ) → is_plain c ≡ true → Plain c
plain_parts c h =
    let p = and_parts (not (c == line_feed)) (not (c == carriage_return) && not (c == backslash)) h in
    let q = and_parts (not (c == carriage_return)) (not (c == backslash)) p.1 in
    record { feed = not-true (c == line_feed) p.0; return = not-true (c == carriage_return) q.0; slash = not-true (c == backslash) q.1 }

plain_stays : (c : ℕ) (cs : List ℕ) → is_plain c ≡ true → gone_length c cs ≡ 0
unfolding gone_length
plain_stays c cs h = let p = plain_parts c h in rw (p.slash, p.return) refl

-- before a plain byte no new-line goes on
no_line : (ys : List ℕ) → starts is_plain ys ≡ true → (new_line_length ys ≡ 0) × (begins line_feed ys ≡ false)
no_line [] h = absurd cc
no_line (y ∷ ys) h = let p = plain_parts y h in (rw (p.feed, p.return) refl, p.feed)

pub gone_before : (c : ℕ) (xs ys : List ℕ) → starts is_plain ys ≡ true → gone_length c (xs ++ ys) ≡ gone_length c xs
unfolding gone_length
gone_before c [] ys h = let no = no_line ys h in rw (no.0, no.1) refl
gone_before c (x ∷ []) ys h = let no = no_line ys h in rw no.1 refl
gone_before c (x ∷ x2 ∷ xs) ys h = refl

pub seam_before : (skip : ℕ) (xs ys : List ℕ) → is_seam skip xs [] ≡ true → starts is_plain ys ≡ true → is_seam skip xs ys ≡ true
unfolding is_seam
seam_before skip [] ys h plain = h
seam_before (suc skip) (c ∷ xs) ys h plain = seam_before skip xs ys h plain
seam_before zero (c ∷ xs) ys h plain =
    let p = and_parts (gone_length c (xs ++ []) == gone_length c xs) (is_seam (gone_length c xs - 1) xs []) h in
    let same : (gone_length c (xs ++ ys) == gone_length c xs) ≡ true = rw (gone_before c xs ys plain) (eq-eqb (gone_length c xs) (gone_length c xs) refl) in
    rw same (seam_before (gone_length c xs - 1) xs ys p.1 plain)

-- and none goes on behind one
pub gone_behind : (c : ℕ) (xs ys : List ℕ) → ends_plain (c ∷ xs) ≡ true → gone_length c (xs ++ ys) ≡ gone_length c xs
unfolding gone_length
gone_behind c [] ys h = let p = plain_parts c h in rw (p.slash, p.return) refl
gone_behind c (x ∷ []) ys h = let p = plain_parts x h in rw (p.feed, p.return) refl
gone_behind c (x ∷ x2 ∷ xs) ys h = refl

pub ends_on : (c : ℕ) (xs : List ℕ) → ends_plain (c ∷ xs) ≡ true → ends_plain xs ≡ true
ends_on c [] h = refl
ends_on c (x ∷ xs) h = h

pub seam_behind : (skip : ℕ) (xs ys : List ℕ) → is_seam skip xs [] ≡ true → ends_plain xs ≡ true → is_seam skip xs ys ≡ true
unfolding is_seam
seam_behind skip [] ys h plain = h
seam_behind (suc skip) (c ∷ xs) ys h plain = seam_behind skip xs ys h (ends_on c xs plain)
seam_behind zero (c ∷ xs) ys h plain =
    let p = and_parts (gone_length c (xs ++ []) == gone_length c xs) (is_seam (gone_length c xs - 1) xs []) h in
    let same : (gone_length c (xs ++ ys) == gone_length c xs) ≡ true = rw (gone_behind c xs ys plain) (eq-eqb (gone_length c xs) (gone_length c xs) refl) in
    rw same (seam_behind (gone_length c xs - 1) xs ys p.1 (ends_on c xs plain))

joined_kept : (skip : ℕ) (xs ys : List ℕ) → is_seam skip xs ys ≡ true → kept skip (xs ++ ys) ≡ kept skip xs ++ kept 0 ys
unfolding kept is_seam
joined_kept zero [] ys h = refl
joined_kept (suc skip) [] ys h = let e = eqb-true (suc skip) 0 h in absurd (omega (arith, e))
joined_kept (suc skip) (c ∷ xs) ys h = ap (λ (l : List (List ℕ)). [] ∷ l) (joined_kept skip xs ys h)
joined_kept zero (c ∷ xs) ys h =
    let p = and_parts (gone_length c (xs ++ ys) == gone_length c xs) (is_seam (gone_length c xs - 1) xs ys) h in
    let same : gone_length c (xs ++ ys) ≡ gone_length c xs = eqb-true (gone_length c (xs ++ ys)) (gone_length c xs) p.0 in
    ap (λ (g : ℕ). cond (g == 0) ((c ∷ []) ∷ kept 0 (xs ++ ys)) ([] ∷ kept (g - 1) (xs ++ ys))) same
    ∙ kept_step (gone_length c xs) c xs ys (joined_kept (gone_length c xs - 1) xs ys p.1)
  where
    kept_step : (g c : ℕ) (xs ys : List ℕ) → kept (g - 1) (xs ++ ys) ≡ kept (g - 1) xs ++ kept 0 ys
        → cond (g == 0) ((c ∷ []) ∷ kept 0 (xs ++ ys)) ([] ∷ kept (g - 1) (xs ++ ys))
        ≡ cond (g == 0) ((c ∷ []) ∷ kept 0 xs) ([] ∷ kept (g - 1) xs) ++ kept 0 ys
    kept_step g c xs ys later =
        elim (cases_Bool (g == 0)) [
          | inl none ↦
              let e = eqb-true g 0 none in
              let same : g - 1 ≡ 0 = omega (arith, e) in
              let here : kept 0 (xs ++ ys) ≡ kept 0 xs ++ kept 0 ys = subst (λ (k : ℕ). kept k (xs ++ ys) ≡ kept k xs ++ kept 0 ys) same later in
              rw none (ap (λ (l : List (List ℕ)). (c ∷ []) ∷ l) here)
          | inr some ↦ rw some (ap (λ (l : List (List ℕ)). [] ∷ l) later)
        ]

-- ---- the flow of bytes to characters

abbrev byte_flow : Flow ℕ (List ℕ) (Unit {0})
byte_flow = record {
  run = λ st xs. kept 0 xs;
  rest = tt;
  label = λ st y. y;
  behind_item = is_some_byte;
  begins_item = is_plain;
  one = λ y. length y == 1;
}

head_same : {Y : Type 0} (ys : List Y) → head_with (λ y. y) ys ≡ ys
head_same [] = refl
head_same (y ∷ ys) = refl

byte_relabels : (p : ℕ → Bool) (xs : List ℕ) → Relabels byte_flow p xs
byte_relabels p xs = λ st more is. sym (head_same (kept 0 (xs ++ more)))

byte_one : (p : ℕ → Bool) (xs : List ℕ) → starts is_plain xs ≡ true → BringsOne byte_flow p xs
unfolding kept
byte_one p [] h = absurd cc
byte_one p (x ∷ xs) h = λ more is. let stays : (gone_length x (xs ++ more) == 0) ≡ true = rw (plain_stays x (xs ++ more) h) refl in rw stays refl

starts_take_some : (p : ℕ → Bool) (n : ℕ) (xs : List ℕ) → 0 < n → starts p xs ≡ true → starts p (take n xs) ≡ true
starts_take_some p n [] some h = absurd cc
starts_take_some p zero (x ∷ xs) some h = absurd (omega (arith, some))
starts_take_some p (suc n) (x ∷ xs) some h = h

byte_loose : (c : Cut) (xs : List ℕ) → IsLed c → starts is_plain xs ≡ true → Loose byte_flow c xs
byte_loose done xs led h = (byte_relabels is_some_byte xs, byte_one is_some_byte xs h, (0 ∷ [], refl))
byte_loose (keep n c) xs led h = (byte_relabels is_plain (take n xs), byte_one is_plain (take n xs) (starts_take_some is_plain n xs led h))
byte_loose (list is c) xs led h = absurd led

byte_part : (xs : List ℕ) → is_seam 0 xs [] ≡ true → Goes byte_flow is_plain tt xs (kept 0 xs) tt
byte_part xs h = record { long = length-kept 0 xs; goes = λ more is. joined_kept 0 xs more (seam_before 0 xs more h is) }

byte_item : (xs : List ℕ) → is_seam 0 xs [] ≡ true → ends_plain xs ≡ true → Goes byte_flow is_some_byte tt xs (kept 0 xs) tt
byte_item xs h plain = record { long = length-kept 0 xs; goes = λ more is. joined_kept 0 xs more (seam_behind 0 xs more h plain) }

byte_end : (c : Cut) (xs : List ℕ) → HasBytes c xs → HasEnd byte_flow c xs
byte_end done [] h = refl
byte_end done (x ∷ xs) h = refl
byte_end (keep n c) xs h = h
byte_end (list is c) xs h = absurd h

byte_gap : (gap : ℕ) (more : Items) (xs : List ℕ) → GapSeams gap more xs → GapFlows byte_flow gap more xs
byte_gap gap ended xs h = h
byte_gap gap (item n c further more) xs h = (h.0, (kept 0 (take gap xs), tt, byte_part (take gap xs) h.1))

mutual
  seams_flow : (c : Cut) (xs : List ℕ) → SeamsAlong c xs → Flows byte_flow tt c xs tt
  seams_flow done xs h = (kept 0 xs, byte_item xs h.0 h.1)
  seams_flow (keep n c) xs h = (h.0, (kept 0 (take n xs), tt, byte_part (take n xs) h.1, seams_flow c (drop n xs) h.2))
  seams_flow (list is c) xs h = (h.0, items_seams is xs h.1, byte_end c (drop (span_of is) xs) h.2, seams_flow c (drop (span_of is) xs) h.3)

  items_seams : (is : Items) (xs : List ℕ) → ItemsSeams is xs → ItemsFlow byte_flow is xs
  items_seams ended xs h = tt
  items_seams (item n c gap more) xs h =
      (h.1, h.0, byte_loose c (take n xs) h.0 h.1, h.2, seams_flow c (take n xs) h.3, byte_gap gap more (drop n xs) h.4, items_seams more (drop (n + gap) xs) h.5)

-- ---- the law

mutual
  unfolding masked masked_items span_of

  pub masked_same : {Y : Type 0} (c : Cut) (ys : List Y) → masked (λ y. y) c ys ≡ ys
  masked_same done ys = refl
  masked_same (keep n c) ys = ap (λ (l : List _). take n ys ++ l) (masked_same c (drop n ys)) ∙ take-append-drop n ys
  masked_same (list is c) ys =
      ap (λ (l : List _). masked_items (λ y. y) is ys ++ l) (masked_same c (drop (span_of is) ys))
      ∙ ap (λ (l : List _). l ++ drop (span_of is) ys) (masked_items_same is ys) ∙ take-append-drop (span_of is) ys

  pub masked_items_same : {Y : Type 0} (is : Items) (ys : List Y) → masked_items (λ y. y) is ys ≡ take (span_of is) ys
  masked_items_same ended ys = refl
  masked_items_same (item n c gap more) ys =
      ap (λ (l : List _). l ++ (take gap (drop n ys) ++ masked_items (λ y. y) more (drop (n + gap) ys))) (head_same (masked (λ y. y) c (take n ys)) ∙ masked_same c (take n ys))
      ∙ ap (λ (l : List _). take n ys ++ (take gap (drop n ys) ++ l)) (masked_items_same more (drop (n + gap) ys) ∙ ap (take (span_of more)) (sym (drop-drop gap n ys)))
      ∙ ap (λ (l : List _). take n ys ++ l) (sym (take-add gap (span_of more) (drop n ys))) ∙ sym (take-add n (gap + span_of more) ys)

-- characters of bytes in a new order
pub kept_arranged : (m : ℕ) (order : List ℕ) → IsOrder m order → (c : Cut) (xs ys : List ℕ) → AreOf m c → extent_of c ≤ length xs → SeamsAlong c xs
    → starts is_some_byte ys ≡ true → kept 0 (arranged order c (xs ++ ys)) ≡ arranged order c (kept 0 (xs ++ ys))
kept_arranged m order is c xs ys all within seams some =
    let F = flowed byte_flow (λ y. y) m order (λ s y. refl) (λ s y. refl) is tt c xs tt all within (seams_flow c xs seams) in
    let same : F.new ≡ F.old = sym (masked_same c F.new) ∙ F.alike ∙ masked_same c F.old in
    let room : extent_of c ≤ length F.old = rw F.old_long within in
    ap (kept 0) (arranged-append order c xs ys within) ∙ F.news ys some
    ∙ ap (λ (l : List (List ℕ)). arranged order c l ++ kept 0 ys) same
    ∙ sym (arranged-append order c F.old (kept 0 ys) room)
    ∙ ap (arranged order c) (sym (F.olds ys some))

-- the logical text of bytes in a new order, without offsets
pub spelled_arranged : (m : ℕ) (order : List ℕ) → IsOrder m order → (c : Cut) (xs ys : List ℕ) → AreOf m c → extent_of c ≤ length xs → SeamsAlong c xs
    → starts is_some_byte ys ≡ true
    → spelling (logical_of (arranged order c (xs ++ ys))) ≡ arranged order (weighed c (map length (kept 0 (xs ++ ys)))) (spelling (logical_of (xs ++ ys)))
unfolding logical_of
spelled_arranged m order is c xs ys all within seams some =
    spelled_kept 0 0 (arranged order c (xs ++ ys)) ∙ ap together (kept_arranged m order is c xs ys all within seams some)
    ∙ arranged_together order c (kept 0 (xs ++ ys))
    ∙ ap (arranged order (weighed c (map length (kept 0 (xs ++ ys))))) (sym (spelled_kept 0 0 (xs ++ ys)))
