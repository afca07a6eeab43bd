-- Odd tokens by the lines of a list, and the first of them in each line.
use Rattle.std.proofs.Common.{◌≡◌, ℕ, zero, suc, ◌-◌, ◌+◌, ◌<◌, ◌≤◌, Bool, true, false, not, List, [], ◌∷◌, ◌++◌, length, take, get_or, Option, Some, None, inl, inr, refl, sym, ap, ◌∙◌, slice_get, arith}
use Rattle.std.specs.Prelude.{◌==◌, ◌&&◌, ◌||◌, ◌⊎◌, cond, nat_le}
use Rattle.std.specs.List.{flat_map, list_any}
use Rattle.std.specs.Option.{option_map_or}
use Rattle.std.proofs.lemmas.Bool.{cases_Bool, and_parts, eqb-true}
use Rattle.std.proofs.lemmas.Bool.Decides.{nat_tests}
use Rattle.std.proofs.lemmas.List.{map-append, take_more}
use Rattle.cs_base.specs.declared.causes.Cause.TheVariants as cause
use Rattle.cs_base.specs.declared.positions.Pos.{Pos}
use Rattle.cs_base.specs.Token.{Token}
use Rattle.cs_base.proofs.BoolLemmas.{bool_same, not_both, or_last}
use Rattle.cs_base.proofs.PlaceLemmas.{nothing_at}
use Rattle.c_types.specs.declared.lists.List.{List as NameList}
use Rattle.list_cuts.specs.Cuts.{numbers}
use Rattle.analysis.specs.Below.source_files.Files.{Table}
use Rattle.analysis.specs.Below.source_files.KeptFiles.{KeptValue, kept_at}
use Rattle.analysis.specs.Below.unit_steps.Texts.{UnitTextValue}
use Rattle.offences.specs.declared.firsts.Offence.{Offence}
use Rattle.offences.specs.First.{offence, standing, IsAmong, FirstThen}
use Rattle.offences.proofs.FirstLemmas.{then_both, then_none}
use Rattle.offences.proofs.AmongLemmas.{either_among, still_among, now_among}
use Rattle.template_rules.specs.declared.odd_lines.OddLine.{OddLine}
use Rattle.template_rules.specs.Functions.{origin_of}
use Rattle.template_rules.specs.MacroOffences.{is_direct}
use Rattle.template_rules.specs.Marks.{is_across}
use Rattle.template_rules.specs.LineOffences.{is_among_lines, is_among_list, is_by_list, is_line_among as in_lines, is_odd_by, is_on_line, is_one_line, is_token_on, line_begin, odd_place, odd_places}
use Rattle.template_rules.specs.OddLines.{AddsLine, AreOdd, ArePlaced, FirstAmong, IsLineIn, IsOddLine, IsTold, is_line_among, odd_among, odds_among, odds_among_list, odds_by_list, odds_by_token, with_line}
use Rattle.template_rules.proofs.LineLemmas.{odd_line, same_line}
use Rattle.template_rules.proofs.ToldLemmas.{among_either, among_left, among_one, among_right, in_flat, in_map, later_in_file, none_among, not_among, of_flat, of_map, then_same, then_told}

-- what stands at a place where a test says so
place_if : (b : Bool) (p q : Pos) → IsAmong (cond b (p ∷ []) []) q → (b ≡ true) × (q ≡ p)
place_if true p q at = (refl, among_one p q at)
place_if false p q at = absurd (not_among q at)

place_there : (b : Bool) (p : Pos) → b ≡ true → IsAmong (cond b (p ∷ []) []) p
place_there b p is = rw is (zero, refl)

-- ---- lines of tokens, one token after another

pub no_lines : (table : Table) → AreOdd table [] []
no_lines table = record {
  each = λ o at. absurd (not_among o at);
  all = λ p from to at is. absurd (not_among p at);
}

pub are_placed : (table : Table) (odds : List Pos) (lines : List OddLine) → AreOdd table odds lines → ArePlaced lines
are_placed table odds lines odd o at = (odd.each o at).0.placed

module _ (table : Table) (odds : List Pos) (lines : List OddLine) (odd : AreOdd table odds lines) (p : Pos) where
  -- it stands in a line that is there
  pub line_told : IsTold lines p → AreOdd table (odds ++ p ∷ []) lines
  line_told told =
      let o = told.0 in
      let line = (odd.each o told.1).0 in
      let here : is_among_lines table o.first p p ≡ true = line.told p p ∙ told.2 in
      record {
        each = λ n at. let e = odd.each n at in (e.0, still_among odds p n.first e.1);
        all = λ q from to at is.
            elim (either_among odds p q at) [
              | inl old ↦ odd.all q from to old is
              | inr same ↦
                  let is_p : is_among_lines table p from to ≡ true = rw same at is in
                  let on : o.first.at ≤ q.at = rw same told.3 in
                  (o, told.1, sym (line.told from to) ∙ same_line table o.first p from to here is_p, on)
            ];
      }

  -- its line comes to them
  pub line_new : (f : KeptValue) (o : OddLine) → kept_at table p.file ≡ Some f → IsLineIn f.bytes p o → AreOdd table (odds ++ p ∷ []) (lines ++ o ∷ [])
  line_new f o kept is =
      let line : IsOddLine table o = odd_line table f p o kept is in
      let first : o.first ≡ p = is.0 in
      record {
        each = λ n at.
            elim (either_among lines o n at) [
              | inl old ↦ let e = odd.each n old in (e.0, still_among odds p n.first e.1)
              | inr same ↦ (rw same line, rw (same, first) (now_among odds p))
            ];
        all = λ q from to at is_q.
            elim (either_among odds p q at) [
              | inl old ↦ let a = odd.all q from to old is_q in (a.0, still_among lines o a.0 a.1, a.2, a.3)
              | inr same ↦
                  let is_p : is_among_lines table o.first from to ≡ true = rw first (rw same at is_q) in
                  let on : o.first.at ≤ q.at = rw (first, same) (omega arith) in
                  (o, now_among lines o, sym (line.told from to) ∙ is_p, on)
            ];
      }

  no_file : (b : Bool) (q from to : Pos) → kept_at table q.file ≡ None → (b && option_map_or (in_lines q.at from.at to.at) (kept_at table q.file) false) ≡ true → ⊥
  no_file true q from to none is = let other = rw none at is in cc
  no_file false q from to none is = cc

  -- no kept file has it
  pub line_nowhere : kept_at table p.file ≡ None → AreOdd table (odds ++ p ∷ []) lines
  line_nowhere none = record {
    each = λ n at. let e = odd.each n at in (e.0, still_among odds p n.first e.1);
    all = λ q from to at is.
        elim (either_among odds p q at) [
          | inl old ↦ odd.all q from to old is
          | inr same ↦ let none_q : kept_at table q.file ≡ None = rw same none in absurd (no_file (q.file == from.file) q from to none_q is)
        ];
  }

pub lines_more : (table : Table) (odds : List Pos) (k : ℕ) (d : Pos) (lines now : List OddLine) (added : Option OddLine) → k < length odds
    → now ≡ with_line lines added → AddsLine table (get_or odds k d) lines added → AreOdd table (take k odds) lines → AreOdd table (take (k + 1) odds) now
lines_more table odds k d lines now added within is adds before = rw (take_more odds k d within, is) (adds (take k odds) before)

pub best_more : (lines : List OddLine) (k : ℕ) (d : OddLine) (from : Pos) (to : ℕ) (best now : Option Pos) → k < length lines
    → ((ls : List OddLine) → FirstAmong ls from to best → FirstAmong (ls ++ get_or lines k d ∷ []) from to now)
    → FirstAmong (take k lines) from to best → FirstAmong (take (k + 1) lines) from to now
best_more lines k d from to best now within next before = rw (take_more lines k d within) (next (take k lines) before)

-- ---- the first token of the first line tells

module _ (table : Table) (odds : List Pos) (from last : Pos) where
  abbrev among : List Pos
  among = odds_among table odds from last

  among_told : (q : Pos) → IsAmong among q → IsAmong odds q × (is_among_lines table q from last ≡ true)
  among_told q at =
      let r = of_flat (odd_among table from last) odds q at in
      let i = place_if (is_among_lines table r.0 from last) r.0 q r.2 in
      (rw i.1 r.1, rw i.1 i.0)

  among_of : (q : Pos) → IsAmong odds q → is_among_lines table q from last ≡ true → IsAmong among q
  among_of q at is = in_flat (odd_among table from last) odds q q at (place_there (is_among_lines table q from last) q is)

  of_file : (q : Pos) → is_among_lines table q from last ≡ true → q.file ≡ from.file
  of_file q is = eqb-true q.file from.file (and_parts (q.file == from.file) (option_map_or (in_lines q.at from.at last.at) (kept_at table q.file) false) is).0

module _ (table : Table) (odds : List Pos) (lines : List OddLine) (odd : AreOdd table odds lines) (from last : Pos) where
  abbrev here_among : List Pos
  here_among = odds_among table odds from last

  pub odds_first : (told : Option Pos) (a b : Option Offence) → FirstAmong lines from last.at told
      → FirstThen table (standing cause.OddToken (option_map_or (λ p. p ∷ []) told [])) a b
      → FirstThen table (standing cause.OddToken here_among) a b
  odds_first None a b none then_ =
      let nothing : here_among ≡ [] = none_among here_among (λ q at.
      let m = among_told table odds from last q at in
      let o = odd.all q from last m.0 m.1 in
      not_both (is_line_among from last.at o.0) o.2 (none o.0 o.1)) in
      rw nothing then_
  odds_first (Some p) a b first then_ =
      let o = first.0.0 in
      let line = odd.each o first.0.1 in
      let is : o.first ≡ p = first.0.2 in
      let here : is_among_lines table p from last ≡ true = rw is at (line.0.told from last ∙ first.0.3) in
      let there : IsAmong here_among p = among_of table odds from last p (rw is at line.1) here in
      then_told table (standing cause.OddToken (p ∷ [])) (standing cause.OddToken here_among) a b
      (λ x at. let same : x ≡ offence cause.OddToken p = among_one (offence cause.OddToken p) x at in rw same (in_map (offence cause.OddToken) here_among p there))
      (λ x at.
      let r = of_map (offence cause.OddToken) here_among x at in
      let m = among_told table odds from last r.0 r.1 in
      let n = odd.all r.0 from last m.0 m.1 in
      let least = first.1 n.0 n.1 n.2 in
      let on : p.at ≤ r.0.at = omega (arith, least, n.3) in
      let file : r.0.file ≡ p.file = of_file table odds from last r.0 m.1 ∙ sym (of_file table odds from last p here) in
      (offence cause.OddToken p, (zero, refl), rw r.2 (later_in_file table cause.OddToken p r.0 file on)))
      then_

-- ---- tokens in the line of a token

one_line : (p q : ℕ) (f : KeptValue) → in_lines p q q f ≡ is_one_line p q f
one_line p q f =
    bool_same (in_lines p q q f) (is_one_line p q f)
    (λ is.
    let parts = and_parts (nat_le (line_begin f.bytes q) (line_begin f.bytes p)) (nat_le (line_begin f.bytes p) (line_begin f.bytes q)) is in
    grind (arith, nat_tests, parts.0, parts.1))
    (λ is.
    let same : line_begin f.bytes p ≡ line_begin f.bytes q = eqb-true (line_begin f.bytes p) (line_begin f.bytes q) is in
    rw same (grind (arith, nat_tests)))

line_of : (p q : ℕ) (kept : Option KeptValue) → option_map_or (in_lines p q q) kept false ≡ option_map_or (is_one_line p q) kept false
line_of p q None = refl
line_of p q (Some f) = one_line p q f

on_line : (table : Table) (p q : Pos) → is_among_lines table p q q ≡ is_on_line table p q
on_line table p q = ap (λ (b : Bool). p.file == q.file && b) (line_of p.at q.at (kept_at table p.file))

or_of : (a b : Bool) → (a || b) ≡ true → (a ≡ true) ⊎ (b ≡ true)
or_of true b is = inl refl
or_of false b is = inr is

or_first : (a b : Bool) → a ≡ true → (a || b) ≡ true
or_first a b is = rw is refl

pub any_of : {X : Type 0} (p : X → Bool) (xs : List X) → list_any p xs ≡ true → (x : X) × IsAmong xs x × (p x ≡ true)
any_of p [] is = absurd (cc)
any_of p (x ∷ xs) is = elim (cases_Bool (p x)) [
  | inl here ↦ (x, (zero, refl), here)
  | inr other ↦
      let rest : list_any p xs ≡ true = rw other at is in
      let r = any_of p xs rest in
      (r.0, (suc r.1.0, r.1.1), r.2)
]

pub any_there : {X : Type 0} (p : X → Bool) (xs : List X) (x : X) → IsAmong xs x → p x ≡ true → list_any p xs ≡ true
any_there p [] x at is = absurd (not_among x at)
any_there p (y ∷ xs) x (zero, at) is =
    let same : y ≡ x = cc in
    rw (same, is) refl
any_there p (y ∷ xs) x (suc k, at) is = or_last (p y) (list_any p xs) (any_there p xs x (k, at) is)

module _ (table : Table) (odds : List Pos) (toks : List Token) where
  abbrev by_token : ℕ → List Pos
  by_token k = odds_by_token table odds toks k

  line_told_at : (tok : Option Token) (q : Pos) → IsAmong (option_map_or (λ (s : Token). odds_among table odds s.at s.at) tok []) q
      → IsAmong odds q × (option_map_or (λ (s : Token). is_on_line table q s.at) tok false ≡ true)
  line_told_at None q at = absurd (not_among q at)
  line_told_at (Some s) q at = let m = among_told table odds s.at s.at q at in (m.0, sym (on_line table q s.at) ∙ m.1)

  line_of_at : (tok : Option Token) (q : Pos) → IsAmong odds q → option_map_or (λ (s : Token). is_on_line table q s.at) tok false ≡ true
      → IsAmong (option_map_or (λ (s : Token). odds_among table odds s.at s.at) tok []) q
  line_of_at None q at is = absurd (cc)
  line_of_at (Some s) q at is = among_of table odds s.at s.at q at (on_line table q s.at ∙ is)

  token_told : (k : ℕ) (q : Pos) → IsAmong (by_token k) q → IsAmong odds q × (is_token_on table q toks k ≡ true)
  token_told k q at = line_told_at (slice_get toks k) q at

  token_of : (k : ℕ) (q : Pos) → IsAmong odds q → is_token_on table q toks k ≡ true → IsAmong (by_token k) q
  token_of k q at is = line_of_at (slice_get toks k) q at is

  -- ---- in the lines of the tokens of a list

  module _ (l : NameList) where
    abbrev inner : List ℕ
    inner = numbers l.begin (l.close - l.begin)

    abbrev by_list : List Pos
    by_list = odds_by_list table odds toks l

    list_told : (q : Pos) → IsAmong by_list q → IsAmong odds q × (is_by_list table q toks l ≡ true)
    list_told q at =
        let name = is_token_on table q toks l.name in
        let close = is_token_on table q toks l.close in
        let inside = list_any (is_token_on table q toks) inner in
        elim (among_either (by_token l.name) (by_token l.close ++ flat_map by_token inner) q at) [
          | inl named ↦ let m = token_told l.name q named in (m.0, or_first name (close || inside) m.1)
          | inr rest ↦ elim (among_either (by_token l.close) (flat_map by_token inner) q rest) [
            | inl closed ↦ let m = token_told l.close q closed in (m.0, or_last name (close || inside) (or_first close inside m.1))
            | inr within ↦
                let r = of_flat by_token inner q within in
                let m = token_told r.0 q r.2 in
                (m.0, or_last name (close || inside) (or_last close inside (any_there (is_token_on table q toks) inner r.0 r.1 m.1)))
          ]
        ]

    list_of : (q : Pos) → IsAmong odds q → is_by_list table q toks l ≡ true → IsAmong by_list q
    list_of q at is =
        let name = is_token_on table q toks l.name in
        let close = is_token_on table q toks l.close in
        let inside = list_any (is_token_on table q toks) inner in
        elim (or_of name (close || inside) is) [
          | inl named ↦ among_left (by_token l.name) (by_token l.close ++ flat_map by_token inner) q (token_of l.name q at named)
          | inr rest ↦
              among_right (by_token l.name) (by_token l.close ++ flat_map by_token inner) q
              (elim (or_of close inside rest) [
                | inl closed ↦ among_left (by_token l.close) (flat_map by_token inner) q (token_of l.close q at closed)
                | inr within ↦
                    let r = any_of (is_token_on table q toks) inner within in
                    among_right (by_token l.close) (flat_map by_token inner) q (in_flat by_token inner r.0 q r.1 (token_of r.0 q at r.2))
              ])
        ]

    -- ---- from its `(` to its `)`

    between_told : (from to : Option Pos) (q : Pos) → IsAmong (option_map_or (λ f. option_map_or (odds_among table odds f) to []) from []) q
        → IsAmong odds q × (option_map_or (λ f. option_map_or (is_among_lines table q f) to false) from false ≡ true)
    between_told None to q at = absurd (not_among q at)
    between_told (Some f) None q at = absurd (not_among q at)
    between_told (Some f) (Some t) q at = among_told table odds f t q at

    between_of : (from to : Option Pos) (q : Pos) → IsAmong odds q
        → option_map_or (λ f. option_map_or (is_among_lines table q f) to false) from false ≡ true
        → IsAmong (option_map_or (λ f. option_map_or (odds_among table odds f) to []) from []) q
    between_of None to q at is = absurd (cc)
    between_of (Some f) None q at is = absurd (cc)
    between_of (Some f) (Some t) q at is = among_of table odds f t q at is

-- ---- at a list

module _ (table : Table) (odds : List Pos) (text : UnitTextValue) (l : NameList) where
  abbrev by : List Pos
  by = odds_by_list table odds text.toks l

  abbrev between : List Pos
  between = odds_among_list table odds text.toks l

  abbrev told : Bool → List Pos
  told direct = by ++ cond direct between []

  told_there : (direct : Bool) → direct ≡ (is_direct text.toks l && not (is_across text.reached l)) → (q : Pos) → IsAmong (told direct) q
      → IsAmong (odd_places table odds text l) q
  told_there direct is q at =
      let in_list = is_by_list table q text.toks l in
      let in_lines_ = is_among_list table q text.toks l in
      let m : IsAmong odds q × (is_odd_by table text l q ≡ true) = elim (among_either by (cond direct between []) q at) [
        | inl listed ↦ let m = list_told table odds text.toks l q listed in (m.0, or_first in_list (_ && in_lines_) m.1)
        | inr rest ↦ by_direct direct is rest
      ] in
      in_flat (odd_place table text l) odds q q m.0 (place_there (is_odd_by table text l q) q m.1)
    where
      by_direct : (b : Bool) → b ≡ (is_direct text.toks l && not (is_across text.reached l)) → IsAmong (cond b between []) q
          → IsAmong odds q × (is_odd_by table text l q ≡ true)
      by_direct false e here = absurd (not_among q here)
      by_direct true e here =
          let m = between_told table odds text.toks l (origin_of text.toks l.begin) (origin_of text.toks l.close) q here in
          (m.0, or_last (is_by_list table q text.toks l) _ (rw (← e) m.1))

  there_told : (direct : Bool) → direct ≡ (is_direct text.toks l && not (is_across text.reached l)) → (q : Pos)
      → IsAmong (odd_places table odds text l) q → IsAmong (told direct) q
  there_told direct is q at =
      let r = of_flat (odd_place table text l) odds q at in
      let i = place_if (is_odd_by table text l r.0) r.0 q r.2 in
      let own : IsAmong odds q = rw i.1 r.1 in
      let odd : is_odd_by table text l q ≡ true = rw i.1 i.0 in
      elim (or_of (is_by_list table q text.toks l) _ odd) [
        | inl listed ↦ among_left by (cond direct between []) q (list_of table odds text.toks l q own listed)
        | inr rest ↦
            let parts = and_parts (is_direct text.toks l && not (is_across text.reached l)) (is_among_list table q text.toks l) rest in
            let direct_ : direct ≡ true = is ∙ parts.0 in
            let here = between_of table odds text.toks l (origin_of text.toks l.begin) (origin_of text.toks l.close) q own parts.1 in
            among_right by (cond direct between []) q (rw direct_ here)
      ]

  pub odds_told : (direct : Bool) (a b : Option Offence) → direct ≡ (is_direct text.toks l && not (is_across text.reached l))
      → FirstThen table (standing cause.OddToken (by ++ cond direct between [])) a b
      → FirstThen table (standing cause.OddToken (odd_places table odds text l)) a b
  odds_told direct a b is then_ =
      then_same table cause.OddToken (told direct) (odd_places table odds text l) a b (told_there direct is) (there_told direct is) then_

-- ---- one after another

pub then_places : (table : Table) (xs ys : List Pos) (a b c : Option Offence) → FirstThen table (standing cause.OddToken xs) a b
    → FirstThen table (standing cause.OddToken ys) b c → FirstThen table (standing cause.OddToken (xs ++ ys)) a c
then_places table xs ys a b c f g =
    rw (map-append (offence cause.OddToken) xs ys) (then_both table (standing cause.OddToken xs) (standing cause.OddToken ys) a b c f g)

pub by_token-at : (table : Table) (odds : List Pos) (toks : List Token) (k : ℕ) (tok : Token) (p : Pos) (a b : Option Offence) → slice_get toks k ≡ Some tok
    → p ≡ tok.at → FirstThen table (standing cause.OddToken (odds_among table odds p p)) a b
    → FirstThen table (standing cause.OddToken (odds_by_token table odds toks k)) a b
by_token-at table odds toks k tok p a b at is then_ = rw at (rw is at then_)

pub by_token-past : (table : Table) (odds : List Pos) (toks : List Token) (k : ℕ) (a : Option Offence) → length toks ≤ k
    → FirstThen table (standing cause.OddToken (odds_by_token table odds toks k)) a a
by_token-past table odds toks k a past = rw (nothing_at toks k past) (then_none table a)
