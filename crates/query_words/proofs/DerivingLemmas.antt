-- What the reader gives, by the grammar: what it reads is derived, where it stops some query goes on.
use Rattle.std.proofs.Common.{◌≡◌, ℕ, zero, suc, ◌+◌, true, Option, Some, None, List, [], ◌∷◌, ◌++◌, Result, Ok, Err, length, drop, inl, inr, refl, sym, ap, ◌∙◌, subst, arith, append-nil, append_assoc, drop-drop}
use Rattle.std.specs.Prelude.{codes}
use Rattle.std.specs.List.{list_all, take_while}
use Rattle.std.specs.Str.{bytes_eq}
use Rattle.std.proofs.lemmas.Bool.{and_parts, cases_Bool}
use Rattle.cs_base.specs.Answer.{result_then}
use Rattle.cs_base.proofs.FileMapLemmas.{bytes_eq-equal}
use Rattle.query_words.specs.declared.attributes.Attribute.{Attribute}
use Rattle.query_words.specs.declared.attributes.Attribute.TheVariants.{Cut}
use Rattle.query_words.specs.declared.faults.QueryFault.{QueryFault}
use Rattle.query_words.specs.declared.faults.QueryFault.TheVariants.{Bad, Deep}
use Rattle.query_words.specs.declared.walk.Rule.TheVariants.{Whole, Denied}
use Rattle.query_words.specs.Attributes.{attribute_of}
use Rattle.query_words.specs.Grammar.{Derives, Level, Alternatives, Conjunction, Operand, one_conjunction, either_of, one_operand, both_of, not_of, in_parentheses, an_attribute, a_pattern}
use Rattle.query_words.specs.Queries.{Query, Either, Both, Not, Is, Named}
use Rattle.query_words.specs.Reading.{Part, Read, read, ampersand, bar, closing, equals, exclamation, opening, atom, attribute_read, begins_name, both, chain, closed, either, enclosed, is_byte, is_of_pattern, is_small, negation, pattern_read, word_of}
use Rattle.query_words.specs.Reading.{denied as deny}
use Rattle.query_words.proofs.AtomLemmas.{atom_is, atom_named}
use Rattle.query_words.proofs.PlaceLemmas.{Stands, begins, is_byte-drop, stands_byte, stands_join, stands_none, stands_while, take_while_passes}
use Rattle.query_words.proofs.WalkLemmas.{both_first, either_first}

-- What was read from a place on is derived.
pub record Reads (level : Level) (room : ℕ) (text : List ℕ) (at : ℕ) (r : Read) : Type 0 where
  pub part : List ℕ
  pub stands : Stands text at r.next part
  pub derives : Derives level room part r.query

-- Something derived begins with what stands between the places.
pub record Stops (level : Level) (room : ℕ) (text : List ℕ) (at n : ℕ) : Type 0 where
  pub front : List ℕ
  pub stands : Stands text at n front
  pub more : List ℕ
  pub query : Query
  pub derives : Derives level room (front ++ more) query

-- The same, and with one more that may be open something derived begins with that and the byte behind it.
pub record Sinks (level : Level) (room : ℕ) (text : List ℕ) (at n : ℕ) : Type 0 where
  pub stops : Stops level room text at n
  pub front : List ℕ
  pub sign : ℕ
  pub stands : Stands text at n front
  pub there : Stands text n (n + 1) (sign ∷ [])
  pub more : List ℕ
  pub query : Query
  pub derives : Derives level (suc room) (front ++ sign ∷ more) query

-- what the reader gave at a place, by the grammar
abbrev pub Means : Level → ℕ → List ℕ → ℕ → Result Read QueryFault → Type 0
Means level room text at (Ok r) = Reads level room text at r
Means level room text at (Err (Bad n)) = Stops level room text at n
Means level room text at (Err (Deep n)) = Sinks level room text at n

-- ---- more may be open

pub deeper : {level : Level} {room : ℕ} {text : List ℕ} {q : Query} → Derives level room text q → Derives level (suc room) text q
deeper (one_conjunction d) = one_conjunction (deeper d)
deeper (either_of d e) = either_of (deeper d) (deeper e)
deeper (one_operand d) = one_operand (deeper d)
deeper (both_of d e) = both_of (deeper d) (deeper e)
deeper (not_of d) = not_of (deeper d)
deeper (in_parentheses d) = in_parentheses (deeper d)
deeper (an_attribute a is) = an_attribute a is
deeper (a_pattern c pattern each) = a_pattern c pattern each

-- ---- what is derived inside something else

-- What is derived at one level, put between two texts, is derived at another.
abbrev pub Lifts : Level → ℕ → Level → ℕ → List ℕ → List ℕ → Type 0
Lifts inner room level more before after = (text : List ℕ) (q : Query) → Derives inner room text q → (p : Query) × Derives level more (before ++ (text ++ after)) p

-- the parts of a text put together in another way
regrouped : (before front more after : List ℕ) → before ++ ((front ++ more) ++ after) ≡ (before ++ front) ++ (more ++ after)
regrouped before front more after = simp append_assoc

lift_stops : {inner level : Level} {room more : ℕ} {before : List ℕ} (after : List ℕ) {text : List ℕ} {at from n : ℕ}
    → Lifts inner room level more before after → Stands text at from before → Stops inner room text from n → Stops level more text at n
lift_stops {inner} {level} {room} {more} {before} after lifts stands s =
    let up = lifts (s.front ++ s.more) s.query s.derives in
    record {
      front = before ++ s.front;
      stands = stands_join stands s.stands;
      more = s.more ++ after;
      query = up.0;
      derives = subst (λ (t : List ℕ). Derives level more t up.0) (regrouped before s.front s.more after) up.1;
    }

lift_sinks : {inner level : Level} {room more : ℕ} {before : List ℕ} (after : List ℕ) {text : List ℕ} {at from n : ℕ}
    → Lifts inner room level more before after → Lifts inner (suc room) level (suc more) before after
    → Stands text at from before → Sinks inner room text from n → Sinks level more text at n
lift_sinks {inner} {level} {room} {more} {before} after lifts also stands s =
    let up = also (s.front ++ s.sign ∷ s.more) s.query s.derives in
    record {
      stops = lift_stops after lifts stands s.stops;
      front = before ++ s.front;
      sign = s.sign;
      stands = stands_join stands s.stands;
      there = s.there;
      more = s.more ++ after;
      query = up.0;
      derives = subst (λ (t : List ℕ). Derives level (suc more) t up.0) (regrouped before s.front (s.sign ∷ s.more) after) up.1;
    }

lift_fault : {inner level : Level} {room more : ℕ} {before : List ℕ} (after : List ℕ) {text : List ℕ} {at from : ℕ}
    → Lifts inner room level more before after → Lifts inner (suc room) level (suc more) before after
    → Stands text at from before → (fault : QueryFault) → Means inner room text from (Err fault) → Means level more text at (Err fault)
lift_fault after lifts also stands (Bad n) m = lift_stops after lifts stands m
lift_fault after lifts also stands (Deep n) m = lift_sinks after lifts also stands m

-- ---- atoms

pattern_means : (room : ℕ) (text : List ℕ) (at : ℕ) (pattern : List ℕ) → list_all is_of_pattern pattern ≡ true
    → Stands text at (at + 5) (codes "name=") → Stands text (at + 5) (at + 5 + length pattern) pattern
    → Means Operand room text at (pattern_read (at + 5) pattern)
pattern_means room text at [] each name stands =
    record { front = codes "name="; stands = name; more = 97 ∷ []; query = Named (97 ∷ []); derives = a_pattern 97 [] refl }
pattern_means room text at (c ∷ pattern) each name stands =
    record { part = codes "name=" ++ c ∷ pattern; stands = stands_join name stands; derives = a_pattern c pattern each }

attribute_means : (room : ℕ) (text : List ℕ) (at : ℕ) (word : List ℕ) (found : Option Attribute) → attribute_of word ≡ found
    → Stands text at (at + length word) word → Means Operand room text at (attribute_read at word found)
unfolding attribute_of
attribute_means room text at word None is stands =
    record { front = []; stands = stands_none text at; more = codes "cut"; query = Is Cut; derives = an_attribute Cut refl }
attribute_means room text at word (Some a) is stands = record { part = word; stands = stands; derives = an_attribute a is }

-- `name=` at a place
stands_name : (text : List ℕ) (at : ℕ) → begins_name (drop at text) ≡ true → Stands text at (at + 5) (codes "name=")
stands_name text at name =
    let parts = and_parts (bytes_eq (word_of (drop at text)) (codes "name")) (is_byte (drop at text) 4 equals) name in
    let word : word_of (drop at text) ≡ codes "name" = bytes_eq-equal (word_of (drop at text)) (codes "name") parts.0 in
    let letters : Stands text at (at + 4) (codes "name") = rw word at (stands_while is_small text at) in
    let sign : is_byte text (at + 4) equals ≡ true =
    is_byte-drop text (at + 4) equals ∙ ap (begins equals) (sym (drop-drop 4 at text)) ∙ sym (is_byte-drop (drop at text) 4 equals) ∙ parts.1 in
    let place : at + 4 + 1 ≡ at + 5 = omega arith in
    subst (λ (n : ℕ). Stands text at n (codes "name=")) place (stands_join letters (stands_byte text (at + 4) equals sign))

pub atom_means : (room : ℕ) (text : List ℕ) (at : ℕ) → Means Operand room text at (atom at (drop at text))
atom_means room text at = elim (cases_Bool (begins_name (drop at text))) [
  | inl name ↦
      let is = atom_named at (drop at text) name ∙ ap (λ (rest : List ℕ). pattern_read (at + 5) (take_while is_of_pattern rest)) (drop-drop 5 at text) in
      rw is
      (pattern_means room text at (take_while is_of_pattern (drop (at + 5) text)) (take_while_passes is_of_pattern (drop (at + 5) text))
      (stands_name text at name) (stands_while is_of_pattern text (at + 5)))
  | inr other ↦
      rw (atom_is at (drop at text) other)
      (attribute_means room text at (word_of (drop at text)) (attribute_of (word_of (drop at text))) refl (stands_while is_small text at))
]

-- ---- chains

-- Operands of one level, joined by a sign, are of another.
pub record Joins (inner level : Level) (join : Query → Query → Query) (sign : ℕ) : Type 0 where
  pub one : (room : ℕ) (text : List ℕ) (q : Query) → Derives inner room text q → Derives level room text q
  pub more : (room : ℕ) (left right : List ℕ) (p q : Query) → Derives level room left p → Derives inner room right q
      → Derives level room (left ++ sign ∷ right) (join p q)

pub joins_either : Joins Conjunction Alternatives Either bar
joins_either = record { one = λ room text q d. one_conjunction d; more = λ room left right p q d e. either_of d e }

pub joins_both : Joins Operand Conjunction Both ampersand
joins_both = record { one = λ room text q d. one_operand d; more = λ room left right p q d e. both_of d e }

module _ {inner level : Level} (join : Query → Query → Query) (sign : ℕ) (joins : Joins inner level join sign) where
  lifts_one : (room : ℕ) → Lifts inner room level room [] []
  lifts_one room text q d = (q, subst (λ (t : List ℕ). Derives level room t q) (sym (append-nil text)) (joins.one room text q d))

  lifts_more : (room : ℕ) (left : List ℕ) (p : Query) → Derives level room left p → Lifts inner room level room (left ++ sign ∷ []) []
  lifts_more room left p is text q d =
      let whole : left ++ sign ∷ text ≡ (left ++ sign ∷ []) ++ (text ++ []) = simp (append_assoc, append-nil) in
      (join p q, subst (λ (t : List ℕ). Derives level room t (join p q)) whole (joins.more room left text p q is d))

  module _ (room : ℕ) (text : List ℕ) (start : ℕ) (rest : Read → Result Read QueryFault)
      (on : (next : Read) → Reads level room text start next → Means level room text start (rest next)) where
    first_means : (found : Result Read QueryFault) → Means inner room text start found → Means level room text start (result_then rest found)
    first_means (Ok r) m = on r (record { part = m.part; stands = m.stands; derives = joins.one room m.part r.query m.derives })
    first_means (Err fault) m = lift_fault {before = []} [] (lifts_one room) (lifts_one (suc room)) (stands_none text start) fault m

    next_means : (left : Read) → Reads level room text start left → is_byte text left.next sign ≡ true
        → (found : Result Read QueryFault) → Means inner room text (left.next + 1) found
        → Means level room text start (result_then rest (result_then (λ (right : Read). Ok (read (join left.query right.query) right.next)) found))
    next_means left r there (Ok right) m =
        on (read (join left.query right.query) right.next) (record {
          part = r.part ++ sign ∷ m.part;
          stands = stands_join r.stands (stands_join (stands_byte text left.next sign there) m.stands);
          derives = joins.more room r.part m.part left.query right.query r.derives m.derives;
        })
    next_means left r there (Err fault) m =
        lift_fault {before = r.part ++ sign ∷ []} [] (lifts_more room r.part left.query r.derives)
        (lifts_more (suc room) r.part left.query (deeper r.derives)) (stands_join r.stands (stands_byte text left.next sign there)) fault m

  pub chain_means : (room : ℕ) (text : List ℕ) (part : Part) → ((at : ℕ) → Means inner room text at (part at))
      → (most start : ℕ) (left : Read) → Reads level room text start left → Means level room text start (chain join sign part text most left)
  unfolding chain
  chain_means room text part each zero start left r = r
  chain_means room text part each (suc most) start left r = elim (cases_Bool (is_byte text left.next sign)) [
    | inl there ↦
        rw there
        (next_means room text start (chain join sign part text most) (chain_means room text part each most start) left r there (part (left.next + 1)) (each (left.next + 1)))
    | inr none ↦ rw none r
  ]

  pub all_means : (room : ℕ) (text : List ℕ) (part : Part) → ((at : ℕ) → Means inner room text at (part at))
      → (start : ℕ) → Means level room text start (result_then (chain join sign part text (length text)) (part start))
  all_means room text part each start =
      first_means room text start (chain join sign part text (length text)) (chain_means room text part each (length text) start) (part start) (each start)

-- ---- what stands behind an opening byte

lifts_not : (room : ℕ) → Lifts Operand room Operand (suc room) (exclamation ∷ []) []
lifts_not room text q d = (Not q, subst (λ (t : List ℕ). Derives Operand (suc room) (exclamation ∷ t) (Not q)) (sym (append-nil text)) (not_of d))

lifts_inside : (room : ℕ) → Lifts Alternatives room Operand (suc room) (opening ∷ []) (closing ∷ [])
lifts_inside room text q d = (q, in_parentheses d)

deny_means : (room : ℕ) (text : List ℕ) (at : ℕ) → is_byte text at exclamation ≡ true → (found : Result Read QueryFault)
    → Means Operand room text (at + 1) found → Means Operand (suc room) text at (result_then deny found)
deny_means room text at there (Ok r) m =
    record { part = exclamation ∷ m.part; stands = stands_join (stands_byte text at exclamation there) m.stands; derives = not_of m.derives }
deny_means room text at there (Err fault) m =
    lift_fault {before = exclamation ∷ []} [] (lifts_not room) (lifts_not (suc room)) (stands_byte text at exclamation there) fault m

close_means : (room : ℕ) (text : List ℕ) (at : ℕ) → is_byte text at opening ≡ true → (found : Result Read QueryFault)
    → Means Alternatives room text (at + 1) found → Means Operand (suc room) text at (result_then (closed text) found)
close_means room text at there (Ok r) m = elim (cases_Bool (is_byte text r.next closing)) [
  | inl ends ↦
      rw ends (record {
        part = opening ∷ (m.part ++ closing ∷ []);
        stands = stands_join (stands_byte text at opening there) (stands_join m.stands (stands_byte text r.next closing ends));
        derives = in_parentheses m.derives;
      })
  | inr none ↦
      rw none (record {
        front = opening ∷ m.part;
        stands = stands_join (stands_byte text at opening there) m.stands;
        more = closing ∷ [];
        query = r.query;
        derives = in_parentheses m.derives;
      })
]
close_means room text at there (Err fault) m =
    lift_fault {before = opening ∷ []} (closing ∷ []) (lifts_inside room) (lifts_inside (suc room)) (stands_byte text at opening there) fault m

-- What is read behind an opening byte, where so many may be open.
record Inside (room : ℕ) (text : List ℕ) : Type 0 where
  not_at : (at : ℕ) → is_byte text at exclamation ≡ true → Means Operand room text at (result_then deny (enclosed text room Denied at))
  opened_at : (at : ℕ) → is_byte text at opening ≡ true → Means Operand room text at (result_then (closed text) (enclosed text room Whole at))

operand_means : (room : ℕ) (text : List ℕ) → Inside room text → (at : ℕ) → Means Operand room text at (negation (enclosed text room) text at)
unfolding negation
operand_means room text inside at = elim (cases_Bool (is_byte text at exclamation)) [
  | inl there ↦ rw there (inside.not_at at there)
  | inr other ↦
      elim (cases_Bool (is_byte text at opening)) [
        | inl there ↦ rw (other, there) (inside.opened_at at there)
        | inr neither ↦ rw (other, neither) (atom_means room text at)
      ]
]

conjunction_means : (room : ℕ) (text : List ℕ) → Inside room text → (at : ℕ) → Means Conjunction room text at (both (enclosed text room) text at)
conjunction_means room text inside at =
    rw (both_first (enclosed text room) text at)
    (all_means Both ampersand joins_both room text (negation (enclosed text room) text) (operand_means room text inside) at)

alternatives_means : (room : ℕ) (text : List ℕ) → Inside room text → (at : ℕ) → Means Alternatives room text at (either (enclosed text room) text at)
alternatives_means room text inside at =
    rw (either_first (enclosed text room) text at)
    (all_means Either bar joins_either room text (both (enclosed text room) text) (conjunction_means room text inside) at)

-- a `!` or `(` where none may be open
too_deep : (text : List ℕ) (at sign : ℕ) (q : Query) → is_byte text at sign ≡ true → (more : List ℕ) → Derives Operand 1 (sign ∷ more) q
    → Sinks Operand 0 text at at
unfolding attribute_of
too_deep text at sign q there more d = record {
  stops = record { front = []; stands = stands_none text at; more = codes "cut"; query = Is Cut; derives = an_attribute Cut refl };
  front = [];
  sign = sign;
  stands = stands_none text at;
  there = stands_byte text at sign there;
  more = more;
  query = q;
  derives = d;
}

inside_means : (room : ℕ) (text : List ℕ) → Inside room text
unfolding attribute_of enclosed
inside_means zero text = record {
  not_at = λ at there. too_deep text at exclamation (Not (Is Cut)) there (codes "cut") (not_of (an_attribute Cut refl));
  opened_at = λ at there. too_deep text at opening (Is Cut) there (codes "cut" ++ closing ∷ []) (in_parentheses {text = codes "cut"} (one_conjunction (one_operand (an_attribute Cut refl))));
}
inside_means (suc room) text =
    let inside = inside_means room text in
    record {
      not_at = λ at there. deny_means room text at there (negation (enclosed text room) text (at + 1)) (operand_means room text inside (at + 1));
      opened_at = λ at there. close_means room text at there (either (enclosed text room) text (at + 1)) (alternatives_means room text inside (at + 1));
    }

-- ---- all levels

pub operands : (room : ℕ) (text : List ℕ) (at : ℕ) → Means Operand room text at (negation (enclosed text room) text at)
operands room text = operand_means room text (inside_means room text)

pub conjunctions : (room : ℕ) (text : List ℕ) (at : ℕ) → Means Conjunction room text at (both (enclosed text room) text at)
conjunctions room text = conjunction_means room text (inside_means room text)

pub alternatives : (room : ℕ) (text : List ℕ) (at : ℕ) → Means Alternatives room text at (either (enclosed text room) text at)
alternatives room text = alternatives_means room text (inside_means room text)
