-- What a word is by the grammar alone.
use Rattle.std.proofs.Common.{◌≡◌, ℕ, ◌+◌, ◌<◌, ◌≤◌, Bool, List, [], ◌∷◌, ◌++◌, Result, Ok, Err, length, take, drop, inl, inr, refl, sym, ap, ◌∙◌, subst, arith, append-nil, append_assoc, length-append, ltb-false, ltb-true}
use Rattle.std.specs.Prelude.{nat_lt}
use Rattle.std.proofs.lemmas.Bool.{cases_Bool}
use Rattle.std.proofs.lemmas.List.{length-take-le, take_all, take_at}
use Rattle.cs_base.specs.Answer.{result_then}
use Rattle.query_words.specs.declared.faults.QueryFault.{QueryFault}
use Rattle.query_words.specs.declared.faults.QueryFault.TheVariants.{Bad, Deep}
use Rattle.query_words.specs.declared.faults.QueryRefusal.{QueryRefusal}
use Rattle.query_words.specs.declared.faults.QueryRefusal.TheVariants.{Fault, Memory}
use Rattle.query_words.specs.Grammar.{Derives, Alternatives, GoesOn, IsNone, IsRead, word_end}
use Rattle.query_words.specs.Queries.{Query}
use Rattle.query_words.specs.Reading.{Read, read, depth_limit, either, enclosed, parsed, whole}
use Rattle.query_words.specs.Steps.{IsFault, IsFaultRead}
use Rattle.query_words.proofs.DerivingLemmas.{Means, alternatives}
use Rattle.query_words.proofs.NearLemmas.{Alike, reach, read_near}
use Rattle.query_words.proofs.PlaceLemmas.{Stands, stands_join}
use Rattle.query_words.proofs.ReadingLemmas.{derived_is_read}

front_of : (text : List ℕ) (n : ℕ) (part : List ℕ) → Stands text 0 n part → part ≡ take n text
front_of text n part s =
    let long : length part ≡ n = let e = s.ends in omega (arith, e) in
    sym (take_at part (drop n text) n long) ∙ ap (take n) (sym s.here)

front_within : (text : List ℕ) (n : ℕ) (part : List ℕ) → Stands text 0 n part → n ≤ length text
front_within text n part s =
    let long : length text ≡ length part + length (drop n text) = ap length s.here ∙ length-append part (drop n text) in
    let e = s.ends in
    omega (arith, long, e)

-- Where the bytes tell what the reader gave, no query goes on from them.
none_goes_on : (text : List ℕ) (room k : ℕ) → k ≤ length text → (found : Result Read QueryFault) → either (enclosed text room) text 0 ≡ found
    → reach text found ≤ k → GoesOn room (take k text) → ⊥
none_goes_on text room k within found is near goes =
    let other = take k text ++ goes.0 in
    let long : length (take k text) ≡ k = length-take-le k text within in
    let alike : Alike k text other = record { within = within; same = sym (take_at (take k text) goes.0 k long) } in
    let far : reach text (either (enclosed text room) text 0) ≤ k = rw is near in
    let same : found ≡ Ok (read goes.1 (0 + length other)) = sym is ∙ sym (read_near k text other alike room far) ∙ derived_is_read room other goes.1 goes.2 in
    let all : length other ≡ k + length goes.0 = length-append (take k text) goes.0 ∙ ap (λ (n : ℕ). n + length goes.0) long in
    let over : 0 + length other + 1 ≤ k = rw same at near in
    omega (arith, all, over)

-- a query goes on from the bytes before a place
goes_on_from : (text : List ℕ) (room n : ℕ) (front more : List ℕ) (q : Query) → front ≡ take n text → Derives Alternatives room (front ++ more) q
    → GoesOn room (take n text)
goes_on_from text room n front more q is d = (more, q, subst (λ (xs : List ℕ). Derives Alternatives room (xs ++ more) q) is d)

-- no query derives a text that is read to a fault, or not to its end
no_fault_derives : (text : List ℕ) (fault : QueryFault) → either (enclosed text depth_limit) text 0 ≡ Err fault → IsNone text
no_fault_derives text fault is q d =
    let both_ : Err fault ≡ Ok (read q (0 + length text)) = sym is ∙ derived_is_read depth_limit text q d in
    absurd (cc)

no_front_derives : (text : List ℕ) (r : Read) → r.next < length text → either (enclosed text depth_limit) text 0 ≡ Ok r → IsNone text
no_front_derives text r less is q d =
    let both_ : Ok r ≡ Ok (read q (0 + length text)) = sym is ∙ derived_is_read depth_limit text q d in
    let over : r.next ≡ 0 + length text = let same : r ≡ read q (0 + length text) = cc in ap (λ (x : Read). x.next) same in
    omega (arith, less, over)

found_is_read : (text : List ℕ) (found : Result Read QueryFault) → either (enclosed text depth_limit) text 0 ≡ found
    → Means Alternatives depth_limit text 0 found → IsRead text (result_then (whole text) found)
found_is_read text (Ok r) is m = elim (cases_Bool (nat_lt r.next (length text))) [
  | inl more ↦
      let less : r.next < length text = ltb-true r.next (length text) more in
      rw more (
        (omega (arith, less)),
        goes_on_from text depth_limit r.next m.part [] r.query (front_of text r.next m.part m.stands)
            (subst (λ (xs : List ℕ). Derives Alternatives depth_limit xs r.query) (sym (append-nil m.part)) m.derives),
        λ inside goes. none_goes_on text depth_limit (word_end text r.next + 1) (omega (arith, inside)) (Ok r) is (omega arith) goes,
        no_front_derives text r less is,
      )
  | inr end ↦
      let past : length text ≤ r.next = ltb-false r.next (length text) end in
      let all : m.part ≡ text = front_of text r.next m.part m.stands ∙ take_all r.next text past in
      rw end (subst (λ (xs : List ℕ). Derives Alternatives depth_limit xs r.query) all m.derives)
]
found_is_read text (Err (Bad n)) is m = (
  front_within text n m.front m.stands,
  goes_on_from text depth_limit n m.front m.more m.query (front_of text n m.front m.stands) m.derives,
  λ inside goes. none_goes_on text depth_limit (word_end text n + 1) (omega (arith, inside)) (Err (Bad n)) is (omega arith) goes,
  no_fault_derives text (Bad n) is,
)
found_is_read text (Err (Deep n)) is m =
    let next = stands_join m.stands m.there in
    let within = front_within text (n + 1) _ next in (
      omega (arith, within),
      goes_on_from text depth_limit n m.stops.front m.stops.more m.stops.query (front_of text n m.stops.front m.stops.stands) m.stops.derives,
      λ goes. none_goes_on text depth_limit (n + 1) within (Err (Deep n)) is (omega arith) goes,
      goes_on_from text (depth_limit + 1) (n + 1) (m.front ++ m.sign ∷ []) m.more m.query (front_of text (n + 1) _ next)
          (subst (λ (xs : List ℕ). Derives Alternatives (depth_limit + 1) xs m.query) (sym (append_assoc m.front (m.sign ∷ []) m.more)) m.derives),
      no_fault_derives text (Deep n) is,
    )

pub parsed_is_read : (text : List ℕ) → IsRead text (parsed text)
unfolding parsed
parsed_is_read text = found_is_read text (either (enclosed text depth_limit) text 0) refl (alternatives depth_limit text 0)

pub derives_of_parsed : (text : List ℕ) (q : Query) → parsed text ≡ Ok q → Derives Alternatives depth_limit text q
derives_of_parsed text q is = rw is at (parsed_is_read text)

-- a fault of a word is so by the grammar
pub refused_by_grammar : (text : List ℕ) (e : QueryRefusal) → IsFault (parsed text) e → IsFaultRead text e
refused_by_grammar text (Fault fault) is = rw is at (parsed_is_read text)
refused_by_grammar text Memory is = is
