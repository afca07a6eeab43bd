-- What is derived is read, to what it means.
use Rattle.std.proofs.Common.{◌≡◌, ℕ, zero, suc, ◌+◌, ◌-◌, ◌≤◌, Bool, true, false, Option, Some, None, List, [], ◌∷◌, ◌++◌, Ok, length, drop, inl, inr, refl, sym, ap, ◌∙◌, arith, append-nil, append_assoc, length-append, length-drop}
use Rattle.std.specs.Prelude.{◌==◌, ◌&&◌, not, codes, if◌then◌else◌}
use Rattle.std.specs.List.{list_all}
use Rattle.std.specs.Str.{bytes_eq}
use Rattle.std.proofs.lemmas.Bool.{and_left, and_parts, cases_Bool, eq-eqb, eqb-true, not-true}
use Rattle.cs_base.specs.Answer.{result_then}
use Rattle.cs_base.proofs.FileMapLemmas.{bytes_eq-equal}
use Rattle.query_words.specs.declared.attributes.Attribute.{Attribute}
use Rattle.query_words.specs.declared.attributes.Attribute.TheVariants.{Macro, Function, Object, Typedef, Parameter, Enumerator, Tag, Member, Label, External, ReadOnly, Unused, Cut}
use Rattle.query_words.specs.declared.walk.Rule.TheVariants.{Whole, Denied}
use Rattle.query_words.specs.Attributes.{attribute_of}
use Rattle.query_words.specs.Grammar.{Derives, Level, Alternatives, Conjunction, Operand, one_conjunction, either_of, one_operand, both_of, not_of, in_parentheses, an_attribute, a_pattern}
use Rattle.query_words.specs.Queries.{Query, Either, Both, Not, Is, Named}
use Rattle.query_words.specs.Reading.{Inner, Part, Read, read, ampersand, bar, closing, exclamation, opening, atom, begins_name, both, chain, closed, depth_limit, either, enclosed, is_byte, is_of_pattern, is_small, negation, parsed, pattern_read, word_of}
use Rattle.query_words.specs.Reading.{denied as deny}
use Rattle.query_words.proofs.AtomLemmas.{atom_is, atom_named}
use Rattle.query_words.proofs.PlaceLemmas.{behind, is_byte_at, is_byte_end, stops, take_while_stops}
use Rattle.query_words.proofs.WalkLemmas.{both_first, chain_there, either_first, parsed_whole}

-- what may stand behind a text of this level: no byte of a pattern, and no sign that would join more to it
abbrev pub ends : List ℕ → Level → Bool
ends [] level = true
ends (b ∷ rest) Operand = not (is_of_pattern b)
ends (b ∷ rest) Conjunction = not (is_of_pattern b) && not (b == ampersand)
ends (b ∷ rest) Alternatives = (not (is_of_pattern b) && not (b == ampersand)) && not (b == bar)

ends_conjunction : (rest : List ℕ) → ends rest Alternatives ≡ true → ends rest Conjunction ≡ true
ends_conjunction [] e = refl
ends_conjunction (b ∷ rest) e = (and_parts _ _ e).0

ends_operand : (rest : List ℕ) → ends rest Conjunction ≡ true → ends rest Operand ≡ true
ends_operand [] e = refl
ends_operand (b ∷ rest) e = (and_parts _ _ e).0

no_ampersand : (text : List ℕ) (at : ℕ) (rest : List ℕ) → drop at text ≡ rest → ends rest Conjunction ≡ true → is_byte text at ampersand ≡ false
no_ampersand text at [] here e = is_byte_end text at ampersand here
no_ampersand text at (b ∷ rest) here e = is_byte_at text at b ampersand rest here ∙ not-true (b == ampersand) (and_parts (not (is_of_pattern b)) _ e).1

no_bar : (text : List ℕ) (at : ℕ) (rest : List ℕ) → drop at text ≡ rest → ends rest Alternatives ≡ true → is_byte text at bar ≡ false
no_bar text at [] here e = is_byte_end text at bar here
no_bar text at (b ∷ rest) here e =
    is_byte_at text at b bar rest here ∙ not-true (b == bar) (and_parts (not (is_of_pattern b) && not (b == ampersand)) _ e).1

-- ---- atoms

stops_pattern : (rest : List ℕ) → ends rest Operand ≡ true → stops is_of_pattern rest ≡ true
stops_pattern [] e = refl
stops_pattern (b ∷ rest) e = e

-- A byte that is no byte of a pattern is no lower-case letter.
stops_small : (rest : List ℕ) → ends rest Operand ≡ true → stops is_small rest ≡ true
stops_small [] e = refl
stops_small (b ∷ rest) e = elim (cases_Bool (is_small b)) [
  | inl small ↦ let none : false ≡ true = rw small at e in absurd (cc)
  | inr other ↦ rw other refl
]

-- a word of lower-case letters that is not `name`
record IsWord (word : List ℕ) : Type 0 where
  letters : list_all is_small word ≡ true
  other : bytes_eq word (codes "name") ≡ false

word_is : (word name : List ℕ) → list_all is_small name ≡ true → bytes_eq name (codes "name") ≡ false → bytes_eq word name ≡ true → IsWord word
word_is word name letters other is =
    let same = bytes_eq-equal word name is in
    record { letters = rw same letters; other = rw same other }

word_or : (word name : List ℕ) (x a : Attribute) (others : Option Attribute) → list_all is_small name ≡ true → bytes_eq name (codes "name") ≡ false
    → (others ≡ Some a → IsWord word) → (if bytes_eq word name then Some x else others) ≡ Some a → IsWord word
word_or word name x a others letters other more is = elim (cases_Bool (bytes_eq word name)) [
  | inl same ↦ word_is word name letters other same
  | inr no_ ↦ more (rw no_ at is)
]

word_of_attribute : (word : List ℕ) (a : Attribute) → attribute_of word ≡ Some a → IsWord word
unfolding attribute_of
word_of_attribute word a =
    word_or word (codes "macro") Macro a _ refl refl
    (word_or word (codes "function") Function a _ refl refl
    (word_or word (codes "object") Object a _ refl refl
    (word_or word (codes "typedef") Typedef a _ refl refl
    (word_or word (codes "parameter") Parameter a _ refl refl
    (word_or word (codes "enumerator") Enumerator a _ refl refl
    (word_or word (codes "tag") Tag a _ refl refl
    (word_or word (codes "member") Member a _ refl refl
    (word_or word (codes "label") Label a _ refl refl
    (word_or word (codes "external") External a _ refl refl
    (word_or word (codes "readonly") ReadOnly a _ refl refl
    (word_or word (codes "unused") Unused a _ refl refl
    (word_or word (codes "cut") Cut a _ refl refl (λ (none : None ≡ Some a). absurd (cc))))))))))))))

attribute_reads : (at : ℕ) (word rest : List ℕ) (a : Attribute) → attribute_of word ≡ Some a → ends rest Operand ≡ true
    → atom at (word ++ rest) ≡ Ok (read (Is a) (at + length word))
attribute_reads at word rest a is e =
    let w = word_of_attribute word a is in
    let front : word_of (word ++ rest) ≡ word = take_while_stops is_small word rest w.letters (stops_small rest e) in
    let unnamed : begins_name (word ++ rest) ≡ false = and_left _ _ (ap (λ (x : List ℕ). bytes_eq x (codes "name")) front ∙ w.other) in
    atom_is at (word ++ rest) unnamed ∙ rw (front, is) refl

pattern_reads : (at c : ℕ) (pattern rest : List ℕ) → list_all is_of_pattern (c ∷ pattern) ≡ true → ends rest Operand ≡ true
    → atom at (codes "name=" ++ (c ∷ pattern) ++ rest) ≡ Ok (read (Named (c ∷ pattern)) (at + 5 + length (c ∷ pattern)))
pattern_reads at c pattern rest each e =
    let front = take_while_stops is_of_pattern (c ∷ pattern) rest each (stops_pattern rest e) in
    atom_named at (codes "name=" ++ (c ∷ pattern) ++ rest) refl ∙ ap (pattern_read (at + 5)) front

-- ---- chains

-- So many signs behind the first operand the chain has read what stands there.
pub record Chained (join : Query → Query → Query) (sign : ℕ) (part : Part) (text : List ℕ) (at : ℕ) (word : List ℕ) (q : Query) : Type 0 where
  pub signs : ℕ
  pub few : signs ≤ length word
  pub goes : (n : ℕ) → result_then (chain join sign part text (signs + n)) (part at) ≡ chain join sign part text n (read q (at + length word))

pub chain_ends : (join : Query → Query → Query) (sign : ℕ) (part : Part) (text : List ℕ) (n : ℕ) (left : Read) → is_byte text left.next sign ≡ false
    → chain join sign part text n left ≡ Ok left
unfolding chain
chain_ends join sign part text zero left none = refl
chain_ends join sign part text (suc n) left none = rw none refl

module _ (join : Query → Query → Query) (sign : ℕ) (part : Part) (text : List ℕ) where
  -- the first operand
  chained_one : (at : ℕ) (word : List ℕ) (q : Query) → part at ≡ Ok (read q (at + length word)) → Chained join sign part text at word q
  chained_one at word q is = record {
    signs = 0;
    few = omega arith;
    goes = λ n. let none : 0 + n ≡ n = omega arith in rw (is, none) refl;
  }

  -- a sign and an operand more
  chained_more : (at : ℕ) (left right rest : List ℕ) (p q : Query) → Chained join sign part text at left p
      → drop at text ≡ left ++ sign ∷ (right ++ rest) → part (at + length left + 1) ≡ Ok (read q (at + length left + 1 + length right))
      → Chained join sign part text at (left ++ sign ∷ right) (join p q)
  chained_more at left right rest p q c here is =
      let long : length (left ++ sign ∷ right) ≡ length left + suc (length right) = length-append left (sign ∷ right) in
      let there : is_byte text (at + length left) sign ≡ true =
      is_byte_at text (at + length left) sign sign (right ++ rest) (behind text at left (sign ∷ (right ++ rest)) here) ∙ eq-eqb sign sign refl in
      let place : at + length left + 1 + length right ≡ at + length (left ++ sign ∷ right) = omega (arith, long) in
      record {
        signs = c.signs + 1;
        few = omega (arith, long, c.few);
        goes = λ n.
            let more : c.signs + 1 + n ≡ c.signs + suc n = omega arith in
            ap (λ (m : ℕ). result_then (chain join sign part text m) (part at)) more
            ∙ c.goes (suc n)
            ∙ chain_there join sign part text n (read p (at + length left)) (read q (at + length left + 1 + length right)) there is
            ∙ ap (λ (m : ℕ). chain join sign part text n (read (join p q) m)) place;
      }

  -- where no sign follows, all signs that there may be are enough
  chained_all : (at : ℕ) (word rest : List ℕ) (q : Query) → Chained join sign part text at word q → drop at text ≡ word ++ rest
      → is_byte text (at + length word) sign ≡ false
      → result_then (chain join sign part text (length text)) (part at) ≡ Ok (read q (at + length word))
  chained_all at word rest q c here none =
      let whole : length text - at ≡ length word + length rest = sym (length-drop at text) ∙ ap length here ∙ length-append word rest in
      let enough : length text ≡ c.signs + (length text - c.signs) = omega (arith, whole, c.few) in
      ap (λ (m : ℕ). result_then (chain join sign part text m) (part at)) enough
      ∙ c.goes (length text - c.signs)
      ∙ chain_ends join sign part text (length text - c.signs) (read q (at + length word)) none

-- ---- all levels

-- What a text of this level is read to, where it stands before something that it does not go on with.
abbrev pub Says : Level → ℕ → List ℕ → Query → Type 0
Says Operand room word q = (text : List ℕ) (at : ℕ) (rest : List ℕ) → drop at text ≡ word ++ rest → ends rest Operand ≡ true
    → negation (enclosed text room) text at ≡ Ok (read q (at + length word))
Says Conjunction room word q = (text : List ℕ) (at : ℕ) (rest : List ℕ) → drop at text ≡ word ++ rest → ends rest Operand ≡ true
    → Chained Both ampersand (negation (enclosed text room) text) text at word q
Says Alternatives room word q = (text : List ℕ) (at : ℕ) (rest : List ℕ) → drop at text ≡ word ++ rest → ends rest Conjunction ≡ true
    → Chained Either bar (both (enclosed text room) text) text at word q

conjunction_reads : (room : ℕ) (word : List ℕ) (q : Query) → Says Conjunction room word q → (text : List ℕ) (at : ℕ) (rest : List ℕ)
    → drop at text ≡ word ++ rest → ends rest Conjunction ≡ true → both (enclosed text room) text at ≡ Ok (read q (at + length word))
conjunction_reads room word q says text at rest here e =
    both_first (enclosed text room) text at
    ∙ chained_all Both ampersand (negation (enclosed text room) text) text at word rest q (says text at rest here (ends_operand rest e)) here
    (no_ampersand text (at + length word) rest (behind text at word rest here) e)

alternatives_reads : (room : ℕ) (word : List ℕ) (q : Query) → Says Alternatives room word q → (text : List ℕ) (at : ℕ) (rest : List ℕ)
    → drop at text ≡ word ++ rest → ends rest Alternatives ≡ true → either (enclosed text room) text at ≡ Ok (read q (at + length word))
alternatives_reads room word q says text at rest here e =
    either_first (enclosed text room) text at
    ∙ chained_all Either bar (both (enclosed text room) text) text at word rest q (says text at rest here (ends_conjunction rest e)) here
    (no_bar text (at + length word) rest (behind text at word rest here) e)

-- ---- operands

pub negation_not : (inner : Inner) (text : List ℕ) (at : ℕ) → is_byte text at exclamation ≡ true → negation inner text at ≡ result_then deny (inner Denied at)
unfolding negation
negation_not inner text at there = rw there refl

pub negation_open : (inner : Inner) (text : List ℕ) (at : ℕ) → is_byte text at exclamation ≡ false → is_byte text at opening ≡ true
    → negation inner text at ≡ result_then (closed text) (inner Whole at)
unfolding negation
negation_open inner text at other there = rw (other, there) refl

pub negation_atom : (inner : Inner) (text : List ℕ) (at : ℕ) → is_byte text at exclamation ≡ false → is_byte text at opening ≡ false
    → negation inner text at ≡ atom at (drop at text)
unfolding negation
negation_atom inner text at other neither = rw (other, neither) refl

pub enclosed_not : (text : List ℕ) (room at : ℕ) → enclosed text (suc room) Denied at ≡ negation (enclosed text room) text (at + 1)
unfolding enclosed
enclosed_not text room at = refl

pub enclosed_whole : (text : List ℕ) (room at : ℕ) → enclosed text (suc room) Whole at ≡ either (enclosed text room) text (at + 1)
unfolding enclosed
enclosed_whole text room at = refl

-- A lower-case letter is no byte that is none.
small_is : (b c : ℕ) → is_small b ≡ true → is_small c ≡ false → (b == c) ≡ false
small_is b c small other = elim (cases_Bool (b == c)) [
  | inl same ↦ let none : true ≡ false = sym small ∙ ap is_small (eqb-true b c same) ∙ other in absurd (cc)
  | inr no_ ↦ no_
]

attribute_says : (room : ℕ) (word : List ℕ) (a : Attribute) → attribute_of word ≡ Some a → Says Operand room word (Is a)
unfolding attribute_of
attribute_says room [] a is text at rest here e = absurd (cc)
attribute_says room (b ∷ word) a is text at rest here e =
    let small = (and_parts (is_small b) (list_all is_small word) (word_of_attribute (b ∷ word) a is).letters).0 in
    let other : is_byte text at exclamation ≡ false = is_byte_at text at b exclamation (word ++ rest) here ∙ small_is b exclamation small refl in
    let neither : is_byte text at opening ≡ false = is_byte_at text at b opening (word ++ rest) here ∙ small_is b opening small refl in
    negation_atom (enclosed text room) text at other neither ∙ ap (atom at) here ∙ attribute_reads at (b ∷ word) rest a is e

pattern_says : (room c : ℕ) (pattern : List ℕ) → list_all is_of_pattern (c ∷ pattern) ≡ true
    → Says Operand room (codes "name=" ++ c ∷ pattern) (Named (c ∷ pattern))
pattern_says room c pattern each text at rest here e =
    let other : is_byte text at exclamation ≡ false = is_byte_at text at 110 exclamation _ here in
    let neither : is_byte text at opening ≡ false = is_byte_at text at 110 opening _ here in
    let place : at + 5 + length (c ∷ pattern) ≡ at + length (codes "name=" ++ c ∷ pattern) = omega arith in
    negation_atom (enclosed text room) text at other neither ∙ ap (atom at) here ∙ pattern_reads at c pattern rest each e
    ∙ ap (λ (n : ℕ). Ok (read (Named (c ∷ pattern)) n)) place

not_says : (room : ℕ) (word : List ℕ) (q : Query) → Says Operand room word q → Says Operand (suc room) (exclamation ∷ word) (Not q)
not_says room word q says text at rest here e =
    let there : is_byte text at exclamation ≡ true = is_byte_at text at exclamation exclamation (word ++ rest) here in
    let is = says text (at + 1) rest (behind text at (exclamation ∷ []) (word ++ rest) here) e in
    let place : at + 1 + length word ≡ at + length (exclamation ∷ word) = omega arith in
    negation_not (enclosed text (suc room)) text at there
    ∙ ap (result_then deny) (enclosed_not text room at ∙ is)
    ∙ ap (λ (n : ℕ). Ok (read (Not q) n)) place

inside_says : (room : ℕ) (word : List ℕ) (q : Query) → Says Alternatives room word q → Says Operand (suc room) (opening ∷ (word ++ closing ∷ [])) q
inside_says room word q says text at rest here e =
    let other : is_byte text at exclamation ≡ false = is_byte_at text at opening exclamation ((word ++ closing ∷ []) ++ rest) here in
    let there : is_byte text at opening ≡ true = is_byte_at text at opening opening ((word ++ closing ∷ []) ++ rest) here in
    let next : drop (at + 1) text ≡ word ++ closing ∷ rest =
    behind text at (opening ∷ []) ((word ++ closing ∷ []) ++ rest) here ∙ append_assoc word (closing ∷ []) rest in
    let is = alternatives_reads room word q says text (at + 1) (closing ∷ rest) next refl in
    let last : is_byte text (at + 1 + length word) closing ≡ true =
    is_byte_at text (at + 1 + length word) closing closing rest (behind text (at + 1) word (closing ∷ rest) next) in
    let long : length (word ++ closing ∷ []) ≡ length word + 1 = length-append word (closing ∷ []) in
    let place : at + 1 + length word + 1 ≡ at + length (opening ∷ (word ++ closing ∷ [])) = omega (arith, long) in
    negation_open (enclosed text (suc room)) text at other there
    ∙ ap (result_then (closed text)) (enclosed_whole text room at ∙ is)
    ∙ rw last (ap (λ (n : ℕ). Ok (read q n)) place)

-- ---- all that is derived

pub derived_says : {level : Level} {room : ℕ} {word : List ℕ} {q : Query} → Derives level room word q → Says level room word q
derived_says (one_conjunction {room = room} {text = word} {q = q} d) = λ text at rest here e.
    chained_one Either bar (both (enclosed text room) text) text at word q (conjunction_reads room word q (derived_says d) text at rest here e)
derived_says (either_of {room = room} {left = left} {right = right} {p = p} {q = q} d e) = λ text at rest here ending.
    let whole : drop at text ≡ left ++ bar ∷ (right ++ rest) = here ∙ append_assoc left (bar ∷ right) rest in
    let next = behind text (at + length left) (bar ∷ []) (right ++ rest) (behind text at left (bar ∷ (right ++ rest)) whole) in
    chained_more Either bar (both (enclosed text room) text) text at left right rest p q
    (derived_says d text at (bar ∷ (right ++ rest)) whole refl) whole
    (conjunction_reads room right q (derived_says e) text (at + length left + 1) rest next ending)
derived_says (one_operand {room = room} {text = word} {q = q} d) = λ text at rest here e.
    chained_one Both ampersand (negation (enclosed text room) text) text at word q (derived_says d text at rest here e)
derived_says (both_of {room = room} {left = left} {right = right} {p = p} {q = q} d e) = λ text at rest here ending.
    let whole : drop at text ≡ left ++ ampersand ∷ (right ++ rest) = here ∙ append_assoc left (ampersand ∷ right) rest in
    let next = behind text (at + length left) (ampersand ∷ []) (right ++ rest) (behind text at left (ampersand ∷ (right ++ rest)) whole) in
    chained_more Both ampersand (negation (enclosed text room) text) text at left right rest p q
    (derived_says d text at (ampersand ∷ (right ++ rest)) whole refl) whole
    (derived_says e text (at + length left + 1) rest next ending)
derived_says (not_of {room = room} {text = word} {q = q} d) = not_says room word q (derived_says d)
derived_says (in_parentheses {room = room} {text = word} {q = q} d) = inside_says room word q (derived_says d)
derived_says (an_attribute {room = room} {word = word} a is) = attribute_says room word a is
derived_says (a_pattern {room = room} c pattern each) = pattern_says room c pattern each

pub derived_is_read : (room : ℕ) (text : List ℕ) (q : Query) → Derives Alternatives room text q
    → either (enclosed text room) text 0 ≡ Ok (read q (0 + length text))
derived_is_read room text q d = alternatives_reads room text q (derived_says d) text 0 [] (sym (append-nil text)) refl

pub derived_is_parsed : (text : List ℕ) (q : Query) → Derives Alternatives depth_limit text q → parsed text ≡ Ok q
derived_is_parsed text q d = parsed_whole text (read q (0 + length text)) (derived_is_read depth_limit text q d) (omega arith)
