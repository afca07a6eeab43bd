-- What is read and compiled along a chain of signs.
use Rattle.std.proofs.Common.{◌≡◌, ℕ, zero, suc, ◌+◌, ◌-◌, ◌<◌, ◌≤◌, true, false, List, ◌∷◌, [], ◌++◌, Result, Ok, Err, length, drop, ◌≢◌, refl, sym, ap, subst, ◌∙◌, arith, sub-one}
use Rattle.std.specs.Prelude.{IfErr, IfOk, IsErrAnd}
use Rattle.std.proofs.lemmas.Bool.{lt-ltb, le-ltb}
use Rattle.cs_base.specs.Answer.{result_then}
use Rattle.query_words.specs.declared.faults.QueryFault.{QueryFault}
use Rattle.query_words.specs.declared.faults.QueryFault.TheVariants.{Bad, Deep}
use Rattle.query_words.specs.declared.faults.QueryRefusal.{QueryRefusal}
use Rattle.query_words.specs.declared.faults.QueryRefusal.TheVariants.{Fault, Memory}
use Rattle.query_words.specs.declared.steps.Step.{Step}
use Rattle.query_words.specs.declared.steps.Step.TheVariants.{Negate}
use Rattle.query_words.specs.declared.walk.Rule.{Rule}
use Rattle.query_words.specs.declared.walk.Rule.TheVariants.{Whole, Denied}
use Rattle.query_words.specs.Queries.{Query, Either, Both, Not}
use Rattle.query_words.specs.Reading.{Inner, Part, Read, read, ampersand, atom, bar, closed, closing, exclamation, opening, depth_limit, parsed, both, by_rule, chain, either, enclosed, is_byte, negation}
use Rattle.query_words.specs.Steps.{IsCompiled, IsFault, Runs}
use Rattle.query_words.proofs.StepLemmas.{runs_not}

-- ---- answers

pub if_ok_then : {X E : Type 0} (r : Result X E) (P Q : X → Type 0) → IfOk r P → ((x : X) → P x → Q x) → IfOk r Q
if_ok_then (Ok x) P Q holds then = then x holds
if_ok_then (Err e) P Q holds then = holds

pub if_err_then : {X E : Type 0} (r : Result X E) (P Q : E → Type 0) → IfErr r P → ((e : E) → P e → Q e) → IfErr r Q
if_err_then (Ok x) P Q holds then = holds
if_err_then (Err e) P Q holds then = then e holds

-- a refusal that is handed on
pub handed_on : {X : Type 0} (r : Result X QueryRefusal) (e : QueryRefusal) (P : QueryRefusal → Type 0) → IsErrAnd r (λ x. x ≡ e) → P e → IfErr r P
handed_on (Ok x) e P same holds = absurd same
handed_on (Err f) e P same holds = subst P (sym same) holds

-- a fault of what is read first is one of all, where it stops all
pub fault_then : {X Y : Type 0} (r : Result X QueryFault) (s : Result Y QueryFault) → ((fault : QueryFault) → r ≡ Err fault → s ≡ Err fault)
    → (e : QueryRefusal) → IsFault r e → IsFault s e
fault_then r s stops (Fault fault) is = stops fault is
fault_then r s stops Memory is = is

-- ---- chains

-- What was read so far is a query, compiled; with the signs that may still follow it is what all of it is.
pub record GoesOn (join : Query → Query → Query) (sign : ℕ) (part : Part) (text : List ℕ) (done : ℕ) (old now : List Step) (next : ℕ) (all : Result Read QueryFault) : Type 0 where
  pub query : Query
  pub runs : Runs old now query
  pub rest : chain join sign part text (length text - done) (read query next) ≡ all

module _ (join : Query → Query → Query) (sign : ℕ) (part : Part) (text : List ℕ) where
  pub chain_there : (most : ℕ) (left right : Read) → is_byte text left.next sign ≡ true → part (left.next + 1) ≡ Ok right
      → chain join sign part text (suc most) left ≡ chain join sign part text most (read (join left.query right.query) right.next)
  unfolding chain
  chain_there most left right there here = rw (there, here) refl

  pub chain_fault : (most : ℕ) (left : Read) (fault : QueryFault) → is_byte text left.next sign ≡ true → part (left.next + 1) ≡ Err fault
      → chain join sign part text (suc most) left ≡ Err fault
  unfolding chain
  chain_fault most left fault there here = rw (there, here) refl

  chain_none : (most : ℕ) (left : Read) → is_byte text left.next sign ≡ false → chain join sign part text (suc most) left ≡ Ok left
  unfolding chain
  chain_none most left there = rw there refl

  chain_end : (most : ℕ) (left : Read) → most ≡ 0 → chain join sign part text most left ≡ Ok left
  unfolding chain
  chain_end zero left none = refl
  chain_end (suc most) left none = absurd (omega arith)

  -- one sign fewer may follow
  chain_less : (k : ℕ) (left : Read) → k < length text
      → chain join sign part text (length text - k) left ≡ chain join sign part text (suc (length text - (k + 1))) left
  chain_less k left within =
      let less : length text - k ≡ suc (length text - (k + 1)) = omega arith in
      ap (λ (n : ℕ). chain join sign part text n left) less

module _ (join : Query → Query → Query) (sign : ℕ) (part : Part) (text : List ℕ) where
  -- the first operand
  pub goes_on_first : (first all : Result Read QueryFault) (old now : List Step) (next : ℕ)
      → all ≡ result_then (chain join sign part text (length text)) first → IsCompiled first old now next
      → GoesOn join sign part text 0 old now next all
  goes_on_first first all old now next is here = record {
    query = here.query;
    runs = here.runs;
    rest =
        let none : length text - 0 ≡ length text = omega arith in
        ap (λ (n : ℕ). chain join sign part text n (read here.query next)) none
        ∙ sym (is ∙ ap (result_then (chain join sign part text (length text))) here.is);
  }

  pub first_fault : (first all : Result Read QueryFault) (e : QueryRefusal) → all ≡ result_then (chain join sign part text (length text)) first
      → IsFault first e → IsFault all e
  first_fault first all e is here =
      fault_then first all (λ fault stops. is ∙ ap (result_then (chain join sign part text (length text))) stops) e here

  -- one sign and operand more
  pub goes_on_more : (k : ℕ) (old now mid new : List Step) (next behind : ℕ) (all : Result Read QueryFault) → k < length text
      → is_byte text next sign ≡ true → IsCompiled (part (next + 1)) now mid behind
      → ((p q : Query) → Runs old now p → Runs now mid q → Runs old new (join p q))
      → GoesOn join sign part text k old now next all → GoesOn join sign part text (k + 1) old new behind all
  goes_on_more k old now mid new next behind all within there right joins before = record {
    query = join before.query right.query;
    runs = joins before.query right.query before.runs right.runs;
    rest =
        sym (chain_there join sign part text (length text - (k + 1)) (read before.query next) (read right.query behind) there right.is)
        ∙ sym (chain_less join sign part text k (read before.query next) within)
        ∙ before.rest;
  }

  pub goes_on_fault : (k : ℕ) (old now : List Step) (next : ℕ) (all : Result Read QueryFault) (e : QueryRefusal) → k < length text
      → is_byte text next sign ≡ true → IsFault (part (next + 1)) e → GoesOn join sign part text k old now next all → IsFault all e
  goes_on_fault k old now next all e within there here before =
      fault_then (part (next + 1)) all
      (λ fault stops.
      sym before.rest ∙ chain_less join sign part text k (read before.query next) within
      ∙ chain_fault join sign part text (length text - (k + 1)) (read before.query next) fault there stops) e here

  pub goes_on_none : (k : ℕ) (old now : List Step) (next : ℕ) (all : Result Read QueryFault) → k < length text
      → is_byte text next sign ≡ false → GoesOn join sign part text k old now next all → IsCompiled all old now next
  goes_on_none k old now next all within there before = record {
    query = before.query;
    is =
        sym before.rest ∙ chain_less join sign part text k (read before.query next) within
        ∙ chain_none join sign part text (length text - (k + 1)) (read before.query next) there;
    runs = before.runs;
  }

  pub goes_on_end : (k : ℕ) (old now : List Step) (next : ℕ) (all : Result Read QueryFault) → length text ≤ k
      → GoesOn join sign part text k old now next all → IsCompiled all old now next
  goes_on_end k old now next all past before =
      let none : length text - k ≡ 0 = omega arith in
      record {
        query = before.query;
        is = sym before.rest ∙ chain_end join sign part text (length text - k) (read before.query next) none;
        runs = before.runs;
      }

pub either_first : (inner : Inner) (text : List ℕ) (at : ℕ)
    → either inner text at ≡ result_then (chain Either bar (both inner text) text (length text)) (both inner text at)
unfolding either
either_first inner text at = refl

pub both_first : (inner : Inner) (text : List ℕ) (at : ℕ)
    → both inner text at ≡ result_then (chain Both ampersand (negation inner text) text (length text)) (negation inner text at)
unfolding both
both_first inner text at = refl

pub enclosed_none : (text : List ℕ) (room : ℕ) (rule : Rule) (at : ℕ) → room ≡ 0 → enclosed text room rule at ≡ Err (Deep at)
unfolding enclosed
enclosed_none text zero rule at none = refl
enclosed_none text (suc room) rule at none = absurd (omega arith)

pub enclosed_step : (text : List ℕ) (room : ℕ) (rule : Rule) (at : ℕ) → room ≢ 0
    → enclosed text room rule at ≡ by_rule (enclosed text (room - 1)) text rule (at + 1)
unfolding enclosed
enclosed_step text zero rule at some = absurd (some refl)
enclosed_step text (suc room) rule at some = rw sub-one refl

-- ---- what is denied, and what stands in parentheses

module _ (inner : Inner) (text : List ℕ) (at : ℕ) where
  pub denied_compiled : (old mid new : List Step) (next : ℕ) → is_byte text at exclamation ≡ true → IsCompiled (inner Denied at) old mid next
      → new ≡ mid ++ Negate ∷ [] → IsCompiled (negation inner text at) old new next
  unfolding negation
  denied_compiled old mid new next there here is = record {
    query = Not here.query;
    is = rw (there, here.is) refl;
    runs = runs_not old mid new here.query here.runs is;
  }

  pub denied_fault : (e : QueryRefusal) → is_byte text at exclamation ≡ true → IsFault (inner Denied at) e → IsFault (negation inner text at) e
  unfolding negation
  denied_fault e there here = fault_then (inner Denied at) (negation inner text at) (λ fault stops. rw (there, stops) refl) e here

  pub whole_compiled : (old now : List Step) (next end : ℕ) → is_byte text at exclamation ≡ false → is_byte text at opening ≡ true
      → IsCompiled (inner Whole at) old now next → ((query : Query) → closed text (read query next) ≡ Ok (read query end))
      → IsCompiled (negation inner text at) old now end
  unfolding negation
  whole_compiled old now next end other there here closes = record {
    query = here.query;
    is = rw (other, there, here.is) (closes here.query);
    runs = here.runs;
  }

  pub whole_fault : (e : QueryRefusal) → is_byte text at exclamation ≡ false → is_byte text at opening ≡ true → IsFault (inner Whole at) e
      → IsFault (negation inner text at) e
  unfolding negation
  whole_fault e other there here = fault_then (inner Whole at) (negation inner text at) (λ fault stops. rw (other, there, stops) refl) e here

  pub closed_fault : (old now : List Step) (next : ℕ) (e : QueryRefusal) → is_byte text at exclamation ≡ false → is_byte text at opening ≡ true
      → IsCompiled (inner Whole at) old now next → ((query : Query) → IsFault (closed text (read query next)) e)
      → IsFault (negation inner text at) e
  unfolding negation
  closed_fault old now next e other there here stops =
      fault_then (closed text (read here.query next)) (negation inner text at) (λ fault is. rw (other, there, here.is) is) e (stops here.query)

  pub negation_atom : is_byte text at exclamation ≡ false → is_byte text at opening ≡ false → negation inner text at ≡ atom at (drop at text)
  unfolding negation
  negation_atom other none = rw (other, none) refl

-- ---- the whole word

pub parsed_fault : (text : List ℕ) (fault : QueryFault) → either (enclosed text depth_limit) text 0 ≡ Err fault → parsed text ≡ Err fault
unfolding parsed
parsed_fault text fault is = rw is refl

pub parsed_more : (text : List ℕ) (r : Read) → either (enclosed text depth_limit) text 0 ≡ Ok r → r.next < length text → parsed text ≡ Err (Bad r.next)
unfolding parsed
parsed_more text r is more = rw (is, lt-ltb r.next (length text) more) refl

pub parsed_whole : (text : List ℕ) (r : Read) → either (enclosed text depth_limit) text 0 ≡ Ok r → length text ≤ r.next → parsed text ≡ Ok r.query
unfolding parsed
parsed_whole text r is end = rw (is, le-ltb r.next (length text) end) refl
