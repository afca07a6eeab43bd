-- What two walks over the whole list say of its condition.
use Rattle.std.proofs.Common.{◌≡◌, ℕ, ◌<◌, ◌≤◌, true, false, Result, Ok, Err, List, length, nat_lt, refl, sym, ap, ◌∙◌, arith}
use Rattle.std.proofs.lemmas.Bool.Decides.{nat_tests}
use Rattle.cs_base.specs.Token.{Token}
use Rattle.cond_eval.specs.declared.faults.CondFault.{CondFault}
use Rattle.cond_eval.specs.declared.faults.CondFault.TheVariants.{Syntax}
use Rattle.cond_eval.specs.declared.integers.Integer.{Integer}
use Rattle.cond_eval.specs.declared.walk.Walked.{Walked}
use Rattle.cond_eval.specs.Integers.{is_nonzero, zero_of}
use Rattle.cond_eval.specs.Reading.{Read, conditional, enclosed, tree_of}
use Rattle.cond_eval.specs.Evaluation.{condition, value, has_unsigned}
use Rattle.cond_eval.specs.Walk.{walked, numbered, walk_conditional, walk_enclosed}
use Rattle.cond_eval.proofs.AgreementLemmas.{Agrees, Agrees-whole}

numbered-fault : (r : Result Integer CondFault) (next : ℕ) (fault : CondFault) → numbered r next ≡ Err fault → r ≡ Err fault
numbered-fault (Ok n) next fault e = absurd (cc)
numbered-fault (Err other) next fault e = cc

numbered-number : (r : Result Integer CondFault) (next : ℕ) (v : Walked) → numbered r next ≡ Ok v → r ≡ Ok v.number
numbered-number (Ok n) next v e =
    let same : walked n next ≡ v = cc in
    ap (λ (u : Walked). Ok u.number) same
numbered-number (Err other) next v e = absurd (cc)

-- a reading and its two walks, the first not live and the second live
fault-from : (toks : List Token) (r : Result Read CondFault) (w : Result Walked CondFault) (fault : CondFault)
    → conditional (enclosed toks 256) toks 0 ≡ r → Agrees false r w → w ≡ Err fault → condition toks ≡ Err fault
unfolding condition tree_of
fault-from toks (Ok x) w fault reading agrees e = absurd (cc)
fault-from toks (Err other) w fault reading agrees e =
    let same : other ≡ fault = let found = agrees refl in cc in
    rw (reading, same) refl

rest-from : (toks : List Token) (r : Result Read CondFault) (w : Result Walked CondFault) (v : Walked)
    → conditional (enclosed toks 256) toks 0 ≡ r → Agrees false r w → w ≡ Ok v → v.next < length toks
    → condition toks ≡ Err (Syntax v.next)
unfolding condition tree_of
rest-from toks (Ok x) w v reading agrees e less =
    let same : walked (zero_of (has_unsigned x.tree)) x.next ≡ v = cc in
    let next : x.next ≡ v.next = ap (λ (u : Walked). u.next) same in
    let rest : nat_lt x.next (length toks) ≡ true = grind (arith, nat_tests) in
    rw (reading, rest, next) refl
rest-from toks (Err other) w v reading agrees e less = absurd (let found = agrees refl in cc)

value_fault-from : (toks : List Token) (r : Result Read CondFault) (w u : Result Walked CondFault) (v : Walked) (fault : CondFault)
    → conditional (enclosed toks 256) toks 0 ≡ r → Agrees false r w → Agrees true r u → w ≡ Ok v → length toks ≤ v.next → u ≡ Err fault
    → condition toks ≡ Err fault
unfolding condition tree_of
value_fault-from toks (Ok x) w u v fault reading agrees alive e less f =
    let same : walked (zero_of (has_unsigned x.tree)) x.next ≡ v = cc in
    let next : x.next ≡ v.next = ap (λ (u : Walked). u.next) same in
    let rest : nat_lt x.next (length toks) ≡ false = grind (arith, nat_tests) in
    let found = numbered-fault (value x.tree) x.next fault (sym alive ∙ f) in
    rw (reading, rest, found) refl
value_fault-from toks (Err other) w u v fault reading agrees alive e less f = absurd (let found = agrees refl in cc)

value-from : (toks : List Token) (r : Result Read CondFault) (w u : Result Walked CondFault) (v n : Walked)
    → conditional (enclosed toks 256) toks 0 ≡ r → Agrees false r w → Agrees true r u → w ≡ Ok v → length toks ≤ v.next → u ≡ Ok n
    → condition toks ≡ Ok (is_nonzero n.number)
unfolding condition tree_of
value-from toks (Ok x) w u v n reading agrees alive e less f =
    let same : walked (zero_of (has_unsigned x.tree)) x.next ≡ v = cc in
    let next : x.next ≡ v.next = ap (λ (u : Walked). u.next) same in
    let rest : nat_lt x.next (length toks) ≡ false = grind (arith, nat_tests) in
    let found = numbered-number (value x.tree) x.next n (sym alive ∙ f) in
    rw (reading, rest, found) refl
value-from toks (Err other) w u v n reading agrees alive e less f = absurd (let found = agrees refl in cc)

-- ---- the four ends of two walks

pub condition-fault : (toks : List Token) (fault : CondFault)
    → walk_conditional (walk_enclosed toks 256) toks false 0 ≡ Err fault → condition toks ≡ Err fault
condition-fault toks fault e = fault-from toks _ _ fault refl (Agrees-whole toks 256 false) e

pub condition-rest : (toks : List Token) (v : Walked)
    → walk_conditional (walk_enclosed toks 256) toks false 0 ≡ Ok v → v.next < length toks → condition toks ≡ Err (Syntax v.next)
condition-rest toks v e less = rest-from toks _ _ v refl (Agrees-whole toks 256 false) e less

pub condition-value_fault : (toks : List Token) (v : Walked) (fault : CondFault)
    → walk_conditional (walk_enclosed toks 256) toks false 0 ≡ Ok v → length toks ≤ v.next
    → walk_conditional (walk_enclosed toks 256) toks true 0 ≡ Err fault → condition toks ≡ Err fault
condition-value_fault toks v fault e less f =
    value_fault-from toks _ _ _ v fault refl (Agrees-whole toks 256 false) (Agrees-whole toks 256 true) e less f

pub condition-value : (toks : List Token) (v n : Walked)
    → walk_conditional (walk_enclosed toks 256) toks false 0 ≡ Ok v → length toks ≤ v.next
    → walk_conditional (walk_enclosed toks 256) toks true 0 ≡ Ok n → condition toks ≡ Ok (is_nonzero n.number)
condition-value toks v n e less f =
    value-from toks _ _ _ v n refl (Agrees-whole toks 256 false) (Agrees-whole toks 256 true) e less f
