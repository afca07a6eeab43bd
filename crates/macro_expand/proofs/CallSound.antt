-- Calls of tokens that come from somewhere have arguments of such tokens, each no longer than the call.
use Rattle.std.proofs.Common.{◌≡◌, ℕ, ◌+◌, ◌<◌, ◌^◌, ◌&&◌, true, nat_lt, List, [], ◌∷◌, ◌++◌, length, Option, Some, None, Result, Ok, Err, IfOk, OnOk, IsTrue, refl, ap, sym, subst, ◌∙◌, arith}
use Rattle.std.specs.List.{list_all}
use Rattle.std.proofs.lemmas.Bool.{and_parts, and_from, lt-ltb}
use Rattle.std.proofs.lemmas.List.Folds.{list_all-append}
use Rattle.std.proofs.lemmas.Option.{none-some, same_Some}
use Rattle.cs_base.specs.Answer.{Gives}
use Rattle.macro_expand.specs.declared.calls.CallToks.{CallToks}
use Rattle.macro_body.specs.declared.definitions.Definition.{Definition}
use Rattle.macro_body.specs.declared.fault.ExpandFault.{ExpandFault}
use Rattle.macro_body.specs.Hides.{Hidden}
use Rattle.macro_expand.specs.Calls.{Call, Role, Closes, Separates, Belongs, CallFrom, role_of, level_after, fewer, onto_first, with_token, with_argument, closed, call_step, call_from, completed, are_enough, arguments_of}
use Rattle.macro_expand.specs.Following.{call_before}
use Rattle.macro_body.specs.Notes.{Fault, WrongArguments}
use Rattle.macro_expand.specs.Expansion.{added_by}
use Rattle.macro_body.specs.Faults.{fault_of}
use Rattle.macro_body.specs.Sound.{is_sound, all_sound, are_fitting}
use Rattle.macro_expand.specs.Going.{read_with}
use Rattle.macro_body.proofs.ResultLemmas.{ok_same, err_ok}
use Rattle.macro_expand.proofs.CallLemmas.{AllWithin, none, more, option_map_is, completed_has, cond_some, arguments_within}

-- What stands in a call, and what follows it.
pub record SoundCall (call : Call) : Type 0 where
  pub arguments : list_all all_sound call.arguments ≡ true
  pub rest : all_sound call.rest ≡ true

onto_first-sound : (t : Hidden) (lists : List (List Hidden)) → is_sound t ≡ true → list_all all_sound lists ≡ true → list_all all_sound (onto_first t lists) ≡ true
onto_first-sound t [] h k = and_from (all_sound (t ∷ [])) true (and_from (is_sound t) true h refl) refl
onto_first-sound t (a ∷ rest) h k =
    let p = and_parts (all_sound a) (list_all all_sound rest) k in
    and_from (all_sound (t ∷ a)) (list_all all_sound rest) (and_from (is_sound t) (all_sound a) h p.0) p.1

step_sound : (role : Role) (commas : Option ℕ) (level : ℕ) (t : Hidden) (ts : List Hidden) (behind : CallFrom) → is_sound t ≡ true → all_sound ts ≡ true
    → ((c : Option ℕ) (l : ℕ) (call : Call) → behind c l ≡ Some call → SoundCall call)
    → (call : Call) → call_step role commas level t ts behind ≡ Some call → SoundCall call
step_sound Closes commas level t ts behind h k sound call e = subst SoundCall (same_Some (closed t ts) call e) (record { arguments = refl; rest = k })
step_sound Separates commas level t ts behind h k sound call e =
    let i = option_map_is with_argument (behind (fewer commas) level) call e in
    let s = sound (fewer commas) level i.0 i.1 in
    subst SoundCall i.2 (record { arguments = s.arguments; rest = s.rest })
step_sound Belongs commas level t ts behind h k sound call e =
    let i = option_map_is (with_token t) (behind commas (level_after t.tok level)) call e in
    let s = sound commas (level_after t.tok level) i.0 i.1 in
    subst SoundCall i.2 (record { arguments = onto_first-sound t i.0.arguments h s.arguments; rest = s.rest })

pub call_sound : (ts : List Hidden) (commas : Option ℕ) (level : ℕ) (call : Call) → all_sound ts ≡ true → call_from ts commas level ≡ Some call → SoundCall call
unfolding call_from
call_sound [] commas level call h e = absurd (none-some call e)
call_sound (t ∷ ts) commas level call h e =
    let p = and_parts (is_sound t) (all_sound ts) h in
    step_sound (role_of commas level t.tok) commas level t ts (call_from ts) p.0 p.1 (λ c l inner is. call_sound ts c l inner p.1 is) call e

abbrev AreSound : List (List Hidden) → Type 0
AreSound lists = list_all all_sound lists ≡ true

completed_sound : (m : Definition) (lists : List (List Hidden)) → AreSound lists → AreSound (completed m lists)
completed_sound m lists h =
    completed_has AreSound m lists refl h (list_all-append all_sound lists ([] ∷ []) ∙ and_from (list_all all_sound lists) true h refl)

arguments_sound : (m : Definition) (lists raw : List (List Hidden)) → AreSound lists → arguments_of m lists ≡ Some raw → AreSound raw
arguments_sound m lists raw h e = subst AreSound (cond_some (are_enough m (length (completed m lists))) (completed m lists) raw e) (completed_sound m lists h)

fitting_within : (n len : ℕ) (lists : List (List Hidden)) → n + len < 2 ^ 32 → AllWithin len lists → list_all all_sound lists ≡ true → are_fitting n lists ≡ true
fitting_within n len [] few none h = refl
fitting_within n len (a ∷ rest) few (more here behind) h =
    let p = and_parts (all_sound a) (list_all all_sound rest) h in
    and_from (all_sound a && nat_lt (n + length a) (2 ^ 32)) (are_fitting n rest)
    (and_from (all_sound a) (nat_lt (n + length a) (2 ^ 32)) p.0 (lt-ltb (n + length a) (2 ^ 32) (omega arith)))
    (fitting_within n len rest few behind p.1)

-- the call that was taken
pub taken_call : (o : Option CallToks) (call : CallToks) (rest old : List Hidden) (commas : Option ℕ) → o ≡ Some call → call_before o rest ≡ call_from old commas 0
    → call_from old commas 0 ≡ Some (record { arguments = call.arguments.items; close = call.close; rest = rest })
taken_call o call rest old commas is h = sym h ∙ ap (λ (v : Option CallToks). call_before v rest) is

read_ok : (t : Hidden) (close : List (List ℕ)) (rest : List Hidden) (o : Option (List (List Hidden))) (raw : List (List Hidden)) (added : List (List ℕ))
    → ◌≡◌ {A = Result (List (List Hidden) × List (List ℕ) × List Hidden) Fault} (read_with t close rest o) (Ok (raw, added, rest)) → o ≡ Some raw
read_ok t close rest None raw added e = err_ok (WrongArguments t.tok.at) (raw, added, rest) e
read_ok t close rest (Some raw2) raw added e =
    ap (λ (v : List (List Hidden) × List (List ℕ) × List Hidden). Some v.0) (ok_same (raw2, added_by t close, rest) (raw, added, rest) e)

-- the arguments that a call has in the end
pub read_fitting : {V : Type 0} (raw_of : V → List (List Hidden)) (added_of : V → List (List ℕ)) (t : Hidden) (m : Definition) (close : List (List ℕ)) (lists : List (List Hidden)) (len : ℕ)
    → AllWithin len lists → list_all all_sound lists ≡ true → (r : Result V ExpandFault)
    → ((rest : List Hidden) → Gives {Y = List (List Hidden) × List (List ℕ) × List Hidden} (λ v. (raw_of v, added_of v, rest)) fault_of r (read_with t close rest (arguments_of m lists)))
    → IfOk r (λ v. (n : ℕ) → n + len < 2 ^ 32 → IsTrue (are_fitting n (raw_of v)))
read_fitting raw_of added_of t m close lists len within sound (Err e) h = tt
read_fitting raw_of added_of t m close lists len within sound (Ok v) h = λ n few.
    let is = read_ok t close [] (arguments_of m lists) (raw_of v) (added_of v) (h []) in
    fitting_within n len (raw_of v) few (arguments_within m len lists (raw_of v) within is) (arguments_sound m lists (raw_of v) sound is)

pub always_ok : {T E P : Type 0} (r : Result T E) → P → OnOk r P
always_ok (Ok x) p = p
always_ok (Err e) p = tt
