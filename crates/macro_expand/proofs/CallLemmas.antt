-- Calls: their arguments are no longer than what stands behind their `(`, and they are read token by token.
use Rattle.std.proofs.Common.{◌≡◌, ℕ, zero, suc, ◌+◌, ◌-◌, ◌<◌, ◌≤◌, ◌&&◌, ◌||◌, ◌==◌, Bool, true, false, cond, List, [], ◌∷◌, ◌++◌, length, map, Option, Some, None, refl, sym, ap, ◌∙◌, subst, append_assoc, arith}
use Rattle.std.specs.Option.{option_map}
use Rattle.std.proofs.lemmas.List.{length-map}
use Rattle.std.proofs.lemmas.Option.{none-some, same_Some}
use Rattle.cs_base.specs.Token.{Token}
use Rattle.macro_body.specs.declared.definitions.Definition.{Definition}
use Rattle.macro_body.specs.Below.line_shape.Signs.{is_open, is_close}
use Rattle.macro_body.specs.Hides.{Hidden}
use Rattle.macro_body.specs.Macro.{arity, rest_number}
use Rattle.macro_expand.specs.Following.{IsTaken}
use Rattle.macro_expand.specs.Calls.{Call, Role, Closes, Separates, Belongs, CallFrom, role_of, level_after, fewer, onto_first, with_token, with_argument, closed, call_step, call_from, is_blank, with_rest, completed_by, completed, lacks_rest, are_enough, arguments_of}

-- each list has at most so many tokens
pub data AllWithin : ℕ → List (List Hidden) → Type 0 where
  none : {n : ℕ} → AllWithin n []
  more : {n : ℕ} {a : List Hidden} {rest : List (List Hidden)} → length a ≤ n → AllWithin n rest → AllWithin n (a ∷ rest)

pub AllWithin-more : (n m : ℕ) (lists : List (List Hidden)) → n ≤ m → AllWithin n lists → AllWithin m lists
AllWithin-more n m [] h none = none
AllWithin-more n m (a ∷ rest) h (more here behind) = more (omega arith) (AllWithin-more n m rest h behind)

AllWithin-append : (n : ℕ) (xs ys : List (List Hidden)) → AllWithin n xs → AllWithin n ys → AllWithin n (xs ++ ys)
AllWithin-append n [] ys none h = h
AllWithin-append n (x ∷ xs) ys (more here behind) h = more here (AllWithin-append n xs ys behind h)

AllWithin-onto_first : (n : ℕ) (t : Hidden) (lists : List (List Hidden)) → AllWithin n lists → AllWithin (suc n) (onto_first t lists)
AllWithin-onto_first n t [] none = more (omega arith) none
AllWithin-onto_first n t (a ∷ rest) (more here behind) = more (omega arith) (AllWithin-more n (suc n) rest (omega arith) behind)

-- What a call has room for: its arguments and what follows it.
pub record Shorter (n : ℕ) (call : Call) : Type 0 where
  pub each : AllWithin n call.arguments
  pub behind : length call.rest < n

pub option_map_is : {A B : Type 0} (f : A → B) (m : Option A) (b : B) → option_map f m ≡ Some b → (a : A) × (m ≡ Some a) × (f a ≡ b)
option_map_is f None b e = absurd (none-some b e)
option_map_is f (Some a) b e = (a, refl, same_Some (f a) b e)

step_shorter : (role : Role) (commas : Option ℕ) (level : ℕ) (t : Hidden) (ts : List Hidden) (behind : CallFrom)
    → ((c : Option ℕ) (l : ℕ) (call : Call) → behind c l ≡ Some call → Shorter (length ts) call)
    → (call : Call) → call_step role commas level t ts behind ≡ Some call → Shorter (suc (length ts)) call
step_shorter Closes commas level t ts behind h call e =
    subst (Shorter (suc (length ts))) (same_Some (closed t ts) call e) (record { each = more (omega arith) none; behind = omega arith })
step_shorter Separates commas level t ts behind h call e =
    let i = option_map_is with_argument (behind (fewer commas) level) call e in
    let s = h (fewer commas) level i.0 i.1 in
    subst (Shorter (suc (length ts))) i.2 (record {
      each = more (omega arith) (AllWithin-more (length ts) (suc (length ts)) i.0.arguments (omega arith) s.each);
      behind = let b = s.behind in omega arith;
    })
step_shorter Belongs commas level t ts behind h call e =
    let i = option_map_is (with_token t) (behind commas (level_after t.tok level)) call e in
    let s = h commas (level_after t.tok level) i.0 i.1 in
    subst (Shorter (suc (length ts))) i.2 (record {
      each = AllWithin-onto_first (length ts) t i.0.arguments s.each;
      behind = let b = s.behind in omega arith;
    })

pub call_shorter : (ts : List Hidden) (commas : Option ℕ) (level : ℕ) (call : Call) → call_from ts commas level ≡ Some call → Shorter (length ts) call
unfolding call_from
call_shorter [] commas level call e = absurd (none-some call e)
call_shorter (t ∷ ts) commas level call e =
    step_shorter (role_of commas level t.tok) commas level t ts (call_from ts) (call_shorter ts) call e

pub cond_has : {A : Type 0} (P : A → Type 0) (b : Bool) (x y : A) → P x → P y → P (cond b x y)
cond_has P true x y p q = p
cond_has P false x y p q = q

-- the arguments of a call in the end are none, those that stand there, or one more
pub completed_has : (Q : List (List Hidden) → Type 0) (m : Definition) (lists : List (List Hidden)) → Q [] → Q lists → Q (lists ++ [] ∷ []) → Q (completed m lists)
completed_has Q m lists nothing all longer = by (rest_number m)
  where
    rested : (gnu : Bool) (n : ℕ) → Q (with_rest gnu n lists)
    rested true n = cond_has Q (n == 0 && is_blank lists) [] lists nothing all
    rested false n = cond_has Q (length lists == n) (lists ++ [] ∷ []) lists longer all

    by : (o : Option ℕ) → Q (completed_by m lists o)
    by (Some n) = rested m.gnu n
    by None = cond_has Q (arity m == 0 && is_blank lists) [] lists nothing all

-- the same of lists that are made of each
module _ (f : List Hidden → List Hidden) (empty : f [] ≡ []) (m m2 : Definition) (many : arity m2 ≡ arity m) (rest : rest_number m2 ≡ rest_number m) (gnu : m2.gnu ≡ m.gnu)
    (lists : List (List Hidden)) (blank : is_blank (map f lists) ≡ is_blank lists) where
  longer_mapped : (ls : List (List Hidden)) → map f ls ++ [] ∷ [] ≡ map f (ls ++ [] ∷ [])
  longer_mapped [] = ap (λ (l : List Hidden). l ∷ []) (sym empty)
  longer_mapped (l ∷ ls) = ap (λ (v : List (List Hidden)). f l ∷ v) (longer_mapped ls)

  either_mapped : (b : Bool) (x y : List (List Hidden)) → cond b (map f x) (map f y) ≡ map f (cond b x y)
  either_mapped true x y = refl
  either_mapped false x y = refl

  rest_mapped : (g : Bool) (n : ℕ) → with_rest g n (map f lists) ≡ map f (with_rest g n lists)
  rest_mapped true n = ap (λ b. cond (n == 0 && b) [] (map f lists)) blank ∙ either_mapped (n == 0 && is_blank lists) [] lists
  rest_mapped false n =
      ap (λ k. cond (k == n) (map f lists ++ [] ∷ []) (map f lists)) (length-map lists f)
      ∙ ap (λ v. cond (length lists == n) v (map f lists)) (longer_mapped lists)
      ∙ either_mapped (length lists == n) (lists ++ [] ∷ []) lists

  by_mapped : (o : Option ℕ) → completed_by m2 (map f lists) o ≡ map f (completed_by m lists o)
  by_mapped (Some n) = ap (λ g. with_rest g n (map f lists)) gnu ∙ rest_mapped m.gnu n
  by_mapped None =
      ap (λ n. cond (n == 0 && is_blank (map f lists)) [] (map f lists)) many
      ∙ ap (λ b. cond (arity m == 0 && b) [] (map f lists)) blank
      ∙ either_mapped (arity m == 0 && is_blank lists) [] lists

  completed_mapped : completed m2 (map f lists) ≡ map f (completed m lists)
  completed_mapped = ap (completed_by m2 (map f lists)) rest ∙ by_mapped (rest_number m)

  lacks_mapped : (n : ℕ) (o : Option ℕ) → lacks_rest m2 n o ≡ lacks_rest m n o
  lacks_mapped n (Some k) = ap (λ g. g && n == k) gnu
  lacks_mapped n None = refl

  enough_mapped : (n : ℕ) → are_enough m2 n ≡ are_enough m n
  enough_mapped n =
      ap (λ k. n == k || lacks_rest m2 n (rest_number m2)) many
      ∙ ap (λ o. n == arity m || lacks_rest m2 n o) rest
      ∙ ap (λ b. n == arity m || b) (lacks_mapped n (rest_number m))

  some_mapped : (b : Bool) (x : List (List Hidden)) → cond b (Some (map f x)) None ≡ option_map (map f) (cond b (Some x) None)
  some_mapped true x = refl
  some_mapped false x = refl

  pub arguments_mapped : arguments_of m2 (map f lists) ≡ option_map (map f) (arguments_of m lists)
  arguments_mapped =
      let done = completed m lists in
      ap (λ l. cond (are_enough m2 (length l)) (Some l) None) completed_mapped
      ∙ ap (λ n. cond (are_enough m2 n) (Some (map f done)) None) (length-map done f)
      ∙ ap (λ b. cond b (Some (map f done)) None) (enough_mapped (length done))
      ∙ some_mapped (are_enough m (length done)) done

completed_within : (m : Definition) (n : ℕ) (lists : List (List Hidden)) → AllWithin n lists → AllWithin n (completed m lists)
completed_within m n lists h = completed_has (AllWithin n) m lists none h (AllWithin-append n lists ([] ∷ []) h (more (omega arith) none))

pub cond_some : {A : Type 0} (b : Bool) (x y : A) → cond b (Some x) None ≡ Some y → x ≡ y
cond_some true x y e = same_Some x y e
cond_some false x y e = absurd (none-some y e)

pub arguments_within : (m : Definition) (n : ℕ) (lists raw : List (List Hidden)) → AllWithin n lists → arguments_of m lists ≡ Some raw → AllWithin n raw
arguments_within m n lists raw h e =
    subst (AllWithin n) (cond_some (are_enough m (length (completed m lists))) (completed m lists) raw e) (completed_within m n lists h)

-- A call read token by token: what is read so far, in front of what the rest gives.

abbrev pub before_first : List Hidden → List (List Hidden) → List (List Hidden)
before_first [] args = args
before_first (t ∷ ts) args = onto_first t (before_first ts args)

-- finished arguments and the tokens of the present one in front of a call
abbrev pub with_front : List (List Hidden) → List Hidden → Call → Call
with_front finished present call = record call { arguments = finished ++ before_first present call.arguments }

abbrev pub in_front : List (List Hidden) → List Hidden → Option Call → Option Call
in_front finished present call = option_map (with_front finished present) call

before_first-blank : (present : List Hidden) (args : List (List Hidden)) → before_first present ([] ∷ args) ≡ present ∷ args
before_first-blank [] args = refl
before_first-blank (t ∷ ts) args = ap (onto_first t) (before_first-blank ts args)

before_first-token : (present : List Hidden) (t : Hidden) (args : List (List Hidden)) → before_first present (onto_first t args) ≡ before_first (present ++ t ∷ []) args
before_first-token [] t args = refl
before_first-token (p ∷ ps) t args = ap (onto_first p) (before_first-token ps t args)

in_front-argument : (finished : List (List Hidden)) (present : List Hidden) (call : Option Call)
    → in_front finished present (option_map with_argument call) ≡ in_front (finished ++ present ∷ []) [] call
in_front-argument finished present None = refl
in_front-argument finished present (Some call) =
    ap (λ (args : List (List Hidden)). Some (record call { arguments = args }))
    (ap (λ (args : List (List Hidden)). finished ++ args) (before_first-blank present call.arguments) ∙ sym (append_assoc finished (present ∷ []) call.arguments))

in_front-token : (finished : List (List Hidden)) (present : List Hidden) (t : Hidden) (call : Option Call)
    → in_front finished present (option_map (with_token t) call) ≡ in_front finished (present ++ t ∷ []) call
in_front-token finished present t None = refl
in_front-token finished present t (Some call) =
    ap (λ (args : List (List Hidden)). Some (record call { arguments = finished ++ args })) (before_first-token present t call.arguments)

pub call_closes : (finished : List (List Hidden)) (present : List Hidden) (t : Hidden) (ts : List Hidden) (commas : Option ℕ) (level : ℕ)
    → role_of commas level t.tok ≡ Closes
    → in_front finished present (call_from (t ∷ ts) commas level) ≡ Some (record { arguments = finished ++ present ∷ []; close = t.hides; rest = ts })
unfolding call_from
call_closes finished present t ts commas level is =
    ap (λ (r : Role). in_front finished present (call_step r commas level t ts (call_from ts))) is
    ∙ ap (λ (args : List (List Hidden)). Some (record { arguments = finished ++ args; close = t.hides; rest = ts })) (before_first-blank present [])

pub call_separates : (finished : List (List Hidden)) (present : List Hidden) (t : Hidden) (ts : List Hidden) (commas : Option ℕ) (level : ℕ)
    → role_of commas level t.tok ≡ Separates
    → in_front finished present (call_from (t ∷ ts) commas level) ≡ in_front (finished ++ present ∷ []) [] (call_from ts (fewer commas) level)
unfolding call_from
call_separates finished present t ts commas level is =
    ap (λ (r : Role). in_front finished present (call_step r commas level t ts (call_from ts))) is
    ∙ in_front-argument finished present (call_from ts (fewer commas) level)

pub call_belongs : (finished : List (List Hidden)) (present : List Hidden) (t : Hidden) (ts : List Hidden) (commas : Option ℕ) (level : ℕ)
    → role_of commas level t.tok ≡ Belongs
    → in_front finished present (call_from (t ∷ ts) commas level) ≡ in_front finished (present ++ t ∷ []) (call_from ts commas (level_after t.tok level))
unfolding call_from
call_belongs finished present t ts commas level is =
    ap (λ (r : Role). in_front finished present (call_step r commas level t ts (call_from ts))) is
    ∙ in_front-token finished present t (call_from ts commas (level_after t.tok level))

-- The same for what the program has.

role_here : (commas : Option ℕ) (level : ℕ) (t : Hidden) (tok : Token) (r : Role) → tok ≡ t.tok → r ≡ role_of commas level tok → role_of commas level t.tok ≡ r
role_here commas level t tok r tok_is is = ap (role_of commas level) (sym tok_is) ∙ sym is

pub call_closed : (finished finished2 : List (List Hidden)) (present pushed all ts : List Hidden) (t : Hidden) (close : List (List ℕ)) (commas : Option ℕ) (level : ℕ) (tok : Token) (call : Option Call)
    → in_front finished present (call_from all commas level) ≡ call → all ≡ t ∷ ts → tok ≡ t.tok → Closes ≡ role_of commas level tok
    → pushed ≡ present → finished2 ≡ finished ++ pushed ∷ [] → close ≡ t.hides
    → Some (record { arguments = finished2; close = close; rest = ts }) ≡ call
call_closed finished finished2 present pushed all ts t close commas level tok call before all_is tok_is role pushed_is finished_is close_is =
    ap (λ (args : List (List Hidden)). Some (record { arguments = args; close = close; rest = ts })) (finished_is ∙ ap (λ (a : List Hidden). finished ++ a ∷ []) pushed_is)
    ∙ ap (λ (names : List (List ℕ)). Some (record { arguments = finished ++ present ∷ []; close = names; rest = ts })) close_is
    ∙ sym (call_closes finished present t ts commas level (role_here commas level t tok Closes tok_is role))
    ∙ ap (λ (l : List Hidden). in_front finished present (call_from l commas level)) (sym all_is)
    ∙ before

pub call_separated : (finished finished2 : List (List Hidden)) (present present2 pushed all ts : List Hidden) (t : Hidden) (commas commas2 : Option ℕ) (level level2 : ℕ) (tok : Token) (call : Option Call)
    → in_front finished present (call_from all commas level) ≡ call → all ≡ t ∷ ts → tok ≡ t.tok → Separates ≡ role_of commas level tok
    → pushed ≡ present → finished2 ≡ finished ++ pushed ∷ [] → present2 ≡ [] → commas2 ≡ fewer commas → level2 ≡ level
    → in_front finished2 present2 (call_from ts commas2 level2) ≡ call
call_separated finished finished2 present present2 pushed all ts t commas commas2 level level2 tok call before all_is tok_is role pushed_is finished_is present_is commas_is level_is =
    ap (λ (args : List (List Hidden)). in_front args present2 (call_from ts commas2 level2)) (finished_is ∙ ap (λ (a : List Hidden). finished ++ a ∷ []) pushed_is)
    ∙ ap (λ (a : List Hidden). in_front (finished ++ present ∷ []) a (call_from ts commas2 level2)) present_is
    ∙ ap (λ (c : Option ℕ). in_front (finished ++ present ∷ []) [] (call_from ts c level2)) commas_is
    ∙ ap (λ (l : ℕ). in_front (finished ++ present ∷ []) [] (call_from ts (fewer commas) l)) level_is
    ∙ sym (call_separates finished present t ts commas level (role_here commas level t tok Separates tok_is role))
    ∙ ap (λ (l : List Hidden). in_front finished present (call_from l commas level)) (sym all_is)
    ∙ before

pub call_belonged : (finished finished2 : List (List Hidden)) (present present2 all ts : List Hidden) (t : Hidden) (commas commas2 : Option ℕ) (level level2 : ℕ) (tok : Token) (call : Option Call)
    → in_front finished present (call_from all commas level) ≡ call → all ≡ t ∷ ts → tok ≡ t.tok → Belongs ≡ role_of commas level tok
    → finished2 ≡ finished → present2 ≡ present ++ t ∷ [] → commas2 ≡ commas → level2 ≡ level_after tok level
    → in_front finished2 present2 (call_from ts commas2 level2) ≡ call
call_belonged finished finished2 present present2 all ts t commas commas2 level level2 tok call before all_is tok_is role finished_is present_is commas_is level_is =
    ap (λ (args : List (List Hidden)). in_front args present2 (call_from ts commas2 level2)) finished_is
    ∙ ap (λ (a : List Hidden). in_front finished a (call_from ts commas2 level2)) present_is
    ∙ ap (λ (c : Option ℕ). in_front finished (present ++ t ∷ []) (call_from ts c level2)) commas_is
    ∙ ap (λ (l : ℕ). in_front finished (present ++ t ∷ []) (call_from ts commas l)) (level_is ∙ ap (λ (u : Token). level_after u level) tok_is)
    ∙ sym (call_belongs finished present t ts commas level (role_here commas level t tok Belongs tok_is role))
    ∙ ap (λ (l : List Hidden). in_front finished present (call_from l commas level)) (sym all_is)
    ∙ before

pub call_missing : (finished : List (List Hidden)) (present all : List Hidden) (commas : Option ℕ) (level : ℕ) (call : Option Call)
    → in_front finished present (call_from all commas level) ≡ call → length all ≡ 0 → None ≡ call
unfolding call_from
call_missing finished present [] commas level call before empty = before
call_missing finished present (t ∷ ts) commas level call before empty = absurd (omega arith)

-- a comma separates where no parenthesis of the arguments is open
pub level-separates : (commas : Option ℕ) (level : ℕ) (t : Token) → Separates ≡ role_of commas level t → level ≡ 0
level-separates commas zero t is = refl
level-separates commas (suc level) t is = cc

-- the token that was taken
pub taken_is : (o : Option Hidden) (t : Hidden) (old new : List Hidden) → o ≡ Some t → IsTaken o old new → old ≡ t ∷ new
taken_is None t old new is taken = absurd (none-some t is)
taken_is (Some u) t old new is taken = taken ∙ ap (λ (h : Hidden). h ∷ new) (same_Some u t is)

-- no token was left
pub nothing_taken : (o : Option Hidden) (old new : List Hidden) → o ≡ None → IsTaken o old new → old ≡ []
nothing_taken None old new is taken = taken.0
nothing_taken (Some t) old new is taken = absurd (none-some t (sym is))

pub level_after-most : (t : Token) (level : ℕ) → level_after t level ≤ level + 1
level_after-most t level =
    cond_has (λ (n : ℕ). n ≤ level + 1) (is_open t) (level + 1) (cond (is_close t) (level - 1) level) (omega arith)
    (cond_has (λ (n : ℕ). n ≤ level + 1) (is_close t) (level - 1) level (omega arith) (omega arith))
