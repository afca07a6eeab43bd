-- Tokens that occur, with hide sets of names of macros: what an expansion keeps of them.
use Rattle.std.proofs.Common.{◌≡◌, ℕ, zero, suc, Bool, true, false, not, cond, List, [], ◌∷◌, ◌++◌, length, map, get_or, Option, Some, subst}
use Rattle.std.proofs.lemmas.Option.{none-some, same_Some}
use Rattle.cs_base.specs.Token.{Token}
use Rattle.macro_body.specs.declared.definitions.Definition.{Definition}
use Rattle.macro_body.specs.Hides.{Hidden, hides_name, in_both, lacking, with_names, hide_more}
use Rattle.macro_body.specs.Macro.{Table}
use Rattle.macro_expand.specs.Calls.{Call, Role, Closes, Separates, Belongs, CallFrom, role_of, level_after, fewer, onto_first, with_token, with_argument, closed, call_step, call_from, completed, are_enough, arguments_of}
use Rattle.macro_body.specs.Substitution.{with_gap, moved_in, argument_for}
use Rattle.macro_expand.specs.Renaming.{Occurring}
use Rattle.macro_expand.specs.Laws.{AllDefined, Held}
use Rattle.expansion_laws.proofs.RenamedLemmas.{AllOccurHidden}
use Rattle.macro_expand.proofs.CallLemmas.{option_map_is, completed_has, cond_some}

-- Which tokens occur, and the macros.
pub record Ground : Type 0 where
  pub o : Occurring
  pub old : Table

-- each token occurs, and each name in its hide set is that of a macro
abbrev pub Good : Ground → List Hidden → Type 0
Good w hs = Held w.o w.old hs

abbrev pub GoodLists : Ground → List (List Hidden) → Type 0
GoodLists w [] = Unit {0}
GoodLists w (l ∷ ls) = Good w l × GoodLists w ls

pub Good-occur : (w : Ground) (hs : List Hidden) → Good w hs → AllOccurHidden w.o hs
Good-occur w [] g = tt
Good-occur w (h ∷ hs) g = (g.0, Good-occur w hs g.2)

pub AllDefined-append : (table : Table) (xs ys : List (List ℕ)) → AllDefined table xs → AllDefined table ys → AllDefined table (xs ++ ys)
AllDefined-append table [] ys h k = k
AllDefined-append table (x ∷ xs) ys h k = (h.0, AllDefined-append table xs ys h.1 k)

cond_defined : (table : Table) (b : Bool) (x : List ℕ) (xs : List (List ℕ)) → ((d : Definition) × (table x ≡ Some d)) → AllDefined table xs → AllDefined table (cond b (x ∷ xs) xs)
cond_defined table true x xs here behind = (here, behind)
cond_defined table false x xs here behind = behind

pub AllDefined-in_both : (table : Table) (xs ys : List (List ℕ)) → AllDefined table xs → AllDefined table (in_both xs ys)
AllDefined-in_both table [] ys h = tt
AllDefined-in_both table (x ∷ xs) ys h = cond_defined table (hides_name ys x) x (in_both xs ys) h.0 (AllDefined-in_both table xs ys h.1)

AllDefined-lacking : (table : Table) (hides names : List (List ℕ)) → AllDefined table names → AllDefined table (lacking hides names)
AllDefined-lacking table hides [] h = tt
AllDefined-lacking table hides (x ∷ xs) h = cond_defined table (not (hides_name hides x)) x (lacking hides xs) h.0 (AllDefined-lacking table hides xs h.1)

AllDefined-with_names : (table : Table) (hides names : List (List ℕ)) → AllDefined table hides → AllDefined table names → AllDefined table (with_names hides names)
AllDefined-with_names table hides names h k = AllDefined-append table hides (lacking hides names) h (AllDefined-lacking table hides names k)

pub Good-append : (w : Ground) (xs ys : List Hidden) → Good w xs → Good w ys → Good w (xs ++ ys)
Good-append w [] ys g k = k
Good-append w (x ∷ xs) ys g k = (g.0, g.1, Good-append w xs ys g.2 k)

pub Good-hide_more : (w : Ground) (names : List (List ℕ)) (hs : List Hidden) → AllDefined w.old names → Good w hs → Good w (map (hide_more names) hs)
Good-hide_more w names [] d g = tt
Good-hide_more w names (h ∷ hs) d g = (g.0, AllDefined-with_names w.old h.hides names g.1 d, Good-hide_more w names hs d g.2)

pub Good-get_or : (w : Ground) (lists : List (List Hidden)) (i : ℕ) → GoodLists w lists → Good w (get_or lists i [])
Good-get_or w [] i g = tt
Good-get_or w (l ∷ ls) zero g = g.0
Good-get_or w (l ∷ ls) (suc i) g = Good-get_or w ls i g.1

pub Good-with_gap : (w : Ground) (gap : Bool) (hs : List Hidden) → Good w hs → Good w (with_gap gap hs)
Good-with_gap w gap [] g = tt
Good-with_gap w gap (h ∷ hs) g = (g.0, g.1, g.2)

pub Good-moved_in : (w : Ground) (hs : List Hidden) → Good w hs → Good w (map moved_in hs)
Good-moved_in w [] g = tt
Good-moved_in w (h ∷ hs) g = (g.0, g.1, Good-moved_in w hs g.2)

pub Good-argument_for : (w : Ground) (p : Token) (hs : List Hidden) → Good w hs → Good w (argument_for p hs)
Good-argument_for w p hs g = Good-with_gap w p.gap (map moved_in hs) (Good-moved_in w hs g)

-- Calls.

-- what is good of a call
pub record GoodCall (w : Ground) (call : Call) : Type 0 where
  pub each : GoodLists w call.arguments
  pub close : AllDefined w.old call.close
  pub rest : Good w call.rest

GoodLists-onto_first : (w : Ground) (t : Hidden) (lists : List (List Hidden)) → Good w (t ∷ []) → GoodLists w lists → GoodLists w (onto_first t lists)
GoodLists-onto_first w t [] g k = (g, tt)
GoodLists-onto_first w t (l ∷ ls) g k = ((g.0, g.1, k.0), k.1)

good_step : (w : Ground) (role : Role) (commas : Option ℕ) (level : ℕ) (t : Hidden) (ts : List Hidden) (behind : CallFrom)
    → ((c : Option ℕ) (l : ℕ) (call : Call) → behind c l ≡ Some call → GoodCall w call) → Good w (t ∷ ts)
    → (call : Call) → call_step role commas level t ts behind ≡ Some call → GoodCall w call
good_step w Closes commas level t ts behind h g call e =
    subst (GoodCall w) (same_Some (closed t ts) call e) (record { each = (tt, tt); close = g.1; rest = g.2 })
good_step w Separates commas level t ts behind h g call e =
    let i = option_map_is with_argument (behind (fewer commas) level) call e in
    let k = h (fewer commas) level i.0 i.1 in
    subst (GoodCall w) i.2 (record { each = (tt, k.each); close = k.close; rest = k.rest })
good_step w Belongs commas level t ts behind h g call e =
    let i = option_map_is (with_token t) (behind commas (level_after t.tok level)) call e in
    let k = h commas (level_after t.tok level) i.0 i.1 in
    subst (GoodCall w) i.2 (record { each = GoodLists-onto_first w t i.0.arguments (g.0, g.1, tt) k.each; close = k.close; rest = k.rest })

pub good_call : (w : Ground) (ts : List Hidden) (commas : Option ℕ) (level : ℕ) → Good w ts → (call : Call) → call_from ts commas level ≡ Some call → GoodCall w call
unfolding call_from
good_call w [] commas level g call e = absurd (none-some call e)
good_call w (t ∷ ts) commas level g call e =
    good_step w (role_of commas level t.tok) commas level t ts (call_from ts) (λ c l k. good_call w ts c l g.2 k) g call e

GoodLists-append : (w : Ground) (xs ys : List (List Hidden)) → GoodLists w xs → GoodLists w ys → GoodLists w (xs ++ ys)
GoodLists-append w [] ys g k = k
GoodLists-append w (x ∷ xs) ys g k = (g.0, GoodLists-append w xs ys g.1 k)

good_completed : (w : Ground) (m : Definition) (lists : List (List Hidden)) → GoodLists w lists → GoodLists w (completed m lists)
good_completed w m lists g = completed_has (GoodLists w) m lists tt g (GoodLists-append w lists ([] ∷ []) g (tt, tt))

pub good_arguments : (w : Ground) (m : Definition) (lists raw : List (List Hidden)) → GoodLists w lists → arguments_of m lists ≡ Some raw → GoodLists w raw
good_arguments w m lists raw g e =
    subst (GoodLists w) (cond_some (are_enough m (length (completed m lists))) (completed m lists) raw e) (good_completed w m lists g)
