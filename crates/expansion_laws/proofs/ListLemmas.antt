-- Lists of tokens each of which passes, and the arguments of calls.
use Rattle.std.proofs.Common.{◌≡◌, ℕ, zero, suc, Bool, true, List, [], ◌∷◌, ◌++◌, length, map, get_or, Option, Some, refl, subst}
use Rattle.std.specs.Prelude.{slice_get}
use Rattle.std.specs.List.{list_all}
use Rattle.std.proofs.lemmas.Option.{none-some, same_Some}
use Rattle.std.proofs.lemmas.Bool.{and_parts}
use Rattle.cs_base.specs.Token.{Token}
use Rattle.macro_body.specs.declared.definitions.Definition.{Definition}
use Rattle.macro_body.specs.Hides.{Hidden, hide_more, toks_of}
use Rattle.macro_expand.specs.Calls.{Call, Role, Closes, Separates, Belongs, CallFrom, role_of, level_after, fewer, onto_first, with_token, with_argument, closed, call_step, call_from, completed, are_enough, arguments_of}
use Rattle.macro_body.specs.Notes.{Note}
use Rattle.macro_expand.proofs.CallLemmas.{option_map_is, completed_has, cond_some}

-- each token has it, each of these with hide sets, each of these lists
abbrev pub AllToks : (Token → Type 0) → List Token → Type 0
AllToks P [] = Unit {0}
AllToks P (t ∷ ts) = P t × AllToks P ts

abbrev pub AllHidden : (Token → Type 0) → List Hidden → Type 0
AllHidden P [] = Unit {0}
AllHidden P (h ∷ hs) = P h.tok × AllHidden P hs

abbrev pub AllLists : (Token → Type 0) → List (List Hidden) → Type 0
AllLists P [] = Unit {0}
AllLists P (l ∷ ls) = AllHidden P l × AllLists P ls

abbrev pub AllNotes : (Note → Type 0) → List Note → Type 0
AllNotes N [] = Unit {0}
AllNotes N (n ∷ ns) = N n × AllNotes N ns

pub notes_split : (N : Note → Type 0) (xs ys : List Note) → AllNotes N (xs ++ ys) → AllNotes N xs × AllNotes N ys
notes_split N [] ys h = (tt, h)
notes_split N (x ∷ xs) ys h = let k = notes_split N xs ys h.1 in ((h.0, k.0), k.1)

pub notes_both : (N : Note → Type 0) (xs ys : List Note) → AllNotes N xs → AllNotes N ys → AllNotes N (xs ++ ys)
notes_both N [] ys h k = k
notes_both N (x ∷ xs) ys h k = (h.0, notes_both N xs ys h.1 k)

pub hidden_both : (P : Token → Type 0) (xs ys : List Hidden) → AllHidden P xs → AllHidden P ys → AllHidden P (xs ++ ys)
hidden_both P [] ys h k = k
hidden_both P (x ∷ xs) ys h k = (h.0, hidden_both P xs ys h.1 k)

pub hidden_more : (P : Token → Type 0) (names : List (List ℕ)) (hs : List Hidden) → AllHidden P hs → AllHidden P (map (hide_more names) hs)
hidden_more P names [] h = tt
hidden_more P names (x ∷ xs) h = (h.0, hidden_more P names xs h.1)

pub hidden_at : (P : Token → Type 0) (lists : List (List Hidden)) (i : ℕ) → AllLists P lists → AllHidden P (get_or lists i [])
hidden_at P [] i h = tt
hidden_at P (l ∷ ls) zero h = h.0
hidden_at P (l ∷ ls) (suc i) h = hidden_at P ls i h.1

pub hidden_toks : (P : Token → Type 0) (hs : List Hidden) → AllHidden P hs → AllToks P (toks_of hs)
hidden_toks P [] h = tt
hidden_toks P (x ∷ xs) h = (h.0, hidden_toks P xs h.1)

-- Calls.

-- what is true of a call
pub record GoodCall (P : Token → Type 0) (call : Call) : Type 0 where
  pub each : AllLists P call.arguments
  pub rest : AllHidden P call.rest

lists_onto_first : (P : Token → Type 0) (t : Hidden) (lists : List (List Hidden)) → P t.tok → AllLists P lists → AllLists P (onto_first t lists)
lists_onto_first P t [] h k = ((h, tt), tt)
lists_onto_first P t (l ∷ ls) h k = ((h, k.0), k.1)

good_step : (P : Token → Type 0) (role : Role) (commas : Option ℕ) (level : ℕ) (t : Hidden) (ts : List Hidden) (behind : CallFrom)
    → ((c : Option ℕ) (l : ℕ) (call : Call) → behind c l ≡ Some call → GoodCall P call) → AllHidden P (t ∷ ts)
    → (call : Call) → call_step role commas level t ts behind ≡ Some call → GoodCall P call
good_step P Closes commas level t ts behind h good call e =
    subst (GoodCall P) (same_Some (closed t ts) call e) (record { each = (tt, tt); rest = good.1 })
good_step P Separates commas level t ts behind h good call e =
    let i = option_map_is with_argument (behind (fewer commas) level) call e in
    let k = h (fewer commas) level i.0 i.1 in
    subst (GoodCall P) i.2 (record { each = (tt, k.each); rest = k.rest })
good_step P Belongs commas level t ts behind h good call e =
    let i = option_map_is (with_token t) (behind commas (level_after t.tok level)) call e in
    let k = h commas (level_after t.tok level) i.0 i.1 in
    subst (GoodCall P) i.2 (record { each = lists_onto_first P t i.0.arguments good.0 k.each; rest = k.rest })

pub good_call : (P : Token → Type 0) (ts : List Hidden) (commas : Option ℕ) (level : ℕ) → AllHidden P ts → (call : Call) → call_from ts commas level ≡ Some call → GoodCall P call
unfolding call_from
good_call P [] commas level good call e = absurd (none-some call e)
good_call P (t ∷ ts) commas level good call e =
    good_step P (role_of commas level t.tok) commas level t ts (call_from ts) (λ c l k. good_call P ts c l good.1 k) good call e

lists_both : (P : Token → Type 0) (xs ys : List (List Hidden)) → AllLists P xs → AllLists P ys → AllLists P (xs ++ ys)
lists_both P [] ys h k = k
lists_both P (x ∷ xs) ys h k = (h.0, lists_both P xs ys h.1 k)

good_completed : (P : Token → Type 0) (m : Definition) (lists : List (List Hidden)) → AllLists P lists → AllLists P (completed m lists)
good_completed P m lists good = completed_has (AllLists P) m lists tt good (lists_both P lists ([] ∷ []) good (tt, tt))

pub good_arguments : (P : Token → Type 0) (m : Definition) (lists raw : List (List Hidden)) → AllLists P lists → arguments_of m lists ≡ Some raw → AllLists P raw
good_arguments P m lists raw good e =
    subst (AllLists P) (cond_some (are_enough m (length (completed m lists))) (completed m lists) raw e) (good_completed P m lists good)

-- Tokens and notes, one by one.

pub toks_at : (P : Token → Type 0) (ts : List Token) → AllToks P ts → (t : Token) (k : ℕ) → slice_get ts k ≡ Some t → P t
toks_at P [] h t k e = absurd (none-some t e)
toks_at P (u ∷ us) h t zero e = subst P (same_Some u t e) h.0
toks_at P (u ∷ us) h t (suc k) e = toks_at P us h.1 t k e

pub notes_at : (N : Note → Type 0) (ns : List Note) → AllNotes N ns → (n : Note) (k : ℕ) → slice_get ns k ≡ Some n → N n
notes_at N [] h n k e = absurd (none-some n e)
notes_at N (m ∷ ms) h n zero e = subst N (same_Some m n e) h.0
notes_at N (m ∷ ms) h n (suc k) e = notes_at N ms h.1 n k e

pub each_tok : (P : Token → Type 0) (ts : List Token) → ((t : Token) (k : ℕ) → slice_get ts k ≡ Some t → P t) → AllToks P ts
each_tok P [] h = tt
each_tok P (t ∷ ts) h = (h t 0 refl, each_tok P ts (λ u k e. h u (suc k) e))

pub each_note : (N : Note → Type 0) (ns : List Note) → ((n : Note) (k : ℕ) → slice_get ns k ≡ Some n → N n) → AllNotes N ns
each_note N [] h = tt
each_note N (n ∷ ns) h = (h n 0 refl, each_note N ns (λ m k e. h m (suc k) e))

pub all_notes : (ns : List Note) → AllNotes (λ _. Unit {0}) ns
all_notes [] = tt
all_notes (n ∷ ns) = (tt, all_notes ns)

pub toks_more : (P Q : Token → Type 0) (ts : List Token) → AllToks P ts → ((t : Token) → P t → Q t) → AllToks Q ts
toks_more P Q [] h more = tt
toks_more P Q (t ∷ ts) h more = (more t h.0, toks_more P Q ts h.1 more)

pub toks_pass : (p : Token → Bool) (ts : List Token) → list_all p ts ≡ true → AllToks (λ t. p t ≡ true) ts
toks_pass p [] h = tt
toks_pass p (t ∷ ts) h = let both = and_parts (p t) (list_all p ts) h in (both.0, toks_pass p ts both.1)

pub pass_toks : (p : Token → Bool) (ts : List Token) → AllToks (λ t. p t ≡ true) ts → list_all p ts ≡ true
pass_toks p [] h = refl
pass_toks p (t ∷ ts) h = rw (h.0, pass_toks p ts h.1) refl

pub pass_notes : (p : Note → Bool) (ns : List Note) → AllNotes (λ n. p n ≡ true) ns → list_all p ns ≡ true
pass_notes p [] h = refl
pass_notes p (n ∷ ns) h = rw (h.0, pass_notes p ns h.1) refl
