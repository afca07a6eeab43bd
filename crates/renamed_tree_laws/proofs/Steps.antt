-- What is so of a step of reading that does not stop.
use Rattle.std.proofs.Common.{ℕ, ◌+◌, ◌≡◌, Bool, true, false, ◌&&◌, if◌then◌else◌, List, length, Ok, Err, nat_lt, ◌==◌, eqb-true, refl, sym, ap, ◌∙◌}
use Rattle.std.proofs.lemmas.Bool.{false≢true}
use Rattle.c99_grammar.specs.declared.dialects.Dialect.{Dialect}
use Rattle.cs_base.specs.Token.{Token}
use Rattle.c99_tree.specs.Tree.{leaf, put}
use Rattle.c99_tree.specs.declared.production.Production.{Production}
use Rattle.c99_grammar.specs.Classes.{among}
use Rattle.c99_grammar.specs.Standard.{grammar}
use Rattle.c99_read.specs.State.{State, Names, base_at, is_identifier, is_typedef_at, class_at, is_declarator, with_head, head_closed, names_opened, names_closed, opened, closed}
use Rattle.c99_read.specs.Reading.{Stop, syntax, too_deep, Step, and_then, take_one, at_end, enter}
use Rattle.c99_read.proofs.ReadLemmas.{opened_text as opened_toks}
use Rattle.renamed_tree_laws.specs.Respelled.{Declaration}
use Rattle.renamed_tree_laws.proofs.Private.{Class, typedef_name}

abbrev is_going : Step → Bool
is_going (Ok s) = true
is_going (Err stop) = false

abbrev state_of : State → Step → State
state_of s (Ok s') = s'
state_of s (Err stop) = s

pub stopped : (stop : Stop) (s : State) → Err stop ≡ Ok s → ⊥
stopped stop s e = false≢true (ap is_going e)

abbrev pub going : State → Step
going s = Ok s

pub ok_is : (s s' : State) → going s ≡ going s' → s ≡ s'
ok_is s s' e = ap (state_of s) e

-- the state between two steps
pub record Between (r : Step) (f : State → Step) (s' : State) : Type 0 where
  pub state : State
  pub first : r ≡ Ok state
  pub second : f state ≡ Ok s'

pub between : (r : Step) (f : State → Step) (s' : State) → and_then r f ≡ Ok s' → Between r f s'
between (Ok s) f s' e = record { state = s; first = refl; second = e }
between (Err stop) f s' e = absurd (stopped stop s' e)

pub then_is : (r : Step) (f : State → Step) (s : State) (r' : Step) → r ≡ Ok s → f s ≡ r' → and_then r f ≡ r'
then_is r f s r' e h = ap (λ x. and_then x f) e ∙ h

-- one of two branches was taken
pub branch : {P : Type 0} (c : Bool) (r r' : Step) (q q' : Bool) (s' : State)
    → (c ≡ true → r ≡ Ok s' → q ≡ true → P) → (c ≡ false → r' ≡ Ok s' → q' ≡ true → P)
    → (if c then r else r') ≡ Ok s' → (if c then q else q') ≡ true → P
branch true r r' q q' s' f g e h = f refl e h
branch false r r' q q' s' f g e h = g refl e h

pub if_yes : (c : Bool) (r r' : Step) → c ≡ true → (if c then r else r') ≡ r
if_yes c r r' e = ap (λ x. if x then r else r') e

pub if_no : (c : Bool) (r r' : Step) → c ≡ false → (if c then r else r') ≡ r'
if_no c r r' e = ap (λ x. if x then r else r') e

-- .. and the same one of two others
pub branches : (c c' : Bool) (r r' u u' : Step) (q q' : Bool) (s' : State) (t : Step) → c' ≡ c
    → (r ≡ Ok s' → q ≡ true → u ≡ t) → (c ≡ false → r' ≡ Ok s' → q' ≡ true → u' ≡ t)
    → (if c then r else r') ≡ Ok s' → (if c then q else q') ≡ true → (if c' then u else u') ≡ t
branches true c' r r' u u' q q' s' t same f g e h = if_yes c' u u' same ∙ f e h
branches false c' r r' u u' q q' s' t same f g e h = if_no c' u u' same ∙ g refl e h

-- the next token becomes a child of the open node
abbrev pub with_token : State → State
with_token s = record s { at = s.at + 1; built = record s.built { under = put s.built.under (leaf s.at) } }

pub record Ends (s s' : State) : Type 0 where
  pub last : s.at ≡ length s.toks
  pub new : s ≡ s'

pub ends : (s s' : State) → at_end s ≡ Ok s' → Ends s s'
unfolding at_end
ends s s' e = by (s.at == length s.toks) refl e
  where
    by : (c : Bool) → (s.at == length s.toks) ≡ c → (if c then Ok s else Err (syntax s.at)) ≡ Ok s' → Ends s s'
    by true h m = record { last = eqb-true _ _ h; new = ok_is _ _ m }
    by false h m = absurd (stopped _ _ m)

pub record Enters (depth : ℕ) (started : Bool) (s s' : State) : Type 0 where
  pub starts : started ≡ true
  pub within : nat_lt depth 256 ≡ true
  pub new : s ≡ s'

pub enters : (depth : ℕ) (started : Bool) (s s' : State) → enter depth started s ≡ Ok s' → Enters depth started s s'
unfolding enter
enters depth started s s' e = by started (nat_lt depth 256) refl refl e
  where
    by : (c d : Bool) → started ≡ c → nat_lt depth 256 ≡ d
        → (if c then (if d then Ok s else Err (too_deep s.at)) else Err (syntax s.at)) ≡ Ok s' → Enters depth started s s'
    by true true h k m = record { starts = h; within = k; new = ok_is _ _ m }
    by true false h k m = absurd (stopped _ _ m)
    by false d h k m = absurd (stopped _ _ m)

-- opening and closing a node leaves the scopes
opened_names : (p : Production) (names : Names) → (names_opened p names).scopes ≡ names.scopes
opened_names p names = by (is_declarator p)
  where
    by : (c : Bool) → (if c then with_head names else names).scopes ≡ names.scopes
    by true = refl
    by false = refl

pub opened_scopes : (p : Production) (n : ℕ) (s : State) → (opened p n s).names.scopes ≡ s.names.scopes
unfolding opened
opened_scopes p n s = opened_names p s.names

pub opened_at : (p : Production) (n : ℕ) (s : State) → (opened p n s).at ≡ s.at
unfolding opened
opened_at p n s = refl

closed_names : (p : Production) (names : Names) → (names_closed p names).scopes ≡ names.scopes
closed_names p names = by (is_declarator p)
  where
    by : (c : Bool) → (if c then head_closed names else names).scopes ≡ names.scopes
    by true = refl
    by false = refl

pub closed_scopes : (p : Production) (outer s : State) → (closed p outer s).names.scopes ≡ s.names.scopes
unfolding closed
closed_scopes p outer s = closed_names p s.names

pub closed_at : (p : Production) (outer s : State) → (closed p outer s).at ≡ s.at
unfolding closed
closed_at p outer s = refl

module _ (std : Dialect) where
  pub record Takes (L : List Class) (s s' : State) : Type 0 where
    pub within : nat_lt s.at (length s.toks) ≡ true
    pub here : among L (class_at (grammar std) s s.at) ≡ true
    pub new : with_token s ≡ s'

  pub takes : (L : List Class) (s s' : State) → take_one (grammar std) L s ≡ Ok s' → Takes L s s'
  unfolding take_one
  takes L s s' e = by (nat_lt s.at (length s.toks)) (among L (class_at (grammar std) s s.at)) refl refl e
    where
      by : (c d : Bool) → nat_lt s.at (length s.toks) ≡ c → among L (class_at (grammar std) s s.at) ≡ d
          → (if c && d then Ok (with_token s) else Err (syntax s.at)) ≡ Ok s' → Takes L s s'
      by true true h k m = record { within = h; here = k; new = ok_is _ _ m }
      by true false h k m = absurd (stopped _ _ m)
      by false d h k m = absurd (stopped _ _ m)

  class_in : List Token → List (List Declaration) → ℕ → Class
  class_in toks scopes k = if is_identifier (base_at (grammar std) toks k) && is_typedef_at toks scopes k then typedef_name else base_at (grammar std) toks k

  class_is : (s : State) (k : ℕ) → class_at (grammar std) s k ≡ class_in s.toks s.names.scopes k
  unfolding class_at class_in
  class_is s k = refl

  pub opened_class : (p : Production) (n : ℕ) (s : State) (k : ℕ) → class_at (grammar std) (opened p n s) k ≡ class_at (grammar std) s k
  opened_class p n s k =
      class_is (opened p n s) k
      ∙ (ap (λ t. class_in t (opened p n s).names.scopes k) (opened_toks p n s)
      ∙ (ap (λ sc. class_in s.toks sc k) (opened_scopes p n s) ∙ sym (class_is s k)))
