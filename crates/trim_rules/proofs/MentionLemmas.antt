-- Where names are mentioned first and last, and whether that is outside an inclusion.
use Rattle.std.proofs.Common.{◌≡◌, ℕ, ◌+◌, ◌<◌, ◌≤◌, ◌&&◌, ◌||◌, not, Bool, true, false, cond, nat_le, nat_lt, List, [], ◌∷◌, ◌++◌, Option, Some, None, length, take, take_all, slice_get, refl, sym, ap, subst, ◌∙◌, inl, inr, arith}
use Rattle.std.specs.Prelude.{min, max}
use Rattle.std.specs.List.{list_any}
use Rattle.std.specs.Option.{option_map}
use Rattle.std.specs.Str.{bytes_eq}
use Rattle.std.specs.Cmp.Lexicographic.{bytes_decides}
use Rattle.std.proofs.lemmas.Bool.{cases_Bool}
use Rattle.std.proofs.lemmas.Grind.{common_steps}
use Rattle.std.proofs.lemmas.Bool.Decides.{nat_tests}
use Rattle.std.proofs.lemmas.Option.{same_Some, slice_get_within}
use Rattle.cs_base.specs.Token.{Token}
use Rattle.analysis.specs.Below.source_files.Files.{Table}
use Rattle.analysis.specs.Below.unit_steps.declared.events.Event.{Event}
use Rattle.analysis.specs.Below.unit_steps.declared.events.Reached.{Reached}
use Rattle.analysis.specs.Below.unit_steps.Texts.{UnitTextValue}
use Rattle.unused_names.specs.Inclusions.{end_of}
use Rattle.unused_names.specs.Unneeded.{gives_meaning, name_of}
use Rattle.trim_rules.specs.declared.mentions.Mention.{Mention}
use Rattle.trim_rules.specs.Inside.{is_outside, is_spelled, is_mentioned, toks_reached}
use Rattle.trim_rules.proofs.NumberLemmas.{less-or-not}
use Rattle.trim_rules.specs.Mentions.{widened, with_token, with_tokens, with_items, mention_of, is_outside_of, HasNames, Widens, AreMentions}

-- ---- one list behind another

pub with_tokens-append : (name : List ℕ) (e : ℕ) (m : Option Mention) (xs ys : List Token)
    → with_tokens name e m (xs ++ ys) ≡ with_tokens name e (with_tokens name e m xs) ys
unfolding with_tokens
with_tokens-append name e m [] ys = refl
with_tokens-append name e m (t ∷ xs) ys = with_tokens-append name e (with_token name e m t) xs ys

pub with_items-append : (table : Table) (name : List ℕ) (m : Option Mention) (xs ys : List Reached)
    → with_items table name m (xs ++ ys) ≡ with_items table name (with_items table name m xs) ys
unfolding with_items
with_items-append table name m [] ys = refl
with_items-append table name m (r ∷ xs) ys = with_items-append table name (with_tokens name r.events m (toks_reached table r)) xs ys

-- ---- what a map tells

-- what it tells behind one addition and another
pub widens-both : (f g : List ℕ → Option Mention → Option Mention) (old mid new : List ℕ → Option (Option Mention))
    → Widens f old mid → Widens g mid new → Widens (λ name m. g name (f name m)) old new
widens-both f g old mid new first later name =
    later name ∙ ap (option_map (g name)) (first name) ∙ mapped (old name)
  where
    mapped : (o : Option (Option Mention)) → option_map (g name) (option_map (f name) o) ≡ option_map (λ m. g name (f name m)) o
    mapped None = refl
    mapped (Some m) = refl

pub widens-as : (f g : List ℕ → Option Mention → Option Mention) (old new : List ℕ → Option (Option Mention))
    → ((name : List ℕ) (m : Option Mention) → f name m ≡ g name m) → Widens f old new → Widens g old new
widens-as f g old new same h name = h name ∙ mapped (old name)
  where
    mapped : (o : Option (Option Mention)) → option_map (f name) o ≡ option_map (g name) o
    mapped None = refl
    mapped (Some m) = ap (λ (n : Option Mention). Some n) (same name m)

-- nothing is added
pub widens-none : (old : List ℕ → Option (Option Mention)) → Widens (λ name m. m) old old
widens-none old name = kept (old name)
  where
    kept : (o : Option (Option Mention)) → o ≡ option_map (λ m. m) o
    kept None = refl
    kept (Some m) = refl

-- ---- the names that are looked for

module _ (events : List Event) (k : ℕ) (old : List ℕ → Option (Option Mention)) (e : Event) (at : slice_get events k ≡ Some e) where
  here : (i : ℕ) (f : Event) → k ≤ i → i < k + 1 → slice_get events i ≡ Some f → f ≡ e
  here i f more less found =
      let same : i ≡ k = omega (arith, more, less) in
      same_Some f e (sym found ∙ ap (slice_get events) same ∙ at)

  -- event k gives no name a meaning
  pub names-other : gives_meaning e.kind ≡ false → HasNames events k old → HasNames events (k + 1) old
  names-other not h = record {
    has = λ i f below found gives. elim (less-or-not i k) [
      | inl less ↦ h.has i f less.1 found gives
      | inr more ↦
          let same : f ≡ e = here i f more.1 below found in
          let gave : gives_meaning e.kind ≡ true = subst (λ (g : Event). gives_meaning g.kind ≡ true) same gives in
          absurd (cc)
    ];
    none = h.none;
  }

  -- it gives one to this name
  named-one : (new : List ℕ → Option (Option Mention)) → ((text : List ℕ) → new text ≡ cond (bytes_eq (name_of e) text) (Some None) (old text))
      → HasNames events k old → HasNames events (k + 1) new
  named-one new put h = record {
    has = λ i f below found gives. elim (cases_Bool (bytes_eq (name_of e) (name_of f))) [
      | inl same ↦ put (name_of f) ∙ ap (λ (b : Bool). cond b (Some None) (old (name_of f))) same
      | inr apart ↦ elim (less-or-not i k) [
        | inl less ↦ put (name_of f) ∙ ap (λ (b : Bool). cond b (Some None) (old (name_of f))) apart ∙ h.has i f less.1 found gives
        | inr more ↦
            let same : f ≡ e = here i f more.1 below found in
            let named : name_of e ≡ name_of f = ap name_of (sym same) in
            let passed : bytes_eq (name_of e) (name_of f) ≡ true = (bytes_decides (name_of e) (name_of f)).1 named in
            absurd (cc)
      ]
    ];
    none = λ text m told. elim (cases_Bool (bytes_eq (name_of e) text)) [
      | inl same ↦
          let is : new text ≡ Some None = put text ∙ ap (λ (b : Bool). cond b (Some None) (old text)) same in
          absurd (cc)
      | inr apart ↦ h.none text m (sym (put text ∙ ap (λ (b : Bool). cond b (Some None) (old text)) apart) ∙ told)
    ];
  }

  pub names-one : (new : List ℕ → Option (Option Mention)) (spelling : List ℕ) → spelling ≡ name_of e
      → ((text : List ℕ) → new text ≡ cond (bytes_eq spelling text) (Some None) (old text)) → HasNames events k old → HasNames events (k + 1) new
  names-one new spelling spelled put' h =
      named-one new (λ text. subst (λ (s : List ℕ). new text ≡ cond (bytes_eq s text) (Some None) (old text)) spelled (put' text)) h

pub names-begin : (events : List Event) (told : List ℕ → Option (Option Mention)) → ((text : List ℕ) → told text ≡ None) → HasNames events 0 told
names-begin events told empty = record {
  has = λ i f below found gives. absurd (omega (arith, below));
  none = λ text m is. let e = empty text in absurd (cc);
}

-- ---- one token

pub widens-token : (t : Token) (behind : ℕ) (m : Option Mention) (old new : List ℕ → Option (Option Mention)) → old t.text ≡ Some m
    → ((text : List ℕ) → new text ≡ cond (bytes_eq t.text text) (Some (Some (widened m behind))) (old text))
    → Widens (λ name n. with_token name behind n t) old new
widens-token t behind m old new had put name = elim (cases_Bool (bytes_eq t.text name)) [
  | inl same ↦
      let is : t.text ≡ name = (bytes_decides t.text name).0 same in
      let back : bytes_eq name t.text ≡ true = (bytes_decides name t.text).1 (sym is) in
      let held : old name ≡ Some m = ap old (sym is) ∙ had in
      put name ∙ ap (λ (b : Bool). cond b (Some (Some (widened m behind))) (old name)) same ∙ rw (held, back) refl
  | inr apart ↦
      let back : bytes_eq name t.text ≡ false = not_same name t.text apart in
      put name ∙ ap (λ (b : Bool). cond b (Some (Some (widened m behind))) (old name)) apart ∙ kept (old name) back
]
  where
    not_same : (x y : List ℕ) → bytes_eq y x ≡ false → bytes_eq x y ≡ false
    not_same x y h = elim (cases_Bool (bytes_eq x y)) [
      | inl same ↦
          let is : x ≡ y = (bytes_decides x y).0 same in
          let back : bytes_eq y x ≡ true = (bytes_decides y x).1 (sym is) in
          absurd (cc)
      | inr apart ↦ apart
    ]

    kept : (o : Option (Option Mention)) → bytes_eq name t.text ≡ false → o ≡ option_map (λ n. with_token name behind n t) o
    kept None differs = refl
    kept (Some n) differs = rw differs refl

-- the same as code has it
pub widens-at : (t : Token) (behind : ℕ) (m : Option Mention) (old new : List ℕ → Option (Option Mention)) (text : List ℕ) → text ≡ t.text
    → old text ≡ Some m → (one : Mention) → one ≡ widened m behind
    → ((name : List ℕ) → new name ≡ cond (bytes_eq text name) (Some (Some one)) (old name)) → Widens (λ name n. with_token name behind n t) old new
widens-at t behind m old new text spelled had one wide put =
    widens-token t behind m old new (ap old (sym spelled) ∙ had)
    (λ name.
    put name
    ∙ ap (λ (s : List ℕ). cond (bytes_eq s name) (Some (Some one)) (old name)) spelled
    ∙ ap (λ (w : Mention). cond (bytes_eq t.text name) (Some (Some w)) (old name)) wide)

-- a token whose spelling is not looked for
pub widens-other : (t : Token) (behind : ℕ) (old : List ℕ → Option (Option Mention)) → old t.text ≡ None → Widens (λ name n. with_token name behind n t) old old
widens-other t behind old none name = elim (cases_Bool (bytes_eq name t.text)) [
  | inl same ↦
      let is : name ≡ t.text = (bytes_decides name t.text).0 same in
      let gone : old name ≡ None = ap old is ∙ none in
      rw gone refl
  | inr apart ↦ kept (old name) apart
]
  where
    kept : (o : Option (Option Mention)) → bytes_eq name t.text ≡ false → o ≡ option_map (λ n. with_token name behind n t) o
    kept None differs = refl
    kept (Some n) differs = rw differs refl

-- ---- outside

module _ (k end : ℕ) where
  abbrev pub is_out : ℕ → Bool
  is_out e = nat_le e k || nat_lt end e

  out-both : (f l e : ℕ) → (nat_le (min f e) k || nat_lt end (max l e)) ≡ ((nat_le f k || nat_lt end l) || is_out e)
  out-both f l e = grind (arith, nat_tests)

  out-widened : (m : Option Mention) (e : ℕ) → is_outside_of k end (Some (widened m e)) ≡ (is_outside_of k end m || is_out e)
  out-widened None e = refl
  out-widened (Some m) e = out-both m.first m.last e

  spelled-more : (a s o : Bool) → ((a || o) || (s && o)) ≡ (a || (true && o))
  spelled-more true s o = refl
  spelled-more false s true = refl
  spelled-more false true false = refl
  spelled-more false false false = refl

  or-none : (a : Bool) → a ≡ (a || false)
  or-none true = refl
  or-none false = refl

  pub out-tokens : (name : List ℕ) (e : ℕ) (m : Option Mention) (toks : List Token)
      → is_outside_of k end (with_tokens name e m toks) ≡ (is_outside_of k end m || (is_spelled name toks && is_out e))
  unfolding with_tokens
  out-tokens name e m [] = or-none (is_outside_of k end m)
  out-tokens name e m (t ∷ toks) = elim (cases_Bool (bytes_eq name t.text)) [
    | inl same ↦
        let rest = out-tokens name e (Some (widened m e)) toks in
        let first : ((is_outside_of k end m || is_out e) || (is_spelled name toks && is_out e)) ≡ (is_outside_of k end m || (true && is_out e)) =
        spelled-more (is_outside_of k end m) (is_spelled name toks) (is_out e) in
        rw same (rest ∙ ap (λ (b : Bool). b || (is_spelled name toks && is_out e)) (out-widened m e) ∙ first)
    | inr apart ↦ rw apart (out-tokens name e m toks)
  ]

  or-three : (a b c : Bool) → ((a || b) || c) ≡ (a || (b || c))
  or-three true b c = refl
  or-three false b c = refl

  and-swap : (a b : Bool) → (a && b) ≡ (b && a)
  and-swap true true = refl
  and-swap true false = refl
  and-swap false true = refl
  and-swap false false = refl

  pub out-items : (table : Table) (name : List ℕ) (m : Option Mention) (rs : List Reached)
      → is_outside_of k end (with_items table name m rs)
      ≡ (is_outside_of k end m || list_any (λ (r : Reached). is_out r.events && is_spelled name (toks_reached table r)) rs)
  unfolding with_items
  out-items table name m [] = or-none (is_outside_of k end m)
  out-items table name m (r ∷ rs) =
      let toks = toks_reached table r in
      let more = list_any (λ (r : Reached). is_out r.events && is_spelled name (toks_reached table r)) rs in
      out-items table name (with_tokens name r.events m toks) rs
      ∙ ap (λ (b : Bool). b || more) (out-tokens name r.events m toks)
      ∙ or-three (is_outside_of k end m) (is_spelled name toks && is_out r.events) more
      ∙ ap (λ (b : Bool). is_outside_of k end m || (b || more)) (and-swap (is_spelled name toks) (is_out r.events))

  -- what is pasted is outside
  out-pasted : (name : List ℕ) (toks : List Token) → is_outside_of k end (with_tokens name 0 None toks) ≡ is_spelled name toks
  out-pasted name toks =
      let zero_out : is_out 0 ≡ true = grind (arith, nat_tests) in
      out-tokens name 0 None toks ∙ ap (λ (b : Bool). is_spelled name toks && b) zero_out ∙ and-true (is_spelled name toks)
    where
      and-true : (a : Bool) → (a && true) ≡ a
      and-true true = refl
      and-true false = refl

-- Some mention of a name is outside where the definition says so.
pub mention-outside : (table : Table) (text : UnitTextValue) (k : ℕ) (name : List ℕ)
    → is_outside_of k (end_of text.events k) (mention_of table text name) ≡ is_mentioned table text k name
mention-outside table text k name =
    let end = end_of text.events k in
    out-items k end table name (with_tokens name 0 None text.pasted) text.reached
    ∙ ap (λ (b : Bool). b || list_any (λ (r : Reached). is_out k end r.events && is_spelled name (toks_reached table r)) text.reached)
    (out-pasted k end name text.pasted)

-- ---- all of a unit

module _ (table : Table) (text : UnitTextValue) (named mid all : List ℕ → Option (Option Mention)) where
  pub mentions-all : HasNames text.events (length text.events) named → Widens (λ name m. with_tokens name 0 m text.pasted) named mid
      → Widens (λ name m. with_items table name m text.reached) mid all → AreMentions table text all
  mentions-all names pasted reached = record {
    each = λ i e at gives.
        let within : i < length text.events = slice_get_within text.events i e at in
        let had : named (name_of e) ≡ Some None = names.has i e within at gives in
        let first : mid (name_of e) ≡ Some (with_tokens (name_of e) 0 None text.pasted) =
        pasted (name_of e) ∙ ap (option_map (λ m. with_tokens (name_of e) 0 m text.pasted)) had in
        reached (name_of e) ∙ ap (option_map (λ m. with_items table (name_of e) m text.reached)) first;
  }

-- ---- as loops go

module _ (behind : ℕ) (toks : List Token) where
  pub tokens-begin : (old : List ℕ → Option (Option Mention)) → Widens (λ name m. with_tokens name behind m (take 0 toks)) old old
  unfolding with_tokens
  tokens-begin old = widens-none old

  pub tokens-next : (k : ℕ) (t : Token) (old mid new : List ℕ → Option (Option Mention)) → take (k + 1) toks ≡ take k toks ++ t ∷ []
      → Widens (λ name m. with_tokens name behind m (take k toks)) old mid → Widens (λ name m. with_token name behind m t) mid new
      → Widens (λ name m. with_tokens name behind m (take (k + 1) toks)) old new
  unfolding with_tokens
  tokens-next k t old mid new more before here =
      widens-as (λ name m. with_token name behind (with_tokens name behind m (take k toks)) t) (λ name m. with_tokens name behind m (take (k + 1) toks)) old new
      (λ name m. sym (ap (with_tokens name behind m) more ∙ with_tokens-append name behind m (take k toks) (t ∷ [])))
      (widens-both (λ name m. with_tokens name behind m (take k toks)) (λ name m. with_token name behind m t) old mid new before here)

  pub tokens-all : (k : ℕ) (old now : List ℕ → Option (Option Mention)) → length toks ≤ k
      → Widens (λ name m. with_tokens name behind m (take k toks)) old now → Widens (λ name m. with_tokens name behind m toks) old now
  tokens-all k old now past h =
      let all : take k toks ≡ toks = take_all k toks past in
      subst (λ (ts : List Token). Widens (λ name m. with_tokens name behind m ts) old now) all h

module _ (table : Table) (rs : List Reached) where
  pub items-begin : (old : List ℕ → Option (Option Mention)) → Widens (λ name m. with_items table name m (take 0 rs)) old old
  unfolding with_items
  items-begin old = widens-none old

  pub items-next : (k : ℕ) (r : Reached) (old mid new : List ℕ → Option (Option Mention)) → take (k + 1) rs ≡ take k rs ++ r ∷ []
      → Widens (λ name m. with_items table name m (take k rs)) old mid → Widens (λ name m. with_tokens name r.events m (toks_reached table r)) mid new
      → Widens (λ name m. with_items table name m (take (k + 1) rs)) old new
  unfolding with_items
  items-next k r old mid new more before here =
      widens-as (λ name m. with_tokens name r.events (with_items table name m (take k rs)) (toks_reached table r)) (λ name m. with_items table name m (take (k + 1) rs)) old new
      (λ name m. sym (ap (with_items table name m) more ∙ with_items-append table name m (take k rs) (r ∷ [])))
      (widens-both (λ name m. with_items table name m (take k rs)) (λ name m. with_tokens name r.events m (toks_reached table r)) old mid new before here)

  pub items-all : (k : ℕ) (old now : List ℕ → Option (Option Mention)) → length rs ≤ k
      → Widens (λ name m. with_items table name m (take k rs)) old now → Widens (λ name m. with_items table name m rs) old now
  items-all k old now past h =
      let all : take k rs ≡ rs = take_all k rs past in
      subst (λ (ts : List Reached). Widens (λ name m. with_items table name m ts) old now) all h
