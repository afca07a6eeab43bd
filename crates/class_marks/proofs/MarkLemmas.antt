-- Marks on classes, set one after another, and what they say in the end.
use Rattle.std.proofs.Common.{◌≡◌, ℕ, zero, suc, ◌+◌, ◌-◌, ◌<◌, ◌≤◌, Bool, true, false, ◌||◌, List, [], ◌∷◌, ◌++◌, Option, Some, None, length, get_or, take, drop, slice_get, refl, sym, ap, ◌∙◌, ⊎_elim, arith}
use Rattle.std.specs.Prelude.{◌==◌, if◌then◌else◌, replicate, slice_index_or}
use Rattle.std.specs.List.{fold, flat_map, list_any}
use Rattle.std.specs.Option.{IfSome, option_map, option_map_or, option_and_then}
use Rattle.std.proofs.Math.Bool.{or_assoc, or-false, or-true}
use Rattle.std.proofs.lemmas.Bool.{cases_eq, eq-eqb, false≢true, ne_eqb}
use Rattle.std.proofs.lemmas.Grind.{fold-append, flat_map-append}
use Rattle.std.proofs.lemmas.List.{append-nil, at_drop_more, at_drop_all, length-set, get_or-set_same, get_or-set_other, set-set, take_more}
use Rattle.std.proofs.lemmas.Option.{slice_get_within, slice_get-get_or, get_or_from_slice_get}
use Rattle.cs_base.specs.declared.positions.Pos.{Pos}
use Rattle.cs_base.specs.declared.positions.Part.{Part}
use Rattle.cs_base.specs.Token.{Token, origin_at}
use Rattle.eclass_map.specs.declared.class_table.FoundPart.{FoundPart}
use Rattle.eclass_map.specs.ClassTable.{Table, Spot, HasParts, class_in, label, part_from, part_of}
use Rattle.eclass_map.specs.Positions.{holds}
use Rattle.eclass_map.proofs.TokenFacts.{holding, along_of}
use Rattle.eclass_map.proofs.PartLaws.{class_in_is}
use Rattle.analysis.specs.Below.scope_bind.declared.bound.Name.{Name}
use Rattle.class_marks.specs.declared.roles.Role.{Role}
use Rattle.class_marks.specs.Marks.{class_at, is_within, IsMarkedPart, mark_class, with_character, with_token, with_tokens, is_class, touches, AreMarked}
use Rattle.class_marks.specs.Roles.{token_has, tokens_with}

-- ---- one class

class-marked : (marks : List Bool) (d c : ℕ) → c < length marks → get_or (mark_class marks d) c false ≡ (get_or marks c false || (d == c))
class-marked marks d c within =
    ⊎_elim
    (λ (e : d ≡ c). rw (e, get_or-set_same marks c true false within, eq-eqb c c refl) (sym (or-true (get_or marks c false))))
    (λ (ne : d ≡ c → ⊥). rw (get_or-set_other marks d c true false (λ q. ne (sym q)), ne_eqb d c ne) (sym (or-false (get_or marks c false))))
    (cases_eq d c)

-- a class that was just marked is marked
pub marked_again : (marks : List Bool) (c : ℕ) → mark_class (mark_class marks c) c ≡ mark_class marks c
marked_again marks c = set-set marks c true true

-- ---- the part of a character, and its class

pub found_class : (t : Table) (p : Pos) (r : Option FoundPart) → option_map (λ (f : FoundPart). f.part) r ≡ part_of t p
    → IfSome r (λ f. class_in t f.part ≡ Some f.class) → option_map (λ (f : FoundPart). f.class) r ≡ class_at t (Some p)
found_class t p None same class = ap (option_and_then (class_in t)) same
found_class t p (Some f) same class = sym class ∙ ap (option_and_then (class_in t)) same

pub found_parts : (t : Table) (r : Option FoundPart) → HasParts t → IfSome r (λ f. class_in t f.part ≡ Some f.class)
    → IfSome r (λ f. HasParts t × (class_in t f.part ≡ Some f.class))
found_parts t None parts class = tt
found_parts t (Some f) parts class = (parts, class)

-- ---- characters of one part

-- each character of a part has its class
pub within_class : (t : Table) (part : Part) (c : ℕ) (p : Pos) → HasParts t → class_in t part ≡ Some c → holds part p ≡ true → class_at t (Some p) ≡ Some c
within_class t part c p parts class held =
    let h = holding part p held in
    let o = p.at - part.start.at in
    let from = h.from in
    let begin : p.at - o ≡ part.start.at = omega (arith, from) in
    let len = (class_in_is t part c class).len in
    let file = sym h.file in
    let there : label t p ≡ Some (record { class = c; offset = o }) = ap (label t) (sym (along_of part p h)) ∙ parts.spots part c o class h.less in
    let same : part_from t p (record { class = c; offset = o }) ≡ part = λ i. record { start = record { file = file i; at = begin i }; len = len i } in
    ap (λ (l : Option Spot). option_and_then (class_in t) (option_map (part_from t p) l)) there ∙ ap (class_in t) same ∙ class

-- so where it is marked, nothing is left to be marked
pub marked_within : (t : Table) (marks : List Bool) (part : Option Part) (origin : Option Pos) → IfSome part (IsMarkedPart t marks) → is_within part origin ≡ true
    → marks ≡ with_character t marks origin
marked_within t marks None origin known within = absurd (false≢true within)
marked_within t marks (Some part) None known within = absurd (false≢true within)
marked_within t marks (Some part) (Some p) known within =
    sym (ap (λ (found : Option ℕ). option_map_or (mark_class marks) found marks) (within_class t part known.1 p known.0 known.2 within) ∙ known.3)

module _ (classes : Table) where
  -- ---- one character

  found-marked : (marks : List Bool) (found : Option ℕ) (c : ℕ) → c < length marks
      → get_or (option_map_or (mark_class marks) found marks) c false ≡ (get_or marks c false || is_class c found)
  found-marked marks None c within = sym (or-false (get_or marks c false))
  found-marked marks (Some d) c within = class-marked marks d c within

  found-long : (marks : List Bool) (found : Option ℕ) → length (option_map_or (mark_class marks) found marks) ≡ length marks
  found-long marks None = refl
  found-long marks (Some d) = length-set marks d true

  -- ---- the characters of a token

  characters-long : (os : List (Option Pos)) (marks : List Bool) → length (fold (with_character classes) marks os) ≡ length marks
  characters-long [] marks = refl
  characters-long (o ∷ os) marks = characters-long os (with_character classes marks o) ∙ found-long marks (class_at classes o)

  characters-marked : (os : List (Option Pos)) (marks : List Bool) (c : ℕ) → c < length marks
      → get_or (fold (with_character classes) marks os) c false ≡ (get_or marks c false || list_any (λ o. is_class c (class_at classes o)) os)
  characters-marked [] marks c within = sym (or-false (get_or marks c false))
  characters-marked (o ∷ os) marks c within =
      let within' : c < length (with_character classes marks o) = rw (found-long marks (class_at classes o)) within in
      characters-marked os (with_character classes marks o) c within'
      ∙ ap (λ (b : Bool). b || list_any (λ o. is_class c (class_at classes o)) os) (found-marked marks (class_at classes o) c within)
      ∙ or_assoc (get_or marks c false) (is_class c (class_at classes o)) (list_any (λ o. is_class c (class_at classes o)) os)

  -- ---- tokens

  tokens-long : (toks : List Token) (marks : List Bool) → length (with_tokens classes marks toks) ≡ length marks
  tokens-long [] marks = refl
  tokens-long (t ∷ toks) marks = tokens-long toks (with_token classes marks t) ∙ characters-long t.origins marks

  tokens-marked : (toks : List Token) (marks : List Bool) (c : ℕ) → c < length marks
      → get_or (with_tokens classes marks toks) c false ≡ (get_or marks c false || list_any (touches classes c) toks)
  tokens-marked [] marks c within = sym (or-false (get_or marks c false))
  tokens-marked (t ∷ toks) marks c within =
      let within' : c < length (with_token classes marks t) = rw (characters-long t.origins marks) within in
      tokens-marked toks (with_token classes marks t) c within'
      ∙ ap (λ (b : Bool). b || list_any (touches classes c) toks) (characters-marked t.origins marks c within)
      ∙ or_assoc (get_or marks c false) (touches classes c t) (list_any (touches classes c) toks)

  -- marks that begin blank
  pub are_marked : (blank : List Bool) (toks : List Token) (marks : List Bool) → ((c : ℕ) → slice_index_or blank c false ≡ false)
      → ((part : Part) (c : ℕ) → class_in classes part ≡ Some c → c < length blank) → marks ≡ with_tokens classes blank toks → AreMarked classes toks marks
  are_marked blank toks marks none enough is =
      let long : length marks ≡ length blank = ap length is ∙ tokens-long toks blank in
      record {
        enough = λ part c at. rw long (enough part c at);
        each = λ c within.
            let below : c < length blank = rw (← long) within in
            ap (λ (ms : List Bool). get_or ms c false) is
            ∙ tokens-marked toks blank c below
            ∙ ap (λ (b : Bool). b || list_any (touches classes c) toks) (none c);
      }

  -- ---- lists that are gone through

  pub tokens_step : (role : Role) (names : List Name) (toks : List Token) (k : ℕ) (t : Token) (old new whole : List Bool) → k < length toks
      → t ≡ get_or toks k t → new ≡ with_tokens classes old (if token_has role names k then t ∷ [] else [])
      → with_tokens classes old (tokens_with role names k (drop k toks)) ≡ whole
      → with_tokens classes new (tokens_with role names (k + 1) (drop (k + 1) toks)) ≡ whole
  unfolding tokens_with
  tokens_step role names toks k t old new whole within is step rest =
      let here : List Token = (if token_has role names k then t ∷ [] else []) in
      let later : List Token = tokens_with role names (k + 1) (drop (k + 1) toks) in
      let next : tokens_with role names k (drop k toks) ≡ here ++ later =
      at_drop_more (tokens_with role names k) toks k t within
      ∙ ap (λ (x : Token). (if token_has role names k then x ∷ [] else []) ++ later) (sym is) in
      ap (λ (ms : List Bool). with_tokens classes ms later) step
      ∙ sym (fold-append (with_token classes) old here later)
      ∙ ap (with_tokens classes old) (sym next)
      ∙ rest

  pub tokens_end : (role : Role) (names : List Name) (toks : List Token) (k : ℕ) (marks whole : List Bool) → length toks ≤ k
      → with_tokens classes marks (tokens_with role names k (drop k toks)) ≡ whole → marks ≡ whole
  unfolding tokens_with
  tokens_end role names toks k marks whole past rest =
      let none : tokens_with role names k (drop k toks) ≡ [] = at_drop_all (tokens_with role names k) toks k past in
      sym (ap (with_tokens classes marks) none) ∙ rest

  -- one element of a list more, whose tokens are these
  pub list_step : {X : Type 0} (f : X → List Token) (xs : List X) (k : ℕ) (x : X) (old now new : List Bool) → slice_get xs k ≡ Some x
      → now ≡ with_tokens classes old (flat_map f (take k xs)) → new ≡ with_tokens classes now (f x)
      → new ≡ with_tokens classes old (flat_map f (take (k + 1) xs))
  list_step {X = X} f xs k x old now new at before here =
      let within : k < length xs = slice_get_within xs k x at in
      let more : take (k + 1) xs ≡ take k xs ++ x ∷ [] =
      take_more xs k x within ∙ ap (λ (y : X). take k xs ++ y ∷ []) (get_or_from_slice_get xs k x x at) in
      let all : flat_map f (take (k + 1) xs) ≡ flat_map f (take k xs) ++ f x =
      ap (flat_map f) more ∙ flat_map-append f (take k xs) (x ∷ []) ∙ ap (λ (ts : List Token). flat_map f (take k xs) ++ ts) (append-nil (f x)) in
      here
      ∙ ap (λ (ms : List Bool). with_tokens classes ms (f x)) before
      ∙ sym (fold-append (with_token classes) old (flat_map f (take k xs)) (f x))
      ∙ ap (with_tokens classes old) (sym all)

  -- one character of a token more
  pub origin_step : (t : Token) (k : ℕ) (old now new : List Bool) → k < length t.origins
      → now ≡ fold (with_character classes) old (take k t.origins) → new ≡ with_character classes now (origin_at t k)
      → new ≡ fold (with_character classes) old (take (k + 1) t.origins)
  origin_step t k old now new within before here =
      let none : Option Pos = None in
      let more : take (k + 1) t.origins ≡ take k t.origins ++ get_or t.origins k none ∷ [] = take_more t.origins k none within in
      let at : origin_at t k ≡ get_or t.origins k none =
      ap (option_and_then (λ (o : Option Pos). o)) (slice_get-get_or t.origins k none within) in
      here
      ∙ ap (with_character classes now) at
      ∙ ap (λ (ms : List Bool). with_character classes ms (get_or t.origins k none)) before
      ∙ sym (fold-append (with_character classes) old (take k t.origins) (get_or t.origins k none ∷ []))
      ∙ ap (fold (with_character classes) old) (sym more)

  pub both_lists : (xs ys : List Token) (old now new : List Bool) → now ≡ with_tokens classes old xs → new ≡ with_tokens classes now ys
      → new ≡ with_tokens classes old (xs ++ ys)
  both_lists xs ys old now new before here =
      here ∙ ap (λ (ms : List Bool). with_tokens classes ms ys) before ∙ sym (fold-append (with_token classes) old xs ys)

pub blank_at : (n c : ℕ) → get_or (replicate n false) c false ≡ false
blank_at zero c = refl
blank_at (suc n) zero = refl
blank_at (suc n) (suc c) = blank_at n c
