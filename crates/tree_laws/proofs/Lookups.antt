-- Look-ups in a list of declarations, before and after a renaming.
use Rattle.std.proofs.Common.{ℕ, ◌≡◌, Bool, true, false, ◌&&◌, cond, List, [], ◌∷◌, Option, None, Some, ◌⊎◌, inl, inr, refl, sym, subst, ◌∙◌}
use Rattle.std.specs.Prelude.{find, IfSome}
use Rattle.std.specs.List.{list_any}
use Rattle.std.proofs.lemmas.Slice.Eq.{bytes_eq-Decides}
use Rattle.std.proofs.lemmas.Bool.{and_parts, and_from, or_parts, or_from, false≢true}
use Rattle.cs_base.specs.Token.{Token}
use Rattle.scope_bind.specs.Named.{Space, Declaration}
use Rattle.c_types.specs.Declarations.{is_space, Facts, spelling_at, alike, is_named, looked_up}
use Rattle.tree_laws.specs.RenamedNames.{StaysApart}
use Rattle.tree_laws.proofs.Unnamed.{is_unnamed, found_named}

-- ---- Tests

-- what follows from a test that fails where another one holds
pub not_true : (q p : Bool) → (q ≡ true → p ≡ true) → p ≡ false → q ≡ false
not_true true p sub e = absurd (false≢true (sym e ∙ sub refl))
not_true false p sub e = refl

-- ---- Lists

abbrev pub In : {X : Type 0} → X → List X → Type 0
In x [] = ⊥
In x (y ∷ ys) = (y ≡ x) ⊎ In x ys

find_step : {X : Type 0} (q p : Bool) (x : X) (fq fp r : Option X) → (q ≡ true → p ≡ true) → cond p (Some x) fp ≡ r
    → (r ≡ Some x → q ≡ true) → (fp ≡ r → fq ≡ r) → cond q (Some x) fq ≡ r
find_step true true x fq fp r sub e hit rest = e
find_step true false x fq fp r sub e hit rest = absurd (false≢true (sub refl))
find_step false true x fq fp r sub e hit rest = absurd (false≢true (hit (sym e)))
find_step false false x fq fp r sub e hit rest = rest e

-- a stronger test finds the same where what is found passes it
pub find_same : {X : Type 0} (q p : X → Bool) (xs : List X) (r : Option X) → ((x : X) → In x xs → q x ≡ true → p x ≡ true) → find p xs ≡ r
    → IfSome r (λ x. q x ≡ true) → find q xs ≡ r
find_same q p [] r sub e passes = e
find_same {X} q p (x ∷ xs) r sub e passes =
    find_step (q x) (p x) x (find q xs) (find p xs) r (sub x (inl refl)) e
    (λ f. let P : Option X → Type 0 = λ o. IfSome o (λ y. q y ≡ true) in subst P f passes)
    (λ f. find_same q p xs r (λ y w. sub y (inr w)) f passes)

pub found_step : {X : Type 0} (p : X → Bool) (b : Bool) (x y : X) (fp : Option X) → p x ≡ b → cond b (Some x) fp ≡ Some y
    → (fp ≡ Some y → p y ≡ true) → p y ≡ true
found_step p true x y fp e f rest = let s : x ≡ y = cc in subst (λ z. p z ≡ true) s e
found_step p false x y fp e f rest = rest f

-- what is found passes
pub found_passes : {X : Type 0} (p : X → Bool) (xs : List X) (y : X) → find p xs ≡ Some y → p y ≡ true
found_passes p [] y f = cc
found_passes p (x ∷ xs) y f = found_step p (p x) x y (find p xs) refl f (found_passes p xs y)

in_step : {X : Type 0} (b : Bool) (x y : X) (fp : Option X) (xs : List X) → cond b (Some x) fp ≡ Some y → (fp ≡ Some y → In y xs) → In y (x ∷ xs)
in_step true x y fp xs f rest = inl cc
in_step false x y fp xs f rest = inr (rest f)

-- .. and is one of the list
pub found_in : {X : Type 0} (p : X → Bool) (xs : List X) (y : X) → find p xs ≡ Some y → In y xs
found_in p [] y f = absurd cc
found_in p (x ∷ xs) y f = in_step (p x) x y (find p xs) xs f (found_in p xs y)

none_step : {X : Type 0} (p : X → Bool) (b : Bool) (x y : X) (fp : Option X) (xs : List X) → p x ≡ b → cond b (Some x) fp ≡ None
    → (fp ≡ None → In y xs → p y ≡ false) → In y (x ∷ xs) → p y ≡ false
none_step p true x y fp xs e f rest within = absurd cc
none_step p false x y fp xs e f rest (inl s) = subst (λ z. p z ≡ false) s e
none_step p false x y fp xs e f rest (inr within) = rest f within

-- where nothing is found, none passes
pub none_passes : {X : Type 0} (p : X → Bool) (xs : List X) (y : X) → find p xs ≡ None → In y xs → p y ≡ false
none_passes p [] y f within = absurd within
none_passes p (x ∷ xs) y f within = none_step p (p x) x y (find p xs) xs refl f (none_passes p xs y) within

-- a stronger test holds of none where a weaker one does
pub any_same : {X : Type 0} (q p : X → Bool) (xs : List X) → ((x : X) → In x xs → q x ≡ true → p x ≡ true) → list_any p xs ≡ false → list_any q xs ≡ false
any_same q p [] sub e = e
any_same q p (x ∷ xs) sub e =
    or_from (q x) (list_any q xs) (not_true (q x) (p x) (sub x (inl refl)) ((or_parts (p x) (list_any p xs) e).0))
    (any_same q p xs (λ y w. sub y (inr w)) ((or_parts (p x) (list_any p xs) e).1))

any_in_step : {X : Type 0} (p : X → Bool) (x y : X) (xs : List X) → p x ≡ false → (In y xs → p y ≡ false) → In y (x ∷ xs) → p y ≡ false
any_in_step p x y xs e rest (inl s) = subst (λ z. p z ≡ false) s e
any_in_step p x y xs e rest (inr within) = rest within

pub any_none : {X : Type 0} (p : X → Bool) (xs : List X) (y : X) → list_any p xs ≡ false → In y xs → p y ≡ false
any_none p [] y e within = absurd within
any_none p (x ∷ xs) y e within =
    any_in_step p x y xs ((or_parts (p x) (list_any p xs) e).0) (any_none p xs y ((or_parts (p x) (list_any p xs) e).1)) within

-- ---- Spellings

pub alike_same : (toks : List Token) (i j k : ℕ) → alike toks i k ≡ true → alike toks j k ≡ true → alike toks i j ≡ true
alike_same toks i j k e f =
    let x : spelling_at toks i ≡ spelling_at toks k = (bytes_eq-Decides (spelling_at toks i) (spelling_at toks k)).0 e in
    let y : spelling_at toks j ≡ spelling_at toks k = (bytes_eq-Decides (spelling_at toks j) (spelling_at toks k)).0 f in
    (bytes_eq-Decides (spelling_at toks i) (spelling_at toks j)).1 (x ∙ sym y)

and3_mono : (s x y t : Bool) → (y ≡ true → x ≡ true) → ((s && y) && t) ≡ true → ((s && x) && t) ≡ true
and3_mono true true y t sub h = (and_parts y t h).1
and3_mono true false true t sub h = absurd (false≢true (sub refl))
and3_mono true false false t sub h = h
and3_mono false x y t sub h = h

and3_with : (s x y t : Bool) → ((s && x) && t) ≡ true → y ≡ true → ((s && y) && t) ≡ true
and3_with true true y t h e = and_from y t e h
and3_with true false y t h e = absurd (false≢true h)
and3_with false x y t h e = h

module _ (a b : List Token) where
  -- each of these declarations that has a name stays apart
  abbrev pub StandApart : List Declaration → Type 0
  StandApart ds = (d : Declaration) → In d ds → is_unnamed d.space ≡ false → StaysApart a b d.name_at

  pub named_apart : (ds : List Declaration) → StandApart ds → (space : Space) (i : ℕ) (test : Declaration → Bool) (d : Declaration) → In d ds
      → (is_named b space i d && test d) ≡ true → (is_named a space i d && test d) ≡ true
  named_apart ds apart space i test d within h =
      let named : is_named b space i d ≡ true = (and_parts (is_named b space i d) (test d) h).0 in
      let has : is_unnamed d.space ≡ false = found_named d.space space ((and_parts (is_space d.space space) (alike b i d.name_at) named).0) in
      and3_mono (is_space d.space space) (alike a i d.name_at) (alike b i d.name_at) (test d) (apart d within has i) h

  passes_too : (space : Space) (i : ℕ) (test : Declaration → Bool) (facts : Facts) (r : Option Declaration) → looked_up a space i test facts ≡ r
      → IfSome r (λ d. alike b i d.name_at ≡ true) → IfSome r (λ d. (is_named b space i d && test d) ≡ true)
  passes_too space i test facts None e h = tt
  passes_too space i test facts (Some d) e h =
      and3_with (is_space d.space space) (alike a i d.name_at) (alike b i d.name_at) (test d)
      (found_passes (λ d. is_named a space i d && test d) facts.declared d e) h

  -- a look-up finds the same where the name that it finds is still spelled alike
  pub looked_up_same : (space : Space) (i : ℕ) (test : Declaration → Bool) (facts : Facts) (r : Option Declaration) → StandApart facts.declared → looked_up a space i test facts ≡ r
      → IfSome r (λ d. alike b i d.name_at ≡ true) → looked_up b space i test facts ≡ r
  looked_up_same space i test facts r apart e h =
      find_same (λ d. is_named b space i d && test d) (λ d. is_named a space i d && test d) facts.declared r
      (named_apart facts.declared apart space i test) e (passes_too space i test facts r e h)
