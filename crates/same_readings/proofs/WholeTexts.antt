-- A text of which one spelling becomes another wherever it stands is alike the text before.
use Rattle.std.proofs.Common.{ℕ, zero, suc, ◌≡◌, ◌==◌, ◌⊎◌, Bool, true, false, ◌&&◌, ◌||◌, not, if◌then◌else◌, List, [], ◌∷◌, ◌++◌, length, map, Option, None, Some, Ok, inl, inr, refl, sym, ap, subst, ◌∙◌}
use Rattle.std.specs.Prelude.{slice_get, codes, eqb}
use Rattle.std.specs.List.{list_any, list_all, starts_with}
use Rattle.std.specs.Option.{option_map_or}
use Rattle.std.specs.Str.{bytes_eq}
use Rattle.std.proofs.lemmas.Bool.{cases_Bool, false≢true, and_parts}
use Rattle.std.proofs.lemmas.List.{length-map}
use Rattle.cs_base.proofs.BoolLemmas.{not_true, or_left, or_right_none, no_case, both_true}
use Rattle.cs_base.proofs.FileMapLemmas.{bytes_eq-equal}
use Rattle.cs_base.proofs.ListLemmas.{bytes_eq-apart, spelled_same}
use Rattle.cs_base.specs.declared.tokens.Kind.{Kind}
use Rattle.cs_base.specs.declared.tokens.Kind.TheVariants as kind
use Rattle.cs_base.specs.Reserved.{is_reserved_text, is_reserved_by_gnu, is_reserved_in, is_word_of_gnu, is_built_in, is_function_word}
use Rattle.cs_base.specs.Token.{Token}
use Rattle.c99_tree.specs.Tree.{Node}
use Rattle.c99_read.specs.Below.c99_grammar.Spellings.{Spelled, gnu_keywords}
use Rattle.c99_read.specs.Below.c99_grammar.Standard.{grammar}
use Rattle.c99_read.specs.Below.c99_grammar.TokenClasses.{spelled_class, class_of_kind, base_class}
use Rattle.c99_read.specs.Below.c99_grammar.declared.classes.Class.{Class}
use Rattle.c99_read.specs.Below.c99_grammar.declared.classes.Class.TheVariants.{Identifier, End, NoClass}
use Rattle.c99_read.specs.Below.c99_grammar.declared.dialects.Dialect.TheVariants.{Gnu}
use Rattle.c99_read.specs.State.{base_at}
use Rattle.c99_read.specs.Reading.{read_of}
use Rattle.c_types.specs.Declarations.{spelling_at, alike}
use Rattle.gnu_bind.specs.Below.scope_bind.Bound.{Bound}
use Rattle.gnu_bind.specs.Bound.{gnu_binding_of}
use Rattle.gnu_bind.specs.Words.{is_word_attribute, fetch_prefixes, fetch_words, is_fetch, is_path_sign, begins_call, is_extension}
use Rattle.same_readings.specs.Alike.{words_of_c, is_word_of_c, SayTheSame, AllSayTheSame}
use Rattle.same_readings.specs.AlikeLaws.{WholeTextsAreReadSo}
use Rattle.same_readings.specs.Whole.{begins_as_name, is_free, is_identifier_kind, goes_along, all_go, goes_as, whole_from}
use Rattle.same_readings.proofs.ReadAlike.{alike_texts_read_alike}
use Rattle.same_readings.proofs.BoundAlike.{alike_texts_bind_alike}

-- ---- Free spellings

-- what begins with more begins with less
begins_shorter : (p q xs : List ℕ) → starts_with eqb xs (p ++ q) ≡ true → starts_with eqb xs p ≡ true
begins_shorter [] q xs e = refl
begins_shorter (c ∷ p) q [] e = e
begins_shorter (c ∷ p) q (x ∷ xs) e =
    let both = and_parts (eqb c x) (starts_with eqb xs (p ++ q)) e in
    both_true (eqb c x) (starts_with eqb xs p) both.0 (begins_shorter p q xs both.1)

neither : (x y : Bool) → x ≡ false → y ≡ false → (x || y) ≡ false
neither x y e f = ap (λ (c : Bool). c || y) e ∙ f

module _ (text : List ℕ) (free : is_free text ≡ true) where
  -- a free spelling is no word that is not
  no_word : (word : List ℕ) → is_free word ≡ false → bytes_eq text word ≡ false
  no_word word other = no_case (bytes_eq text word) (λ same. false≢true (sym other ∙ (ap is_free (sym (bytes_eq-equal text word same)) ∙ free)))

  -- .. and none of some words that are not
  no_words : (words : List (List ℕ)) → list_all (λ w. not (is_free w)) words ≡ true → list_any (bytes_eq text) words ≡ false
  no_words [] all = refl
  no_words (w ∷ words) all =
      let both = and_parts (not (is_free w)) (list_all (λ v. not (is_free v)) words) all in
      ap (λ (c : Bool). c || list_any (bytes_eq text) words) (no_word w (not_true (is_free w) both.0)) ∙ no_words words both.1

  free_parts : (begins_as_name text ≡ true) × (not (is_reserved_in true text) ≡ true) × (not (is_word_attribute text) ≡ true)
  free_parts =
      let first = and_parts (begins_as_name text) (not (is_reserved_in true text) && not (is_word_attribute text)) free in
      let rest = and_parts (not (is_reserved_in true text)) (not (is_word_attribute text)) first.1 in
      (first.0, rest.0, rest.1)

  not_reserved : is_reserved_in true text ≡ false
  not_reserved = not_true (is_reserved_in true text) free_parts.1

  not_built_in : is_built_in text ≡ false
  unfolding is_reserved_by_gnu
  not_built_in =
      or_right_none (is_word_of_gnu text || is_function_word text) (is_built_in text)
      (or_right_none (is_reserved_text text) (is_reserved_by_gnu text) not_reserved)

  not_function_word : is_function_word text ≡ false
  unfolding is_reserved_by_gnu
  not_function_word =
      or_right_none (is_word_of_gnu text) (is_function_word text)
      (or_left (is_word_of_gnu text || is_function_word text) (is_built_in text)
      (or_right_none (is_reserved_text text) (is_reserved_by_gnu text) not_reserved))

  no_word_of_c : (word : List ℕ) → is_word_of_c word ≡ true → bytes_eq text word ≡ false
  unfolding is_reserved_text
  no_word_of_c word is = no_word word (others words_of_c refl is)
    where
      others : (ws : List (List ℕ)) → list_all (λ w. not (is_free w)) ws ≡ true → list_any (λ w. bytes_eq w word) ws ≡ true → is_free word ≡ false
      others [] all some = absurd (false≢true some)
      others (w ∷ ws) all some =
          let both = and_parts (not (is_free w)) (list_all (λ v. not (is_free v)) ws) all in
          elim (cases_Bool (bytes_eq w word)) [
            | inl same ↦ ap is_free (sym (bytes_eq-equal w word same)) ∙ not_true (is_free w) both.0
            | inr other ↦ others ws both.1 (sym (ap (λ (c : Bool). c || list_any (λ v. bytes_eq v word) ws) other) ∙ some)
          ]

  not_path_sign : is_path_sign text ≡ false
  unfolding is_path_sign
  not_path_sign = no_words (codes "." ∷ codes "[" ∷ codes "]" ∷ codes "<:" ∷ codes ":>" ∷ []) refl

  not_call : begins_call text ≡ false
  unfolding begins_call
  not_call = no_word (codes "(") refl

  not_extension : is_extension text ≡ false
  unfolding is_extension is_reserved_text is_reserved_by_gnu is_word_of_gnu
  not_extension = no_word (codes "__extension__") refl

  no_longer : (p q : List ℕ) → starts_with eqb text p ≡ false → starts_with eqb text (p ++ q) ≡ false
  no_longer p q other = no_case (starts_with eqb text (p ++ q)) (λ e. false≢true (sym other ∙ begins_shorter p q text e))

  begins_not : (starts_with eqb text (codes "__sync_") ≡ false) × (starts_with eqb text (codes "__atomic_") ≡ false)
  begins_not =
      let later : (starts_with eqb text (codes "__sync_") || (starts_with eqb text (codes "__atomic_") || false)) ≡ false =
      or_right_none (starts_with eqb text (codes "__builtin_")) (starts_with eqb text (codes "__sync_") || (starts_with eqb text (codes "__atomic_") || false)) not_built_in in (
        or_left (starts_with eqb text (codes "__sync_")) (starts_with eqb text (codes "__atomic_") || false) later,
        or_left (starts_with eqb text (codes "__atomic_")) false (or_right_none (starts_with eqb text (codes "__sync_")) (starts_with eqb text (codes "__atomic_") || false) later),
      )

  not_fetch : is_fetch text ≡ false
  unfolding is_fetch is_reserved_text is_reserved_by_gnu is_word_of_gnu
  not_fetch =
      neither (list_any (starts_with eqb text) fetch_prefixes) (list_any (bytes_eq text) fetch_words)
      (neither _ _ (no_longer (codes "__sync_") (codes "fetch_and_") begins_not.0)
      (neither _ _ (no_longer (codes "__sync_") (codes "val_compare_and_swap") begins_not.0)
      (neither _ _ (no_longer (codes "__sync_") (codes "lock_test_and_set") begins_not.0)
      (neither _ _ (no_longer (codes "__atomic_") (codes "load_n") begins_not.1)
      (neither _ _ (no_longer (codes "__atomic_") (codes "exchange_n") begins_not.1)
      (neither _ _ (no_longer (codes "__atomic_") (codes "fetch_") begins_not.1) refl))))))
      (no_words fetch_words refl)

  not_attribute : is_word_attribute text ≡ false
  not_attribute = not_true (is_word_attribute text) free_parts.2

-- two free spellings say the same
free_same : (s t : List ℕ) → is_free s ≡ true → is_free t ≡ true → SayTheSame s t
free_same s t e f = record {
  word = λ w is. no_word_of_c t f w is ∙ sym (no_word_of_c s e w is);
  built_in = not_built_in t f ∙ sym (not_built_in s e);
  function_word = not_function_word t f ∙ sym (not_function_word s e);
  attribute = not_attribute t f ∙ sym (not_attribute s e);
  fetch = not_fetch t f ∙ sym (not_fetch s e);
  sign = not_path_sign t f ∙ sym (not_path_sign s e);
  call = not_call t f ∙ sym (not_call s e);
  extension = not_extension t f ∙ sym (not_extension s e);
}

same_itself : (s t : List ℕ) → t ≡ s → SayTheSame s t
same_itself s t e = subst (λ (x : List ℕ). SayTheSame s x) (sym e) (record {
  word = λ w is. refl;
  built_in = refl;
  function_word = refl;
  attribute = refl;
  fetch = refl;
  sign = refl;
  call = refl;
  extension = refl;
})

-- ---- Classes of free spellings

abbrev is_kept : Spelled → Bool
is_kept s = not (is_free s.0)

-- no keyword is free (6.4.1)
keywords_not_free : list_all is_kept gnu_keywords ≡ true
unfolding is_reserved_text is_reserved_by_gnu is_word_of_gnu
keywords_not_free = refl

free_class : (text : List ℕ) (words : List Spelled) → is_free text ≡ true → list_all is_kept words ≡ true → spelled_class words text Identifier ≡ Identifier
unfolding spelled_class
free_class text [] free all = refl
free_class text (s ∷ words) free all =
    let both = and_parts (is_kept s) (list_all is_kept words) all in
    ap (λ (c : Bool). if c then s.1 else spelled_class words text Identifier) (no_word text free s.0 (not_true (is_free s.0) both.0)) ∙ free_class text words free both.1

-- ---- Texts, token for token

abbrev Each : (Token → Token → Type 0) → List Token → List Token → Type 0
Each P [] [] = Unit {0}
Each P [] (u ∷ us) = ⊥
Each P (t ∷ ts) [] = ⊥
Each P (t ∷ ts) (u ∷ us) = P t u × Each P ts us

abbrev At : (Token → Token → Type 0) → Option Token → Option Token → Type 0
At P None None = Unit {0}
At P None (Some u) = ⊥
At P (Some t) None = ⊥
At P (Some t) (Some u) = P t u

each_at : (P : Token → Token → Type 0) (ts us : List Token) (k : ℕ) → Each P ts us → At P (slice_get ts k) (slice_get us k)
each_at P [] [] k e = tt
each_at P [] (u ∷ us) k e = absurd e
each_at P (t ∷ ts) [] k e = absurd e
each_at P (t ∷ ts) (u ∷ us) zero e = e.0
each_at P (t ∷ ts) (u ∷ us) (suc k) e = each_at P ts us k e.1

-- of one kind, and respelled so
abbrev Goes : List ℕ → List ℕ → Token → Token → Type 0
Goes old new t u = (u.kind ≡ t.kind) × (goes_along old new t u ≡ true)

abbrev Stays : Token → Token → Type 0
Stays t u = (u.kind ≡ t.kind) × (u.text ≡ t.text)

abbrev kinds : List Token → List Kind
kinds ts = map (λ (t : Token). t.kind) ts

each_goes : (old new : List ℕ) (ts us : List Token) → kinds us ≡ kinds ts → all_go old new ts us ≡ true → Each (Goes old new) ts us
each_goes old new [] [] same go = tt
each_goes old new [] (u ∷ us) same go = absurd (false≢true go)
each_goes old new (t ∷ ts) [] same go = absurd (false≢true go)
each_goes old new (t ∷ ts) (u ∷ us) same go =
    let both = and_parts (goes_along old new t u) (all_go old new ts us) go in
    let head : u.kind ≡ t.kind = cc in
    let tail : kinds us ≡ kinds ts = cc in
    ((head, both.0), each_goes old new ts us tail both.1)

module _ (before after : List Token) (same : kinds after ≡ kinds before) where
  abbrev Found : List Token → List Token → Type 0
  Found ts us = Each Stays ts us ⊎ ((old : List ℕ) × (new : List ℕ) × (is_free old ≡ true) × (is_free new ≡ true) × Each (Goes old new) before after)

  found : (ts us : List Token) → kinds us ≡ kinds ts → whole_from before after ts us ≡ true → Found ts us
  found [] [] alike_kinds e = inl tt
  found [] (u ∷ us) alike_kinds e = absurd (false≢true e)
  found (t ∷ ts) [] alike_kinds e = absurd (false≢true e)
  found (t ∷ ts) (u ∷ us) alike_kinds e =
      let head : u.kind ≡ t.kind = cc in
      let tail : kinds us ≡ kinds ts = cc in
      elim (cases_Bool (bytes_eq t.text u.text)) [
        | inl is ↦
            let later : whole_from before after ts us ≡ true =
            sym (ap (λ (c : Bool). if c then whole_from before after ts us else goes_as before after t.text u.text) is) ∙ e in
            elim (found ts us tail later) [
              | inl each ↦ inl ((head, sym (bytes_eq-equal t.text u.text is)), each)
              | inr w ↦ inr w
            ]
        | inr other ↦
            let goes' : goes_as before after t.text u.text ≡ true =
            sym (ap (λ (c : Bool). if c then whole_from before after ts us else goes_as before after t.text u.text) other) ∙ e in
            let first = and_parts (is_free t.text) (is_free u.text && all_go t.text u.text before after) goes' in
            let rest = and_parts (is_free u.text) (all_go t.text u.text before after) first.1 in
            inr (t.text, u.text, first.0, rest.0, each_goes t.text u.text before after same rest.1)
      ]

-- ---- What is so of each token

-- it is spelled by the old spelling and then by the new one, or stays, and neither is it
abbrev SpelledSo : List ℕ → List ℕ → List ℕ → List ℕ → Type 0
SpelledSo old new x y = ((x ≡ old) × (y ≡ new)) ⊎ ((bytes_eq x old ≡ false) × (y ≡ x) × (bytes_eq x new ≡ false))

spelled_so : (old new : List ℕ) (t u : Token) → goes_along old new t u ≡ true → SpelledSo old new t.text u.text
spelled_so old new t u e = elim (cases_Bool (bytes_eq t.text old)) [
  | inl is ↦
      let both = and_parts (is_identifier_kind t.kind) (bytes_eq u.text new)
      (sym (ap (λ (c : Bool). if c then is_identifier_kind t.kind && bytes_eq u.text new else bytes_eq u.text t.text && not (bytes_eq t.text new)) is) ∙ e) in
      inl (bytes_eq-equal t.text old is, bytes_eq-equal u.text new both.1)
  | inr other ↦
      let both = and_parts (bytes_eq u.text t.text) (not (bytes_eq t.text new))
      (sym (ap (λ (c : Bool). if c then is_identifier_kind t.kind && bytes_eq u.text new else bytes_eq u.text t.text && not (bytes_eq t.text new)) other) ∙ e) in
      inr (other, bytes_eq-equal u.text t.text both.0, not_true (bytes_eq t.text new) both.1)
]

free_is_some : (text : List ℕ) → is_free text ≡ true → bytes_eq [] text ≡ false
free_is_some [] free = absurd (false≢true free)
free_is_some (c ∷ more) free = refl

-- two are spelled alike where they were
alike_so : (old new x x' y y' : List ℕ) → SpelledSo old new x x' → SpelledSo old new y y' → bytes_eq x' y' ≡ bytes_eq x y
alike_so old new x x' y y' (inl e) (inl f) = spelled_same x' y' (e.1 ∙ sym f.1) ∙ sym (spelled_same x y (e.0 ∙ sym f.0))
alike_so old new x x' y y' (inl e) (inr f) =
    ap (λ (z : List ℕ). bytes_eq z y') e.1 ∙ (ap (bytes_eq new) f.1 ∙ (bytes_eq-apart y new f.2
    ∙ sym (ap (λ (z : List ℕ). bytes_eq z y) e.0 ∙ bytes_eq-apart y old f.0)))
alike_so old new x x' y y' (inr e) (inl f) =
    ap (λ (z : List ℕ). bytes_eq z y') e.1 ∙ (ap (bytes_eq x) f.1 ∙ (e.2 ∙ sym (ap (bytes_eq x) f.0 ∙ e.0)))
alike_so old new x x' y y' (inr e) (inr f) = ap (λ (z : List ℕ). bytes_eq z y') e.1 ∙ ap (bytes_eq x) f.1

class_so : (old new : List ℕ) (t u : Token) → is_free old ≡ true → is_free new ≡ true → Goes old new t u → base_class (grammar Gnu) u ≡ base_class (grammar Gnu) t
unfolding base_class
class_so old new t u e f go = ap (λ (k : Kind). class_of_kind (grammar Gnu) k u.text) go.0 ∙ by t.kind t.text u.text go.1
  where
    by : (k : Kind) (x y : List ℕ) → (if bytes_eq x old then is_identifier_kind k && bytes_eq y new else bytes_eq y x && not (bytes_eq x new)) ≡ true
        → class_of_kind (grammar Gnu) k y ≡ class_of_kind (grammar Gnu) k x
    by k x y g = elim (cases_Bool (bytes_eq x old)) [
      | inl is ↦
          let both = and_parts (is_identifier_kind k) (bytes_eq y new)
          (sym (ap (λ (c : Bool). if c then is_identifier_kind k && bytes_eq y new else bytes_eq y x && not (bytes_eq x new)) is) ∙ g) in
          named k both.0 (bytes_eq-equal x old is) (bytes_eq-equal y new both.1)
      | inr other ↦
          let both = and_parts (bytes_eq y x) (not (bytes_eq x new))
          (sym (ap (λ (c : Bool). if c then is_identifier_kind k && bytes_eq y new else bytes_eq y x && not (bytes_eq x new)) other) ∙ g) in
          ap (class_of_kind (grammar Gnu) k) (bytes_eq-equal y x both.0)
    ]
      where
        named : (k : Kind) → is_identifier_kind k ≡ true → x ≡ old → y ≡ new → class_of_kind (grammar Gnu) k y ≡ class_of_kind (grammar Gnu) k x
        named kind.Ident is p q =
            (ap (λ (z : List ℕ). spelled_class gnu_keywords z Identifier) q ∙ free_class new gnu_keywords f keywords_not_free)
            ∙ sym (ap (λ (z : List ℕ). spelled_class gnu_keywords z Identifier) p ∙ free_class old gnu_keywords e keywords_not_free)
        named k is p q = absurd (false≢true is)

class_stays : (t u : Token) → Stays t u → base_class (grammar Gnu) u ≡ base_class (grammar Gnu) t
unfolding base_class
class_stays t u e = ap (λ (k : Kind). class_of_kind (grammar Gnu) k u.text) e.0 ∙ ap (class_of_kind (grammar Gnu) t.kind) e.1

-- ---- Two texts

module _ (before after : List Token) (same : kinds after ≡ kinds before) where
  as_long : length after ≡ length before
  as_long = sym (length-map after (λ (t : Token). t.kind)) ∙ (ap length same ∙ length-map before (λ (t : Token). t.kind))

  abbrev behind : ℕ → ℕ → Class
  behind k n = if k == n then End else NoClass

  -- what is so of the classes of each pair of tokens is so of those of the texts
  module _ (P : Token → Token → Type 0) (each : Each P before after) (class_is : (t u : Token) → P t u → base_class (grammar Gnu) u ≡ base_class (grammar Gnu) t) where
    class_at_same : (o o' : Option Token) (c c' : Class) → At P o o' → c' ≡ c → option_map_or (base_class (grammar Gnu)) o' c' ≡ option_map_or (base_class (grammar Gnu)) o c
    class_at_same None None c c' at e = e
    class_at_same None (Some u) c c' at e = absurd at
    class_at_same (Some t) None c c' at e = absurd at
    class_at_same (Some t) (Some u) c c' at e = class_is t u at

    bases_same : (k : ℕ) → base_at (grammar Gnu) after k ≡ base_at (grammar Gnu) before k
    bases_same k =
        class_at_same (slice_get before k) (slice_get after k) (behind k (length before)) (behind k (length after)) (each_at P before after k each)
        (ap (behind k) as_long)

  module _ (each : Each Stays before after) where
    stays_at : (o o' : Option Token) → At Stays o o' → option_map_or (λ (t : Token). t.text) o' [] ≡ option_map_or (λ (t : Token). t.text) o []
    stays_at None None at = refl
    stays_at None (Some u) at = absurd at
    stays_at (Some t) None at = absurd at
    stays_at (Some t) (Some u) at = at.1

    text_stays : (k : ℕ) → spelling_at after k ≡ spelling_at before k
    text_stays k = stays_at (slice_get before k) (slice_get after k) (each_at Stays before after k each)

    same_alike : (i j : ℕ) → alike after i j ≡ alike before i j
    same_alike i j = ap (λ (x : List ℕ). bytes_eq x (spelling_at after j)) (text_stays i) ∙ ap (bytes_eq (spelling_at before i)) (text_stays j)

    same_says : AllSayTheSame before after
    same_says k = same_itself (spelling_at before k) (spelling_at after k) (text_stays k)

  module _ (old new : List ℕ) (free : is_free old ≡ true) (other : is_free new ≡ true) (each : Each (Goes old new) before after) where
    goes_at : (o o' : Option Token) → At (Goes old new) o o' → SpelledSo old new (option_map_or (λ (t : Token). t.text) o []) (option_map_or (λ (t : Token). t.text) o' [])
    goes_at None None at = inr (free_is_some old free, refl, free_is_some new other)
    goes_at None (Some u) at = absurd at
    goes_at (Some t) None at = absurd at
    goes_at (Some t) (Some u) at = spelled_so old new t u at.1

    text_goes : (k : ℕ) → SpelledSo old new (spelling_at before k) (spelling_at after k)
    text_goes k = goes_at (slice_get before k) (slice_get after k) (each_at (Goes old new) before after k each)

    goes_alike : (i j : ℕ) → alike after i j ≡ alike before i j
    goes_alike i j =
        alike_so old new (spelling_at before i) (spelling_at after i) (spelling_at before j) (spelling_at after j) (text_goes i) (text_goes j)

    goes_says : AllSayTheSame before after
    goes_says k = by (spelling_at before k) (spelling_at after k) (text_goes k)
      where
        by : (x y : List ℕ) → SpelledSo old new x y → SayTheSame x y
        by x y (inl e) = free_same x y (ap is_free e.0 ∙ free) (ap is_free e.1 ∙ other)
        by x y (inr e) = same_itself x y e.1

  module _ (classes : (k : ℕ) → base_at (grammar Gnu) after k ≡ base_at (grammar Gnu) before k) (spelled : (i j : ℕ) → alike after i j ≡ alike before i j)
      (says : AllSayTheSame before after) (tree : Node) (bound : Bound) where
    read_so : read_of (grammar Gnu) before ≡ Ok tree → gnu_binding_of before tree ≡ Ok bound
        → (read_of (grammar Gnu) after ≡ Ok tree) × (gnu_binding_of after tree ≡ Ok bound)
    read_so reads binds = (
      alike_texts_read_alike (grammar Gnu) before after (record { as_long = as_long; classes = classes; spelled = spelled }) ∙ reads,
      alike_texts_bind_alike before after tree as_long spelled says ∙ binds,
    )

pub whole_texts_are_read_so : WholeTextsAreReadSo
whole_texts_are_read_so before after tree bound same whole reads binds = elim (found before after same before after same whole) [
  | inl each ↦
      read_so before after same (bases_same before after same Stays each class_stays) (same_alike before after same each) (same_says before after same each)
      tree bound reads binds
  | inr w ↦
      read_so before after same
      (bases_same before after same (Goes w.0 w.1) w.4 (λ t u. class_so w.0 w.1 t u w.2 w.3))
      (goes_alike before after same w.0 w.1 w.2 w.3 w.4) (goes_says before after same w.0 w.1 w.2 w.3 w.4) tree bound reads binds
]
