-- Which classes tokens have by themselves, where no name counts as a typedef name.
use Rattle.std.proofs.Common.{ℕ, ◌≡◌, Bool, true, false, not, if◌then◌else◌, ◌==◌, List, [], ◌∷◌, length, Option, None, Some, slice_get, refl, sym, ◌∙◌, ◌&&◌, ◌++◌, ap}
use Rattle.std.specs.List.{list_all}
use Rattle.std.specs.Option.{option_map_or}
use Rattle.std.specs.Str.{bytes_eq}
use Rattle.std.proofs.lemmas.Bool.{false≢true, and_parts, not-true}
use Rattle.c99_grammar.specs.declared.dialects.Dialect.{Dialect}
use Rattle.c99_grammar.specs.declared.dialects.Dialect.TheVariants.{Iso, Gnu}
use Rattle.cs_base.specs.Token.{Token}
use Rattle.cs_base.specs.declared.tokens.Kind.{Kind}
use Rattle.cs_base.specs.declared.tokens.Kind.TheVariants as kind
use Rattle.c99_grammar.specs.Spellings.{Spelled, keywords, keywords_added, words_of_gnu, spellings_of_gnu, gnu_keywords, punctuators}
use Rattle.c99_grammar.specs.Standard.{c99, grammar}
use Rattle.c99_grammar.proofs.StandardLemmas.{keywords_fit}
use Rattle.std.proofs.lemmas.List.Folds.{list_all-append}
use Rattle.c99_read.specs.State.{base_at, is_identifier}
use Rattle.c99_grammar.specs.TokenClasses.{spelled_class, class_of_kind, base_class}
use Rattle.renamed_tree_laws.proofs.Private.{Class, identifier, no_class, end_class, covers}

-- what is true of the classes of all words of GNU C is true of those of the keywords of a dialect
words_fit : (P : Class → Bool) → list_all (λ w. P w.1) gnu_keywords ≡ true → (d : Dialect) → list_all (λ w. P w.1) (grammar d).keywords ≡ true
words_fit P h (Iso s) =
    let own = and_parts (list_all (λ w. P w.1) keywords) (list_all (λ w. P w.1) (keywords_added ++ (words_of_gnu ++ spellings_of_gnu)))
    (sym (list_all-append (λ w. P w.1) keywords (keywords_added ++ (words_of_gnu ++ spellings_of_gnu))) ∙ h) in
    let more = and_parts (list_all (λ w. P w.1) keywords_added) (list_all (λ w. P w.1) (words_of_gnu ++ spellings_of_gnu))
    (sym (list_all-append (λ w. P w.1) keywords_added (words_of_gnu ++ spellings_of_gnu)) ∙ own.1) in
    keywords_fit P (list_all-append (λ w. P w.1) keywords keywords_added ∙ (ap (λ b. b && list_all (λ w. P w.1) keywords_added) own.0 ∙ more.0)) s
words_fit P h Gnu = h

spelled_so : (P : Class → Bool) (words : List Spelled) (text : List ℕ) (other : Class) → list_all (λ w. P w.1) words ≡ true → P other ≡ true
    → P (spelled_class words text other) ≡ true
unfolding spelled_class
spelled_so P [] text other all last = last
spelled_so P (w ∷ words) text other all last =
    let parts = and_parts (P w.1) (list_all (λ v. P v.1) words) all in
    by (bytes_eq text w.0) parts.0 (spelled_so P words text other parts.1 last)
  where
    by : (c : Bool) → P w.1 ≡ true → P (spelled_class words text other) ≡ true → P (if c then w.1 else spelled_class words text other) ≡ true
    by true h k = h
    by false h k = k

record Covered (P : Class → Bool) : Type 0 where
  words : list_all (λ w. P w.1) (gnu_keywords) ≡ true
  signs : list_all (λ w. P w.1) punctuators ≡ true
  names : P identifier ≡ true
  none : P no_class ≡ true
  last : P end_class ≡ true
  number : P (class_of_kind c99 kind.Number []) ≡ true
  char : P (class_of_kind c99 kind.Char []) ≡ true
  str : P (class_of_kind c99 kind.Str []) ≡ true

covered : (P : Class → Bool) → covers P ≡ true → Covered P
covered P h =
    let h1 = and_parts (list_all (λ w. P w.1) (gnu_keywords)) _ h in
    let h2 = and_parts (list_all (λ w. P w.1) punctuators) _ h1.1 in
    let h3 = and_parts (P identifier) _ h2.1 in
    let h4 = and_parts (P no_class) _ h3.1 in
    let h5 = and_parts (P end_class) _ h4.1 in
    let h6 = and_parts (P (class_of_kind c99 kind.Number [])) _ h5.1 in
    let h7 = and_parts (P (class_of_kind c99 kind.Char [])) (P (class_of_kind c99 kind.Str [])) h6.1 in
    record { words = h1.0; signs = h2.0; names = h3.0; none = h4.0; last = h5.0; number = h6.0; char = h7.0; str = h7.1 }

-- ---- The class of an identifier

spelled_is : (words : List Spelled) (text : List ℕ) (other : Class) → list_all (λ w. not (is_identifier w.1)) words ≡ true
    → is_identifier (spelled_class words text other) ≡ true → spelled_class words text other ≡ other
unfolding spelled_class
spelled_is [] text other all h = refl
spelled_is (w ∷ words) text other all h =
    let parts = and_parts (not (is_identifier w.1)) (list_all (λ v. not (is_identifier v.1)) words) all in
    by (bytes_eq text w.0) (not-true _ parts.0) (spelled_is words text other parts.1) h
  where
    by : (c : Bool) → is_identifier w.1 ≡ false → (is_identifier (spelled_class words text other) ≡ true → spelled_class words text other ≡ other)
        → is_identifier (if c then w.1 else spelled_class words text other) ≡ true → (if c then w.1 else spelled_class words text other) ≡ other
    by true n f e = absurd (false≢true (sym n ∙ e))
    by false n f e = f e

module _ (std : Dialect) where
  kind_so : (P : Class → Bool) → Covered P → (k : Kind) (text : List ℕ) → P (class_of_kind (grammar std) k text) ≡ true
  kind_so P h kind.Ident text = spelled_so P (grammar std).keywords text identifier (words_fit P h.words std) h.names
  kind_so P h kind.Punct text = spelled_so P punctuators text no_class h.signs h.none
  kind_so P h kind.Number text = h.number
  kind_so P h kind.Char text = h.char
  kind_so P h kind.Str text = h.str
  kind_so P h _ text = h.none

  token_so : (P : Class → Bool) → Covered P → (t : Token) → P (base_class (grammar std) t) ≡ true
  unfolding base_class
  token_so P h t = kind_so P h t.kind t.text

  pub base_so : (P : Class → Bool) → covers P ≡ true → (toks : List Token) (k : ℕ) → P (base_at (grammar std) toks k) ≡ true
  base_so P e toks k = by (slice_get toks k) (k == length toks) end_class no_class h.last h.none
    where
      h : Covered P
      h = covered P e

      by : (t : Option Token) (c : Bool) (x y : Class) → P x ≡ true → P y ≡ true → P (option_map_or (base_class (grammar std)) t (if c then x else y)) ≡ true
      by None true x y l n = l
      by None false x y l n = n
      by (Some t) c x y l n = token_so P h t

  kind_is : (k : Kind) (text : List ℕ) → is_identifier (class_of_kind (grammar std) k text) ≡ true → class_of_kind (grammar std) k text ≡ identifier
  kind_is kind.Ident text h = spelled_is (grammar std).keywords text identifier (words_fit (λ c. not (is_identifier c)) refl std) h
  kind_is kind.Punct text h =
      absurd (false≢true (sym (not-true _ (spelled_so (λ c. not (is_identifier c)) punctuators text no_class refl refl)) ∙ h))
  kind_is kind.Number text h = absurd (false≢true h)
  kind_is kind.Char text h = absurd (false≢true h)
  kind_is kind.Str text h = absurd (false≢true h)
  kind_is _ text h = absurd (false≢true h)

  token_is : (t : Token) → is_identifier (base_class (grammar std) t) ≡ true → base_class (grammar std) t ≡ identifier
  unfolding base_class
  token_is t h = kind_is t.kind t.text h

  pub base_is : (toks : List Token) (k : ℕ) → is_identifier (base_at (grammar std) toks k) ≡ true → base_at (grammar std) toks k ≡ identifier
  base_is toks k h = by (slice_get toks k) (k == length toks) h
    where
      by : (t : Option Token) (c : Bool) → is_identifier (option_map_or (base_class (grammar std)) t (if c then end_class else no_class)) ≡ true
          → option_map_or (base_class (grammar std)) t (if c then end_class else no_class) ≡ identifier
      by None true e = absurd (false≢true e)
      by None false e = absurd (false≢true e)
      by (Some t) c e = token_is t e
