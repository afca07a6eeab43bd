-- Classes that tokens of some kinds alone have.
use Rattle.std.proofs.Common.{ℕ, ◌≡◌, Bool, true, false, ◌&&◌, ◌||◌, not, if◌then◌else◌, ◌==◌, List, [], ◌∷◌, length, Option, None, Some, slice_get, ◌++◌, refl, sym, ap, ◌∙◌}
use Rattle.std.specs.List.{list_all}
use Rattle.std.specs.Option.{option_map_or}
use Rattle.std.specs.Str.{bytes_eq}
use Rattle.std.proofs.lemmas.Bool.{and_parts}
use Rattle.std.proofs.lemmas.List.Folds.{list_all-append}
use Rattle.c99_grammar.specs.declared.dialects.Dialect.{Dialect}
use Rattle.c99_grammar.specs.declared.dialects.Dialect.TheVariants.{Iso, Gnu}
use Rattle.cs_base.specs.Token.{Token}
use Rattle.cs_base.specs.declared.tokens.Kind.{Kind}
use Rattle.cs_base.specs.declared.tokens.Kind.TheVariants as kind
use Rattle.cs_base.proofs.BoolLemmas.{or_met as implied}
use Rattle.c99_grammar.specs.declared.classes.Class.TheVariants.{Identifier}
use Rattle.c99_grammar.specs.Classes.{among}
use Rattle.c99_grammar.specs.Spellings.{Spelled, keywords, keywords_added, words_of_gnu, spellings_of_gnu, gnu_keywords, punctuators}
use Rattle.c99_grammar.specs.Standard.{c99, grammar}
use Rattle.c99_grammar.proofs.StandardLemmas.{keywords_fit}
use Rattle.c99_read.specs.State.{State, base_at, is_identifier, is_typedef_at, class_at}
use Rattle.c99_grammar.specs.TokenClasses.{spelled_class, class_of_kind, base_class}

abbrev Given : {A B : Type 0} → (A → B) → Type 0
Given {A} {B} f = B

-- a class of tokens: the reader keeps the type to itself
abbrev pub Class : Type 0
Class = Given (base_class c99)

-- the class is none of these, or that of an identifier
abbrev is_fine : List Class → Class → Bool
is_fine classes c = not (among classes c) || is_identifier c

-- it is so of each class that tokens have by themselves
abbrev all_classes : (Class → Bool) → Bool
all_classes P =
    list_all (λ w. P w.1) gnu_keywords
    && (list_all (λ w. P w.1) punctuators
    && (P (class_of_kind c99 kind.Number [])
    && (P (class_of_kind c99 kind.Char [])
    && (P (class_of_kind c99 kind.Str [])
    && (P (base_at c99 [] 0) && (P (base_at c99 [] 1) && P Identifier))))))

-- no token but an identifier has one of these classes
abbrev pub only_names : List Class → Bool
only_names classes = all_classes (is_fine classes)

-- what is true of the classes of all words of GNU C is true of those of the keywords of a dialect
words_fit : (P : Class → Bool) → list_all (λ w. P w.1) gnu_keywords ≡ true → (d : Dialect) → list_all (λ w. P w.1) (grammar d).keywords ≡ true
words_fit P h (Iso s) =
    let own = and_parts (list_all (λ w. P w.1) keywords) (list_all (λ w. P w.1) (keywords_added ++ (words_of_gnu ++ spellings_of_gnu)))
    (sym (list_all-append (λ w. P w.1) keywords (keywords_added ++ (words_of_gnu ++ spellings_of_gnu))) ∙ h) in
    let more = and_parts (list_all (λ w. P w.1) keywords_added) (list_all (λ w. P w.1) (words_of_gnu ++ spellings_of_gnu))
    (sym (list_all-append (λ w. P w.1) keywords_added (words_of_gnu ++ spellings_of_gnu)) ∙ own.1) in
    keywords_fit P (list_all-append (λ w. P w.1) keywords keywords_added ∙ (ap (λ b. b && list_all (λ w. P w.1) keywords_added) own.0 ∙ more.0)) s
words_fit P h Gnu = h

module _ (std : Dialect) where
  module _ (P : Class → Bool) (all : all_classes P ≡ true) where
    spelled_fine : (words : List Spelled) (text : List ℕ) (other : Class) → list_all (λ w. P w.1) words ≡ true → P other ≡ true
        → P (spelled_class words text other) ≡ true
    unfolding spelled_class
    spelled_fine [] text other all' last = last
    spelled_fine (w ∷ words) text other all' last =
        let parts = and_parts (P w.1) (list_all (λ v. P v.1) words) all' in
        by (bytes_eq text w.0) parts.0 (spelled_fine words text other parts.1 last)
      where
        by : (c : Bool) → P w.1 ≡ true → P (spelled_class words text other) ≡ true → P (if c then w.1 else spelled_class words text other) ≡ true
        by true h k = h
        by false h k = k

    -- what is asked of each kind
    record AreFine : Type 0 where
      words : list_all (λ w. P w.1) gnu_keywords ≡ true
      signs : list_all (λ w. P w.1) punctuators ≡ true
      number : P (class_of_kind c99 kind.Number []) ≡ true
      char : P (class_of_kind c99 kind.Char []) ≡ true
      string : P (class_of_kind c99 kind.Str []) ≡ true
      last : P (base_at c99 [] 0) ≡ true
      none : P (base_at c99 [] 1) ≡ true
      name : P Identifier ≡ true

    fine_parts : AreFine
    fine_parts =
        let seven : Bool = P (base_at c99 [] 1) && P Identifier in
        let six : Bool = P (base_at c99 [] 0) && seven in
        let five : Bool = P (class_of_kind c99 kind.Str []) && six in
        let four : Bool = P (class_of_kind c99 kind.Char []) && five in
        let three : Bool = P (class_of_kind c99 kind.Number []) && four in
        let two : Bool = list_all (λ w. P w.1) punctuators && three in
        let a = and_parts (list_all (λ w. P w.1) gnu_keywords) two all in
        let b = and_parts (list_all (λ w. P w.1) punctuators) three a.1 in
        let c = and_parts (P (class_of_kind c99 kind.Number [])) four b.1 in
        let d = and_parts (P (class_of_kind c99 kind.Char [])) five c.1 in
        let e = and_parts (P (class_of_kind c99 kind.Str [])) six d.1 in
        let f = and_parts (P (base_at c99 [] 0)) seven e.1 in
        let g = and_parts (P (base_at c99 [] 1)) (P Identifier) f.1 in
        record { words = a.0; signs = b.0; number = c.0; char = d.0; string = e.0; last = f.0; none = g.0; name = g.1 }

    kind_fine : (k : Kind) (text : List ℕ) → P (class_of_kind (grammar std) k text) ≡ true
    kind_fine kind.Ident text = spelled_fine (grammar std).keywords text _ (words_fit P fine_parts.words std) fine_parts.name
    kind_fine kind.Punct text = spelled_fine punctuators text _ fine_parts.signs fine_parts.none
    kind_fine kind.Number text = fine_parts.number
    kind_fine kind.Char text = fine_parts.char
    kind_fine kind.Str text = fine_parts.string
    kind_fine _ text = fine_parts.none

    base_fine : (t : Token) → P (base_class (grammar std) t) ≡ true
    unfolding base_class
    base_fine t = kind_fine t.kind t.text

    -- so it is with the class of each token
    pub at_fine : (toks : List Token) (k : ℕ) → P (base_at (grammar std) toks k) ≡ true
    at_fine toks k =
        by (slice_get toks k) (k == length toks) _ _ fine_parts.last fine_parts.none
      where
        by : (t : Option Token) (c : Bool) (x y : Class) → P x ≡ true → P y ≡ true
            → P (option_map_or (base_class (grammar std)) t (if c then x else y)) ≡ true
        by None true x y h h' = h
        by None false x y h h' = h'
        by (Some t) c x y h h' = base_fine t

  typed_case : (classes : List Class) (b x : Class) (i t : Bool) → (among classes b ≡ true → i ≡ true) → among classes (if i && t then x else b) ≡ true → i ≡ true
  typed_case classes b x true t h e = refl
  typed_case classes b x false t h e = h e

  -- a token of one of these classes is an identifier
  pub name_is : (classes : List Class) → only_names classes ≡ true → (s : State) (k : ℕ) → among classes (class_at (grammar std) s k) ≡ true
      → is_identifier (base_at (grammar std) s.toks k) ≡ true
  unfolding class_at
  name_is classes only s k e =
      typed_case classes (base_at (grammar std) s.toks k) _ (is_identifier (base_at (grammar std) s.toks k)) (is_typedef_at s.toks s.names.scopes k)
      (implied _ _ (at_fine (is_fine classes) only s.toks k)) e
