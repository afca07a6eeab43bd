-- What the class of a token says of the names that are visible.
use Rattle.std.proofs.Common.{ℕ, ◌≡◌, Bool, true, false, ◌&&◌, ◌||◌, not, if◌then◌else◌, ◌==◌, List, [], ◌∷◌, length, take, drop, Option, None, Some, slice_get, refl, sym, ◌∙◌}
use Rattle.std.specs.List.{list_all}
use Rattle.std.specs.Option.{option_map_or}
use Rattle.std.specs.Str.{bytes_eq}
use Rattle.std.proofs.lemmas.Bool.{false≢true, and_parts, not-true}
use Rattle.c99_grammar.specs.declared.dialects.Edition.{Edition}
use Rattle.cs_base.specs.Token.{Token}
use Rattle.cs_base.specs.declared.tokens.Kind.{Kind}
use Rattle.cs_base.specs.declared.tokens.Kind.TheVariants as kind
use Rattle.cs_base.proofs.BoolLemmas.{or_met as implied}
use Rattle.c99_tree.specs.declared.production.Production.TheVariants.{Enumerator, Pdirect}
use Rattle.c99_grammar.specs.Classes.{among}
use Rattle.c99_grammar.specs.Items.{names}
use Rattle.c99_grammar.specs.Spellings.{Spelled, keywords_of, punctuators}
use Rattle.c99_grammar.specs.Standard.{c99, iso}
use Rattle.c99_grammar.proofs.StandardLemmas.{keywords_fit}
use Rattle.c99_read.specs.State.{State, base_at, is_identifier, is_typedef_at, class_at}
use Rattle.c99_grammar.specs.TokenClasses.{spelled_class, class_of_kind, base_class}
use Rattle.tree_laws.proofs.Private.{Class}
use Rattle.tree_laws.proofs.Parts.{first_body, rest_of, front_of, inside_of, classes_of, second_test, asked_second}

-- the class of an identifier that is no typedef name, and that of one that is
abbrev pub identifiers : List Class
identifiers = take 1 names

abbrev pub typedef_names : List Class
typedef_names = drop 1 names

abbrev first_class : Class → List Class → Class
first_class other [] = other
first_class other (c ∷ more) = c

abbrev typedef_name : Class
typedef_name = first_class (base_at c99 [] 0) typedef_names

-- the sign behind an enumerator's name
abbrev pub equals : List Class
equals = classes_of (front_of (inside_of (front_of (rest_of (first_body (c99.table Enumerator))))))

-- what stands behind the parenthesis of a parameter's declarator
abbrev pub bare : List Class
bare = asked_second (second_test (c99.table Pdirect))

-- A class by itself says nothing of typedef names.
abbrev is_base : Class → Bool
is_base c =
    (not (among names c) || is_identifier c) &&
    ((not (among identifiers c) || is_identifier c) && (not (among typedef_names c) && (not (among equals c) || not (is_identifier c))))

spelled_base : (words : List Spelled) (text : List ℕ) (other : Class) → list_all (λ w. is_base w.1) words ≡ true → is_base other ≡ true
    → is_base (spelled_class words text other) ≡ true
unfolding spelled_class
spelled_base [] text other all last = last
spelled_base (w ∷ words) text other all last =
    let parts = and_parts (is_base w.1) (list_all (λ v. is_base v.1) words) all in
    by (bytes_eq text w.0) parts.0 (spelled_base words text other parts.1 last)
  where
    by : (c : Bool) → is_base w.1 ≡ true → is_base (spelled_class words text other) ≡ true → is_base (if c then w.1 else spelled_class words text other) ≡ true
    by true h k = h
    by false h k = k

module _ (std : Edition) where
  kind_base : (k : Kind) (text : List ℕ) → is_base (class_of_kind (iso std) k text) ≡ true
  kind_base kind.Ident text = spelled_base (keywords_of std) text _ (keywords_fit is_base refl std) refl
  kind_base kind.Punct text = spelled_base punctuators text _ refl refl
  kind_base kind.Number text = refl
  kind_base kind.Char text = refl
  kind_base kind.Str text = refl
  kind_base _ text = refl

  base_base : (t : Token) → is_base (base_class (iso std) t) ≡ true
  unfolding base_class
  base_base t = kind_base t.kind t.text

  at_base : (toks : List Token) (k : ℕ) → is_base (base_at (iso std) toks k) ≡ true
  at_base toks k = by (slice_get toks k) (k == length toks) _ _ refl refl
    where
      by : (t : Option Token) (c : Bool) (x y : Class) → is_base x ≡ true → is_base y ≡ true
          → is_base (option_map_or (base_class (iso std)) t (if c then x else y)) ≡ true
      by None true x y h h' = h
      by None false x y h h' = h'
      by (Some t) c x y h h' = base_base t

  module _ (s : State) (k : ℕ) where
    abbrev here : Class
    here = base_at (iso std) s.toks k

    base_parts : (among names here ≡ true → is_identifier here ≡ true)
        × ((among identifiers here ≡ true → is_identifier here ≡ true) × ((among typedef_names here ≡ false) × (among equals here ≡ true → is_identifier here ≡ false)))
    base_parts =
        let both = and_parts (not (among names here) || is_identifier here) _ (at_base s.toks k) in
        let more = and_parts (not (among identifiers here) || is_identifier here) _ both.1 in
        let last = and_parts (not (among typedef_names here)) (not (among equals here) || not (is_identifier here)) more.1 in
        (implied _ _ both.0, (implied _ _ more.0, (not-true _ last.0, λ e. not-true _ (implied _ _ last.1 e))))

    name_case : (b x : Class) (i t : Bool) → (among names b ≡ true → i ≡ true) → among names (if i && t then x else b) ≡ true → i ≡ true
    name_case b x true t h e = refl
    name_case b x false t h e = h e

    -- a name is an identifier
    pub name_is : among names (class_at (iso std) s k) ≡ true → is_identifier here ≡ true
    unfolding class_at
    name_is e = name_case here typedef_name (is_identifier here) (is_typedef_at s.toks s.names.scopes k) base_parts.0 e

    identifier_case : (b x : Class) (i t : Bool) → (among identifiers b ≡ true → i ≡ true) → among identifiers x ≡ false
        → among identifiers (if i && t then x else b) ≡ true → (i ≡ true) × (t ≡ false)
    identifier_case b x true true h gone e = absurd (false≢true (sym gone ∙ e))
    identifier_case b x true false h gone e = (refl, refl)
    identifier_case b x false t h gone e = absurd (false≢true (h e))

    -- an identifier that counts as no typedef name
    pub identifier_is : among identifiers (class_at (iso std) s k) ≡ true → (is_identifier here ≡ true) × (is_typedef_at s.toks s.names.scopes k ≡ false)
    unfolding class_at
    identifier_is e = identifier_case here typedef_name (is_identifier here) (is_typedef_at s.toks s.names.scopes k) base_parts.1.0 refl e

    typedef_case : (b x : Class) (i t : Bool) → among typedef_names b ≡ false → among typedef_names (if i && t then x else b) ≡ true → t ≡ true
    typedef_case b x true true gone e = refl
    typedef_case b x true false gone e = absurd (false≢true (sym gone ∙ e))
    typedef_case b x false t gone e = absurd (false≢true (sym gone ∙ e))

    -- .. and one that does
    pub typedef_is : among typedef_names (class_at (iso std) s k) ≡ true → is_typedef_at s.toks s.names.scopes k ≡ true
    unfolding class_at
    typedef_is e = typedef_case here typedef_name (is_identifier here) (is_typedef_at s.toks s.names.scopes k) base_parts.1.1.0 e

    equals_case : (b x : Class) (i t : Bool) → (among equals b ≡ true → i ≡ false) → among equals x ≡ false
        → among equals (if i && t then x else b) ≡ true → i ≡ false
    equals_case b x true true h gone e = absurd (false≢true (sym gone ∙ e))
    equals_case b x true false h gone e = h e
    equals_case b x false t h gone e = refl

    -- the sign is no identifier
    pub equals_is : among equals (class_at (iso std) s k) ≡ true → is_identifier here ≡ false
    unfolding class_at
    equals_is e = equals_case here typedef_name (is_identifier here) (is_typedef_at s.toks s.names.scopes k) base_parts.1.1.1 refl e

    bare_case : (b x : Class) (i t : Bool) → among bare x ≡ false → among bare (if i && t then x else b) ≡ true → i ≡ true → t ≡ false
    bare_case b x true true gone e h = absurd (false≢true (sym gone ∙ e))
    bare_case b x true false gone e h = refl
    bare_case b x false t gone e h = absurd (false≢true h)

    -- an identifier there is no typedef name
    pub bare_is : among bare (class_at (iso std) s k) ≡ true → is_identifier here ≡ true → is_typedef_at s.toks s.names.scopes k ≡ false
    unfolding class_at
    bare_is e h = bare_case here typedef_name (is_identifier here) (is_typedef_at s.toks s.names.scopes k) refl e h
