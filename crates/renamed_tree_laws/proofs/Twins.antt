-- The classes of one token in two lists: they differ at most where a name counts as a typedef name in one of them.
use Rattle.std.proofs.Common.{ℕ, ◌≡◌, Bool, true, false, ◌&&◌, ◌||◌, not, if◌then◌else◌, List, refl, sym, ap, subst, ◌∙◌}
use Rattle.std.proofs.lemmas.Bool.{false≢true}
use Rattle.c99_grammar.specs.declared.dialects.Dialect.{Dialect}
use Rattle.cs_base.specs.Token.{Token}
use Rattle.cs_base.proofs.BoolLemmas.{or_met as implied}
use Rattle.c99_grammar.specs.Classes.{among}
use Rattle.c99_grammar.specs.Standard.{grammar}
use Rattle.c99_read.specs.State.{State, base_at, is_identifier, is_typedef_at, class_at}
use Rattle.c99_read.proofs.Alike.{swapped}
use Rattle.renamed_tree_laws.specs.Respelled.{Declaration}
use Rattle.renamed_tree_laws.proofs.Private.{Class, identifier, typedef_name, covers}
use Rattle.renamed_tree_laws.proofs.Bases.{base_so, base_is}

abbrev pub agree : Bool → Bool → Bool
agree true y = y
agree false y = not y

pub agree_is : (x y : Bool) → agree x y ≡ true → x ≡ y
agree_is true true h = refl
agree_is true false h = absurd (false≢true h)
agree_is false true h = absurd (false≢true h)
agree_is false false h = refl

-- the classes do not tell a typedef name from another
abbrev pub blind : List Class → Bool
blind L = agree (among L identifier) (among L typedef_name)

module _ (std : Dialect) where
  -- ---- One list

  module _ (s : State) (k : ℕ) where
    plain_case : (L : List Class) (x : Class) (i t : Bool) → (i ≡ true → x ≡ identifier) → among L identifier ≡ false → among L typedef_name ≡ false
        → among L (if i && t then typedef_name else x) ≡ true → i ≡ false
    plain_case L x true true h n m e = absurd (false≢true (sym m ∙ e))
    plain_case L x true false h n m e = absurd (false≢true (sym n ∙ (ap (among L) (sym (h refl)) ∙ e)))
    plain_case L x false t h n m e = refl

    -- what has no name among it is no identifier
    pub plain_is : (L : List Class) → among L identifier ≡ false → among L typedef_name ≡ false → among L (class_at (grammar std) s k) ≡ true
        → is_identifier (base_at (grammar std) s.toks k) ≡ false
    unfolding class_at
    plain_is L n m e =
        plain_case L (base_at (grammar std) s.toks k) (is_identifier (base_at (grammar std) s.toks k)) (is_typedef_at s.toks s.names.scopes k) (base_is std s.toks k) n m e

    base_case : (x : Class) (i t : Bool) → i ≡ false → (if i && t then typedef_name else x) ≡ x
    base_case x true t h = absurd (false≢true (sym h))
    base_case x false t h = refl

    pub plain_class : is_identifier (base_at (grammar std) s.toks k) ≡ false → class_at (grammar std) s k ≡ base_at (grammar std) s.toks k
    unfolding class_at
    plain_class h = base_case (base_at (grammar std) s.toks k) (is_identifier (base_at (grammar std) s.toks k)) (is_typedef_at s.toks s.names.scopes k) h

    each_case : (P : Class → Bool) (x : Class) (i t : Bool) → P x ≡ true → P typedef_name ≡ true → P (if i && t then typedef_name else x) ≡ true
    each_case P x true true h n = n
    each_case P x true false h n = h
    each_case P x false t h n = h

    -- what is so of each class is so of this one
    pub class_so : (P : Class → Bool) → covers P ≡ true → P typedef_name ≡ true → P (class_at (grammar std) s k) ≡ true
    unfolding class_at
    class_so P h n =
        each_case P (base_at (grammar std) s.toks k) (is_identifier (base_at (grammar std) s.toks k)) (is_typedef_at s.toks s.names.scopes k) (base_so std P h s.toks k) n

    name_case : (L : List Class) (x : Class) (i t : Bool) → (among L x ≡ true → i ≡ true) → among L (if i && t then typedef_name else x) ≡ true → i ≡ true
    name_case L x true t h e = refl
    name_case L x false t h e = h e

    -- what is among names is an identifier
    pub name_is : (L : List Class) → covers (λ c. not (among L c) || is_identifier c) ≡ true → among L (class_at (grammar std) s k) ≡ true
        → is_identifier (base_at (grammar std) s.toks k) ≡ true
    unfolding class_at
    name_is L h e =
        name_case L (base_at (grammar std) s.toks k) (is_identifier (base_at (grammar std) s.toks k)) (is_typedef_at s.toks s.names.scopes k)
        (implied _ _ (base_so std (λ c. not (among L c) || is_identifier c) h s.toks k)) e

    among_case : (L : List Class) (x : Class) (i t : Bool) → i ≡ true → x ≡ identifier → among L identifier ≡ true → among L typedef_name ≡ true
        → among L (if i && t then typedef_name else x) ≡ true
    among_case L x true true j h n m = m
    among_case L x true false j h n m = ap (among L) h ∙ n
    among_case L x false t j h n m = absurd (false≢true j)

    -- an identifier is among classes that have both of its classes
    pub among_names : (L : List Class) → is_identifier (base_at (grammar std) s.toks k) ≡ true → among L identifier ≡ true → among L typedef_name ≡ true
        → among L (class_at (grammar std) s k) ≡ true
    unfolding class_at
    among_names L i n m =
        among_case L (base_at (grammar std) s.toks k) (is_identifier (base_at (grammar std) s.toks k)) (is_typedef_at s.toks s.names.scopes k) i (base_is std s.toks k i) n m

    not_case : (L : List Class) (x : Class) (i t : Bool) → i ≡ true → among L typedef_name ≡ false → among L (if i && t then typedef_name else x) ≡ true
        → t ≡ false
    not_case L x true true j n e = absurd (false≢true (sym n ∙ e))
    not_case L x true false j n e = refl
    not_case L x false t j n e = absurd (false≢true j)

    -- an identifier that counts as no typedef name
    pub not_typedef : (L : List Class) → is_identifier (base_at (grammar std) s.toks k) ≡ true → among L typedef_name ≡ false → among L (class_at (grammar std) s k) ≡ true
        → is_typedef_at s.toks s.names.scopes k ≡ false
    unfolding class_at
    not_typedef L i n e =
        not_case L (base_at (grammar std) s.toks k) (is_identifier (base_at (grammar std) s.toks k)) (is_typedef_at s.toks s.names.scopes k) i n e

    typedef_case : (L : List Class) (x : Class) (i t : Bool) → (i ≡ true → x ≡ identifier) → i ≡ true → among L identifier ≡ false
        → among L (if i && t then typedef_name else x) ≡ true → t ≡ true
    typedef_case L x true true h j n e = refl
    typedef_case L x true false h j n e = absurd (false≢true (sym n ∙ (ap (among L) (sym (h refl)) ∙ e)))
    typedef_case L x false t h j n e = absurd (false≢true j)

    -- .. and one that does
    pub some_typedef : (L : List Class) → is_identifier (base_at (grammar std) s.toks k) ≡ true → among L identifier ≡ false → among L (class_at (grammar std) s k) ≡ true
        → is_typedef_at s.toks s.names.scopes k ≡ true
    unfolding class_at
    some_typedef L i n e =
        typedef_case L (base_at (grammar std) s.toks k) (is_identifier (base_at (grammar std) s.toks k)) (is_typedef_at s.toks s.names.scopes k) (base_is std s.toks k) i n e

  -- ---- Two lists

  module _ (a b : List Token) where
    -- token k is a typedef name in both, or in none
    abbrev pub Same : List (List Declaration) → ℕ → Type 0
    Same scopes k = is_identifier (base_at (grammar std) a k) ≡ true → is_typedef_at b scopes k ≡ is_typedef_at a scopes k

    module _ (classes : (k : ℕ) → base_at (grammar std) a k ≡ base_at (grammar std) b k) (s : State) (k : ℕ) (of_a : s.toks ≡ a) where
      abbrev counted : Class → Bool → Class
      counted x t = if is_identifier x && t then typedef_name else x

      -- from what is so of the one list to the two classes
      both : (P : Class → Class → Type 0)
          → P (counted (base_at (grammar std) a k) (is_typedef_at b s.names.scopes k)) (counted (base_at (grammar std) a k) (is_typedef_at a s.names.scopes k))
          → P (class_at (grammar std) (swapped b s) k) (class_at (grammar std) s k)
      unfolding class_at
      both P h =
          subst (λ (t : List Token). P (counted (base_at (grammar std) b k) (is_typedef_at b s.names.scopes k)) (counted (base_at (grammar std) t k) (is_typedef_at t s.names.scopes k))) (sym of_a)
          (subst (λ (x : Class). P (counted x (is_typedef_at b s.names.scopes k)) (counted (base_at (grammar std) a k) (is_typedef_at a s.names.scopes k))) (classes k) h)

      alike_case : (F : Class → Bool) (x : Class) (i t u : Bool) → (i ≡ true → x ≡ identifier) → F identifier ≡ F typedef_name
          → F (if i && t then typedef_name else x) ≡ F (if i && u then typedef_name else x)
      alike_case F x true true true h e = refl
      alike_case F x true true false h e = sym e ∙ ap F (sym (h refl))
      alike_case F x true false true h e = ap F (h refl) ∙ e
      alike_case F x true false false h e = refl
      alike_case F x false t u h e = refl

      -- what does not tell a typedef name from another says the same of both
      pub alike_by : (F : Class → Bool) → F identifier ≡ F typedef_name → F (class_at (grammar std) (swapped b s) k) ≡ F (class_at (grammar std) s k)
      alike_by F e =
          both (λ x y. F x ≡ F y)
          (alike_case F (base_at (grammar std) a k) (is_identifier (base_at (grammar std) a k)) (is_typedef_at b s.names.scopes k) (is_typedef_at a s.names.scopes k) (base_is std a k) e)

      pub blind_same : (L : List Class) → blind L ≡ true → among L (class_at (grammar std) (swapped b s) k) ≡ among L (class_at (grammar std) s k)
      blind_same L e = alike_by (among L) (agree_is _ _ e)

      same_case : (x : Class) (i t u : Bool) → (i ≡ true → t ≡ u) → (if i && t then typedef_name else x) ≡ (if i && u then typedef_name else x)
      same_case x true t u h = ap (λ c. if c then typedef_name else x) (h refl)
      same_case x false t u h = refl

      pub same_class : Same s.names.scopes k → class_at (grammar std) (swapped b s) k ≡ class_at (grammar std) s k
      same_class h =
          both (λ x y. x ≡ y)
          (same_case (base_at (grammar std) a k) (is_identifier (base_at (grammar std) a k)) (is_typedef_at b s.names.scopes k) (is_typedef_at a s.names.scopes k) h)
