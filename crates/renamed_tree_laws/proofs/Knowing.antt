-- What is known of the next token, as facts of the two lists.
use Rattle.std.proofs.Common.{ℕ, ◌+◌, ◌≡◌, ◌⊎◌, Bool, true, false, if◌then◌else◌, List, refl, sym, ap, ◌∙◌, inl}
use Rattle.std.proofs.lemmas.Bool.{false≢true}
use Rattle.c99_grammar.specs.declared.dialects.Dialect.{Dialect}
use Rattle.cs_base.specs.Token.{Token}
use Rattle.c99_grammar.specs.Classes.{among}
use Rattle.c99_grammar.specs.Standard.{grammar}
use Rattle.c99_read.specs.State.{base_at, is_identifier}
use Rattle.renamed_tree_laws.specs.Respelled.{Declaration}
use Rattle.renamed_tree_laws.proofs.Private.{identifier, colons}
use Rattle.renamed_tree_laws.proofs.Bases.{base_is}
use Rattle.renamed_tree_laws.proofs.Twins.{Same}
use Rattle.renamed_tree_laws.proofs.Moods.{Mood, any, label, calm, solid, at_least, weaker, stronger}

at_most : (m n : Mood) → at_least m n ≡ false → at_least n m ≡ true
at_most any any h = refl
at_most any label h = refl
at_most any calm h = refl
at_most any solid h = refl
at_most label any h = absurd (false≢true (sym h))
at_most label label h = refl
at_most label calm h = refl
at_most label solid h = refl
at_most calm any h = absurd (false≢true (sym h))
at_most calm label h = absurd (false≢true (sym h))
at_most calm calm h = refl
at_most calm solid h = refl
at_most solid any h = absurd (false≢true (sym h))
at_most solid label h = absurd (false≢true (sym h))
at_most solid calm h = absurd (false≢true (sym h))
at_most solid solid h = absurd (false≢true (sym h))

module _ (std : Dialect) where
  module _ (a b : List Token) (scopes : List (List Declaration)) (k : ℕ) where
    abbrev pub Known : Mood → Type 0
    Known any = Unit {0}
    Known label = Same std a b scopes k ⊎ (among colons (base_at (grammar std) a (k + 1)) ≡ true)
    Known calm = Same std a b scopes k
    Known solid = is_identifier (base_at (grammar std) a k) ≡ false

    pub no_name : is_identifier (base_at (grammar std) a k) ≡ false → Same std a b scopes k
    no_name h = λ e. absurd (false≢true (sym h ∙ e))

    pub known_less : (m n : Mood) → at_least m n ≡ true → Known m → Known n
    known_less m any e h = tt
    known_less any label e h = absurd (false≢true e)
    known_less any calm e h = absurd (false≢true e)
    known_less any solid e h = absurd (false≢true e)
    known_less label label e h = h
    known_less label calm e h = absurd (false≢true e)
    known_less label solid e h = absurd (false≢true e)
    known_less calm label e h = inl h
    known_less calm calm e h = h
    known_less calm solid e h = absurd (false≢true e)
    known_less solid label e h = inl (no_name h)
    known_less solid calm e h = no_name h
    known_less solid solid e h = h

    pub known_first : (m n : Mood) → Known m → Known (weaker m n)
    known_first m n h = by (at_least m n) refl
      where
        by : (c : Bool) → at_least m n ≡ c → Known (if c then n else m)
        by true e = known_less m n e h
        by false e = h

    pub known_second : (m n : Mood) → Known n → Known (weaker m n)
    known_second m n h = by (at_least m n) refl
      where
        by : (c : Bool) → at_least m n ≡ c → Known (if c then n else m)
        by true e = h
        by false e = known_less n m (at_most m n e) h

    pub known_both : (m n : Mood) → Known m → Known n → Known (stronger m n)
    known_both m n h h' = by (at_least m n)
      where
        by : (c : Bool) → Known (if c then m else n)
        by true = h
        by false = h'

  -- a colon is no identifier
  pub colon_is : (toks : List Token) (k : ℕ) → among colons (base_at (grammar std) toks k) ≡ true → is_identifier (base_at (grammar std) toks k) ≡ false
  colon_is toks k h = by (is_identifier (base_at (grammar std) toks k)) (base_is std toks k)
    where
      by : (i : Bool) → (i ≡ true → base_at (grammar std) toks k ≡ identifier) → i ≡ false
      by true f = absurd (false≢true (sym (ap (among colons) (f refl)) ∙ h))
      by false f = refl
