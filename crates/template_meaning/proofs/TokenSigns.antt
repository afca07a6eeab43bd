-- A token with the class of a parenthesis or of a comma is one.
use Rattle.std.proofs.Common.{◌≡◌, ℕ, ◌∷◌, [], List, Bool, true, false, not, ◌||◌, if◌then◌else◌, Option, None, Some, codes, refl, sym, ap, ◌∙◌, length}
use Rattle.std.specs.Prelude.{slice_get, ◌==◌}
use Rattle.std.specs.List.{list_all}
use Rattle.std.specs.Option.{option_map_or}
use Rattle.std.specs.Str.{bytes_eq}
use Rattle.std.proofs.lemmas.Bool.{false≢true, and_parts}
use Rattle.std.proofs.lemmas.Slice.Eq.{bytes_eq-Decides}
use Rattle.cs_base.specs.declared.tokens.Kind.{Kind}
use Rattle.cs_base.specs.declared.tokens.Kind.TheVariants as kind
use Rattle.c99_grammar.specs.declared.dialects.Edition.{Edition}
use Rattle.c99_grammar.specs.declared.dialects.Edition.TheVariants.{C99, C11}
use Rattle.cs_base.specs.Token.{Token}
use Rattle.c99_grammar.specs.declared.classes.Class.{Class}
use Rattle.c99_grammar.specs.declared.classes.Class.TheVariants.{LeftParen, RightParen, Comma, NoClass, End, Identifier, Constant, CharConstant, StringLiteral}
use Rattle.c99_grammar.specs.Classes.{is_same}
use Rattle.c99_grammar.specs.Spellings.{Spelled, punctuators}
use Rattle.c99_grammar.specs.Standard.{iso}
use Rattle.c99_grammar.specs.TokenClasses.{spelled_class, class_of_kind, base_class}
use Rattle.c99_read.specs.State.{base_at}
use Rattle.line_shape.specs.Signs.{is_sign, is_open, is_close, is_comma}
use Rattle.expansion_laws.specs.Arranging.{IsSign}
use Rattle.template_rules.specs.MacroOffences.{is_direct_at}
use Rattle.reordered_text_laws.specs.Classes.{is_mark}

-- a spelling with such a class is the only one
abbrev spells : Class → List ℕ → Spelled → Bool
spells c sign w = not (is_same w.1 c) || bytes_eq w.0 sign

abbrev spells_none : Class → Spelled → Bool
spells_none c w = not (is_same w.1 c)

no_class : (c d : Class) → is_mark c ≡ true → is_mark d ≡ false → d ≡ c → ⊥
no_class c d m n e = false≢true (sym n ∙ ap is_mark e ∙ m)

not_or : (a b : Bool) → a ≡ true → (not a || b) ≡ true → b ≡ true
not_or true b e h = h
not_or false b e h = absurd (false≢true e)

not_not : (a : Bool) → a ≡ true → not a ≡ true → ⊥
not_not true e h = false≢true h
not_not false e h = false≢true e

spelled : (c : Class) (sign : List ℕ) (words : List Spelled) (text : List ℕ) (other : Class) → is_same c c ≡ true → (other ≡ c → ⊥) → list_all (spells c sign) words ≡ true
    → spelled_class words text other ≡ c → bytes_eq text sign ≡ true
unfolding spelled_class
spelled c sign [] text other self lacks all e = absurd (lacks e)
spelled c sign (w ∷ words) text other self lacks all e =
    let both = and_parts (spells c sign w) (list_all (spells c sign) words) all in
    by (bytes_eq text w.0) refl both.0 (λ f. spelled c sign words text other self lacks both.1 f) e
  where
    by : (b : Bool) → bytes_eq text w.0 ≡ b → spells c sign w ≡ true → (spelled_class words text other ≡ c → bytes_eq text sign ≡ true) → (if b then w.1 else spelled_class words text other) ≡ c → bytes_eq text sign ≡ true
    by true at here later same =
        let pass = not_or (is_same w.1 c) (bytes_eq w.0 sign) (ap (λ (d : Class). is_same d c) same ∙ self) here in
        ap (λ (t : List ℕ). bytes_eq t sign) ((bytes_eq-Decides text w.0).0 at) ∙ pass
    by false at here later same = later same

unspelled : (c : Class) (words : List Spelled) (text : List ℕ) (other : Class) → is_same c c ≡ true → (other ≡ c → ⊥) → list_all (spells_none c) words ≡ true → spelled_class words text other ≡ c → ⊥
unfolding spelled_class
unspelled c [] text other self lacks all e = lacks e
unspelled c (w ∷ words) text other self lacks all e =
    let both = and_parts (spells_none c w) (list_all (spells_none c) words) all in
    by (bytes_eq text w.0) both.0 (λ f. unspelled c words text other self lacks both.1 f) e
  where
    by : (b : Bool) → spells_none c w ≡ true → (spelled_class words text other ≡ c → ⊥) → (if b then w.1 else spelled_class words text other) ≡ c → ⊥
    by true here later same = not_not (is_same w.1 c) (ap (λ (d : Class). is_same d c) same ∙ self) here
    by false here later same = later same

-- what is so of a parenthesis and of the comma
record IsMarkClass (s : Edition) (c : Class) (sign : List ℕ) : Type 0 where
  mark : is_mark c ≡ true
  self : is_same c c ≡ true
  punctuator : list_all (spells c sign) punctuators ≡ true
  keyword : list_all (spells_none c) (iso s).keywords ≡ true

open_class : (s : Edition) → IsMarkClass s LeftParen (codes "(")
open_class C99 = record { mark = refl; self = refl; punctuator = refl; keyword = refl }
open_class C11 = record { mark = refl; self = refl; punctuator = refl; keyword = refl }

close_class : (s : Edition) → IsMarkClass s RightParen (codes ")")
close_class C99 = record { mark = refl; self = refl; punctuator = refl; keyword = refl }
close_class C11 = record { mark = refl; self = refl; punctuator = refl; keyword = refl }

comma_class : (s : Edition) → IsMarkClass s Comma (codes ",")
comma_class C99 = record { mark = refl; self = refl; punctuator = refl; keyword = refl }
comma_class C11 = record { mark = refl; self = refl; punctuator = refl; keyword = refl }

sign_kind : (s : Edition) (c : Class) (sign : List ℕ) → IsMarkClass s c sign → (t : Token) → (k : Kind) → t.kind ≡ k → class_of_kind (iso s) k t.text ≡ c → is_sign sign t ≡ true
sign_kind s c sign m t kind.Punct is e =
    let same = spelled c sign punctuators t.text NoClass m.self (no_class c NoClass m.mark refl) m.punctuator e in
    rw (is, same) refl
sign_kind s c sign m t kind.Ident is e = absurd (unspelled c (iso s).keywords t.text Identifier m.self (no_class c Identifier m.mark refl) m.keyword e)
sign_kind s c sign m t kind.Number is e = absurd (no_class c Constant m.mark refl e)
sign_kind s c sign m t kind.Char is e = absurd (no_class c CharConstant m.mark refl e)
sign_kind s c sign m t kind.Str is e = absurd (no_class c StringLiteral m.mark refl e)
sign_kind s c sign m t _ is e = absurd (no_class c NoClass m.mark refl e)

token_sign : (s : Edition) (c : Class) (sign : List ℕ) → IsMarkClass s c sign → (t : Token) → base_class (iso s) t ≡ c → is_sign sign t ≡ true
unfolding base_class
token_sign s c sign m t e = sign_kind s c sign m t t.kind refl e

-- a token that no macro put in, with such a class
sign_at : (s : Edition) (c : Class) (sign : List ℕ) (test : Token → Bool) → ((t : Token) → is_sign sign t ≡ true → test t ≡ true) → IsMarkClass s c sign → (toks : List Token) (i : ℕ)
    → base_at (iso s) toks i ≡ c → is_direct_at toks i ≡ true → IsSign test toks i
sign_at s c sign test pass m toks i e direct = by (slice_get toks i) refl e direct
  where
    none_of : (b : Bool) → (if b then End else NoClass) ≡ c → ⊥
    none_of true same = no_class c End m.mark refl same
    none_of false same = no_class c NoClass m.mark refl same

    by : (o : Option Token) → slice_get toks i ≡ o → option_map_or (base_class (iso s)) o (if i == length toks then End else NoClass) ≡ c → option_map_or (λ (t : Token). t.direct) o false ≡ true
        → IsSign test toks i
    by None is same d = absurd (none_of (i == length toks) same)
    by (Some t) is same d = record { mark = t; has = is; direct = d; is_sign = pass t (token_sign s c sign m t same) }

open_pass : (t : Token) → is_sign (codes "(") t ≡ true → is_open t ≡ true
unfolding is_open
open_pass t h = h

close_pass : (t : Token) → is_sign (codes ")") t ≡ true → is_close t ≡ true
unfolding is_close
close_pass t h = h

comma_pass : (t : Token) → is_sign (codes ",") t ≡ true → is_comma t ≡ true
unfolding is_comma
comma_pass t h = h

pub open_at : (s : Edition) (toks : List Token) (i : ℕ) → base_at (iso s) toks i ≡ LeftParen → is_direct_at toks i ≡ true → IsSign is_open toks i
open_at s toks i = sign_at s LeftParen (codes "(") is_open open_pass (open_class s) toks i

pub close_at : (s : Edition) (toks : List Token) (i : ℕ) → base_at (iso s) toks i ≡ RightParen → is_direct_at toks i ≡ true → IsSign is_close toks i
close_at s toks i = sign_at s RightParen (codes ")") is_close close_pass (close_class s) toks i

pub comma_at : (s : Edition) (toks : List Token) (i : ℕ) → base_at (iso s) toks i ≡ Comma → is_direct_at toks i ≡ true → IsSign is_comma toks i
comma_at s toks i = sign_at s Comma (codes ",") is_comma comma_pass (comma_class s) toks i
