-- Texts of the classes of another one, whose identifiers are spelled as no other token, but for some that are spelled by the
-- empty word.
use Rattle.std.proofs.Common.{ℕ, zero, suc, ◌+◌, ◌<◌, ◌≤◌, ◌≡◌, ◌⊎◌, Bool, true, false, ◌&&◌, if◌then◌else◌, ◌==◌, List, [], ◌∷◌, length, Option, None, Some, slice_get, refl, sym, ap, subst, ◌∙◌, arith, inl, inr}
use Rattle.std.specs.Option.{option_map, option_map_or}
use Rattle.std.specs.Str.{bytes_eq}
use Rattle.std.proofs.lemmas.Bool.{false≢true}
use Rattle.std.proofs.lemmas.Option.{slice_get_within}
use Rattle.std.proofs.lemmas.Slice.Eq.{bytes_eq-Decides}
use Rattle.c99_grammar.specs.declared.dialects.Edition.{Edition}
use Rattle.cs_base.specs.Token.{Token}
use Rattle.cs_base.specs.declared.tokens.Kind.{Kind}
use Rattle.cs_base.specs.declared.tokens.Kind.TheVariants.{Ident, Punct}
use Rattle.cs_base.proofs.BoolLemmas.{if_false as if_not, if_is as if_so, not_both}
use Rattle.c99_grammar.specs.declared.classes.Class.{Class}
use Rattle.c99_grammar.specs.declared.classes.Class.TheVariants.{Identifier, TypedefName, End, NoClass}
use Rattle.c99_grammar.specs.Spellings.{Spelled}
use Rattle.c99_grammar.specs.Standard.{Grammar, iso}
use Rattle.c99_grammar.specs.TokenClasses.{spelled_class, class_of_kind, base_class}
use Rattle.c99_read.specs.State.{base_at, spelling_at, is_identifier}
use Rattle.c99_grammar.proofs.StandardLemmas.{by_edition}
use Rattle.reordered_text_laws.specs.Alone.{AreAlone}
use Rattle.reordered_text_laws.specs.Fronted.{used, Fits}
use Rattle.reordered_text_laws.specs.InOrder.{with_words}
use Rattle.reordered_text_laws.proofs.FrontClasses.{other_way}

pub class_is : (c : Class) → is_identifier c ≡ true → c ≡ Identifier
class_is Identifier e = refl
class_is _ e = absurd (false≢true e)

-- ---- Words

abbrev pub zeros : ℕ → List ℕ
zeros zero = []
zeros (suc n) = 0 ∷ zeros n

pub length-zeros : (n : ℕ) → length (zeros n) ≡ n
length-zeros zero = refl
length-zeros (suc n) = ap suc (length-zeros n)

pub same_length : (v w : List ℕ) → bytes_eq v w ≡ true → length v ≡ length w
same_length v w e = ap length ((bytes_eq-Decides v w).0 e)

-- as many bytes as a text has, or more
abbrev pub bytes_in : List Token → ℕ
bytes_in [] = 0
bytes_in (t ∷ ts) = length t.text + bytes_in ts

pub bytes_of : (toks : List Token) (k : ℕ) (t : Token) → slice_get toks k ≡ Some t → length t.text ≤ bytes_in toks
bytes_of [] k t e = absurd (cc)
bytes_of (x ∷ toks) zero t e = (let same : length x.text ≡ length t.text = ap (λ o. option_map_or (λ (y : Token). length y.text) o 0) e in omega (arith, same))
bytes_of (x ∷ toks) (suc k) t e = (let few : length t.text ≤ bytes_in toks = bytes_of toks k t e in omega (arith, few))

-- ---- Texts

-- what stands for an identifier is given, with its number; another token that is spelled by the empty word gets one of zeros
module _ (s : Edition) (m : ℕ) (word : ℕ → Token → Token) where
  abbrev pub with_text : List ℕ → Token → Token
  with_text w t = record t { text = w }

  abbrev pub reworded_token : ℕ → Token → Token
  reworded_token k t = if is_identifier (base_class (iso s) t) then word k t else (if bytes_eq [] t.text then with_text (zeros (suc m)) t else t)

  abbrev pub reworded_from : ℕ → List Token → List Token
  reworded_from j [] = []
  reworded_from j (t ∷ ts) = reworded_token j t ∷ reworded_from (j + 1) ts

  pub length-reworded : (toks : List Token) (j : ℕ) → length (reworded_from j toks) ≡ length toks
  length-reworded [] j = refl
  length-reworded (t ∷ toks) j = ap suc (length-reworded toks (j + 1))

  reworded_got : (toks : List Token) (j k : ℕ) → slice_get (reworded_from j toks) k ≡ option_map (reworded_token (j + k)) (slice_get toks k)
  reworded_got [] j k = refl
  reworded_got (t ∷ toks) j zero = ap (λ n. Some (reworded_token n t)) (let same : j ≡ j + 0 = omega arith in same)
  reworded_got (t ∷ toks) j (suc k) =
      reworded_got toks (j + 1) k ∙ ap (λ n. option_map (reworded_token n) (slice_get toks k)) (let same : (j + 1) + k ≡ j + suc k = omega arith in same)

-- ---- Classes

pub base_some : (g : Grammar) (toks : List Token) (k : ℕ) (t : Token) → slice_get toks k ≡ Some t → base_at g toks k ≡ base_class g t
base_some g toks k t e = ap (λ o. option_map_or (base_class g) o (if k == length toks then End else NoClass)) e

pub base_none : (g : Grammar) (toks : List Token) (k : ℕ) → slice_get toks k ≡ None → base_at g toks k ≡ (if k == length toks then End else NoClass)
base_none g toks k e = ap (λ o. option_map_or (base_class g) o (if k == length toks then End else NoClass)) e

pub end_other : (c : Bool) → is_identifier (if c then End else NoClass) ≡ false
end_other true = refl
end_other false = refl

pub spelled_some : (toks : List Token) (k : ℕ) (t : Token) → slice_get toks k ≡ Some t → spelling_at toks k ≡ t.text
spelled_some toks k t e = ap (λ o. option_map_or (λ (x : Token). x.text) o []) e

pub spelled_none : (toks : List Token) (k : ℕ) → slice_get toks k ≡ None → spelling_at toks k ≡ []
spelled_none toks k e = ap (λ o. option_map_or (λ (x : Token). x.text) o []) e

empty_name : (s : Edition) → spelled_class (iso s).keywords [] Identifier ≡ Identifier
unfolding spelled_class
empty_name s = by_edition (λ s. spelled_class (iso s).keywords [] Identifier ≡ Identifier) refl refl s

zero_name : (s : Edition) (w : List ℕ) → spelled_class (iso s).keywords (0 ∷ w) Identifier ≡ Identifier
unfolding spelled_class
zero_name s w = by_edition (λ s. spelled_class (iso s).keywords (0 ∷ w) Identifier ≡ Identifier) refl refl s

module _ (s : Edition) where
  -- a token that is no identifier has its class with zeros too, where it had the empty word
  zeros_class : (k : Kind) (w : List ℕ) → is_identifier (class_of_kind (iso s) k []) ≡ false → class_of_kind (iso s) k (0 ∷ w) ≡ class_of_kind (iso s) k []
  unfolding spelled_class
  zeros_class Ident w e = absurd (not_both _ (ap is_identifier (empty_name s)) e)
  zeros_class Punct w e = refl
  zeros_class _ w e = refl

  other_class : (m : ℕ) (t : Token) → is_identifier (base_class (iso s) t) ≡ false
      → base_class (iso s) (if bytes_eq [] t.text then record t { text = zeros (suc m) } else t) ≡ base_class (iso s) t
  unfolding base_class
  other_class m t e = by (bytes_eq [] t.text) refl
    where
      by : (b : Bool) → bytes_eq [] t.text ≡ b
          → class_of_kind (iso s) (if b then record t { text = zeros (suc m) } else t).kind (if b then record t { text = zeros (suc m) } else t).text ≡ class_of_kind (iso s) t.kind t.text
      by true f =
          let none : t.text ≡ [] = sym ((bytes_eq-Decides [] t.text).0 f) in
          zeros_class t.kind (zeros m) (ap (λ w. is_identifier (class_of_kind (iso s) t.kind w)) (sym none) ∙ e) ∙ ap (class_of_kind (iso s) t.kind) (sym none)
      by false f = refl

  token_class : (m : ℕ) (word : ℕ → Token → Token) → ((k : ℕ) (t : Token) → is_identifier (base_class (iso s) t) ≡ true → base_class (iso s) (word k t) ≡ Identifier)
      → (k : ℕ) (t : Token) → base_class (iso s) (reworded_token s m word k t) ≡ base_class (iso s) t
  token_class m word words k t = by (is_identifier (base_class (iso s) t)) refl
    where
      by : (c : Bool) → is_identifier (base_class (iso s) t) ≡ c
          → base_class (iso s) (if c then word k t else (if bytes_eq [] t.text then record t { text = zeros (suc m) } else t)) ≡ base_class (iso s) t
      by true e = words k t e ∙ sym (class_is (base_class (iso s) t) e)
      by false e = other_class m t e

-- a token of the text, or none
pub each_token : {P : Type 0} (toks : List Token) (k : ℕ) → (slice_get toks k ≡ None → P) → ((t : Token) → slice_get toks k ≡ Some t → P) → P
each_token {P} toks k nothing found = by (slice_get toks k) refl
  where
    by : (o : Option Token) → slice_get toks k ≡ o → P
    by None e = nothing e
    by (Some t) e = found t e

pub none_behind : (toks : List Token) (k : ℕ) → slice_get toks k ≡ None → k < length toks → ⊥
none_behind [] k e lt = omega (arith, lt)
none_behind (t ∷ toks) zero e lt = false≢true (sym (ap (λ o. option_map_or (λ (x : Token). true) o false) e))
none_behind (t ∷ toks) (suc k) e lt = none_behind toks k e (omega (arith, lt))

module _ (s : Edition) (m : ℕ) (word : ℕ → Token → Token) (toks : List Token) where
  abbrev pub reworded : List Token
  reworded = reworded_from s m word 0 toks

  got : (k : ℕ) → slice_get reworded k ≡ option_map (reworded_token s m word k) (slice_get toks k)
  got k = reworded_got s m word toks 0 k ∙ ap (λ n. option_map (reworded_token s m word n) (slice_get toks k)) (let same : 0 + k ≡ k = omega arith in same)

  pub got_some : (k : ℕ) (t : Token) → slice_get toks k ≡ Some t → slice_get reworded k ≡ Some (reworded_token s m word k t)
  got_some k t e = got k ∙ ap (option_map (reworded_token s m word k)) e

  pub got_none : (k : ℕ) → slice_get toks k ≡ None → slice_get reworded k ≡ None
  got_none k e = got k ∙ ap (option_map (reworded_token s m word k)) e

  pub base_same : ((k : ℕ) (t : Token) → is_identifier (base_class (iso s) t) ≡ true → base_class (iso s) (word k t) ≡ Identifier)
      → (k : ℕ) → base_at (iso s) reworded k ≡ base_at (iso s) toks k
  base_same words k =
      each_token toks k
      (λ e. base_none (iso s) reworded k (got_none k e) ∙ (ap (λ n. if k == n then End else NoClass) (length-reworded s m word toks 0) ∙ sym (base_none (iso s) toks k e)))
      (λ t e. base_some (iso s) reworded k (reworded_token s m word k t) (got_some k t e) ∙ (token_class s m word words k t ∙ sym (base_some (iso s) toks k t e)))

pub filled_text : (m : ℕ) (t : Token) → bytes_eq [] (if bytes_eq [] t.text then record t { text = zeros (suc m) } else t).text ≡ false
filled_text m t = by (bytes_eq [] t.text) refl
  where
    by : (c : Bool) → bytes_eq [] t.text ≡ c → bytes_eq [] (if c then record t { text = zeros (suc m) } else t).text ≡ false
    by true e = refl
    by false e = e

-- ---- A word for each identifier

-- the grammar in which the empty word is a typedef name
abbrev pub typed_words : Edition → List Spelled
typed_words s = ([], TypedefName) ∷ (iso s).keywords

module _ (s : Edition) (q : ℕ → Bool) (toks : List Token) where
  abbrev g : Grammar
  g = iso s

  abbrev h : Grammar
  h = with_words (typed_words s) (iso s)

  abbrev m : ℕ
  m = bytes_in toks

  -- some are spelled by the empty word, and any other by a word of its own
  abbrev own_word : ℕ → Token → Token
  own_word k t = record t { kind = Ident; text = if q k then [] else zeros (suc (m + suc k)) }

  abbrev pub keyed : List Token
  keyed = reworded s m own_word toks

  pub length-keyed : length keyed ≡ length toks
  length-keyed = length-reworded s m own_word toks 0

  own_class : (k : ℕ) (t : Token) → is_identifier (base_class g t) ≡ true → base_class g (own_word k t) ≡ Identifier
  unfolding base_class
  own_class k t e = by (q k)
    where
      by : (c : Bool) → spelled_class (iso s).keywords (if c then [] else zeros (suc (m + suc k))) Identifier ≡ Identifier
      by true = empty_name s
      by false = zero_name s (zeros (m + suc k))

  pub keyed_base : (k : ℕ) → base_at g keyed k ≡ base_at g toks k
  keyed_base k = base_same s m own_word toks own_class k

  full_class : (t : Token) → bytes_eq [] t.text ≡ false → base_class h t ≡ base_class g t
  unfolding base_class spelled_class
  full_class t e = by t.kind
    where
      by : (k : Kind) → class_of_kind h k t.text ≡ class_of_kind g k t.text
      by Ident = if_not (bytes_eq t.text []) TypedefName (spelled_class (iso s).keywords t.text Identifier) (other_way t.text e)
      by _ = refl

  abbrev as_typed : Bool → Class → Class
  as_typed c d = if c then TypedefName else d

  own_typed : (k : ℕ) (t : Token) (c : Bool) → is_identifier (base_class g t) ≡ true
      → base_class h (record t { kind = Ident; text = if c then [] else zeros (suc (m + suc k)) }) ≡ as_typed c (base_class g t)
  unfolding base_class spelled_class
  own_typed k t true e = refl
  own_typed k t false e = zero_name s (zeros (m + suc k)) ∙ sym (class_is (base_class g t) e)

  typed_class : (k : ℕ) (t : Token) → base_class h (reworded_token s m own_word k t) ≡ as_typed (is_identifier (base_class g t) && q k) (base_class g t)
  typed_class k t = by (is_identifier (base_class g t)) refl
    where
      by : (c : Bool) → is_identifier (base_class g t) ≡ c
          → base_class h (if c then own_word k t else (if bytes_eq [] t.text then record t { text = zeros (suc m) } else t)) ≡ as_typed (c && q k) (base_class g t)
      by true e = own_typed k t (q k) e
      by false e = full_class (if bytes_eq [] t.text then record t { text = zeros (suc m) } else t) (filled_text m t) ∙ other_class s m t e

  -- the classes by that grammar
  pub keyed_typed : (k : ℕ) → base_at h keyed k ≡ (if is_identifier (base_at g toks k) && q k then TypedefName else base_at g toks k)
  keyed_typed k =
      each_token toks k
      (λ e. base_none h keyed k (got_none s m own_word toks k e) ∙ (ap (λ n. if k == n then End else NoClass) length-keyed
      ∙ sym (ap (λ c. as_typed (is_identifier c && q k) c) (base_none g toks k e) ∙ none_typed (k == length toks))))
      (λ t e. base_some h keyed k (reworded_token s m own_word k t) (got_some s m own_word toks k t e)
      ∙ (typed_class k t ∙ sym (ap (λ c. as_typed (is_identifier c && q k) c) (base_some g toks k t e))))
    where
      none_typed : (c : Bool) → as_typed (is_identifier (if c then End else NoClass) && q k) (if c then End else NoClass) ≡ (if c then End else NoClass)
      none_typed true = refl
      none_typed false = refl

  -- ---- Spellings

  used_token : (k : ℕ) (t : Token) → bytes_eq [] (reworded_token s m own_word k t).text ≡ (is_identifier (base_class g t) && q k)
  used_token k t = by (is_identifier (base_class g t))
    where
      own : (c : Bool) → bytes_eq [] (if c then [] else zeros (suc (m + suc k))) ≡ c
      own true = refl
      own false = refl

      by : (c : Bool) → bytes_eq [] (if c then own_word k t else (if bytes_eq [] t.text then record t { text = zeros (suc m) } else t)).text ≡ (c && q k)
      by true = own (q k)
      by false = filled_text m t

  -- these tokens of the text are spelled by the empty word
  pub keyed_used : (k : ℕ) → k < length toks → used keyed k ≡ (is_identifier (base_at g toks k) && q k)
  keyed_used k lt =
      each_token toks k (λ e. absurd (none_behind toks k e lt))
      (λ t e. ap (bytes_eq []) (spelled_some keyed k (reworded_token s m own_word k t) (got_some s m own_word toks k t e))
      ∙ (used_token k t ∙ sym (ap (λ c. is_identifier c && q k) (base_some g toks k t e))))

  -- an identifier is in the text
  pub named_within : (k : ℕ) → is_identifier (base_at g toks k) ≡ true → k < length toks
  named_within k h = each_token toks k (λ e. absurd (not_both _ h (ap is_identifier (base_none g toks k e) ∙ end_other (k == length toks)))) (λ t e. slice_get_within toks k t e)

  -- a word of its own is longer than the others
  abbrev Size : ℕ → ℕ → Type 0
  Size k n = (n ≡ suc (m + suc k)) ⊎ (n ≤ suc m)

  token_size : (k : ℕ) (t : Token) → slice_get toks k ≡ Some t → Size k (length (reworded_token s m own_word k t).text)
  token_size k t e = by (is_identifier (base_class g t))
    where
      own : (c : Bool) → Size k (length (if c then [] else zeros (suc (m + suc k))))
      own true = inr (omega arith)
      own false = inl (length-zeros (suc (m + suc k)))

      other : (c : Bool) → length (if c then record t { text = zeros (suc m) } else t).text ≤ suc m
      other true = (let long : length (zeros (suc m)) ≡ suc m = length-zeros (suc m) in omega (arith, long))
      other false = (let few : length t.text ≤ m = bytes_of toks k t e in omega (arith, few))

      by : (c : Bool) → Size k (length (if c then own_word k t else (if bytes_eq [] t.text then record t { text = zeros (suc m) } else t)).text)
      by true = own (q k)
      by false = inr (other (bytes_eq [] t.text))

  size_at : (k : ℕ) → Size k (length (spelling_at keyed k))
  size_at k =
      each_token toks k (λ e. inr (let long : length (spelling_at keyed k) ≡ 0 = ap length (spelled_none keyed k (got_none s m own_word toks k e)) in omega (arith, long)))
      (λ t e. subst (λ w. Size k (length w)) (sym (spelled_some keyed k (reworded_token s m own_word k t) (got_some s m own_word toks k t e))) (token_size k t e))

  own_size : (k : ℕ) → is_identifier (base_at g toks k) ≡ true → q k ≡ false → length (spelling_at keyed k) ≡ suc (m + suc k)
  own_size k named other =
      each_token toks k (λ e. absurd (not_both _ named (ap is_identifier (base_none g toks k e) ∙ end_other (k == length toks))))
      (λ t e. ap length (spelled_some keyed k (reworded_token s m own_word k t) (got_some s m own_word toks k t e))
      ∙ (ap (λ (x : Token). length x.text) (if_so (is_identifier (base_class g t)) (own_word k t) _ (ap is_identifier (sym (base_some g toks k t e)) ∙ named))
      ∙ (ap (λ c. length (if c then [] else zeros (suc (m + suc k)))) other ∙ length-zeros (suc (m + suc k)))))

  -- another identifier is spelled as no other token
  pub keyed_apart : (i j : ℕ) → is_identifier (base_at g toks i) ≡ true → q i ≡ false → bytes_eq (spelling_at keyed i) (spelling_at keyed j) ≡ true → i ≡ j
  keyed_apart i j named other e =
      let long : length (spelling_at keyed i) ≡ suc (m + suc i) = own_size i named other in
      let same : length (spelling_at keyed i) ≡ length (spelling_at keyed j) = same_length (spelling_at keyed i) (spelling_at keyed j) e in
      by long same (size_at j)
    where
      by : length (spelling_at keyed i) ≡ suc (m + suc i) → length (spelling_at keyed i) ≡ length (spelling_at keyed j) → Size j (length (spelling_at keyed j)) → i ≡ j
      by long same (inl is) = omega (arith, long, same, is)
      by long same (inr few) = absurd (omega (arith, long, same, few))

  pub keyed_alone : AreAlone h keyed
  keyed_alone i j named e = by (is_identifier (base_at g toks i)) (q i) refl refl (ap is_identifier (sym (keyed_typed i)) ∙ named)
    where
      by : (c b : Bool) → is_identifier (base_at g toks i) ≡ c → q i ≡ b → is_identifier (as_typed (is_identifier (base_at g toks i) && q i) (base_at g toks i)) ≡ true → i ≡ j
      by true true f k n = absurd (not_both _ n (ap (λ x. is_identifier (as_typed x (base_at g toks i))) (ap (λ x. x && q i) f ∙ k)))
      by true false f k n = keyed_apart i j f k e
      by false b f k n = absurd (not_both _ n (ap (λ x. is_identifier (as_typed (x && q i) (base_at g toks i))) f ∙ f))

  pub keyed_fits : (k : ℕ) → Fits keyed g h k
  keyed_fits k = by (is_identifier (base_at g toks k)) (q k) refl refl
    where
      plain : (is_identifier (base_at g toks k) && q k) ≡ false → Fits keyed g h k
      plain e = inl (
        keyed_typed k ∙ (ap (λ x. as_typed x (base_at g toks k)) e ∙ sym (keyed_base k)),
        λ n. keyed_used k (named_within k (ap is_identifier (sym (keyed_base k)) ∙ n)) ∙ e,
      )

      by : (c b : Bool) → is_identifier (base_at g toks k) ≡ c → q k ≡ b → Fits keyed g h k
      by true true f b =
          let so : (is_identifier (base_at g toks k) && q k) ≡ true = ap (λ x. x && q k) f ∙ b in
          inr (keyed_used k (named_within k f) ∙ so, (keyed_typed k ∙ ap (λ x. as_typed x (base_at g toks k)) so, keyed_base k ∙ class_is (base_at g toks k) f))
      by true false f b = plain (ap (λ x. x && q k) f ∙ b)
      by false b f k' = plain (ap (λ x. x && q k) f)
