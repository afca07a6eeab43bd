-- Kinds and spellings in a new order: the token at each place.
use Rattle.std.proofs.Common.{ℕ, zero, suc, ◌+◌, ◌<◌, ◌≤◌, ◌≡◌, ◌⊎◌, Bool, true, false, not, if◌then◌else◌, ◌==◌, List, [], ◌∷◌, length, map, get_or, Option, None, Some, slice_get, unwrap_or, refl, sym, ap, subst, ◌∙◌, arith, inl, inr}
use Rattle.std.specs.List.{list_all}
use Rattle.std.specs.Option.{option_map}
use Rattle.std.specs.Str.{bytes_eq}
use Rattle.std.proofs.lemmas.Bool.{false≢true, and_parts, not-true}
use Rattle.std.proofs.lemmas.List.{length-map}
use Rattle.std.proofs.lemmas.List.Sorted.{length_permutation}
use Rattle.std.proofs.lemmas.Option.{slice_get-map, slice_get_past, slice_get_cases, get_or_from_slice_get, unwrap_or-slice_get, same_Some as some_is}
use Rattle.c99_grammar.specs.declared.dialects.Edition.{Edition}
use Rattle.cs_base.specs.declared.tokens.Kind.{Kind}
use Rattle.cs_base.specs.declared.tokens.Kind.TheVariants.{Ident, Number, Char, Str, Punct, Header, Other}
use Rattle.cs_base.specs.Token.{Token}
use Rattle.cs_base.proofs.BoolLemmas.{not_both}
use Rattle.c99_tree.specs.Tree.{Node}
use Rattle.c99_grammar.specs.declared.classes.Class.{Class}
use Rattle.c99_grammar.specs.declared.classes.Class.TheVariants.{End, NoClass}
use Rattle.c99_grammar.specs.Spellings.{Spelled, punctuators}
use Rattle.c99_grammar.specs.Standard.{Grammar, iso}
use Rattle.c99_grammar.specs.TokenClasses.{spelled_class, class_of_kind, base_class}
use Rattle.c99_read.specs.State.{base_at, spelling_at, is_identifier}
use Rattle.list_cuts.specs.Cuts.{Cut, IsOrder, arranged, AreOf}
use Rattle.list_cuts.proofs.CutLemmas.{arranged-map, arranged_permutes}
use Rattle.reordered_tree_laws.specs.Cuts.{cut_in}
use Rattle.expansion_laws.specs.Spelled.{fits, is_spelled}
use Rattle.reordered_text_laws.specs.ByClasses.{numbers_from}
use Rattle.reordered_text_laws.proofs.Numbered.{length-numbers_from}
use Rattle.reordered_text_laws.specs.Joined.{NamesAreSpelled, AreTokensInOrder, plains, TextsAreReadInOrder, PlainTokensStandInOrder, ArrangedTextsAreRead, SpelledTextsHaveNames}
use Rattle.reordered_text_laws.proofs.Reworded.{base_some, base_none, spelled_some, spelled_none, each_token, end_other}

-- ---- The element at each place

some_all : {X : Type 0} (f : ℕ → Option X) (j : ℕ) (xs : List X) → ((k : ℕ) → k < length xs → f (j + k) ≡ slice_get xs k) → map (λ x. Some x) xs ≡ map f (numbers_from j (length xs))
some_all f j [] e = refl
some_all {X} f j (x ∷ xs) e =
    ap (λ (o : Option X). o ∷ map (λ y. Some y) xs) (sym (ap f (let same : j ≡ j + 0 = omega arith in same) ∙ e 0 (omega arith)))
    ∙ ap (λ os. f j ∷ os)
    (some_all f (j + 1) xs (λ k lt. ap f (let same : (j + 1) + k ≡ j + suc k = omega arith in same) ∙ e (suc k) (omega (arith, lt))))

abbrev is_there : {X : Type 0} → Option X → Bool
is_there None = false
is_there (Some x) = true

module _ {X : Type 0} (n : ℕ) (order : List ℕ) (c : Cut) (xs : List X) (is : IsOrder n order) (all : AreOf n c) where
  abbrev places : List ℕ
  places = arranged order c (numbers_from 0 (length xs))

  abbrev pub place : ℕ → ℕ
  place k = get_or places k k

  -- the same element stands at the one place and at the other; or none does behind the last one
  abbrev pub Got : ℕ → Type 0
  Got k =
      ((a : X) × ((slice_get (arranged order c xs) k ≡ Some a) × (slice_get xs (place k) ≡ Some a)))
      ⊎ ((slice_get (arranged order c xs) k ≡ None) × ((place k ≡ k) × (slice_get xs k ≡ None)))

  numbers_all : map (λ x. Some x) xs ≡ map (slice_get xs) (numbers_from 0 (length xs))
  numbers_all = some_all (slice_get xs) 0 xs (λ k lt. ap (slice_get xs) (let same : 0 + k ≡ k = omega arith in same))

  as_long : length places ≡ length xs
  as_long = length_permutation (numbers_from 0 (length xs)) places (arranged_permutes n order c (numbers_from 0 (length xs)) is all) ∙ length-numbers_from 0 (length xs)

  both_at : (k : ℕ) → option_map (λ x. Some x) (slice_get (arranged order c xs) k) ≡ option_map (slice_get xs) (slice_get places k)
  both_at k =
      sym (slice_get-map (λ x. Some x) (arranged order c xs) k)
      ∙ (ap (λ os. slice_get os k)
      (sym (arranged-map (λ x. Some x) order c xs) ∙ (ap (arranged order c) numbers_all ∙ arranged-map (slice_get xs) order c (numbers_from 0 (length xs))))
      ∙ slice_get-map (slice_get xs) places k)

  pub arranged_got : (k : ℕ) → Got k
  arranged_got k = by (slice_get (arranged order c xs) k) refl (slice_get_cases places k).1
    where
      by : (o : Option X) → slice_get (arranged order c xs) k ≡ o
          → (((p : ℕ) × (k < length places) × (slice_get places k ≡ Some p) × (get_or places k p ≡ p)) ⊎ ((length places ≤ k) × (slice_get places k ≡ None))) → Got k
      by (Some a) e (inl h) =
          let same : Some (Some a) ≡ Some (slice_get xs h.0) = sym (ap (option_map (λ x. Some x)) e) ∙ (both_at k ∙ ap (option_map (slice_get xs)) h.2) in
          inl (a, (e, ap (slice_get xs) (get_or_from_slice_get places k h.0 k h.2) ∙ sym (some_is (Some a) (slice_get xs h.0) same)))
      by None e (inl h) = absurd (false≢true (ap is_there (sym (ap (option_map (λ x. Some x)) e) ∙ (both_at k ∙ ap (option_map (slice_get xs)) h.2))))
      by (Some a) e (inr h) = absurd (false≢true (sym (ap is_there (sym (ap (option_map (λ x. Some x)) e) ∙ (both_at k ∙ ap (option_map (slice_get xs)) h.1)))))
      by None e (inr h) =
          let far : length places ≤ k = h.0 in
          inr (e, (sym (unwrap_or-slice_get places k k) ∙ ap (λ o. unwrap_or o k) h.1, slice_get_past xs k (let long : length places ≡ length xs = as_long in omega (arith, far, long))))

-- ---- Tokens by their kinds and spellings

abbrev plain_of : Token → Kind × List ℕ
plain_of t = (t.kind, t.text)

plain_some : (toks : List Token) (k : ℕ) (a : Kind × List ℕ) → slice_get (plains toks) k ≡ Some a → (t : Token) × ((slice_get toks k ≡ Some t) × (plain_of t ≡ a))
plain_some toks k a e = by (slice_get toks k) refl (sym (slice_get-map plain_of toks k) ∙ e)
  where
    by : (o : Option Token) → slice_get toks k ≡ o → option_map plain_of o ≡ Some a → (t : Token) × ((slice_get toks k ≡ Some t) × (plain_of t ≡ a))
    by None f h = absurd (false≢true (ap is_there h))
    by (Some t) f h = (t, (f, some_is (plain_of t) a h))

plain_none : (toks : List Token) (k : ℕ) → slice_get (plains toks) k ≡ None → slice_get toks k ≡ None
plain_none toks k e = by (slice_get toks k) refl (sym (slice_get-map plain_of toks k) ∙ e)
  where
    by : (o : Option Token) → slice_get toks k ≡ o → option_map plain_of o ≡ None → slice_get toks k ≡ None
    by None f h = f
    by (Some t) f h = absurd (false≢true (sym (ap is_there h)))

class_plain : (g : Grammar) (t : Token) → base_class g t ≡ class_of_kind g (plain_of t).0 (plain_of t).1
unfolding base_class
class_plain g t = refl

module _ (s : Edition) (n : ℕ) (order : List ℕ) (lists : ℕ → Bool) (old new : List Token) (tree : Node) (is : IsOrder n order) (all : AreOf n (cut_in lists tree))
    (same : plains new ≡ arranged order (cut_in lists tree) (plains old)) where
  abbrev there : ℕ → ℕ
  there k = get_or (arranged order (cut_in lists tree) (numbers_from 0 (length old))) k k

  length-plains : (toks : List Token) → length (plains toks) ≡ length toks
  length-plains toks = length-map toks plain_of

  long : length new ≡ length old
  long =
      sym (length-plains new)
      ∙ (ap length same
      ∙ (length_permutation (plains old) (arranged order (cut_in lists tree) (plains old)) (arranged_permutes n order (cut_in lists tree) (plains old) is all) ∙ length-plains old))

  abbrev Alike : ℕ → ℕ → Type 0
  Alike k j = (base_at (iso s) new k ≡ base_at (iso s) old j) × (spelling_at new k ≡ spelling_at old j)

  alike_there : (k : ℕ) → Alike k (there k)
  alike_there k =
      subst (λ m. Alike k (get_or (arranged order (cut_in lists tree) (numbers_from 0 m)) k k)) (length-plains old) (by (arranged_got n order (cut_in lists tree) (plains old) is all k))
    where
      at : ℕ
      at = place n order (cut_in lists tree) (plains old) is all k

      by : Got n order (cut_in lists tree) (plains old) is all k → Alike k (place n order (cut_in lists tree) (plains old) is all k)
      by (inl h) =
          let t = plain_some new k h.0 (ap (λ xs. slice_get xs k) same ∙ h.1.0) in
          let u = plain_some old at h.0 h.1.1 in
          let is_same : plain_of t.0 ≡ plain_of u.0 = t.1.1 ∙ sym u.1.1 in (
            base_some (iso s) new k t.0 t.1.0
                ∙ (class_plain (iso s) t.0 ∙ (ap (λ (p : Kind × List ℕ). class_of_kind (iso s) p.0 p.1) is_same ∙ (sym (class_plain (iso s) u.0) ∙ sym (base_some (iso s) old at u.0 u.1.0)))),
            spelled_some new k t.0 t.1.0 ∙ (ap (λ (p : Kind × List ℕ). p.1) is_same ∙ sym (spelled_some old at u.0 u.1.0)),
          )
      by (inr h) =
          let none_new : slice_get new k ≡ None = plain_none new k (ap (λ xs. slice_get xs k) same ∙ h.0) in
          let none_old : slice_get old k ≡ None = plain_none old k h.1.1 in
          subst (λ j. Alike k j) (sym h.1.0) (
            base_none (iso s) new k none_new ∙ (ap (λ m. if k == m then End else NoClass) long ∙ sym (base_none (iso s) old k none_old)),
            spelled_none new k none_new ∙ sym (spelled_none old k none_old),
          )

  in_order : AreTokensInOrder s order lists tree old new × (NamesAreSpelled s old → NamesAreSpelled s new)
  in_order = (
    (long, λ k. (alike_there k).0),
    λ full k e. ap (bytes_eq []) (alike_there k).1 ∙ full (there k) (ap is_identifier (sym (alike_there k).0) ∙ e),
  )

pub plain_tokens : PlainTokensStandInOrder
plain_tokens s n order lists old new tree is all same = in_order s n order lists old new tree is all same

pub arranged_texts : TextsAreReadInOrder → ArrangedTextsAreRead
arranged_texts reads s n order lists old new tree full same read is all agree =
    let so = in_order s n order lists old new tree is all same in
    reads s n order lists old new tree full (so.1 full) so.0 read is all agree

-- ---- Spellings

all_spelled : (ts : List Token) (j : ℕ) (t : Token) → slice_get ts j ≡ Some t → list_all is_spelled ts ≡ true → is_spelled t ≡ true
all_spelled [] j t f h = absurd (false≢true (ap is_there f))
all_spelled (x ∷ ts) zero t f h = subst (λ (y : Token). is_spelled y ≡ true) (some_is x t f) (and_parts (is_spelled x) (list_all is_spelled ts) h).0
all_spelled (x ∷ ts) (suc j) t f h = all_spelled ts j t f (and_parts (is_spelled x) (list_all is_spelled ts) h).1

spelled_other : (words : List Spelled) (text : List ℕ) (other : Class) → list_all (λ (w : Spelled). not (is_identifier w.1)) words ≡ true → is_identifier other ≡ false
    → is_identifier (spelled_class words text other) ≡ false
unfolding spelled_class
spelled_other [] text other all e = e
spelled_other (w ∷ words) text other all e =
    let parts = and_parts (not (is_identifier w.1)) (list_all (λ (v : Spelled). not (is_identifier v.1)) words) all in
    by (bytes_eq text w.0) (not-true (is_identifier w.1) parts.0) (spelled_other words text other parts.1 e)
  where
    by : (c : Bool) → is_identifier w.1 ≡ false → is_identifier (spelled_class words text other) ≡ false → is_identifier (if c then w.1 else spelled_class words text other) ≡ false
    by true h k = h
    by false h k = k

-- an identifier that is spelled as one has a first character
named_text : (s : Edition) (t : Token) → is_identifier (base_class (iso s) t) ≡ true → fits t.kind t.text ≡ true → bytes_eq [] t.text ≡ false
unfolding base_class
named_text s t = by t.kind t.text
  where
    by : (k : Kind) (w : List ℕ) → is_identifier (class_of_kind (iso s) k w) ≡ true → fits k w ≡ true → bytes_eq [] w ≡ false
    by k (c ∷ w) e h = refl
    by Ident [] e h = absurd (false≢true h)
    by Punct [] e h = absurd (not_both (is_identifier (spelled_class punctuators [] NoClass)) e (spelled_other punctuators [] NoClass refl refl))
    by Number [] e h = absurd (false≢true e)
    by Char [] e h = absurd (false≢true e)
    by Str [] e h = absurd (false≢true e)
    by Header [] e h = absurd (false≢true e)
    by Other [] e h = absurd (false≢true e)

pub spelled_texts : SpelledTextsHaveNames
spelled_texts s toks all k e =
    each_token toks k (λ f. absurd (not_both _ e (ap is_identifier (base_none (iso s) toks k f) ∙ end_other (k == length toks))))
    (λ t f. ap (bytes_eq []) (spelled_some toks k t f)
    ∙ named_text s t (ap is_identifier (sym (base_some (iso s) toks k t f)) ∙ e) (and_parts (fits t.kind t.text) _ (all_spelled toks k t f all)).0)
