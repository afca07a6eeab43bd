-- Headers that conditions ask for, piece by piece.
use Rattle.std.proofs.Common.{◌≡◌, ℕ, zero, suc, ◌+◌, ◌&&◌, Bool, true, false, List, [], ◌∷◌, ◌++◌, map, drop, take, length, Option, Some, None, refl, sym, ◌∙◌, ap, append_assoc, arith, inl, inr}
use Rattle.std.specs.List.{list_all}
use Rattle.std.proofs.lemmas.Bool.{cases_Bool, and_parts, and_from}
use Rattle.std.proofs.lemmas.List.{append-nil, map-append}
use Rattle.cs_base.specs.Token.{Token}
use Rattle.macro_expand.specs.Below.macro_body.Sound.{is_traced, is_low}
use Rattle.unit_steps.specs.declared.questions.Question.{Question as Kept}
use Rattle.unit_steps.specs.declared.questions.Question.TheVariants as kept
use Rattle.unit_steps.specs.Questions.{Question, Unasked, Looks, asks_header, asked_length, lacking, looks_with, questions_from, is_sound, question_of}

-- ---- where pieces begin

pub questions-drop : (early : Bool) (n : ℕ) (toks rest : List Token) → rest ≡ drop n toks → questions_from early n toks ≡ questions_from early 0 rest
unfolding questions_from
questions-drop early zero toks rest is = ap (questions_from early 0) (sym is)
questions-drop early (suc n) [] rest is = ap (questions_from early 0) (sym is)
questions-drop early (suc n) (t ∷ toks) rest is = questions-drop early n toks rest is

-- no token is left
pub questions-end : (early : Bool) (qs : List Question) (toks : List Token) → length toks ≡ 0 → qs ++ questions_from early 0 toks ≡ qs
unfolding questions_from
questions-end early qs [] none = append-nil qs
questions-end early qs (t ∷ toks) none = absurd (omega arith)

-- ---- one piece more

-- a piece behind others
one-more : (qs new : List Kept) (q : Kept) (rest : List Question) → new ≡ qs ++ q ∷ [] → map question_of qs ++ question_of q ∷ rest ≡ map question_of new ++ rest
one-more qs new q rest is =
    sym (append_assoc (map question_of qs) (question_of q ∷ []) rest)
    ∙ ap (λ (x : List Question). x ++ rest) (sym (map-append question_of qs (q ∷ [])) ∙ ap (map question_of) (sym is))

pub push-unasked : (early : Bool) (word t : Token) (after : List Token) (qs new : List Kept) → asks_header word ≡ false → t ≡ word → new ≡ qs ++ kept.Unasked t ∷ []
    → map question_of qs ++ questions_from early 0 (word ∷ after) ≡ map question_of new ++ questions_from early 0 after
unfolding questions_from
push-unasked early word t after qs new other same is =
    rw other (ap (λ (x : Token). map question_of qs ++ Unasked x ∷ questions_from early 0 after) (sym same) ∙ one-more qs new (kept.Unasked t) (questions_from early 0 after) is)

pub push-lacking : (early : Bool) (word : Token) (q : Kept) (after : List Token) (qs new : List Kept) → asks_header word ≡ true → None ≡ asked_length after → question_of q ≡ lacking early word
    → new ≡ qs ++ q ∷ [] → map question_of qs ++ questions_from early 0 (word ∷ after) ≡ map question_of new ++ questions_from early 0 after
unfolding questions_from
push-lacking early word q after qs new asks none same is =
    rw asks (ap (λ (o : Option ℕ). map question_of qs ++ looks_with early word after (λ skip. questions_from early skip after) o) (sym none)
    ∙ ap (λ (x : Question). map question_of qs ++ x ∷ questions_from early 0 after) (sym same) ∙ one-more qs new q (questions_from early 0 after) is)

pub push-looking : (early : Bool) (word : Token) (q : Kept) (n : ℕ) (after : List Token) (qs new : List Kept) → asks_header word ≡ true → Some n ≡ asked_length after
    → question_of q ≡ Looks word (take n (drop 1 after)) → new ≡ qs ++ q ∷ []
    → map question_of qs ++ questions_from early 0 (word ∷ after) ≡ map question_of new ++ questions_from early (n + 2) after
unfolding questions_from
push-looking early word q n after qs new asks found same is =
    rw asks (ap (λ (o : Option ℕ). map question_of qs ++ looks_with early word after (λ skip. questions_from early skip after) o) (sym found)
    ∙ ap (λ (x : Question). map question_of qs ++ x ∷ questions_from early (n + 2) after) (sym same) ∙ one-more qs new q (questions_from early (n + 2) after) is)

-- ---- pieces come from somewhere

abbrev sound : Token → Bool
sound t = is_traced t && is_low t

lacking-sound : (early : Bool) (word : Token) → sound word ≡ true → is_sound (lacking early word) ≡ true
lacking-sound true word h = h
lacking-sound false word h = refl

looks-sound : (early : Bool) (word : Token) (toks : List Token) (rest : ℕ → List Question) (o : Option ℕ) → sound word ≡ true → ((n : ℕ) → list_all is_sound (rest n) ≡ true)
    → list_all is_sound (looks_with early word toks rest o) ≡ true
looks-sound early word toks rest None h more = and_from (is_sound (lacking early word)) (list_all is_sound (rest 0)) (lacking-sound early word h) (more 0)
looks-sound early word toks rest (Some n) h more = and_from (is_low word) (list_all is_sound (rest (n + 2))) (and_parts (is_traced word) (is_low word) h).1 (more (n + 2))

pub questions-sound : (early : Bool) (skip : ℕ) (toks : List Token) → list_all sound toks ≡ true → list_all is_sound (questions_from early skip toks) ≡ true
unfolding questions_from
questions-sound early skip [] h = refl
questions-sound early (suc skip) (t ∷ toks) h = questions-sound early skip toks (and_parts (sound t) (list_all sound toks) h).1
questions-sound early zero (t ∷ toks) h =
    let parts = and_parts (sound t) (list_all sound toks) h in
    elim (cases_Bool (asks_header t)) [
      | inl asks ↦ rw asks (looks-sound early t toks (λ skip. questions_from early skip toks) (asked_length toks) parts.0 (λ n. questions-sound early n toks parts.1))
      | inr other ↦ rw other (and_from (sound t) (list_all is_sound (questions_from early 0 toks)) parts.0 (questions-sound early 0 toks parts.1))
    ]
