-- Characters of a token that stay, one by one.
use Rattle.std.proofs.Common.{◌≡◌, ℕ, zero, suc, ◌+◌, ◌<◌, ◌≤◌, true, List, [], ◌∷◌, ◌++◌, length, drop, get_or, Option, Some, None, refl, sym, ap, subst, ◌∙◌, arith}
use Rattle.std.specs.Prelude.{min}
use Rattle.std.proofs.lemmas.Option.{same_Some}
use Rattle.std.proofs.lemmas.List.{drop_all}
use Rattle.cs_base.specs.declared.positions.Pos.{Pos}
use Rattle.cs_base.specs.declared.tokens.Link.{Link}
use Rattle.cs_base.specs.Token.{Token, IsToken, origin_at, token}
use Rattle.analysis.specs.Below.lexer.Places.{pos, origins_from}
use Rattle.analysis.specs.Changed.{renamed_link, renamed_token}
use Rattle.offences.specs.declared.moves.FileMove.{FileMove}
use Rattle.offences.specs.declared.moves.Moves.{Moves}
use Rattle.offences.specs.declared.puts.Put.{Put}
use Rattle.offences.specs.declared.puts.Put.TheVariants.{Character}
use Rattle.offences.specs.Moves.{file_at, move_by, put_told, renaming_by, spell_by, text_for, trace_by}
use Rattle.offences.specs.Still.{AreStill, IsStill}
use Rattle.offences.proofs.TokLemmas.{back, front}

module _ (m : Moves) where
  -- a character more
  one_more : (o : Option Pos) (os : List (Option Pos)) (c : ℕ) (cs : List ℕ) → IsStill m o → AreStill m os cs → AreStill m (o ∷ os) (c ∷ cs)
  unfolding spell_by trace_by
  one_more o os c cs one rest = record {
    spelled = ap (λ (w : List ℕ). w ++ spell_by m os cs) (one.spelled c) ∙ ap (λ (w : List ℕ). c ∷ w) rest.spelled;
    traced = ap (λ (w : List (Option Pos)). w ++ trace_by m os cs) (one.traced c) ∙ ap (λ (w : List (Option Pos)). o ∷ w) rest.traced;
  }

  -- from a character on
  pub still_more : (t : Token) (is : IsToken t) (k c : ℕ) (o : Option Pos) → k < length t.text → get_or t.text k 0 ≡ c → o ≡ origin_at t k → IsStill m o
      → AreStill m (drop (k + 1) t.origins) (drop (k + 1) t.text) → AreStill m (drop k t.origins) (drop k t.text)
  still_more t is k c o less byte origin one rest =
      subst (λ (os : List (Option Pos)). AreStill m os (drop k t.text)) (sym (front m t is k c o less byte origin))
      (subst (λ (cs : List ℕ). AreStill m (o ∷ drop (k + 1) t.origins) cs) (sym (back m t is k c o less byte origin))
      (one_more o (drop (k + 1) t.origins) c (drop (k + 1) t.text) one rest))

  none_left : AreStill m [] []
  unfolding spell_by trace_by
  none_left = record { spelled = refl; traced = refl }

  -- from the end on
  pub still_end : (t : Token) (k : ℕ) → IsToken t → length t.text ≤ k → AreStill m (drop k t.origins) (drop k t.text)
  still_end t k is past =
      let each = is.each in
      subst (λ (os : List (Option Pos)). AreStill m os (drop k t.text)) (sym (drop_all k t.origins (omega (arith, past, each))))
      (subst (λ (cs : List ℕ). AreStill m [] cs) (sym (drop_all k t.text past)) none_left)

  -- all of them, from a character on
  from_on : (t : Token) → IsToken t → ((k : ℕ) → k < length t.text → IsStill m (origin_at t k)) → (n k : ℕ) → n + k ≡ length t.text
      → AreStill m (drop k t.origins) (drop k t.text)
  from_on t is each zero k sum = still_end t k is (omega (arith, sum))
  from_on t is each (suc n) k sum =
      let less : k < length t.text = omega (arith, sum) in
      still_more t is k (get_or t.text k 0) (origin_at t k) less refl refl (each k less) (from_on t is each n (k + 1) (omega (arith, sum)))

  pub all_still : (t : Token) → IsToken t → ((k : ℕ) → k < length t.text → IsStill m (origin_at t k)) → AreStill m t.origins t.text
  all_still t is each = from_on t is each (length t.text) 0 (omega arith)

  -- ---- a file in which no member stands

  none_told : (p : Pos) (f : Option FileMove) → file_at m p.file ≡ f → m.others.items ≡ [] → ((g : FileMove) → f ≡ Some g → g.puts.items ≡ [])
      → put_told m p ≡ Character
  none_told p None e none puts = rw (e, none) refl
  none_told p (Some g) e none puts = rw (e, none, puts g refl) refl

  stays_at : (p : Pos) → put_told m p ≡ Character → (move_by m p).at ≡ p.at → IsStill m (Some p)
  stays_at p character place = record {
    spelled = λ c. ap (λ (put : Put). text_for m.name.items put c) character;
    traced = λ c.
        ap (λ (put : Put). origins_from p.file (move_by m p).at (length (text_for m.name.items put c))) character
        ∙ ap (λ (n : ℕ). Some (pos p.file n) ∷ []) place;
  }

  pub calm_none : (p : Pos) → file_at m p.file ≡ None → m.others.items ≡ [] → IsStill m (Some p)
  calm_none p e none = stays_at p (none_told p None e none (λ g same. absurd (cc))) (rw e refl)

  pub calm_some : (p : Pos) (f : FileMove) → file_at m p.file ≡ Some f → m.others.items ≡ [] → f.still ≡ true → f.puts.items ≡ [] → p.at ≤ f.end
      → IsStill m (Some p)
  calm_some p f e none still puts within =
      let least : min p.at f.end ≡ p.at = omega (arith, within) in
      stays_at p (none_told p (Some f) e none (λ g same. ap (λ (h : FileMove). h.puts.items) (sym (same_Some f g same)) ∙ puts)) (rw (e, still) least)

-- a token whose characters stay, as the place does where it was brought
pub token_same : (m : Moves) (t : Token) → move_by m t.at ≡ t.at → AreStill m t.origins t.text → renamed_token (renaming_by m) t ≡ t
token_same m t at still = λ i. token t.kind (still.spelled i) (still.traced i) t.gap (at i) t.line t.direct

pub link_same : (m : Moves) (l : Link) → renamed_token (renaming_by m) l.x ≡ l.x → renamed_token (renaming_by m) l.y ≡ l.y
    → renamed_link (renaming_by m) l ≡ l
link_same m l x y = λ i. record { x = x i; y = y i }
