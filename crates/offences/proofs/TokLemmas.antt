-- Tokens that are respelled character by character.
use Rattle.std.proofs.Common.{◌≡◌, ℕ, zero, suc, ◌+◌, ◌<◌, ◌≤◌, ◌&&◌, Bool, true, List, [], ◌∷◌, ◌++◌, length, drop, get_or, Option, Some, None, refl, sym, ap, subst, ◌∙◌, arith, length-append, append_assoc, append-nil}
use Rattle.std.specs.Prelude.{IsTrue, is_some, slice_get}
use Rattle.std.specs.List.{list_all}
use Rattle.std.specs.Option.{option_and_then}
use Rattle.std.proofs.lemmas.List.{drop_more, drop_all}
use Rattle.std.proofs.lemmas.List.Folds.{list_all-append}
use Rattle.cs_base.specs.declared.positions.Pos.{Pos}
use Rattle.cs_base.specs.Padding.{padded}
use Rattle.cs_base.specs.Token.{Token, IsToken, IsTraced, origin_at}
use Rattle.cs_base.proofs.OriginLemmas.{padded_whole}
use Rattle.analysis.specs.Below.lexer.Places.{pos, origins_from}
use Rattle.analysis.proofs.Below.lexer.OriginLemmas.{length-origins as origins_length}
use Rattle.offences.specs.declared.moves.Moves.{Moves}
use Rattle.offences.specs.Moves.{put_by, move_by, spell_of, trace_of, spell_by, trace_by}

-- origins one behind the other
pub origins_more : (file at n : ℕ) → origins_from file at (n + 1) ≡ origins_from file at n ++ Some (pos file (at + n)) ∷ []
origins_more file at zero =
    let here : at + 0 ≡ at = omega arith in
    let next : 0 + 1 ≡ suc 0 = omega arith in
    ap (origins_from file at) next ∙ ap (λ (k : ℕ). Some (pos file k) ∷ []) (sym here)
origins_more file at (suc n) =
    let next : at + 1 + n ≡ at + suc n = omega arith in
    let more : suc n + 1 ≡ suc (n + 1) = omega arith in
    ap (origins_from file at) more ∙ ap (λ (os : List (Option Pos)). Some (pos file at) ∷ os)
    (origins_more file (at + 1) n ∙ ap (λ (k : ℕ). origins_from file (at + 1) n ++ Some (pos file k) ∷ []) next)

pub origins_pushed : (file at k : ℕ) (old mid new : List (Option Pos)) → mid ≡ old ++ origins_from file at k → new ≡ mid ++ Some (pos file (at + k)) ∷ []
    → new ≡ old ++ origins_from file at (k + 1)
origins_pushed file at k old mid new before pushed =
    pushed
    ∙ (ap (λ (os : List (Option Pos)). os ++ Some (pos file (at + k)) ∷ []) before
    ∙ (append_assoc old (origins_from file at k) (Some (pos file (at + k)) ∷ []) ∙ ap (λ (os : List (Option Pos)). old ++ os) (sym (origins_more file at k))))

-- no origin is missing
pub padded_long : (n : ℕ) (os : List (Option Pos)) → length os ≡ n → padded n os ≡ os
padded_long n os same = padded_whole n os same

origins_some : (file at n : ℕ) → list_all is_some (origins_from file at n) ≡ true
origins_some file at zero = refl
origins_some file at (suc n) = origins_some file (at + 1) n

-- what is read of one character
origin_there : (os : List (Option Pos)) (k : ℕ) → option_and_then (λ (o : Option Pos). o) (slice_get os k) ≡ get_or os k None
origin_there [] k = refl
origin_there (o ∷ os) zero = refl
origin_there (o ∷ os) (suc k) = origin_there os k

module _ (m : Moves) where
  spell_step : (o : Option Pos) (os : List (Option Pos)) (c : ℕ) (cs : List ℕ) → spell_by m (o ∷ os) (c ∷ cs) ≡ spell_of m o c ++ spell_by m os cs
  unfolding spell_by
  spell_step o os c cs = refl

  trace_step : (o : Option Pos) (os : List (Option Pos)) (c : ℕ) (cs : List ℕ) → trace_by m (o ∷ os) (c ∷ cs) ≡ trace_of m o c ++ trace_by m os cs
  unfolding trace_by
  trace_step o os c cs = refl

  module _ (t : Token) (is : IsToken t) (k c : ℕ) (o : Option Pos) (less : k < length t.text) (byte : get_or t.text k 0 ≡ c) (origin : o ≡ origin_at t k) where
    pub front : drop k t.origins ≡ o ∷ drop (k + 1) t.origins
    front =
        let each = is.each in
        drop_more t.origins k None (omega (arith, less, each)) ∙ ap (λ (x : Option Pos). x ∷ drop (k + 1) t.origins) (sym (origin_there t.origins k) ∙ sym origin)

    pub back : drop k t.text ≡ c ∷ drop (k + 1) t.text
    back = drop_more t.text k 0 less ∙ ap (λ (x : ℕ). x ∷ drop (k + 1) t.text) byte

    pub spell_more : (old mid new : List ℕ) → mid ++ spell_by m (drop k t.origins) (drop k t.text) ≡ old ++ spell_by m t.origins t.text → new ≡ mid ++ spell_of m o c
        → new ++ spell_by m (drop (k + 1) t.origins) (drop (k + 1) t.text) ≡ old ++ spell_by m t.origins t.text
    spell_more old mid new before pushed =
        ap (λ (w : List ℕ). w ++ spell_by m (drop (k + 1) t.origins) (drop (k + 1) t.text)) pushed
        ∙ (append_assoc mid (spell_of m o c) (spell_by m (drop (k + 1) t.origins) (drop (k + 1) t.text))
        ∙ (ap (λ (w : List ℕ). mid ++ w) (sym (spell_step o (drop (k + 1) t.origins) c (drop (k + 1) t.text)) ∙ sym both) ∙ before))
      where
        both : spell_by m (drop k t.origins) (drop k t.text) ≡ spell_by m (o ∷ drop (k + 1) t.origins) (c ∷ drop (k + 1) t.text)
        both = ap (λ (os : List (Option Pos)). spell_by m os (drop k t.text)) front ∙ ap (λ (cs : List ℕ). spell_by m (o ∷ drop (k + 1) t.origins) cs) back

    pub trace_more : (old mid new : List (Option Pos)) → mid ++ trace_by m (drop k t.origins) (drop k t.text) ≡ old ++ trace_by m t.origins t.text → new ≡ mid ++ trace_of m o c
        → new ++ trace_by m (drop (k + 1) t.origins) (drop (k + 1) t.text) ≡ old ++ trace_by m t.origins t.text
    trace_more old mid new before pushed =
        ap (λ (w : List (Option Pos)). w ++ trace_by m (drop (k + 1) t.origins) (drop (k + 1) t.text)) pushed
        ∙ (append_assoc mid (trace_of m o c) (trace_by m (drop (k + 1) t.origins) (drop (k + 1) t.text))
        ∙ (ap (λ (w : List (Option Pos)). mid ++ w) (sym (trace_step o (drop (k + 1) t.origins) c (drop (k + 1) t.text)) ∙ sym both) ∙ before))
      where
        both : trace_by m (drop k t.origins) (drop k t.text) ≡ trace_by m (o ∷ drop (k + 1) t.origins) (c ∷ drop (k + 1) t.text)
        both = ap (λ (os : List (Option Pos)). trace_by m os (drop k t.text)) front ∙ ap (λ (cs : List ℕ). trace_by m (o ∷ drop (k + 1) t.origins) cs) back

  pub spell_end : (t : Token) (k : ℕ) (old new : List ℕ) → IsToken t → length t.text ≤ k → new ++ spell_by m (drop k t.origins) (drop k t.text) ≡ old → new ≡ old
  unfolding spell_by
  spell_end t k old new is past done =
      let each = is.each in
      sym (append-nil new)
      ∙ (ap (λ (os : List (Option Pos)). new ++ spell_by m os []) (sym (drop_all k t.origins (omega (arith, past, each))))
      ∙ (ap (λ (cs : List ℕ). new ++ spell_by m (drop k t.origins) cs) (sym (drop_all k t.text past)) ∙ done))

  pub trace_end : (t : Token) (k : ℕ) (old new : List (Option Pos)) → IsToken t → length t.text ≤ k → new ++ trace_by m (drop k t.origins) (drop k t.text) ≡ old → new ≡ old
  unfolding trace_by
  trace_end t k old new is past done =
      let each = is.each in
      sym (append-nil new)
      ∙ (ap (λ (os : List (Option Pos)). new ++ trace_by m os []) (sym (drop_all k t.origins (omega (arith, past, each))))
      ∙ (ap (λ (cs : List ℕ). new ++ trace_by m (drop k t.origins) cs) (sym (drop_all k t.text past)) ∙ done))

  -- ---- one origin for each character

  one_long : (o : Option Pos) (c : ℕ) → length (trace_of m o c) ≡ length (spell_of m o c)
  one_long None c = refl
  one_long (Some p) c = origins_length p.file (move_by m p).at (length (put_by m p c))

  pub as_long : (os : List (Option Pos)) (cs : List ℕ) → length os ≡ length cs → length (trace_by m os cs) ≡ length (spell_by m os cs)
  unfolding spell_by trace_by
  as_long [] [] e = refl
  as_long [] (c ∷ cs) e = absurd (omega (arith, e))
  as_long (o ∷ os) [] e = absurd (omega (arith, e))
  as_long (o ∷ os) (c ∷ cs) e =
      let one = one_long o c in
      let rest = as_long os cs (omega (arith, e)) in
      let t = length-append (trace_of m o c) (trace_by m os cs) in
      let s = length-append (spell_of m o c) (spell_by m os cs) in
      omega (arith, one, rest, t, s)

  pub all_traced : (os : List (Option Pos)) (cs : List ℕ) → IsTrue (list_all is_some os) → IsTrue (list_all is_some (trace_by m os cs))
  unfolding trace_by
  all_traced [] cs h = h
  all_traced (o ∷ os) [] h = h
  all_traced (None ∷ os) (c ∷ cs) h = absurd (cc)
  all_traced (Some p ∷ os) (c ∷ cs) h =
      let n = length (put_by m p c) in
      subst (λ (b : Bool). IsTrue b) (sym (list_all-append is_some (origins_from p.file (move_by m p).at n) (trace_by m os cs) ∙ ap (λ (b : Bool). b && list_all is_some (trace_by m os cs)) (origins_some p.file (move_by m p).at n)))
      (all_traced os cs h)

  pub new_traced : (t : Token) → IsToken t → IsTraced t.kind (trace_by m t.origins t.text)
  new_traced t is has = all_traced t.origins t.text (is.traced has)
