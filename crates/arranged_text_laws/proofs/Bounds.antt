-- Where the tokens of a file begin and end among its characters.
use Rattle.std.proofs.Common.{◌≡◌, ℕ, zero, suc, ◌+◌, ◌-◌, ◌<◌, ◌≤◌, List, [], ◌∷◌, length, Option, Some, None, refl, ap, ◌∙◌, arith}
use Rattle.std.specs.Prelude.{slice_get}
use Rattle.std.specs.Option.{option_map_or}
use Rattle.cs_base.specs.Token.{Token}
use Rattle.lexer.specs.Tokens.{tokens_of, open_comment_of}
use Rattle.list_cuts.specs.Cuts.{Cut, extent_of}
use Rattle.arranged_text_laws.specs.Weighed.{weighed}
use Rattle.arranged_text_laws.specs.Lists.{place_of}
use Rattle.arranged_text_laws.proofs.Formed.{Formed, IsKept}
use Rattle.arranged_text_laws.proofs.Widened.{widened, Widens}
use Rattle.arranged_text_laws.proofs.WeighedCut.{weight, same, widens_same, widens_up, cut_weighed, widened_same}
use Rattle.arranged_text_laws.proofs.FileWalk.{weights_of}
use Rattle.arranged_text_laws.proofs.FileTokens.{TokenAt, token_at}

pub some_at : {X : Type 0} (xs : List X) (k : ℕ) → k < length xs → (x : X) × (slice_get xs k ≡ Some x)
some_at [] k lt = absurd (omega (arith, lt))
some_at (x ∷ xs) zero lt = (x, refl)
some_at (x ∷ xs) (suc k) lt = some_at xs k (omega (arith, lt))

-- the number of the character behind token k - 1
abbrev pub end_place : List Token → ℕ → ℕ
end_place toks k = option_map_or (λ (t : Token). t.at.at + length t.text) (slice_get toks (k - 1)) 0

pub place_at : (toks : List Token) (k : ℕ) (t : Token) → slice_get toks k ≡ Some t → place_of toks k ≡ t.at.at
place_at toks k t there = ap (λ (o : Option Token). option_map_or (λ (u : Token). u.at.at) o 0) there

pub end_at : (toks : List Token) (k : ℕ) (t : Token) → slice_get toks k ≡ Some t → end_place toks (suc k) ≡ t.at.at + length t.text
end_at toks k t there =
    let less : suc k - 1 ≡ k = omega arith in
    ap (λ (j : ℕ). option_map_or (λ (u : Token). u.at.at + length u.text) (slice_get toks j) 0) less
    ∙ ap (λ (o : Option Token). option_map_or (λ (u : Token). u.at.at + length u.text) o 0) there

module _ (file : ℕ) (bytes : List ℕ) (none : open_comment_of bytes ≡ None) where
  -- token k of the file
  pub the_token : (k : ℕ) → k < length (tokens_of file bytes) → (t : Token) × (slice_get (tokens_of file bytes) k ≡ Some t) × TokenAt file bytes k t
  the_token k lt =
      let t = some_at (tokens_of file bytes) k lt in
      (t.0, t.1, token_at file bytes none k t.0 t.1)

  pub begins_weigh : (k : ℕ) → k < length (tokens_of file bytes) → weight (weights_of bytes) (place_of (tokens_of file bytes) k) ≡ k
  begins_weigh k lt =
      let t = the_token k lt in
      ap (weight (weights_of bytes)) (place_at (tokens_of file bytes) k t.0 t.1 ∙ t.2.place) ∙ t.2.spot_of.index

  pub nexts_weigh : (k : ℕ) → k < length (tokens_of file bytes) → weight (weights_of bytes) (suc (place_of (tokens_of file bytes) k)) ≡ suc k
  nexts_weigh k lt =
      let t = the_token k lt in
      ap (λ (j : ℕ). weight (weights_of bytes) (suc j)) (place_at (tokens_of file bytes) k t.0 t.1 ∙ t.2.place) ∙ t.2.spot_of.next

  pub ends_weigh_suc : (k : ℕ) → k < length (tokens_of file bytes) → weight (weights_of bytes) (end_place (tokens_of file bytes) (suc k)) ≡ suc k
  ends_weigh_suc k lt =
      let t = the_token k lt in
      ap (weight (weights_of bytes)) (end_at (tokens_of file bytes) k t.0 t.1 ∙ t.2.ends) ∙ t.2.spot_of.end_index

  pub ends_weigh : (k : ℕ) → 0 < k → k ≤ length (tokens_of file bytes) → weight (weights_of bytes) (end_place (tokens_of file bytes) k) ≡ k
  ends_weigh zero some le = absurd (omega (arith, some))
  ends_weigh (suc k) some le = ends_weigh_suc k (omega (arith, le))

  pub chars_widen : Widens (place_of (tokens_of file bytes)) (end_place (tokens_of file bytes)) (length (tokens_of file bytes))
  chars_widen =
      widens_up (place_of (tokens_of file bytes)) (end_place (tokens_of file bytes)) same same (length (tokens_of file bytes)) (weights_of bytes)
      (widens_same (length (tokens_of file bytes))) begins_weigh nexts_weigh ends_weigh

  -- the cut of characters gives that of tokens
  pub chars_weighed : (c : Cut) → Formed c → IsKept c → extent_of c ≤ length (tokens_of file bytes)
      → weighed (widened (place_of (tokens_of file bytes)) (end_place (tokens_of file bytes)) 0 0 c) (weights_of bytes) ≡ c
  chars_weighed c f kept within =
      cut_weighed (place_of (tokens_of file bytes)) (end_place (tokens_of file bytes)) same same (length (tokens_of file bytes)) chars_widen (weights_of bytes)
      begins_weigh ends_weigh c f kept within ∙ widened_same 0 c f kept
