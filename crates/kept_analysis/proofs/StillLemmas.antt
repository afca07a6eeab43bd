-- Files in which no member stands.
use Rattle.std.proofs.Common.{◌≡◌, ℕ, zero, suc, ◌+◌, ◌-◌, Bool, true, false, ◌==◌, if◌then◌else◌, List, [], ◌∷◌, ◌++◌, refl, ap, ◌∙◌}
use Rattle.analysis.specs.Below.lexer.Logical.{gone_length}
use Rattle.analysis.specs.Below.lexer.Places.{pos}
use Rattle.analysis.specs.Below.lexer.Respelling.{Put, edited, edited_from}
use Rattle.offences.specs.Moves.{editing_by, put_by}
use Rattle.offences.specs.declared.moves.Moves.{Moves}
use Rattle.kept_analysis.proofs.ByteLemmas.{editing_is}

either : (b : Bool) (p q r : List ℕ) → p ≡ r → q ≡ r → (if b then p else q) ≡ r
either true p q r one other = one
either false p q r one other = other

-- where each character stays, the bytes do
module _ (put : Put) (stays : (at c : ℕ) → put at c ≡ c ∷ []) where
  still_from : (skip at : ℕ) (cs : List ℕ) → edited_from put skip at cs ≡ cs
  unfolding edited_from
  still_from skip at [] = refl
  still_from (suc skip) at (c ∷ cs) = ap (λ (r : List ℕ). c ∷ r) (still_from skip at cs)
  still_from zero at (c ∷ cs) =
      either (gone_length c cs == 0) (put at c ++ edited_from put 0 (at + 1) cs) (c ∷ edited_from put (gone_length c cs - 1) at cs) (c ∷ cs)
      (ap (λ (r : List ℕ). r ++ edited_from put 0 (at + 1) cs) (stays at c) ∙ ap (λ (r : List ℕ). c ∷ r) (still_from 0 (at + 1) cs))
      (ap (λ (r : List ℕ). c ∷ r) (still_from (gone_length c cs - 1) at cs))

  still_bytes : (bytes : List ℕ) → edited put bytes ≡ bytes
  unfolding edited
  still_bytes bytes = still_from 0 0 bytes

pub editing_stays : (m : Moves) (number : ℕ) (bytes : List ℕ) → ((at c : ℕ) → put_by m (pos number at) c ≡ c ∷ []) → editing_by m number bytes ≡ bytes
unfolding editing_by
editing_stays m number bytes stays = still_bytes (λ at c. put_by m (pos number at) c) stays bytes
