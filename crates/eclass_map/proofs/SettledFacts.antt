-- Tokens settled one after another.
use Rattle.std.proofs.Common.{◌≡◌, ℕ, ◌+◌, ◌<◌, ◌≤◌, List, [], ◌∷◌, ◌++◌, length, drop, get_or, refl, ap, sym, ◌∙◌, inl, inr, arith, Some, append_assoc}
use Rattle.std.specs.Prelude.{slice_get}
use Rattle.std.proofs.lemmas.Option.{slice_get-get_or}
use Rattle.std.proofs.lemmas.List.{drop_more, drop_all, append-nil}
use Rattle.cs_base.specs.declared.positions.Pos.{Pos}
use Rattle.eclass_map.specs.declared.token_list.Added.{Added}
use Rattle.eclass_map.specs.Positions.{end_of, AreTokens}
use Rattle.eclass_map.specs.Settled.{settled, settled_token}
use Rattle.class_labels.proofs.AddFacts.{slice_get-append_right}
use Rattle.eclass_map.proofs.TokenFacts.{no_added}

settled_none : (numbers : List ℕ) (from : Pos) (to : ℕ) → settled numbers from to [] ≡ []
unfolding settled
settled_none numbers from to = refl

settled_cons : (numbers : List ℕ) (from : Pos) (to : ℕ) (r : Added) (rs : List Added)
    → settled numbers from to (r ∷ rs) ≡ settled_token numbers from to r ∷ settled numbers (end_of r.place) (end_of (settled_token numbers from to r).place).at rs
unfolding settled
settled_cons numbers from to r rs = refl

settled_drop : (numbers : List ℕ) (from : Pos) (to : ℕ) (tokens : List Added) (i : ℕ) → i < length tokens
    → settled numbers from to (drop i tokens) ≡ settled_token numbers from to (get_or tokens i no_added) ∷ settled numbers (end_of (get_or tokens i no_added).place) (end_of (settled_token numbers from to (get_or tokens i no_added)).place).at (drop (i + 1) tokens)
settled_drop numbers from to tokens i less = ap (λ v. settled numbers from to v) (drop_more tokens i no_added less) ∙ settled_cons numbers from to (get_or tokens i no_added) (drop (i + 1) tokens)

-- the next one
pub settled_here : (numbers : List ℕ) (from : Pos) (to : ℕ) (tokens all whole : List Added) (i : ℕ) → i < length tokens → i ≡ length all → all ++ settled numbers from to (drop i tokens) ≡ whole
    → slice_get whole i ≡ Some (settled_token numbers from to (get_or tokens i no_added))
settled_here numbers from to tokens all whole i less at rest =
    let s = settled_token numbers from to (get_or tokens i no_added) in
    let behind = settled numbers (end_of (get_or tokens i no_added).place) (end_of s.place).at (drop (i + 1) tokens) in
    ap (λ v. slice_get v i) (sym rest) ∙ ap (λ v. slice_get (all ++ v) i) (settled_drop numbers from to tokens i less) ∙ slice_get-append_right all (s ∷ behind) i 0 (omega arith)

-- the rest gives the whole
pub settled_more : (numbers : List ℕ) (from behind : Pos) (to after : ℕ) (s : Added) (tokens all now whole : List Added) (i : ℕ) → i < length tokens → all ++ settled numbers from to (drop i tokens) ≡ whole
    → s ≡ settled_token numbers from to (get_or tokens i no_added) → now ≡ all ++ s ∷ [] → behind ≡ end_of (get_or tokens i no_added).place → after ≡ s.place.start.at + s.place.len
    → now ++ settled numbers behind after (drop (i + 1) tokens) ≡ whole
settled_more numbers from behind to after s tokens all now whole i less rest is pushed e f =
    let r = get_or tokens i no_added in
    let t = settled_token numbers from to r in
    let tail = drop (i + 1) tokens in
    let g : after ≡ (end_of t.place).at = f ∙ ap (λ (v : Added). v.place.start.at + v.place.len) is in
    ap (λ v. v ++ settled numbers behind after tail) pushed
    ∙ ap (λ v. (all ++ s ∷ []) ++ settled numbers v after tail) e
    ∙ ap (λ v. (all ++ s ∷ []) ++ settled numbers (end_of r.place) v tail) g
    ∙ ap (λ v. (all ++ v ∷ []) ++ settled numbers (end_of r.place) (end_of t.place).at tail) is
    ∙ append_assoc all (t ∷ []) (settled numbers (end_of r.place) (end_of t.place).at tail)
    ∙ ap (λ v. all ++ v) (sym (settled_drop numbers from to tokens i less))
    ∙ rest

pub settled_all : (numbers : List ℕ) (from : Pos) (to : ℕ) (tokens all whole : List Added) (i : ℕ) → length tokens ≤ i → all ++ settled numbers from to (drop i tokens) ≡ whole → all ≡ whole
settled_all numbers from to tokens all whole i end rest =
    sym (append-nil all) ∙ ap (λ v. all ++ v) (sym (settled_none numbers from to)) ∙ ap (λ v. all ++ settled numbers from to v) (sym (drop_all i tokens end)) ∙ rest

pub token_here : (tokens : List Added) (i : ℕ) → i < length tokens → slice_get tokens i ≡ Some (get_or tokens i no_added)
token_here tokens i less = slice_get-get_or tokens i no_added less

-- where the text ends, the next tokens of the file have not begun
pub behind_more : (tokens : List Added) (i k : ℕ) (s : Added) (behind : Pos) → AreTokens tokens → i < length tokens → i + 1 ≤ k → slice_get tokens k ≡ Some s → behind ≡ end_of (get_or tokens i no_added).place
    → behind.file ≡ s.place.start.file → behind.at ≤ s.place.start.at
behind_more tokens i k s behind are less beyond at e file =
    let r = get_or tokens i no_added in
    let same = ap (λ (p : Pos). p.file) e in
    let there = ap (λ (p : Pos). p.at) e in
    elim (are.ordered i k r s (omega arith) (token_here tokens i less) at) [
      | inl f ↦ absurd (omega arith)
      | inr f ↦ let g = f.1 in omega arith
    ]
