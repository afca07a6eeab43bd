-- Lists of origins that are whole added tokens, as lists of numbers.
use Rattle.std.proofs.Common.{◌≡◌, ℕ, ◌+◌, ◌<◌, ◌≤◌, List, [], ◌∷◌, ◌++◌, zero, suc, length, map, refl, ap, sym, ◌∙◌, inl, inr, arith, subst, Option, Some}
use Rattle.std.specs.Prelude.{slice_get, unwrap_or}
use Rattle.std.specs.List.{flat_map}
use Rattle.std.proofs.lemmas.List.{map-append}
use Rattle.std.proofs.lemmas.Option.{none-some, same_Some}
use Rattle.cs_base.specs.declared.positions.Pos.{Pos}
use Rattle.cs_base.specs.declared.positions.Part.{Part}
use Rattle.eclass_map.specs.declared.token_list.Added.{Added}
use Rattle.eclass_map.specs.Positions.{along, index_at, number_of, Begins}
use Rattle.class_labels.specs.Runs.{IsEnd, Follows, Runs}
use Rattle.eclass_map.specs.ClassTable.{Table, IsAdded, positions, AreWhole}
use Rattle.eclass_map.specs.Kept.{IsKept}
use Rattle.class_labels.proofs.ListFacts.{was_at}
use Rattle.eclass_map.proofs.TokenFacts.{index_of_token}

-- an origin in an added token, with its number
pub record HeldOrigin (tokens : List Added) (o : Option Pos) : Type 0 where
  pub position : Pos
  pub is : o ≡ Some position
  pub number : ℕ
  pub at : index_at tokens position ≡ Some number

abbrev pub EachHeld : List Added → List (Option Pos) → Type 0
EachHeld tokens [] = Unit {0}
EachHeld tokens (o ∷ os) = HeldOrigin tokens o × EachHeld tokens os

pub each_held_at : (tokens : List Added) (os : List (Option Pos)) (k : ℕ) (o : Option Pos) → EachHeld tokens os → slice_get os k ≡ Some o → HeldOrigin tokens o
each_held_at tokens [] k o held at = absurd (none-some o at)
each_held_at tokens (u ∷ os) zero o held at = let P : Option Pos → Type 0 = λ v. HeldOrigin tokens v in subst P (same_Some u o at) held.0
each_held_at tokens (u ∷ os) (suc k) o held at = each_held_at tokens os k o held.1 at

each_held_append : (tokens : List Added) (os us : List (Option Pos)) → EachHeld tokens os → EachHeld tokens us → EachHeld tokens (os ++ us)
each_held_append tokens [] us h g = g
each_held_append tokens (o ∷ os) us h g = (h.0, each_held_append tokens os us h.1 g)

-- a list that begins with z and goes on to a token's end
pub record RunsFrom (B : ℕ → Type 0) (n z : ℕ) (zs : List ℕ) : Type 0 where
  pub rest : List ℕ
  pub is : zs ≡ z ∷ rest
  pub held : z < n
  pub follows : Follows B n z rest

-- a list that is empty, or begins with a token's beginning and goes on to a token's end
pub data WholeRuns (B : ℕ → Type 0) (n : ℕ) (zs : List ℕ) : Type 0 where
  empty : zs ≡ [] → WholeRuns B n zs
  begun : (z : ℕ) → B z → RunsFrom B n z zs → WholeRuns B n zs

-- behind a token's last character
pub behind_end : (B : ℕ → Type 0) (n x : ℕ) (zs : List ℕ) → IsEnd B n x → WholeRuns B n zs → Follows B n x zs
behind_end B n x zs end (empty e) = let P : List ℕ → Type 0 = λ v. Follows B n x v in subst P (sym e) end
behind_end B n x zs end (begun z b run) =
    let P : List ℕ → Type 0 = λ v. Follows B n x v in
    subst P (sym run.is) (record { held = run.held; next = inr (end, b) }, run.follows)

number_held : (tokens : List Added) (p : Pos) (i : ℕ) → index_at tokens p ≡ Some i → number_of tokens (Some p) ≡ i
number_held tokens p i e = ap (λ v. unwrap_or v 0) e

pub number_of_origin : (tokens : List Added) (o : Option Pos) (h : HeldOrigin tokens o) → number_of tokens o ≡ h.number
number_of_origin tokens o h = ap (λ v. number_of tokens v) h.is ∙ number_held tokens h.position h.number h.at

-- the rest of one token, and whole tokens behind it
token_runs : (t : Table) (kept : IsKept t) (k : ℕ) (r : Added) → slice_get t.tokens k ≡ Some r → (zs : List ℕ) → WholeRuns (Begins t.tokens) (length t.places) zs
    → (m o : ℕ) → o + suc m ≡ r.place.len → r.first + r.place.len ≤ length t.places
    → RunsFrom (Begins t.tokens) (length t.places) (r.first + o) (map (number_of t.tokens) (positions (along r.place.start o) (suc m)) ++ zs)
token_runs t kept k r at zs whole zero o sum within =
    let B = Begins t.tokens in
    let n = length t.places in
    let here : number_of t.tokens (Some (along r.place.start o)) ≡ r.first + o = number_held t.tokens (along r.place.start o) (r.first + o) (index_of_token t.tokens k r o kept.tokens at (omega arith)) in
    let end : IsEnd B n (r.first + o) = elim (kept.ends k r at) [
      | inl e ↦ inl (omega arith)
      | inr b ↦ let P : ℕ → Type 0 = λ v. B v in let e : r.first + r.place.len ≡ r.first + o + 1 = omega arith in inr (subst P e b)
    ] in
    record { rest = zs; is = ap (λ v. v ∷ zs) here; held = omega arith; follows = behind_end B n (r.first + o) zs end whole }
token_runs t kept k r at zs whole (suc m) o sum within =
    let B = Begins t.tokens in
    let n = length t.places in
    let here : number_of t.tokens (Some (along r.place.start o)) ≡ r.first + o = number_held t.tokens (along r.place.start o) (r.first + o) (index_of_token t.tokens k r o kept.tokens at (omega arith)) in
    let next = token_runs t kept k r at zs whole m (o + 1) (omega arith) within in
    let step : r.place.start.at + o + 1 ≡ r.place.start.at + (o + 1) = omega arith in
    let ahead : along (along r.place.start o) 1 ≡ along r.place.start (o + 1) = λ i. record { file = r.place.start.file; at = step i } in
    let rest : map (number_of t.tokens) (positions (along (along r.place.start o) 1) (suc m)) ++ zs ≡ (r.first + (o + 1)) ∷ next.rest =
    ap (λ v. map (number_of t.tokens) (positions v (suc m)) ++ zs) ahead ∙ next.is in
    record {
      rest = (r.first + (o + 1)) ∷ next.rest;
      is = ap (λ v. v ∷ (map (number_of t.tokens) (positions (along (along r.place.start o) 1) (suc m)) ++ zs)) here ∙ ap (λ v. (r.first + o) ∷ v) rest;
      held = omega arith;
      follows = (record { held = next.held; next = inl (omega arith) }, next.follows);
    }

positions_held : (t : Table) (kept : IsKept t) (k : ℕ) (r : Added) → slice_get t.tokens k ≡ Some r → (m o : ℕ) → o + m ≡ r.place.len → EachHeld t.tokens (positions (along r.place.start o) m)
positions_held t kept k r at zero o sum = tt
positions_held t kept k r at (suc m) o sum =
    let step : r.place.start.at + o + 1 ≡ r.place.start.at + (o + 1) = omega arith in
    let ahead : along r.place.start (o + 1) ≡ along (along r.place.start o) 1 = λ i. record { file = r.place.start.file; at = sym step i } in
    let P : Pos → Type 0 = λ v. EachHeld t.tokens (positions v m) in (
      record { position = along r.place.start o; is = refl; number = r.first + o; at = index_of_token t.tokens k r o kept.tokens at (omega arith) },
      subst P ahead (positions_held t kept k r at m (o + 1) (omega arith)),
    )

-- the entry of an added token
pub record Entry (t : Table) (token : Part) : Type 0 where
  pub index : ℕ
  pub entry : Added
  pub at : slice_get t.tokens index ≡ Some entry
  pub is : entry.place ≡ token

pub entry_of : (t : Table) (token : Part) → IsAdded t token → Entry t token
entry_of t token added = let w = was_at (λ (r : Added). r.place) t.tokens added.0 token added.1 in record { index = added.0; entry = w.was; at = w.at; is = w.is }

pub start_along : (p : Pos) → along p 0 ≡ p
start_along p = let e : p.at + 0 ≡ p.at = omega arith in λ i. record { file = p.file; at = e i }

token_first : (len : ℕ) → 0 < len → (m : ℕ) × (suc m ≡ len)
token_first zero h = absurd (omega arith)
token_first (suc m) h = (m, refl)

tokens_run : (t : Table) (kept : IsKept t) (fits : (k : ℕ) (r : Added) → slice_get t.tokens k ≡ Some r → r.first + r.place.len ≤ length t.places) (tokens : List Part)
    → ((k : ℕ) (token : Part) → slice_get tokens k ≡ Some token → IsAdded t token)
    → WholeRuns (Begins t.tokens) (length t.places) (map (number_of t.tokens) (flat_map (λ (token : Part). positions token.start token.len) tokens))
    × EachHeld t.tokens (flat_map (λ (token : Part). positions token.start token.len) tokens)
tokens_run t kept fits [] added = (empty refl, tt)
tokens_run t kept fits (token ∷ tokens) added =
    let os = flat_map (λ (token : Part). positions token.start token.len) tokens in
    let rest = tokens_run t kept fits tokens (λ k u at. added (suc k) u at) in
    let e = entry_of t token (added 0 token refl) in
    let r = e.entry in
    let m = token_first r.place.len (kept.tokens.some e.index r e.at) in
    let B = Begins t.tokens in
    let n = length t.places in
    let P : Pos → Type 0 = λ v. RunsFrom B n (r.first + 0) (map (number_of t.tokens) (positions v (suc m.0)) ++ map (number_of t.tokens) os) in
    let Q : ℕ → Type 0 = λ v. RunsFrom B n (r.first + 0) (map (number_of t.tokens) (positions r.place.start v) ++ map (number_of t.tokens) os) in
    let S : Part → Type 0 = λ v. RunsFrom B n (r.first + 0) (map (number_of t.tokens) (positions v.start v.len) ++ map (number_of t.tokens) os) in
    let T : List ℕ → Type 0 = λ v. RunsFrom B n (r.first + 0) v in
    let run = subst T (sym (map-append (number_of t.tokens) (positions token.start token.len) os))
    (subst S e.is (subst Q m.1 (subst P (start_along r.place.start) (token_runs t kept e.index r e.at (map (number_of t.tokens) os) rest.0 m.0 0 (let s = m.1 in omega arith) (fits e.index r e.at))))) in
    let U : Pos → Type 0 = λ v. EachHeld t.tokens (positions v r.place.len) in
    let V : Part → Type 0 = λ v. EachHeld t.tokens (positions v.start v.len) in (
      begun (r.first + 0) (e.index, r, e.at, (let z : r.first ≡ r.first + 0 = omega arith in z)) run,
      each_held_append t.tokens (positions token.start token.len) os (subst V e.is (subst U (start_along r.place.start) (positions_held t kept e.index r e.at r.place.len 0 (omega arith)))) rest.1,
    )

-- what a list of whole tokens is by number
pub record WholeNumbers (t : Table) (os : List (Option Pos)) : Type 0 where
  pub runs : Runs (Begins t.tokens) (length t.places) (map (number_of t.tokens) os)
  pub first : (z : ℕ) → slice_get (map (number_of t.tokens) os) 0 ≡ Some z → Begins t.tokens z
  pub held : EachHeld t.tokens os

whole_parts : (B : ℕ → Type 0) (n : ℕ) (zs : List ℕ) → WholeRuns B n zs → Runs B n zs × ((z : ℕ) → slice_get zs 0 ≡ Some z → B z)
whole_parts B n zs (empty e) =
    let P : List ℕ → Type 0 = λ v. Runs B n v × ((z : ℕ) → slice_get v 0 ≡ Some z → B z) in
    subst P (sym e) (tt, λ z at. absurd (none-some z at))
whole_parts B n zs (begun y b run) =
    let P : List ℕ → Type 0 = λ v. Runs B n v × ((z : ℕ) → slice_get v 0 ≡ Some z → B z) in
    let Q : ℕ → Type 0 = λ v. B v in
    subst P (sym run.is) ((run.held, run.follows), λ z at. subst Q (same_Some y z at) b)

pub whole_numbers : (t : Table) (kept : IsKept t) (fits : (k : ℕ) (r : Added) → slice_get t.tokens k ≡ Some r → r.first + r.place.len ≤ length t.places) (os : List (Option Pos)) → AreWhole t os → WholeNumbers t os
whole_numbers t kept fits os whole =
    let both = tokens_run t kept fits whole.tokens whole.added in
    let parts = whole_parts (Begins t.tokens) (length t.places) _ both.0 in
    let P : List (Option Pos) → Type 0 = λ v. WholeNumbers t v in
    subst P (sym whole.each) (record { runs = parts.0; first = parts.1; held = both.1 })
