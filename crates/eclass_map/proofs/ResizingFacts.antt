-- What tells that members may get another length.
use Rattle.std.proofs.Common.{◌≡◌, ℕ, zero, suc, ◌+◌, ◌*◌, ◌<◌, ◌≤◌, ◌^◌, List, [], ◌∷◌, length, Bool, true, false, map, None, Option, Some, inl, inr, refl, sym, ap, subst, ◌∙◌, arith}
use Rattle.std.specs.Prelude.{slice_get, IsTrue, MatchBool}
use Rattle.std.specs.Option.{option_map}
use Rattle.std.proofs.Math.Nat.{mul-le-mul_right}
use Rattle.std.proofs.lemmas.Bool.{cases_lt}
use Rattle.std.proofs.lemmas.Option.{slice_get_within, slice_get-map, none-some, same_Some}
use Rattle.eclass_map.specs.declared.token_list.Added.{Added}
use Rattle.eclass_map.specs.ClassTable.{Table, IsAdded, added_tokens, members_of}
use Rattle.eclass_map.specs.Positions.{end_of}
use Rattle.eclass_map.specs.Resized.{IsNear, moved_to}
use Rattle.eclass_map.proofs.CallerFacts.{near_after}
use Rattle.cs_base.specs.declared.positions.Part.{Part}

pub near_more : (tokens : List Added) (more k : ℕ) (token : Added) → ((j : ℕ) (r : Added) → j < k → slice_get tokens j ≡ Some r → IsNear more r)
    → slice_get tokens k ≡ Some token → IsNear more token → (j : ℕ) (r : Added) → j < k + 1 → slice_get tokens j ≡ Some r → IsNear more r
near_more tokens more k token all is near j r less at = elim (cases_lt j k) [
  | inl before ↦ all j r before at
  | inr past ↦
      let here : j ≡ k = omega (arith, less, past) in
      let there : slice_get tokens k ≡ Some r = ap (slice_get tokens) (sym here) ∙ at in
      subst (λ (x : Added). IsNear more x) (same_Some token r (sym is ∙ there)) near
]

pub near_all : (tokens : List Added) (more k : ℕ) → length tokens ≤ k → ((j : ℕ) (r : Added) → j < k → slice_get tokens j ≡ Some r → IsNear more r)
    → (j : ℕ) (r : Added) → slice_get tokens j ≡ Some r → IsNear more r
near_all tokens more k past all j r at = let within = slice_get_within tokens j r at in all j r (omega (arith, past, within)) at

-- the growth of so few members is a number of the machine
pub product_fits : (count len : ℕ) → count < 2 ^ 32 → len < 2 ^ 32 → count * len < 2 ^ 64
product_fits count len few short =
    let less : count ≤ 2 ^ 32 = omega (arith, few) in
    let le = mul-le-mul_right len less in
    omega (arith, le, short)

-- a walk that is passed has so many members
pub counted : {X : Type 0} (xs : List X) (n : ℕ) (next : Option X) → next ≡ slice_get xs n → n ≤ length xs → ((x : X) → next ≡ Some x → ⊥) → n ≡ length xs
counted {X} xs n next is within none = elim (cases_lt n (length xs)) [
  | inl less ↦ absurd (more xs n less (λ x e. none x (is ∙ e)))
  | inr past ↦ omega (arith, within, past)
]
  where
    more : (ys : List X) (k : ℕ) → k < length ys → ((x : X) → slice_get ys k ≡ Some x → ⊥) → ⊥
    more [] k less none = omega (arith, less)
    more (y ∷ ys) zero less none = none y refl
    more (y ∷ ys) (suc k) less none = more ys k (omega (arith, less)) none

-- each added token is near, so none ends too far on
pub within_by : (b : Bool) (t : Table) (class len more count : ℕ) (tokens : List Added) → more ≡ count * len → count ≡ length (members_of t class) → tokens ≡ t.tokens
    → MatchBool b ((k : ℕ) (r : Added) → slice_get tokens k ≡ Some r → IsNear more r) (Unit {0}) → IsTrue b
    → (token : Part) → IsAdded t token → (moved_to class len t (end_of token)).at < 2 ^ 32
within_by false t class len more count tokens product members same near is token added = absurd (cc)
within_by true t class len more count tokens product members same near is token added =
    near_after class len count t (omega (arith, members)) each token added
  where
    each : (token : Part) → IsAdded t token → token.start.at + token.len + count * len < 2 ^ 32
    each token added = by (slice_get t.tokens added.0) refl
      where
        read : option_map (λ (r : Added). r.place) (slice_get t.tokens added.0) ≡ Some token
        read = sym (slice_get-map (λ (r : Added). r.place) t.tokens added.0) ∙ added.1

        by : (o : Option Added) → slice_get t.tokens added.0 ≡ o → token.start.at + token.len + count * len < 2 ^ 32
        by None e = absurd (none-some token (sym (ap (option_map (λ (r : Added). r.place)) e) ∙ read))
        by (Some r) e =
            let place : r.place ≡ token = same_Some r.place token (sym (ap (option_map (λ (x : Added). x.place)) e) ∙ read) in
            let fits = near added.0 r (ap (λ (ts : List Added). slice_get ts added.0) same ∙ e) in
            let start : r.place.start.at ≡ token.start.at = ap (λ (x : Part). x.start.at) place in
            let len_is : r.place.len ≡ token.len = ap (λ (x : Part). x.len) place in
            omega (arith, fits, start, len_is, product)
