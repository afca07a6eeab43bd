-- The names that are known behind an item: from in front of its list, or tokens of the item.
use Rattle.std.proofs.Common.{ℕ, ◌+◌, ◌≤◌, ◌<◌, ◌≡◌, Bool, true, false, ◌&&◌, not, ◌==◌, List, ◌⊎◌, inl, inr, refl, sym, ap, ◌∙◌, arith}
use Rattle.std.specs.Prelude.{nat_lt}
use Rattle.std.specs.List.{All}
use Rattle.std.proofs.lemmas.Bool.{false≢true, cases_Bool, and_from, eqb-true, eqb-false, ltb-true, ltb-false, lt-ltb}
use Rattle.std.proofs.lemmas.List.Elements.{All-weaker}
use Rattle.cs_base.specs.Token.{Token}
use Rattle.cs_base.proofs.BoolLemmas.{and_none as off_second}
use Rattle.c99_tree.specs.Tree.{Forest, none, token, node}
use Rattle.c99_tree.specs.declared.production.Label.{Label}
use Rattle.c_types.specs.Declarations.{Facts}
use Rattle.c_types.specs.Tags.{number_in}
use Rattle.name_chains.specs.Frames.{state}
use Rattle.scope_bind.specs.Named.{Declaration, Frame}
use Rattle.scope_bind.specs.Walk.{walked}
use Rattle.tree_laws.specs.TreesOfTexts.{token_count, AreFrom}
use Rattle.reordered_tree_laws.specs.Beside.{IsOwnFrame}
use Rattle.reordered_tree_laws.specs.Owned.{space_number, is_clear, IsOwnName, IsOwnState}
use Rattle.reordered_tree_laws.specs.Siblings.{read_alone, is_between}
use Rattle.reordered_tree_laws.proofs.Owned.{own_walk}
use Rattle.reordered_tree_laws.proofs.ListForms.{between_yes, between_from, between_before}
use Rattle.reordered_tree_laws.specs.Going.{from_on}

off_first : (a b : Bool) → a ≡ false → (a && b) ≡ false
off_first true b e = absurd (false≢true (sym e))
off_first false b e = refl

module _ (begin at hi token_in_front : ℕ) (some : 1 ≤ begin) where
  -- a token from the list on that is none of the item's, nor the one in front of it
  abbrev elsewhere : ℕ → Bool
  elsewhere k = from_on begin k && (not (is_between at (hi + 1) k) && not (k == token_in_front))

  known_here : (k : ℕ) → from_on begin k ≡ false → elsewhere k ≡ false
  known_here k e = off_first (from_on begin k) (not (is_between at (hi + 1) k) && not (k == token_in_front)) e

  item_here : (k : ℕ) → at ≤ k → k ≤ hi → elsewhere k ≡ false
  item_here k low high =
      off_second (from_on begin k) (not (is_between at (hi + 1) k) && not (k == token_in_front))
      (off_first (not (is_between at (hi + 1) k)) (not (k == token_in_front)) (ap not (between_yes at (hi + 1) k low (omega (arith, high)))))

  front_here : elsewhere token_in_front ≡ false
  front_here =
      off_second (from_on begin token_in_front) (not (is_between at (hi + 1) token_in_front) && not (token_in_front == token_in_front))
      (off_second (not (is_between at (hi + 1) token_in_front)) (not (token_in_front == token_in_front)) (ap not (itself token_in_front)))
    where
      itself : (k : ℕ) → (k == k) ≡ true
      itself k = elim (cases_Bool (k == k)) [
        | inl e ↦ e
        | inr e ↦ absurd (eqb-false k k e refl)
      ]

  clear_here : (f : Forest) (lo : ℕ) → AreFrom lo f → at ≤ lo → lo + token_count f ≤ hi → is_clear elsewhere f ≡ true
  clear_here none lo w low high = refl
  clear_here (token i rest) lo w low high =
      and_from (not (elsewhere i)) (is_clear elsewhere rest) (ap not (item_here i (omega (arith, w.0, low)) (omega (arith, w.0, high))))
      (clear_here rest (lo + 1) w.1 (omega (arith, low)) (omega (arith, high)))
  clear_here (node l first under rest) lo w low high =
      and_from (not (elsewhere first)) (is_clear elsewhere under && is_clear elsewhere rest) (ap not (item_here first (omega (arith, w.0, low)) (omega (arith, w.0, high))))
      (and_from (is_clear elsewhere under) (is_clear elsewhere rest) (clear_here under lo w.1 low (omega (arith, high)))
      (clear_here rest (lo + token_count under) w.2 (omega (arith, low)) (omega (arith, high))))

  -- which tokens are not elsewhere
  abbrev pub IsNear : ℕ → Type 0
  IsNear k = (k < begin) ⊎ (((at ≤ k) × (k ≤ hi)) ⊎ (k ≡ token_in_front))

  near_by : (k : ℕ) → elsewhere k ≡ false → IsNear k
  near_by k e = elim (cases_Bool (nat_lt k begin)) [
    | inl a ↦ inl (ltb-true k begin a)
    | inr a ↦ elim (cases_Bool (is_between at (hi + 1) k)) [
      | inl b ↦ inr (inl (between_from at (hi + 1) k b, omega (arith, between_before at (hi + 1) k b)))
      | inr b ↦ elim (cases_Bool (k == token_in_front)) [
        | inl c ↦ inr (inr (eqb-true k token_in_front c))
        | inr c ↦
            let far : begin ≤ k = ltb-false k begin a in
            let on : from_on begin k ≡ true = and_from (nat_lt 0 k) (not (nat_lt k begin)) (lt-ltb 0 k (omega (arith, far, some))) (ap not a) in
            absurd (false≢true (sym e ∙ and_from (from_on begin k) (not (is_between at (hi + 1) k) && not (k == token_in_front)) on
            (and_from (not (is_between at (hi + 1) k)) (not (k == token_in_front)) (ap not b) (ap not c))))
      ]
    ]
  ]

-- Behind an item that is read alone each name is known from in front of its list, or is a token of the item or the one in
-- front of it.
pub names_near : (toks : List Token) (begin at hi : ℕ) (f : Facts) (fr : Frame) (m : Label) (under : Forest) → 1 ≤ begin → AreFrom at under → at + token_count under ≡ hi
    → All (IsOwnName (from_on begin)) f.declared → IsOwnFrame (from_on begin) (record fr { token = 0 })
    → All (λ (d : Declaration). (d.name_at < begin) ⊎ (((at ≤ d.name_at) × (d.name_at ≤ hi)) ⊎ (d.name_at ≡ fr.token))) (read_alone toks f fr m at under).declared
names_near toks begin at hi f fr m under some w same known own =
    let foreign : ℕ → Bool = elsewhere begin at hi fr.token some in
    let here : (k : ℕ) → from_on begin k ≡ false → foreign k ≡ false = known_here begin at hi fr.token some in
    let item : Forest = node m at under none in
    let clear : is_clear foreign item ≡ true = clear_here begin at hi fr.token some item at (refl, w, tt) (omega arith) (omega (arith, same)) in
    let before : IsOwnState foreign (state f fr) =
    record {
      declared = All-weaker (IsOwnName (from_on begin)) (IsOwnName foreign)
          (λ d h. record { ctype = here (number_in d.ctype) h.ctype; entity = here d.entity h.entity; name = here d.name_at h.name; space = here (space_number d.space) h.space })
          f.declared known;
      frame = record {
        base = here (number_in fr.base) own.base;
        given = here (number_in fr.given) own.given;
        found = here (number_in fr.found) own.found;
        token = front_here begin at hi fr.token some;
        owner = here fr.owner own.owner;
      };
    } in
    let zero_here : from_on begin 0 ≡ false = own.token in
    let after : IsOwnState foreign (walked toks item (state f fr)) = own_walk toks foreign (here 0 zero_here) item (state f fr) clear before in
    All-weaker (IsOwnName foreign) (λ d. (d.name_at < begin) ⊎ (((at ≤ d.name_at) × (d.name_at ≤ hi)) ⊎ (d.name_at ≡ fr.token)))
    (λ d h. near_by begin at hi fr.token some d.name_at h.name) (walked toks item (state f fr)).facts.declared after.declared
