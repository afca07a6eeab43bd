-- Units that reached an item stand between the first and the last that did; in others there is no processing of it.
use Rattle.std.proofs.Common.{◌≡◌, ℕ, zero, suc, ◌≤◌, ◌<◌, Bool, true, false, List, [], ◌∷◌, length, get_or, Some, slice_get, refl, sym, ap, ◌∙◌, arith}
use Rattle.std.specs.Prelude.{◌==◌, ◌&&◌, nat_le, nat_lt}
use Rattle.std.specs.List.{list_any, list_all}
use Rattle.std.specs.Option.{option_map_or}
use Rattle.std.proofs.lemmas.Bool.{true≢false, and_parts, and_from, or_parts, eqb-true, le-leb, lt-ltb, false_from_ne_true}
use Rattle.std.proofs.lemmas.Option.{slice_get-get_or, slice_get_within}
use Rattle.cs_base.specs.declared.positions.Part.{Part}
use Rattle.cs_base.specs.Token.{Token}
use Rattle.analysis.specs.Below.unit_steps.declared.events.Reached.{Reached}
use Rattle.analysis.specs.Below.unit_steps.Texts.{UnitTextValue}
use Rattle.c_types.specs.declared.lists.List.{List as NameList}
use Rattle.analysis.specs.Below.scope_bind.Bound.{Bound}
use Rattle.analysis.specs.Analysis.{UnitAnalysis}
use Rattle.list_cuts.specs.Cuts.{numbers}
use Rattle.offences.specs.Class.{ClassValue}
use Rattle.template_rules.specs.declared.item_units.ItemUnits.{ItemUnits}
use Rattle.template_rules.specs.declared.list_macros.Asked.{Asked}
use Rattle.template_rules.specs.declared.list_macros.Asked.TheVariants as asked
use Rattle.template_rules.specs.declared.unit_functions.UnitFunctions.{UnitFunctions}
use Rattle.template_rules.specs.Asking.{asks, NoneBefore, NoneFrom, AreWithin}
use Rattle.template_rules.specs.MacroOffences.{is_item, is_list_as, is_list_through}
use Rattle.template_rules.specs.Units.{AreUnits}

-- ---- a unit that did not reach an item

not_at : (r : Reached) (rs : List Reached) (j : ℕ) → list_any (is_item r) rs ≡ false → option_map_or (is_item r) (slice_get rs j) false ≡ false
not_at r [] j none = refl
not_at r (s ∷ rs) zero none = (or_parts (is_item r s) (list_any (is_item r) rs) none).0
not_at r (s ∷ rs) (suc j) none = not_at r rs j (or_parts (is_item r s) (list_any (is_item r) rs) none).1

all_true : {X : Type 0} (p : X → Bool) (xs : List X) → ((x : X) → p x ≡ true) → list_all p xs ≡ true
all_true p [] each = refl
all_true p (x ∷ xs) each = rw (each x) (all_true p xs each)

asks_true : (a : Asked) (l : NameList) (p : ℕ → Bool) → ((k : ℕ) → p k ≡ true) → asks a p l ≡ true
asks_true (asked.Mark k) l p each = each k
asks_true asked.All l p each = rw (each l.name, each l.begin, all_true p l.commas each, each l.close) refl

pub through_none : (members : List Part) (toks : List Token) (l : NameList) (a : Asked) (r : Reached) (text : UnitTextValue) (bound : Bound)
    → list_any (is_item r) text.reached ≡ false → asks a (λ k. is_list_through members toks l k r text bound) l ≡ true
through_none members toks l a r text bound none =
    asks_true a l (λ k. is_list_through members toks l k r text bound)
    (λ k. all_true (is_list_as members toks l k r text bound) (numbers 0 (length text.reached)) (λ j. rw (not_at r text.reached j none) refl))

-- ---- units

with_element : {X : Type 0} {Q : Type 0} (xs : List X) (k : ℕ) → k < length xs → ((x : X) → slice_get xs k ≡ Some x → Q) → Q
with_element [] k lt q = absurd (omega (arith, lt))
with_element (x ∷ xs) zero lt q = q x refl
with_element (x ∷ xs) (suc k) lt q = with_element xs k (omega (arith, lt)) q

same_item : (w r : Reached) (rs : List Reached) → is_item w r ≡ true → list_any (is_item w) rs ≡ list_any (is_item r) rs
same_item w r rs same =
    let p = and_parts (w.file == r.file) (w.item == r.item) same in
    ap (λ (n : ℕ). list_any (λ (s : Reached). n == s.file && w.item == s.item) rs) (eqb-true w.file r.file p.0)
    ∙ ap (λ (n : ℕ). list_any (λ (s : Reached). r.file == s.file && n == s.item) rs) (eqb-true w.item r.item p.1)

module _ (class : ClassValue) (fs : List UnitFunctions) (are : AreUnits class fs) where
  pub all_between : (r : Reached) (from to : ℕ) → NoneBefore fs r from → NoneFrom fs r to
      → (k : ℕ) (u : UnitAnalysis) → slice_get class.analysis.value.units k ≡ Some u → list_any (is_item r) u.text.reached ≡ true → (from ≤ k) × (k < to)
  all_between r from to before behind k u at_u some =
      let lt : k < length fs = omega (arith, are.many, slice_get_within class.analysis.value.units k u at_u) in
      with_element fs k lt (λ (f : UnitFunctions) at_f.
      let here = ap (λ (t : UnitTextValue). list_any (is_item r) t.reached) (are.each k f at_f u at_u).of_text ∙ some in
      (before k f at_f here, behind k f at_f here))

  pub none_outside : (w : ItemUnits) → AreWithin class.analysis.value.units w → (r : Reached) → is_item w.item r ≡ true
      → (k : ℕ) (f : UnitFunctions) → k < length fs → f ≡ get_or fs k f → (nat_le w.from k && nat_lt k w.to) ≡ false
      → list_any (is_item r) f.text.now.reached ≡ false
  none_outside w within r same k f lt is out =
      false_from_ne_true (list_any (is_item r) f.text.now.reached) (λ some.
      with_element class.analysis.value.units k (omega (arith, are.many, lt)) (λ (u : UnitAnalysis) at_u.
      let at_f = slice_get-get_or fs k f lt ∙ ap (λ (g : UnitFunctions). Some g) (sym is) in
      let text : f.text.now ≡ u.text = (are.each k f at_f u at_u).of_text in
      let here = ap (λ (t : UnitTextValue). list_any (is_item w.item) t.reached) (sym text) ∙ same_item w.item r f.text.now.reached same ∙ some in
      let between = within k u at_u here in
      true≢false (sym (and_from (nat_le w.from k) (nat_lt k w.to) (le-leb w.from k between.0) (lt-ltb k w.to between.1)) ∙ out)))
