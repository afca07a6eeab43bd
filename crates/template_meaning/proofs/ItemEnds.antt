-- The items of the lists of the functions in a unit: each has tokens, and its last one is no `/` and no `(`.
use Rattle.std.proofs.Common.{◌≡◌, ℕ, zero, suc, ◌+◌, ◌-◌, ◌<◌, ◌≤◌, ◌⊎◌, inl, inr, Bool, true, false, ◌&&◌, ◌||◌, not, if◌then◌else◌, List, [], ◌∷◌, ◌++◌, length, Some, refl, sym, ap, subst, ◌∙◌, arith, codes}
use Rattle.std.specs.Prelude.{◌==◌, ◌%◌, slice_get}
use Rattle.std.specs.Option.{option_map_or}
use Rattle.std.specs.Str.{bytes_eq}
use Rattle.std.proofs.lemmas.Bool.{false≢true, and_parts, or_left, or_right, or_cases}
use Rattle.std.proofs.lemmas.Slice.Eq.{bytes_eq-Decides}
use Rattle.cs_base.specs.declared.positions.Part.{Part}
use Rattle.cs_base.specs.declared.tokens.Kind.{Kind}
use Rattle.cs_base.specs.declared.tokens.Kind.TheVariants as kind
use Rattle.c99_grammar.specs.declared.dialects.Edition.{Edition}
use Rattle.cs_base.specs.Token.{Token}
use Rattle.cs_base.proofs.NumberLemmas.{odd_next}
use Rattle.c99_tree.specs.Tree.{Forest, none, token, node}
use Rattle.c99_tree.specs.declared.production.Label.{Label}
use Rattle.c99_tree.specs.declared.production.Production.{Production}
use Rattle.c99_tree.specs.declared.production.Production.TheVariants.{Post, Args, Params}
use Rattle.c99_tree.specs.contracts.production.ProductionPartialEq.TheImpl.{ghosts}
use Rattle.c99_grammar.specs.declared.classes.Class.{Class}
use Rattle.c99_grammar.specs.declared.classes.Class.TheVariants.{LeftParen, Slash, Hash, NoClass, End}
use Rattle.c99_grammar.specs.Classes.{is_same}
use Rattle.c99_grammar.specs.Dialects.{edition}
use Rattle.c99_grammar.specs.Standard.{Grammar, iso}
use Rattle.c99_grammar.specs.Spellings.{punctuators}
use Rattle.c99_grammar.specs.TokenClasses.{spelled_class, class_of_kind, base_class}
use Rattle.c99_read.specs.State.{base_at}
use Rattle.c_types.specs.declared.lists.List.{List as NameList}
use Rattle.c_types.specs.Lists.{odd_tokens}
use Rattle.c_types.specs.Trees.{is_node, is_at, is_list, last_token}
use Rattle.c_types.proofs.TokenLemmas.{odd_here}
use Rattle.tree_laws.specs.ReadTexts.{ReadParameterListsAreInOrder}
use Rattle.tree_laws.specs.TreesOfTexts.{token_count, AreFrom}
use Rattle.tree_laws.proofs.Lookups.{In}
use Rattle.tree_laws.proofs.TokenEnds.{last_none}
use Rattle.line_shape.specs.Signs.{is_punctuator, is_sign, is_hash, is_open}
use Rattle.source_files.specs.Files.{Source}
use Rattle.unit_laws.specs.UnitLinks.{IsIn}
use Rattle.ws_file.specs.Workspace.{WorkspaceValue}
use Rattle.analysis.specs.Analysis.{UnitAnalysis, AnalysisValue}
use Rattle.arranged_text_laws.specs.Lists.{may_begin, may_end}
use Rattle.reordered_text_laws.specs.Trees.{is_woven}
use Rattle.template_rules.specs.Lists.{separators}
use Rattle.template_meaning.specs.Accepted.{IsAccepted}
use Rattle.template_meaning.specs.Children.{EachNode, IsOfAlternative}
use Rattle.template_meaning.specs.Ends.{IsNot, MayEnd, EndWell, ItemsEndWell, TokensMayStand}
use Rattle.template_meaning.specs.Lists.{UnitsAreCut}
use Rattle.template_meaning.proofs.Forms.{IsPair, call_pair, list_pair}
use Rattle.template_meaning.proofs.Parens.{entry}
use Rattle.template_meaning.specs.Units.{own_lists, HavePrototypes}
use Rattle.template_meaning.proofs.UnitMarks.{OwnNode, own_node, pair_marks, of_text, read, each_of, entry_from}
use Rattle.template_meaning.proofs.Walks.{entry_each}

-- this is so of each two that follow each other
abbrev pub EachPair : (ℕ → ℕ → Type 0) → List ℕ → Type 0
EachPair P [] = Unit {0}
EachPair P (m ∷ []) = Unit {0}
EachPair P (m ∷ k ∷ ms) = P m k × EachPair P (k ∷ ms)

-- ---- the last token below a node

some_or_none : (n : ℕ) → (n ≡ 0) ⊎ (1 ≤ n)
some_or_none zero = inl refl
some_or_none (suc n) = inr (omega arith)

last_from : (f : Forest) (lo k : ℕ) → AreFrom lo f → 1 ≤ token_count f → last_token f k + 1 ≡ lo + token_count f
last_from none lo k w some = absurd (omega (arith, some))
last_from (token i rest) lo k w some = elim (some_or_none (token_count rest)) [
  | inl e ↦ let at = w.0 in let last = last_none rest i e in omega (arith, at, last, e)
  | inr more ↦ let last = last_from rest (lo + 1) i w.1 more in omega (arith, last)
]
last_from (node l first under rest) lo k w some = elim (some_or_none (token_count rest)) [
  | inl e ↦ let last = last_none rest (last_token under k) e in let below = last_from under lo k w.1 (omega (arith, some, e)) in omega (arith, last, below, e)
  | inr more ↦ let last = last_from rest (lo + token_count under) (last_token under k) w.2 more in omega (arith, last)
]

-- ---- items with a token between each two

even_next : (k : ℕ) → k % 2 ≡ 0 → (k + 1 + 1) % 2 ≡ 0
even_next k e = omega (arith, e)

module _ (g : Grammar) (toks : List Token) where
  -- tokens stand between two marks, and the last of them may end an item
  abbrev pub EndsItem : ℕ → ℕ → Type 0
  EndsItem m k = (m + 1 < k) × MayEnd g toks (k - 1)

  woven_pairs : (f : Forest) (m p k : ℕ) → m + 1 ≡ p → k % 2 ≡ 0 → AreFrom p f → is_woven f ≡ true → EndWell g toks f → EachPair EndsItem (m ∷ (odd_tokens k f ++ (p + token_count f) ∷ []))
  woven_pairs none m p k at even from w ends = absurd (false≢true w)
  woven_pairs (token i rest) m p k at even from w ends = absurd (false≢true w)
  woven_pairs (node l first under none) m p k at even from w ends =
      let some = ends.0.0 in
      let last = last_from under p 0 from.1 some in
      let place : last_token under 0 ≡ p + (token_count under + 0) - 1 = omega (arith, last) in
      ((omega (arith, some, at), subst (MayEnd g toks) place ends.0.1), tt)
  woven_pairs (node l first under (token i none)) m p k at even from w ends = absurd (false≢true w)
  woven_pairs (node l first under (token i (token j more))) m p k at even from w ends = absurd (false≢true w)
  woven_pairs (node l first under (node n second u2 more)) m p k at even from w ends = absurd (false≢true w)
  woven_pairs (node l first under (token i (node n second u2 more))) m p k at even from w ends =
      let rest : Forest = node n second u2 more in
      let some = ends.0.0 in
      let comma : i ≡ p + token_count under = from.2.0 in
      let last = last_from under p 0 from.1 some in
      let place : last_token under 0 ≡ i - 1 = omega (arith, last, comma) in
      let later = woven_pairs (node n second u2 more) (p + token_count under) (p + token_count under + 1) (k + 1 + 1) refl (even_next k even) from.2.1 w ends.1 in
      let close : p + token_count under + 1 + token_count rest ≡ p + (token_count under + (token_count rest + 1)) = omega arith in
      let later2 : EachPair EndsItem (i ∷ (odd_tokens (k + 1 + 1) rest ++ (p + (token_count under + (token_count rest + 1))) ∷ [])) =
      subst (λ (q : ℕ). EachPair EndsItem (i ∷ (odd_tokens (k + 1 + 1) rest ++ q ∷ []))) close (subst (λ (q : ℕ). EachPair EndsItem (q ∷ (odd_tokens (k + 1 + 1) rest ++ (p + token_count under + 1 + token_count rest) ∷ []))) (sym comma) later) in
      subst (λ (ms : List ℕ). EachPair EndsItem (m ∷ (ms ++ (p + (token_count under + (token_count rest + 1))) ∷ []))) (sym (odd_here (k + 1) i rest (odd_next k even)))
      ((omega (arith, some, at, comma), subst (MayEnd g toks) place ends.0.1), later2)

-- ---- the classes of signs

punct_is : (k : Kind) → is_punctuator k ≡ true → k ≡ kind.Punct
punct_is kind.Punct e = refl
punct_is _ e = absurd (false≢true e)

sign_class : (s : Edition) (sign : List ℕ) (c : Class) → spelled_class punctuators sign NoClass ≡ c → (t : Token) → is_sign sign t ≡ true → base_class (iso s) t ≡ c
unfolding base_class
sign_class s sign c e t h =
    let parts = and_parts (is_punctuator t.kind) (bytes_eq t.text sign) h in
    let text = (bytes_eq-Decides t.text sign).0 parts.1 in
    ap (λ (k : Kind). class_of_kind (iso s) k t.text) (punct_is t.kind parts.0) ∙ ap (λ (x : List ℕ). spelled_class punctuators x NoClass) text ∙ e

hash_class : (s : Edition) (t : Token) → is_hash t ≡ true → base_class (iso s) t ≡ Hash
unfolding is_hash spelled_class
hash_class s t h = elim (or_cases (is_sign (codes "#") t) (is_sign (codes "%:") t) h) [
  | inl one ↦ sign_class s (codes "#") Hash refl t one
  | inr two ↦ sign_class s (codes "%:") Hash refl t two
]

slash_class : (s : Edition) (t : Token) → is_sign (codes "/") t ≡ true → base_class (iso s) t ≡ Slash
unfolding spelled_class
slash_class s t h = sign_class s (codes "/") Slash refl t h

open_class : (s : Edition) (t : Token) → is_open t ≡ true → base_class (iso s) t ≡ LeftParen
unfolding is_open spelled_class
open_class s t h = sign_class s (codes "(") LeftParen refl t h

module _ (s : Edition) (toks : List Token) (k : ℕ) (t : Token) (at : slice_get toks k ≡ Some t) where
  is_no : (c : Class) (test : Token → Bool) → is_same c c ≡ true → (test t ≡ true → base_class (iso s) t ≡ c) → IsNot (iso s) toks c k → not (test t) ≡ true
  is_no c test self class isnt = by (test t) refl
    where
      by : (b : Bool) → test t ≡ b → not b ≡ true
      by false e = refl
      by true e =
          let here : base_at (iso s) toks k ≡ c = ap (λ (o : _). option_map_or (base_class (iso s)) o (if k == length toks then End else NoClass)) at ∙ class e in
          absurd (false≢true (sym isnt ∙ (ap (λ (d : Class). is_same d c) here ∙ self)))

  pub begins_item : IsNot (iso s) toks Hash k → may_begin t ≡ true
  begins_item isnt = is_no Hash is_hash refl (hash_class s t) isnt

  pub ends_item : MayEnd (iso s) toks k → may_end t ≡ true
  ends_item isnt = both (not (is_sign (codes "/") t)) (not (is_open t)) (is_no Slash (is_sign (codes "/")) refl (slash_class s t) isnt.0) (is_no LeftParen is_open refl (open_class s t) isnt.1)
    where
      both : (a b : Bool) → a ≡ true → b ≡ true → (a && b) ≡ true
      both true b e f = f
      both false b e f = absurd (false≢true e)

-- ---- the lists of a unit

module _ (may : TokensMayStand) (in_order : ReadParameterListsAreInOrder) (cuts : UnitsAreCut) (source : Source) (ws : WorkspaceValue) (a : AnalysisValue) (members : List Part) (order : List ℕ) (h : IsAccepted source ws a members order)
    (some : 0 < length order) (u : UnitAnalysis) (i : IsIn a.units u) (typed_names : HavePrototypes members u) where
  abbrev s : Edition
  s = edition u.standard

  abbrev toks : List Token
  toks = u.text.toks

  abbrev T : Forest
  T = u.tree.under

  pub no_hash : (k : ℕ) → k < length toks → IsNot (iso s) toks Hash k
  no_hash = let r = read in_order cuts source ws a members order h u i typed_names in (may s toks u.tree r.reads).0

  ends_well : EachNode (ItemsEndWell (iso s) toks) T
  ends_well = let r = read in_order cuts source ws a members order h u i typed_names in (may s toks u.tree r.reads).1

  production_in : (p : Production) (under : Forest) (begin close first : ℕ) (lab : Label) (inner : Forest) → IsPair p under → under ≡ token begin (node lab first inner (token close none)) → lab.production ≡ p
  production_in p under begin close first lab inner (inl q) e =
      let other : token q.begin (token q.close none) ≡ token begin (node lab first inner (token close none)) = sym q.is ∙ e in absurd (cc)
  production_in p under begin close first lab inner (inr q) e =
      let both : token q.begin (node q.label q.first q.items (token q.close none)) ≡ token begin (node lab first inner (token close none)) = sym q.is ∙ e in
      let same : lab ≡ q.label = cc in
      ap (λ (l : Label). l.production) same ∙ q.production

  is_pair_node : (lab : Label) → (lab.production ≡ Args) ⊎ (lab.production ≡ Params) → (is_node lab Args || is_node lab Params) ≡ true
  is_pair_node lab (inl e) = or_left (is_node lab Args) (is_node lab Params) (ap (λ (p : Production). ghosts.eq p Args) e)
  is_pair_node lab (inr e) = or_right (is_node lab Args) (is_node lab Params) (ap (λ (p : Production). ghosts.eq p Params) e)

  pub own_pairs : (l : NameList) → In l (own_lists members u) → EachPair (EndsItem (iso s) toks) (separators l)
  own_pairs l w = by (own_node in_order cuts source ws a members order h u i typed_names l w)
    where
      by : OwnNode s toks T l (length order) → EachPair (EndsItem (iso s) toks) (separators l)
      by n = shaped n.shape
        where
          full : (begin close : ℕ) (lab : Label) (first : ℕ) (inner : Forest) → n.under ≡ token begin (node lab first inner (token close none)) → is_woven inner ≡ true → EachPair (EndsItem (iso s) toks) (separators l)
          full begin close lab first inner e woven =
              let x = entry_each (IsOfAlternative (iso s)) T (each_of in_order cuts source ws a members order h u i typed_names) (entry n.label n.under) n.there in
              let is_one : (lab.production ≡ Args) ⊎ (lab.production ≡ Params) = elim (or_cases (is_at n.label Post 2) (is_list n.label) n.parenthesised) [
                | inl call ↦ inl (production_in Args n.under begin close first lab inner (call_pair s n.label n.under x.0 call) e)
                | inr list ↦ inr (production_in Params n.under begin close first lab inner (list_pair s n.label n.under x.0 list) e)
              ] in
              let y = entry_each (ItemsEndWell (iso s) toks) T ends_well (entry n.label n.under) n.there in
              let below = subst (EachNode (ItemsEndWell (iso s) toks)) e y.1 in
              let ends : EndWell (iso s) toks inner = below.0 (is_pair_node lab is_one) in
              let o = of_text in_order cuts source ws a members order h u i typed_names in
              let from = entry_from T 0 o.tokens (entry n.label n.under) n.there in
              let j : ℕ = from.0 in
              let from2 : AreFrom j (token begin (node lab first inner (token close none))) = subst (AreFrom j) e from.1 in
              let begin_is : begin ≡ j = from2.0 in
              let close_is : close ≡ j + 1 + token_count inner = from2.1.2.0 in
              let pairs = woven_pairs (iso s) toks inner j (j + 1) 0 refl refl from2.1.1 woven ends in
              subst (EachPair (EndsItem (iso s) toks)) (sym (pair_marks in_order cuts source ws a members order h u i typed_names l n.under inner begin close first lab n.is e))
              (subst (λ (q : ℕ). EachPair (EndsItem (iso s) toks) (begin ∷ (odd_tokens 0 inner ++ q ∷ []))) (sym close_is)
              (subst (λ (q : ℕ). EachPair (EndsItem (iso s) toks) (q ∷ (odd_tokens 0 inner ++ (j + 1 + token_count inner) ∷ []))) (sym begin_is) pairs))

          shaped : ((begin : ℕ) × (close : ℕ) × (n.under ≡ token begin (token close none)) × (length order ≡ 0))
              ⊎ ((begin : ℕ) × (close : ℕ) × (lab : Label) × (first : ℕ) × (inner : Forest) × (n.under ≡ token begin (node lab first inner (token close none))) × (is_woven inner ≡ true))
              → EachPair (EndsItem (iso s) toks) (separators l)
          shaped (inl (begin, close, e, none_)) = absurd (omega (arith, some, none_))
          shaped (inr (begin, close, lab, first, inner, e, woven)) = full begin close lab first inner e woven
