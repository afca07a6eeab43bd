-- The units of an analysis: they are read and bound, and their identifiers come from files.
use mathlib.Core.List.{reverse-cons}
use Rattle.std.proofs.Common.{◌≡◌, ℕ, zero, suc, ◌≤◌, if◌then◌else◌, Bool, true, false, List, [], ◌∷◌, length, Option, None, Some, Ok, refl, sym, ap, subst, ◌∙◌, arith}
use Rattle.std.specs.Prelude.{◌==◌, ◌++◌, slice_get, find, reverse, option_map}
use Rattle.std.specs.List.{list_all, All}
use Rattle.std.specs.Option.{option_map_or, option_and_then}
use Rattle.std.proofs.lemmas.Bool.{and_parts, both_ways, eqb-true}
use Rattle.std.proofs.lemmas.Option.{same_Some}
use Rattle.std.proofs.lemmas.List.Elements.{All-head, All-tail}
use Rattle.cs_base.specs.declared.positions.Pos.{Pos}
use Rattle.cs_base.specs.declared.tokens.Kind.{Kind}
use Rattle.cs_base.specs.declared.tokens.Kind.TheVariants as kind
use Rattle.c99_grammar.specs.declared.dialects.Edition.{Edition}
use Rattle.cs_base.specs.Token.{Token, origin_at}
use Rattle.lexer.specs.Spelling.{is_identifier_text}
use Rattle.line_shape.specs.Signs.{is_name}
use Rattle.line_shape.specs.Signs as signs
use Rattle.expansion_laws.specs.Spelled.{fits, is_spelled}
use Rattle.ws_file.specs.Workspace.{WorkspaceValue}
use Rattle.source_files.specs.Files.{Source}
use Rattle.c99_grammar.specs.Spellings.{punctuators}
use Rattle.c99_grammar.specs.Dialects.{edition}
use Rattle.c99_grammar.specs.Standard.{iso}
use Rattle.c99_grammar.specs.TokenClasses.{class_of_kind, base_class}
use Rattle.c99_read.specs.State.{base_at, is_identifier}
use Rattle.c99_read.proofs.ReadLemmas.{sign_class}
use Rattle.scope_bind.specs.Names.{entity_at}
use Rattle.scope_bind.specs.declared.bound.Name.{Name}
use Rattle.tree_laws.proofs.HeldNames.{bound_names_pass}
use Rattle.tree_laws.proofs.NamesRead.{names_are_read}
use Rattle.tree_laws.proofs.OfTexts.{trees_of_texts}
use Rattle.analysis.specs.Analysis.{UnitAnalysis, AnalysisValue, analysis_of}
use Rattle.analysis.specs.GnuUnits.{gnu_places}
use Rattle.lexer.proofs.FitLemmas.{identifier-words}
use Rattle.lexer.proofs.NameLemmas.{some_text}
use Rattle.analysis.proofs.NamingLemmas.{split_at}
use Rattle.expansion_laws.proofs.ListLemmas.{toks_at}
use Rattle.edited_unit_laws.proofs.ListLemmas.{In, found}
use Rattle.edited_unit_laws.proofs.EditionLemmas.{IsReadSo, unit_read_so}
use Rattle.edited_unit_laws.proofs.TracedLemmas.{AreChained, Traced}
use Rattle.edited_unit_laws.proofs.AnalysedUnitLemmas.{unit_is, unit_spelled, unit_traced}
use Rattle.template_rules.specs.Functions.{origin_of}

-- ---- lists

pub all_of_in : {X : Type 0} (P : X → Type 0) (xs : List X) → All P xs → (x : X) → In x xs → P x
all_of_in {X = X} P xs all x i = by xs i.0 all i.1
  where
    by : (ys : List X) (k : ℕ) → All P ys → slice_get ys k ≡ Some x → P x
    by [] k h e = absurd (cc)
    by (y ∷ ys) zero h e = subst P (same_Some y x e) (All-head P y ys h)
    by (y ∷ ys) (suc k) h e = by ys k (All-tail P y ys h) e

pub in_reverse : {X : Type 0} (x : X) (xs : List X) → In x (reverse xs) → In x xs
in_reverse x [] i = i
in_reverse {X = X} x (y ∷ xs) i =
    let j : In x (reverse xs ++ y ∷ []) = subst (λ (ys : List X). In x ys) (reverse-cons y xs) i in
    split_at (In x (y ∷ xs)) x (reverse xs) (y ∷ []) j.0 j.1 (λ k. let n = in_reverse x xs k in (suc n.0, n.1)) (λ k. only k.0 k.1)
  where
    only : (k : ℕ) → slice_get (y ∷ []) k ≡ Some x → In x (y ∷ xs)
    only zero e = (0, e)
    only (suc k) e = absurd (cc)

-- what a token is bound to, it is by a name
pub bound_name : (names : List Name) (k e : ℕ) → entity_at names k ≡ Some e → (n : Name) × In n names × (n.index ≡ k) × (n.entity ≡ e)
bound_name names k e at = by (find (λ (n : Name). n.index == k) (reverse names)) refl at
  where
    by : (o : Option Name) → find (λ (n : Name). n.index == k) (reverse names) ≡ o → option_map (λ (n : Name). n.entity) o ≡ Some e
        → (n : Name) × In n names × (n.index ≡ k) × (n.entity ≡ e)
    by None is f = absurd (cc)
    by (Some n) is f =
        let r = found (λ (m : Name). m.index == k) (reverse names) n is in
        (n, in_reverse n names r.0, eqb-true n.index k r.1, same_Some n.entity e f)

-- ---- classes of tokens

kind_named : (std : Edition) (k : Kind) (text : List ℕ) → is_identifier (class_of_kind (iso std) k text) ≡ true → signs.is_identifier k ≡ true
kind_named std kind.Ident text h = refl
kind_named std kind.Punct text h = absurd (both_ways (is_identifier (class_of_kind (iso std) kind.Punct text)) (sign_class punctuators text _ refl refl) h)
kind_named std kind.Number text h = absurd (both_ways (is_identifier (class_of_kind (iso std) kind.Number text)) refl h)
kind_named std kind.Char text h = absurd (both_ways (is_identifier (class_of_kind (iso std) kind.Char text)) refl h)
kind_named std kind.Str text h = absurd (both_ways (is_identifier (class_of_kind (iso std) kind.Str text)) refl h)
kind_named std kind.Header text h = absurd (both_ways (is_identifier (class_of_kind (iso std) kind.Header text)) refl h)
kind_named std kind.Other text h = absurd (both_ways (is_identifier (class_of_kind (iso std) kind.Other text)) refl h)

class_named : (std : Edition) (t : Token) → is_identifier (base_class (iso std) t) ≡ true → is_name t ≡ true
unfolding base_class
class_named std t h = kind_named std t.kind t.text h

-- an identifier, as reading sees it, is one
pub named_token : (std : Edition) (toks : List Token) (k : ℕ) → is_identifier (base_at (iso std) toks k) ≡ true → (t : Token) × (slice_get toks k ≡ Some t) × (is_name t ≡ true)
named_token std toks k h = by (slice_get toks k) (k == length toks) refl h
  where
    by : (o : Option Token) (c : Bool) → slice_get toks k ≡ o
        → is_identifier (option_map_or (base_class (iso std)) o (if c then base_at (iso std) [] 0 else base_at (iso std) [] 1)) ≡ true
        → (t : Token) × (slice_get toks k ≡ Some t) × (is_name t ≡ true)
    by None true at is = absurd (both_ways (is_identifier (base_at (iso std) [] 0)) refl is)
    by None false at is = absurd (both_ways (is_identifier (base_at (iso std) [] 1)) refl is)
    by (Some t) c at is = (t, at, class_named std t is)

-- ---- identifiers come from files

first_some : (a : AnalysisValue) (os : List (Option Pos)) → AreChained a os → 1 ≤ length os
    → (p : Pos) × (option_and_then (λ (o : Option Pos). o) (slice_get os 0) ≡ Some p)
first_some a [] chained some = absurd (omega (arith, some))
first_some a (None ∷ os) chained some = absurd chained
first_some a (Some p ∷ os) chained some = (p, refl)

spelled_at : (p : Token → Bool) (ts : List Token) (t : Token) (k : ℕ) → list_all p ts ≡ true → slice_get ts k ≡ Some t → p t ≡ true
spelled_at p [] t k all at = absurd (cc)
spelled_at p (s ∷ ts) t zero all at = subst (λ (x : Token). p x ≡ true) (same_Some s t at) (and_parts (p s) (list_all p ts) all).0
spelled_at p (s ∷ ts) t (suc k) all at = spelled_at p ts t k (and_parts (p s) (list_all p ts) all).1 at

named_fits : (k : Kind) (text : List ℕ) → signs.is_identifier k ≡ true → fits k text ≡ true → is_identifier_text text ≡ true
named_fits kind.Ident text h fit = fit
named_fits _ text h fit = absurd (cc)

module _ (source : Source) (ws : WorkspaceValue) (a : AnalysisValue) (analysed : analysis_of source ws ≡ Ok a) (none : gnu_places a ≡ []) (u : UnitAnalysis)
    (i : In u a.units) where
  -- the first character of an identifier has an origin
  pub token_placed : (k : ℕ) (t : Token) → slice_get u.text.toks k ≡ Some t → is_name t ≡ true → (p : Pos) × (origin_of u.text.toks k ≡ Some p)
  token_placed k t at named =
      let unit = unit_is source ws a analysed u i in
      let spelled = spelled_at is_spelled u.text.toks t k (unit_spelled a u i unit).toks at in
      let identifier = named_fits t.kind t.text named (and_parts (fits t.kind t.text) _ spelled).0 in
      let traced : Traced a t = toks_at (Traced a) u.text.toks (unit_traced a u i unit).toks t k at in
      let each = traced.each in
      let some = some_text t.text identifier in
      let first = first_some a t.origins (traced.chained (identifier-words t.text identifier)) (omega (arith, each, some)) in
      (first.0, ap (λ (o : Option Token). option_and_then (λ (x : Token). origin_at x 0) o) at ∙ first.1)

  pub identifier_placed : (k : ℕ) → is_identifier (base_at (iso (edition u.standard)) u.text.toks k) ≡ true → (p : Pos) × (origin_of u.text.toks k ≡ Some p)
  identifier_placed k h =
      let t = named_token (edition u.standard) u.text.toks k h in
      token_placed k t.0 t.1 t.2

  pub read_so : IsReadSo u
  read_so = unit_read_so source ws a analysed none u i

  -- so it is with each name
  pub name_placed : (n : Name) → In n u.bound.names → (p : Pos) × (origin_of u.text.toks n.index ≡ Some p)
  name_placed n j =
      let read = read_so in
      let test : ℕ → Bool = λ k. is_identifier (base_at (iso (edition u.standard)) u.text.toks k) in
      let pass = bound_names_pass test u.text.toks u.tree u.bound (trees_of_texts (edition u.standard) u.text.toks u.tree read.reads)
      (names_are_read (edition u.standard) u.text.toks u.tree read.reads) read.binds in
      identifier_placed n.index (all_of_in (λ (m : Name). (test m.index ≡ true) × (test m.entity ≡ true)) u.bound.names pass n j).0

  -- and with what denotes an entity
  pub entity_placed : (k e : ℕ) → entity_at u.bound.names k ≡ Some e → (p : Pos) × (origin_of u.text.toks k ≡ Some p)
  entity_placed k e at =
      let n = bound_name u.bound.names k e at in
      let p = name_placed n.0 n.1 in
      (p.0, ap (λ (j : ℕ). origin_of u.text.toks j) (sym n.2) ∙ p.1)
