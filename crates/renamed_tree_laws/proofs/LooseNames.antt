-- A name that denotes no typedef name before a renaming denotes none behind it.
use Rattle.std.proofs.Common.{ℕ, ◌+◌, ◌≡◌, Bool, true, false, ◌&&◌, not, if◌then◌else◌, List, [], ◌∷◌, ◌++◌, Option, None, Some, inr, refl, sym, ap, ◌∙◌}
use Rattle.std.specs.Prelude.{find, IfSome}
use Rattle.std.specs.List.{list_any}
use Rattle.std.specs.Option.{option_map_or}
use Rattle.std.proofs.lemmas.Bool.{and_parts, and_from, false≢true}
use Rattle.c99_grammar.specs.declared.dialects.Edition.{Edition}
use Rattle.cs_base.specs.Token.{Token}
use Rattle.c99_tree.specs.Tree.{Forest, none, token, node}
use Rattle.c99_tree.specs.declared.production.Label.{Label}
use Rattle.c99_tree.specs.declared.production.Production.{Production}
use Rattle.c99_tree.specs.declared.production.Production.TheVariants.{ExtRest, FunBody, InitDecl, Enumerator, Declarator, Param, Pdecl}
use Rattle.c_types.specs.declared.lists.Range.{Range}
use Rattle.c_types.specs.Trees.{last_token, name_below}
use Rattle.c_types.specs.Declarations.{alike}
use Rattle.tree_laws.proofs.Lookups.{In, find_same, found_passes, found_in, any_none}
use Rattle.tree_laws.specs.RenamedNames.{StaysApart}
use Rattle.tree_laws.proofs.Outline.{Entry, Outline, is_listing, stepped, copies, kept_entries, entries_in, begun, named_entries, in_declaration, in_parameter, entries_after, ended, outlined, is_open, typedef_among}
use Rattle.renamed_tree_laws.specs.Loose.{is_hidden, StaysWhole}

abbrev pub range_of : Entry → Range
range_of e = record { name = e.name_at; from = e.from; to = e.to }

-- ---- The declarations of the outline stay

pub more_in : {X : Type 0} (x : X) (xs ys : List X) → In x ys → In x (xs ++ ys)
more_in x [] ys w = w
more_in x (y ∷ xs) ys w = inr (more_in x xs ys w)

if_in : (e : Entry) (c : Bool) (n : Entry) (es : List Entry) → In e es → In e (if c then n ∷ es else es)
if_in e true n es w = inr w
if_in e false n es w = w

kept_in : (e : Entry) (kept : Option ℕ) (depth from to : ℕ) (es : List Entry) → In e es → In e (kept_entries kept depth from to es)
kept_in e None depth from to es w = w
kept_in e (Some list) depth from to es w = more_in e (copies list depth from to es) es w

begun_in : (e : Entry) (p : Production) (first : ℕ) (under : Forest) (kept : Option ℕ) (depth : ℕ) (es : List Entry) → In e es → In e (entries_in p first under kept depth es)
begun_in e FunBody first under kept depth es w = kept_in e kept (depth + 1) first (last_token under 0) es w
begun_in e _ first under kept depth es w = w

named_in : (e : Entry) (o : Outline) (i : Option ℕ) (under : Forest) (es : List Entry) → In e es → In e (named_entries o i under es)
named_in e o None under es w = w
named_in e o (Some i) under es w = inr w

declaration_in : (e : Entry) (p : Production) (o : Outline) (l : Label) (under : Forest) (es : List Entry) → In e es → In e (in_declaration p o l under es)
declaration_in e ExtRest o l under es w = named_in e o (name_below l under) under es w
declaration_in e InitDecl o l under es w = named_in e o (name_below l under) under es w
declaration_in e _ o l under es w = w

parameter_in : (e : Entry) (p : Production) (o : Outline) (l : Label) (under : Forest) (es : List Entry) → In e es → In e (in_parameter p o l under es)
parameter_in e Param o l under es w = named_in e o (name_below l under) under es w
parameter_in e _ o l under es w = w

pub after_in : (e : Entry) (p : Production) (first : ℕ) (o : Outline) (l : Label) (under : Forest) (es : List Entry) → In e es → In e (entries_after p first o l under es)
after_in e Declarator first o l under es w = declaration_in e o.label.production o l under es w
after_in e Pdecl first o l under es w = parameter_in e o.label.production o l under es w
after_in e Enumerator first o l under es w = inr w
after_in e _ first o l under es w = w

pub outlined_in : (e : Entry) (f : Forest) (o : Outline) → In e o.entries → In e (outlined f o).entries
outlined_in e none o w = w
outlined_in e (token i rest) o w =
    outlined_in e rest (stepped i o) (if_in e (is_listing o.label.production o.label.alternative o.nth) _ o.entries w)
outlined_in e (node l first under rest) o w =
    outlined_in e rest (ended l first under o (outlined under (begun l first under o)))
    (after_in e l.production first o l under (outlined under (begun l first under o)).entries
    (outlined_in e under (begun l first under o) (begun_in e l.production first under o.kept o.scope.depth o.entries w)))

module _ (std : Edition) where
  pub any_in : {X : Type 0} (p : X → Bool) (xs : List X) (x : X) → In x xs → p x ≡ true → list_any p xs ≡ true
  any_in p xs x w h = by (list_any p xs) refl
    where
      by : (c : Bool) → list_any p xs ≡ c → c ≡ true
      by true e = refl
      by false e = absurd (false≢true (sym (any_none p xs x e w) ∙ h))

  -- ---- A name that is asked for by itself

  module _ (a b : List Token) (typedefs : List Range) where
    -- each typedef name among the declarations has its range, and no other token gets the spelling of a declared name
    pub record IsCovered (e : Entry) : Type 0 where
      pub ranged : e.typedef ≡ true → In (range_of e) typedefs
      pub apart : StaysApart a b e.name_at

    abbrev pub Covered : List Entry → Type 0
    Covered es = (e : Entry) → In e es → IsCovered e

    module _ (i : ℕ) (es : List Entry) (covered : Covered es) where
      abbrev of_a : Entry → Bool
      of_a e = alike a i e.name_at && is_open i e

      abbrev of_b : Entry → Bool
      of_b e = alike b i e.name_at && is_open i e

      stronger : (e : Entry) → In e es → of_b e ≡ true → of_a e ≡ true
      stronger e w h = and_from (alike a i e.name_at) (is_open i e) ((covered e w).apart i ((and_parts (alike b i e.name_at) (is_open i e) h).0)) ((and_parts (alike b i e.name_at) (is_open i e) h).1)

      found_too : ((j : ℕ) → alike a i j ≡ true → alike b i j ≡ true) → (r : Option Entry) → find of_a es ≡ r → IfSome r (λ e. of_b e ≡ true)
      found_too stays None h = tt
      found_too stays (Some e) h =
          let p : of_a e ≡ true = found_passes of_a es e h in
          and_from (alike b i e.name_at) (is_open i e) (stays e.name_at ((and_parts (alike a i e.name_at) (is_open i e) p).0)) ((and_parts (alike a i e.name_at) (is_open i e) p).1)

      -- where all of its spelling go with it
      pub whole_same : ((j : ℕ) → alike a i j ≡ true → alike b i j ≡ true) → typedef_among std b i es ≡ typedef_among std a i es
      whole_same stays =
          ap (λ r. option_map_or (λ (e : Entry). e.typedef) r false) (find_same of_b of_a es (find of_a es) stronger refl (found_too stays (find of_a es) refl))

      pub none_still : StaysWhole a b typedefs i → not (typedef_among std a i es) ≡ true → not (typedef_among std b i es) ≡ true
      none_still stays h = by (find of_b es) refl
        where
          hidden : (e : Entry) → find of_b es ≡ Some e → e.typedef ≡ true → list_any (is_hidden a i) typedefs ≡ true
          hidden e f t = any_in (is_hidden a i) typedefs (range_of e) ((covered e (found_in of_b es e f)).ranged t) (stronger e (found_in of_b es e f) (found_passes of_b es e f))

          found : (e : Entry) (c : Bool) → find of_b es ≡ Some e → e.typedef ≡ c → not e.typedef ≡ true
          found e false f t = ap not t
          found e true f t =
              sym (ap (λ r. not (option_map_or (λ (x : Entry). x.typedef) r false)) f) ∙ (ap not (whole_same (stays (hidden e f t))) ∙ h)

          by : (r : Option Entry) → find of_b es ≡ r → not (option_map_or (λ (x : Entry). x.typedef) r false) ≡ true
          by None f = refl
          by (Some e) f = found e e.typedef f refl
