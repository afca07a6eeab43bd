-- More entries behind those that are known: a part without a body adds the same ones in front.
use Rattle.std.proofs.Common.{ℕ, ◌+◌, ◌≡◌, Bool, true, false, ◌||◌, if◌then◌else◌, List, [], ◌++◌, Option, None, Some, ◌⊎◌, inl, inr, refl, sym, ap, subst, ◌∙◌, append-nil}
use Rattle.std.proofs.lemmas.Bool.{false≢true, or_parts}
use Rattle.c99_tree.specs.Tree.{Forest, none, token, node}
use Rattle.c99_tree.specs.declared.production.Label.{Label}
use Rattle.c99_tree.specs.declared.production.Production.{Production}
use Rattle.c99_tree.specs.declared.production.Production.TheVariants.{ExtRest, FunBody, InitDecl, Enumerator, Declarator, Param, Pdecl}
use Rattle.c99_tree.specs.contracts.production.ProductionPartialEq.TheImpl.{ghosts}
use Rattle.c_types.specs.Trees.{is_node, name_below}
use Rattle.tree_laws.specs.TreesOfTexts.{has_body}
use Rattle.tree_laws.proofs.Outline.{Entry, Outline, added, is_listing, stepped, entries_in, begun, named_entries, in_declaration, in_parameter, entries_after, ended, outlined}

abbrev pub lengthened : List Entry → Outline → Outline
lengthened ys o = record o { entries = o.entries ++ ys }

-- the part has no body, or nothing is behind
abbrev pub IsPlain : Forest → List Entry → Type 0
IsPlain f ys = (has_body f ≡ false) ⊎ (ys ≡ [])

pub lengthened_none : (o : Outline) → lengthened [] o ≡ o
lengthened_none o = ap (λ (es : List Entry). record o { entries = es }) (append-nil o.entries)

pub stepped_longer : (i : ℕ) (o : Outline) (ys : List Entry) → stepped i (lengthened ys o) ≡ lengthened ys (stepped i o)
stepped_longer i o ys =
    ap (λ (es : List Entry). record o { entries = es; nth = o.nth + 1 }) (by (is_listing o.label.production o.label.alternative o.nth))
  where
    by : (c : Bool) → (if c then added o i false i (o.entries ++ ys) else o.entries ++ ys) ≡ (if c then added o i false i o.entries else o.entries) ++ ys
    by true = refl
    by false = refl

in_longer : (p : Production) (first : ℕ) (under : Forest) (kept : Option ℕ) (depth : ℕ) (es ys : List Entry) → ghosts.eq p FunBody ≡ false
    → entries_in p first under kept depth (es ++ ys) ≡ entries_in p first under kept depth es ++ ys
in_longer FunBody first under kept depth es ys e = absurd (false≢true (sym e))
in_longer _ first under kept depth es ys e = refl

pub begun_longer : (l : Label) (first : ℕ) (under : Forest) (o : Outline) (ys : List Entry) → is_node l FunBody ≡ false
    → begun l first under (lengthened ys o) ≡ lengthened ys (begun l first under o)
begun_longer l first under o ys e =
    ap (λ (es : List Entry). record (begun l first under o) { entries = es }) (in_longer l.production first under o.kept o.scope.depth o.entries ys e)

named_longer : (o : Outline) (name : Option ℕ) (under : Forest) (es ys : List Entry) → named_entries o name under (es ++ ys) ≡ named_entries o name under es ++ ys
named_longer o None under es ys = refl
named_longer o (Some i) under es ys = refl

declaration_longer : (p : Production) (o : Outline) (l : Label) (under : Forest) (es ys : List Entry)
    → in_declaration p o l under (es ++ ys) ≡ in_declaration p o l under es ++ ys
declaration_longer ExtRest o l under es ys = named_longer o (name_below l under) under es ys
declaration_longer InitDecl o l under es ys = named_longer o (name_below l under) under es ys
declaration_longer _ o l under es ys = refl

parameter_longer : (p : Production) (o : Outline) (l : Label) (under : Forest) (es ys : List Entry)
    → in_parameter p o l under (es ++ ys) ≡ in_parameter p o l under es ++ ys
parameter_longer Param o l under es ys = named_longer o (name_below l under) under es ys
parameter_longer _ o l under es ys = refl

after_longer : (p : Production) (first : ℕ) (o : Outline) (l : Label) (under : Forest) (es ys : List Entry)
    → entries_after p first o l under (es ++ ys) ≡ entries_after p first o l under es ++ ys
after_longer Declarator first o l under es ys = declaration_longer o.label.production o l under es ys
after_longer Pdecl first o l under es ys = parameter_longer o.label.production o l under es ys
after_longer Enumerator first o l under es ys = refl
after_longer _ first o l under es ys = refl

-- what is said around a declaration is not what is known: the same declaration is added
after_same : (p : Production) (first : ℕ) (o : Outline) (ys : List Entry) (l : Label) (under : Forest) (es : List Entry)
    → entries_after p first (lengthened ys o) l under es ≡ entries_after p first o l under es
after_same Declarator first o ys l under es = by o.label.production
  where
    named_same : (name : Option ℕ) → named_entries (lengthened ys o) name under es ≡ named_entries o name under es
    named_same None = refl
    named_same (Some i) = refl

    by : (p : Production) → in_declaration p (lengthened ys o) l under es ≡ in_declaration p o l under es
    by ExtRest = named_same (name_below l under)
    by InitDecl = named_same (name_below l under)
    by _ = refl
after_same Pdecl first o ys l under es = by o.label.production
  where
    named_same : (name : Option ℕ) → named_entries (lengthened ys o) name under es ≡ named_entries o name under es
    named_same None = refl
    named_same (Some i) = refl

    by : (p : Production) → in_parameter p (lengthened ys o) l under es ≡ in_parameter p o l under es
    by Param = named_same (name_below l under)
    by _ = refl
after_same Enumerator first o ys l under es = refl
after_same _ first o ys l under es = refl

pub ended_longer : (l : Label) (first : ℕ) (under : Forest) (o o' : Outline) (ys : List Entry)
    → ended l first under (lengthened ys o) (lengthened ys o') ≡ lengthened ys (ended l first under o o')
ended_longer l first under o o' ys =
    ap (λ (es : List Entry). record (ended l first under o o') { entries = es })
    (after_same l.production first o ys l under (o'.entries ++ ys) ∙ after_longer l.production first o l under o'.entries ys)

grows : (f : Forest) (o : Outline) (ys : List Entry) → has_body f ≡ false → outlined f (lengthened ys o) ≡ lengthened ys (outlined f o)
grows none o ys e = refl
grows (token i rest) o ys e = ap (outlined rest) (stepped_longer i o ys) ∙ grows rest (stepped i o) ys e
grows (node l first under rest) o ys e =
    let p = or_parts (is_node l FunBody) (has_body under || has_body rest) e in
    let q = or_parts (has_body under) (has_body rest) p.1 in
    ap (λ (x : Outline). outlined rest (ended l first under (lengthened ys o) (outlined under x))) (begun_longer l first under o ys p.0)
    ∙ (ap (λ (x : Outline). outlined rest (ended l first under (lengthened ys o) x)) (grows under (begun l first under o) ys q.0)
    ∙ (ap (outlined rest) (ended_longer l first under o (outlined under (begun l first under o)) ys)
    ∙ grows rest (ended l first under o (outlined under (begun l first under o))) ys q.1))

pub outlined_longer : (f : Forest) (o : Outline) (ys : List Entry) → IsPlain f ys → outlined f (lengthened ys o) ≡ lengthened ys (outlined f o)
outlined_longer f o ys (inl e) = grows f o ys e
outlined_longer f o ys (inr e) =
    subst (λ (zs : List Entry). outlined f (lengthened zs o) ≡ lengthened zs (outlined f o)) (sym e)
    (ap (outlined f) (lengthened_none o) ∙ sym (lengthened_none (outlined f o)))

pub entered_longer : (l : Label) (first : ℕ) (under rest : Forest) (o : Outline) (ys : List Entry) → IsPlain (node l first under rest) ys
    → begun l first under (lengthened ys o) ≡ lengthened ys (begun l first under o)
entered_longer l first under rest o ys (inl e) = begun_longer l first under o ys ((or_parts (is_node l FunBody) (has_body under || has_body rest) e).0)
entered_longer l first under rest o ys (inr e) =
    subst (λ (zs : List Entry). begun l first under (lengthened zs o) ≡ lengthened zs (begun l first under o)) (sym e)
    (ap (begun l first under) (lengthened_none o) ∙ sym (lengthened_none (begun l first under o)))

pub plain_under : (l : Label) (first : ℕ) (under rest : Forest) (ys : List Entry) → IsPlain (node l first under rest) ys → IsPlain under ys
plain_under l first under rest ys (inl e) = inl ((or_parts (has_body under) (has_body rest) ((or_parts (is_node l FunBody) (has_body under || has_body rest) e).1)).0)
plain_under l first under rest ys (inr e) = inr e

pub through_node : (l : Label) (first : ℕ) (under rest : Forest) (o : Outline) (ys : List Entry) → IsPlain (node l first under rest) ys
    → ended l first under (lengthened ys o) (outlined under (begun l first under (lengthened ys o))) ≡ lengthened ys (ended l first under o (outlined under (begun l first under o)))
through_node l first under rest o ys plain =
    ap (λ (x : Outline). ended l first under (lengthened ys o) (outlined under x)) (entered_longer l first under rest o ys plain)
    ∙ (ap (λ (x : Outline). ended l first under (lengthened ys o) x) (outlined_longer under (begun l first under o) ys (plain_under l first under rest ys plain))
    ∙ ended_longer l first under o (outlined under (begun l first under o)) ys)
