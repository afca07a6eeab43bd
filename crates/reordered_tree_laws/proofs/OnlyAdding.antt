-- A part of a unit only adds to what is known: in front, and names of its own.
use Rattle.std.proofs.Common.{ℕ, ◌+◌, ◌<◌, ◌≤◌, ◌≡◌, Bool, true, false, ◌&&◌, ◌||◌, not, if◌then◌else◌, ◌==◌, List, [], ◌∷◌, ◌++◌, Option, None, Some, refl, sym, ap, ◌∙◌, arith, append_assoc}
use Rattle.std.specs.Prelude.{◌%◌, is_some}
use Rattle.std.specs.Option.{option_map_or}
use Rattle.std.proofs.lemmas.Bool.{false≢true, and_parts}
use Rattle.std.proofs.lemmas.List.Elements.{All-nil, All-cons, All-append}
use Rattle.cs_base.specs.Token.{Token}
use Rattle.cs_base.proofs.OptionLemmas.{one_place as some_is}
use Rattle.c99_tree.specs.Tree.{Forest, none, token, node}
use Rattle.c99_tree.specs.declared.production.Label.{Label}
use Rattle.c99_tree.specs.declared.production.Production.{Production}
use Rattle.c99_tree.specs.declared.production.Production.TheVariants.{ExtRest, InitDecl, FunBody, Main, Params, Primary, Post, Designator, SuRest, EnRest, Members, MemRest, Mdecl, Enumerators, Enumerator, Declarator, Param, Pdecl, Statement}
use Rattle.c_types.specs.declared.entity.EntityKind.TheVariants.{Typedef, Parameter, Enumerator as Constant}
use Rattle.c_types.specs.Faults.{first_fault, comes_first}
use Rattle.c_types.specs.Types.{CType, arithmetic, adjusted, is_unknown, target_of}
use Rattle.c_types.specs.Trees.{name_below, has_name, holds_name, last_token, declarator_type}
use Rattle.c_types.specs.Tags.{number_in, renumbered, is_same_tag, tag_entity, is_declaring, tag_declaration, tag_named, prior_tag, with_tag, is_complete, is_sort, enumeration_used}
use Rattle.c_types.specs.Declarations.{Facts, has_linkage, with_fault, with_use, with_occurrence, with_declaration, with_begun, with_complete, visible, in_scope, anywhere, linked, is_mixed}
use Rattle.name_chains.specs.Frames.{State}
use Rattle.name_chains.specs.Entering.{facts_in, entered}
use Rattle.name_chains.specs.Members.{with_silent, member_declaration, unnamed_declaration, lifted, found_of, with_member, with_lifted, with_anonymous, member_at, member_used_as, member_used}
use Rattle.scope_bind.specs.Named.{Cause, Fault, Declaration, Declared, Occurrence, Body, Frame, Scope, undeclared, redeclared, tag_redefined, mixed_linkage, no_member, designator_after_elision, ordinary, tags, members}
use Rattle.scope_bind.specs.Ordinary.{is_again, entity_of, is_listed, declaration_of, declared, used_as, used, is_func, plain_name, with_parameter}
use Rattle.scope_bind.specs.Roles.{role_if, role_of}
use Rattle.scope_bind.specs.Walk.{facts_at, passed, declared_in, parameter_in, facts_after, left, walked}
use Rattle.tree_laws.specs.TreesOfTexts.{token_count, AreFrom, begins_with_token, has_form, have_forms}
use Rattle.tree_laws.proofs.TokenEnds.{begins_some}
use Rattle.reordered_tree_laws.specs.Adding.{has_no_list, within_of, is_adding_token, is_adding_declarator, is_adding_node, is_adding, IsNamedIn, IsAddedIn, PartsOnlyAdd}

-- ---- Names of a part

name_step : (c : Bool) (j i lo hi : ℕ) (r : Option ℕ) → (if c then Some j else r) ≡ Some i → (lo ≤ j) × (j < hi) → (r ≡ Some i → (lo ≤ i) × (i < hi)) → (lo ≤ i) × (i < hi)
name_step true j i lo hi r e h rest = (omega (arith, some_is j i e, h.0), omega (arith, some_is j i e, h.1))
name_step false j i lo hi r e h rest = rest e

either_name : (c : Bool) (q r : Option ℕ) (i lo hi : ℕ) → (if c then q else r) ≡ Some i → (q ≡ Some i → (lo ≤ i) × (i < hi)) → (r ≡ Some i → (lo ≤ i) × (i < hi)) → (lo ≤ i) × (i < hi)
either_name true q r i lo hi e f g = f e
either_name false q r i lo hi e f g = g e

pub name_in : (l : Label) (f : Forest) (at i lo hi : ℕ) → AreFrom at f → lo ≤ at → at + token_count f ≤ hi → name_below l f ≡ Some i → (lo ≤ i) × (i < hi)
name_in l none at i lo hi w low high e = absurd cc
name_in l (token j rest) at i lo hi w low high e =
    name_step (has_name l) j i lo hi (name_below l rest) e (omega (arith, w.0, low), omega (arith, w.0, high))
    (name_in l rest (at + 1) i lo hi w.1 (omega (arith, low)) (omega (arith, high)))
name_in l (node m first under rest) at i lo hi w low high e =
    either_name (holds_name m.production) (name_below m under) (name_below l rest) i lo hi e
    (name_in m under at i lo hi w.1 low (omega (arith, high)))
    (name_in l rest (at + token_count under) i lo hi w.2 (omega (arith, low)) (omega (arith, high)))

-- ---- What is noted

module _ (toks : List Token) (lo hi : ℕ) where
  abbrev Adds : Facts → Facts → Type 0
  Adds f g = IsAddedIn lo hi f g

  abbrev In : ℕ → Type 0
  In i = (lo ≤ i) × (i < hi)

  abbrev Named : Declaration → Type 0
  Named d = IsNamedIn lo hi d

  abbrev Noted : Occurrence → Type 0
  Noted o = (lo ≤ o.index) × (o.index < hi)

  pub adds_same : (f : Facts) → Adds f f
  adds_same f = record {
    declared = [];
    front = refl;
    names = All-nil Named;
    occurrences = [];
    noted = refl;
    indices = All-nil Noted;
    jumps = refl;
    fault = λ e. e;
  }

  pub adds_then : (f g h : Facts) → Adds f g → Adds g h → Adds f h
  adds_then f g h a b = record {
    declared = b.declared ++ a.declared;
    front = b.front ∙ (ap (λ (ds : List Declaration). b.declared ++ ds) a.front ∙ sym (append_assoc b.declared a.declared f.declared));
    names = All-append Named b.declared a.declared b.names a.names;
    occurrences = b.occurrences ++ a.occurrences;
    noted = b.noted ∙ (ap (λ (os : List Occurrence). b.occurrences ++ os) a.noted ∙ sym (append_assoc b.occurrences a.occurrences f.occurrences));
    indices = All-append Noted b.occurrences a.occurrences b.indices a.indices;
    jumps = b.jumps ∙ a.jumps;
    fault = λ e. b.fault (a.fault e);
  }

  fault_stays : (o : Option Fault) (x : Fault) → is_some (first_fault o x) ≡ true
  fault_stays None x = refl
  fault_stays (Some y) x = by (comes_first x y)
    where
      by : (c : Bool) → is_some (if c then Some x else Some y) ≡ true
      by true = refl
      by false = refl

  adds_fault : (c : Bool) (cause : Cause) (i : ℕ) (f : Facts) → Adds f (with_fault c cause i f)
  adds_fault false cause i f = adds_same f
  adds_fault true cause i f = record {
    declared = [];
    front = refl;
    names = All-nil Named;
    occurrences = [];
    noted = refl;
    indices = All-nil Noted;
    jumps = refl;
    fault = λ e. fault_stays f.fault (record { cause = cause; index = i });
  }

  adds_occurrence : (i e : ℕ) (b : Bool) (f : Facts) → In i → Adds f (with_occurrence i e b f)
  adds_occurrence i e b f w =
      let o : Occurrence = record { index = i; entity = e; declares = b } in
      record {
        declared = [];
        front = refl;
        names = All-nil Named;
        occurrences = o ∷ [];
        noted = refl;
        indices = All-cons Noted o [] w (All-nil Noted);
        jumps = refl;
        fault = λ e. e;
      }

  adds_silent : (d : Declaration) (f : Facts) → Named d → Adds f (with_silent d f)
  adds_silent d f w = record {
    declared = d ∷ [];
    front = refl;
    names = All-cons Named d [] w (All-nil Named);
    occurrences = [];
    noted = refl;
    indices = All-nil Noted;
    jumps = refl;
    fault = λ e. e;
  }

  adds_declaration : (d : Declaration) (f : Facts) → In d.name_at → has_linkage d.linkage ≡ false → Adds f (with_declaration d f)
  adds_declaration d f w apart =
      adds_then f (with_silent d f) (with_declaration d f) (adds_silent d f (λ e. (w, apart))) (adds_occurrence d.name_at d.entity true (with_silent d f) w)

  adds_begun : (c : Bool) (e : ℕ) (f g : Facts) → Adds f g → Adds f (with_begun c e g)
  adds_begun false e f g a = a
  adds_begun true e f g a = record {
    declared = a.declared;
    front = a.front;
    names = a.names;
    occurrences = a.occurrences;
    noted = a.noted;
    indices = a.indices;
    jumps = a.jumps;
    fault = a.fault;
  }

  adds_complete : (e : ℕ) (f : Facts) → Adds f (with_complete e f)
  adds_complete e f = record {
    declared = [];
    front = refl;
    names = All-nil Named;
    occurrences = [];
    noted = refl;
    indices = All-nil Noted;
    jumps = refl;
    fault = λ e. e;
  }

  adds_either : (c : Bool) (f g h : Facts) → Adds f g → Adds f h → Adds f (if c then g else h)
  adds_either true f g h a b = a
  adds_either false f g h a b = b

  adds_used : (i : ℕ) (r : Option Declaration) (f : Facts) → In i → Adds f (used_as toks i r f)
  adds_used i None f w = adds_fault true undeclared i f
  adds_used i (Some d) f w = adds_occurrence i d.entity false f w

  adds_declared : (scope : Scope) (n : Declared) (f : Facts) → In n.name_at → has_linkage n.linkage ≡ false → Adds f (declared toks scope n f)
  adds_declared scope n f w apart =
      let r : Option Declaration = in_scope toks ordinary scope.depth n.name_at n.last f in
      let mixed : Bool = has_linkage n.linkage && is_mixed toks n.linkage n.name_at f in
      let f1 : Facts = with_fault mixed mixed_linkage n.name_at f in
      let again : Bool = option_map_or (λ d. not (is_again n d)) r false in
      let f2 : Facts = with_fault again redeclared n.name_at f1 in
      let listed : Bool = n.listing && not (is_listed n r) in
      let f3 : Facts = with_fault listed undeclared n.name_at f2 in
      let d : Declaration = declaration_of scope n (entity_of n r (linked toks n.name_at f)) (n.listed || is_listed n r) in
      adds_then f f1 (declared toks scope n f) (adds_fault mixed mixed_linkage n.name_at f)
      (adds_then f1 f2 (declared toks scope n f) (adds_fault again redeclared n.name_at f1)
      (adds_then f2 f3 (declared toks scope n f) (adds_fault listed undeclared n.name_at f2) (adds_declaration d f3 w apart)))

  adds_parameter_by : (scope : Scope) (i last : ℕ) (t : CType) (f : Facts) (c : Bool) → In i
      → Adds f (declared toks scope (if c then plain_name toks i last Typedef t false else plain_name toks i last Parameter (adjusted t) false) f)
  adds_parameter_by scope i last t f true w = adds_declared scope (plain_name toks i last Typedef t false) f w refl
  adds_parameter_by scope i last t f false w = adds_declared scope (plain_name toks i last Parameter (adjusted t) false) f w refl

  adds_tag_named : (fr : Frame) (i e u : ℕ) (f : Facts) (declares : Bool) → In i
      → Adds f (if declares then with_begun fr.has_body e (with_declaration (tag_declaration fr.scope i e (renumbered fr.found e)) f) else with_use i u f)
  adds_tag_named fr i e u f true w =
      let d : Declaration = tag_declaration fr.scope i e (renumbered fr.found e) in
      adds_begun fr.has_body e f (with_declaration d f) (adds_declaration d f w refl)
  adds_tag_named fr i e u f false w = adds_occurrence i u false f w

  adds_tag : (fr : Frame) (i : ℕ) (f : Facts) → In i → Adds f (with_tag toks fr i f)
  adds_tag fr i f w =
      let r : Option Declaration = prior_tag toks fr i f in
      let e : ℕ = tag_entity fr i f r in
      let g : Facts = tag_named fr i r e f in
      adds_then f g (with_tag toks fr i f) (adds_tag_named fr i e (option_map_or (λ d. d.entity) r i) f (is_declaring fr r) w)
      (adds_fault (option_map_or (λ d. not (is_same_tag fr f d)) r false) tag_redefined i g)

  adds_enumeration : (fr : Frame) (i : ℕ) (r : Option Declaration) (f : Facts) → In i → Adds f (enumeration_used fr i r f)
  adds_enumeration fr i None f w = adds_fault true undeclared i f
  adds_enumeration fr i (Some d) f w =
      let f1 : Facts = with_fault (not (is_sort d.ctype fr.found)) tag_redefined i f in
      let f2 : Facts = with_fault (not (is_complete f d)) undeclared i f1 in
      adds_then f f1 (with_use i d.entity f2) (adds_fault (not (is_sort d.ctype fr.found)) tag_redefined i f)
      (adds_then f1 f2 (with_use i d.entity f2) (adds_fault (not (is_complete f d)) undeclared i f1) (adds_occurrence i d.entity false f2 w))

  adds_member_used : (i : ℕ) (r : Option Declaration) (f : Facts) → In i → Adds f (member_used_as toks i r f)
  adds_member_used i None f w = adds_fault true no_member i f
  adds_member_used i (Some d) f w = adds_occurrence i d.entity false f w

  adds_designated : (c : Bool) (t : CType) (i : ℕ) (f : Facts) → In i
      → Adds f (if c then with_fault true designator_after_elision i f else member_used toks t i f)
  adds_designated true t i f w = adds_fault true designator_after_elision i f
  adds_designated false t i f w = adds_member_used i (member_at toks t i f) f w

  adds_once : (d : Declaration) (c : Bool) (i : ℕ) (f : Facts) → In d.name_at → has_linkage d.linkage ≡ false → Adds f (with_declaration d (with_fault c redeclared i f))
  adds_once d c i f w apart =
      adds_then f (with_fault c redeclared i f) (with_declaration d (with_fault c redeclared i f)) (adds_fault c redeclared i f)
      (adds_declaration d (with_fault c redeclared i f) w apart)

  adds_lifted : (owner : ℕ) (ds : List Declaration) (f : Facts) → Adds f (with_lifted toks owner ds f)
  adds_lifted owner [] f = adds_same f
  adds_lifted owner (d ∷ ds) f =
      let f1 : Facts = with_fault (is_some (anywhere toks (members owner) d.name_at f)) redeclared d.name_at f in
      let f2 : Facts = with_silent (lifted owner d) f1 in
      adds_then f f1 (with_lifted toks owner ds f2) (adds_fault (is_some (anywhere toks (members owner) d.name_at f)) redeclared d.name_at f)
      (adds_then f1 f2 (with_lifted toks owner ds f2) (adds_silent (lifted owner d) f1 (λ e. absurd (false≢true (sym e)))) (adds_lifted owner ds f2))

  adds_anonymous : (fr : Frame) (i : ℕ) (f : Facts) (c : Bool)
      → Adds f (if c then with_silent (unnamed_declaration fr i) (with_lifted toks fr.owner (found_of (number_in fr.base) f) f) else f)
  adds_anonymous fr i f false = adds_same f
  adds_anonymous fr i f true =
      let g : Facts = with_lifted toks fr.owner (found_of (number_in fr.base) f) f in
      adds_then f g (with_silent (unnamed_declaration fr i) g) (adds_lifted fr.owner (found_of (number_in fr.base) f) f)
      (adds_silent (unnamed_declaration fr i) g (λ e. absurd (false≢true (sym e))))

  -- ---- A token

  adds_token : (fr : Frame) (i : ℕ) (f : Facts) (p : Production) (x n : ℕ) → In i → is_adding_token (λ i. true) p ≡ true → Adds f (facts_at toks (role_of p x n) i fr f)
  adds_token fr i f p x n w quiet = by p quiet
    where
      primary : (c : Bool) → Adds f (facts_at toks (role_if c (role_of Primary 1 0)) i fr f)
      primary false = adds_same f
      primary true = adds_either (is_func toks fr i) f f (used toks i f) (adds_same f) (adds_used i (visible toks ordinary i i f) f w)

      type_name : (c : Bool) → Adds f (facts_at toks (role_if c (role_of Main 4 0)) i fr f)
      type_name false = adds_same f
      type_name true = adds_used i (visible toks ordinary i i f) f w

      tag : (c : Bool) → Adds f (facts_at toks (role_if c (role_of SuRest 1 0)) i fr f)
      tag false = adds_same f
      tag true = adds_tag fr i f w

      enumeration : (c : Bool) → Adds f (facts_at toks (role_if c (role_of EnRest 1 0)) i fr f)
      enumeration false = adds_same f
      enumeration true =
          adds_either fr.has_body f (with_tag toks fr i f) (enumeration_used fr i (visible toks tags i i f) f) (adds_tag fr i f w)
          (adds_enumeration fr i (visible toks tags i i f) f w)

      listed : (c : Bool) → Adds f (facts_at toks (role_if c (role_of Params 1 0)) i fr f)
      listed false = adds_same f
      listed true = adds_declared fr.scope (plain_name toks i i Parameter arithmetic true) f w refl

      member : (c d : Bool) → Adds f (facts_at toks (if c then role_of Post 3 1 else role_if d (role_of Post 4 1)) i fr f)
      member true d = adds_member_used i (member_at toks fr.given i f) f w
      member false true = adds_member_used i (member_at toks (target_of fr.given) i f) f w
      member false false = adds_same f

      designator : (c : Bool) → Adds f (facts_at toks (role_if c (role_of Designator 1 1)) i fr f)
      designator false = adds_same f
      designator true = adds_designated (is_unknown fr.given) fr.given i f w

      by : (q : Production) → is_adding_token (λ i. true) q ≡ true → Adds f (facts_at toks (role_of q x n) i fr f)
      by Primary e = primary (x == 1)
      by Main e = type_name ((x == 4) && (n == 0))
      by SuRest e = tag ((x == 1) && (n == 0))
      by EnRest e = enumeration ((x == 1) && (n == 0))
      by Params e = listed ((x == 1) && (n % 2 == 0))
      by Post e = member ((x == 3) && (n == 1)) ((x == 4) && (n == 1))
      by Designator e = designator ((x == 1) && (n == 1))
      by Statement e = absurd (false≢true e)
      by _ e = adds_same f

  -- ---- A node

  abbrev NameIn : Option ℕ → Type 0
  NameIn name = (i : ℕ) → name ≡ Some i → In i

  adds_parameter : (fr : Frame) (under : Forest) (name : Option ℕ) (f : Facts) → NameIn name → Adds f (with_parameter toks fr under name f)
  adds_parameter fr under None f w = adds_same f
  adds_parameter fr under (Some i) f w =
      adds_parameter_by fr.scope i (last_token under i) (declarator_type fr.base under) f fr.words.has_typedef (w i refl)

  adds_member : (fr : Frame) (under : Forest) (name : Option ℕ) (f : Facts) → NameIn name → Adds f (with_member toks fr under name f)
  adds_member fr under None f w = adds_same f
  adds_member fr under (Some i) f w =
      adds_once (member_declaration fr i (last_token under i) (declarator_type fr.base under)) (is_some (anywhere toks (members fr.owner) i f)) i f (w i refl) refl

  adds_declarator : (p : Production) (within : Bool) (fr : Frame) (l : Label) (under : Forest) (f : Facts) → NameIn (name_below l under)
      → is_adding_declarator (λ i. true) p within l under ≡ true → Adds f (declared_in toks p fr l under f)
  adds_declarator ExtRest within fr l under f w e = absurd (false≢true e)
  adds_declarator InitDecl within fr l under f w e = absurd (false≢true e)
  adds_declarator Mdecl within fr l under f w e = adds_member fr under (name_below l under) f w
  adds_declarator _ within fr l under f w e = adds_same f

  adds_parameter_in : (p : Production) (fr : Frame) (l : Label) (under : Forest) (f : Facts) → NameIn (name_below l under) → Adds f (parameter_in toks p fr l under f)
  adds_parameter_in Param fr l under f w = adds_parameter fr under (name_below l under) f w
  adds_parameter_in _ fr l under f w = adds_same f

  pub adds_after : (p : Production) (within : Bool) (fr : Frame) (l : Label) (first : ℕ) (under : Forest) (body : Option Body) (f : Facts) → NameIn (name_below l under)
      → is_adding_node (λ i. true) p fr.label within l under ≡ true → has_form p under ≡ true → (begins_with_token under ≡ true → In first)
      → Adds f (facts_after toks p first fr l under body f)
  adds_after Declarator within fr l first under body f w e form begins = adds_declarator fr.label.production within fr l under f w e
  adds_after Pdecl within fr l first under body f w e form begins = adds_parameter_in fr.label.production fr l under f w
  adds_after Enumerator within fr l first under body f w e form begins =
      adds_declared fr.scope (plain_name toks first (last_token under first) Constant arithmetic false) f (begins form) refl
  adds_after MemRest within fr l first under body f w e form begins = by (l.alternative == 1)
    where
      by : (c : Bool) → Adds f (if c then with_anonymous toks fr first f else f)
      by true = adds_anonymous fr first f fr.words.anonymous
      by false = adds_same f
  adds_after Members within fr l first under body f w e form begins = adds_complete (number_in fr.found) f
  adds_after Enumerators within fr l first under body f w e form begins = adds_complete (number_in fr.found) f
  adds_after FunBody within fr l first under body f w e form begins = absurd (false≢true e)
  adds_after _ within fr l first under body f w e form begins = adds_same f

  adds_enter : (p : Production) (within : Bool) (first : ℕ) (l : Label) (under : Forest) (fr : Frame) (f : Facts) → is_adding_node (λ i. true) p fr.label within l under ≡ true
      → Adds f (facts_in p first under fr f)
  adds_enter FunBody within first l under fr f e = absurd (false≢true e)
  adds_enter _ within first l under fr f e = adds_same f

  -- ---- The walk

  pub adds_walk : (f : Forest) (within : Bool) (at : ℕ) (s : State) → AreFrom at f → lo ≤ at → at + token_count f ≤ hi → have_forms f ≡ true
      → is_adding (λ i. true) within s.frame.label f ≡ true → Adds s.facts (walked toks f s).facts
  unfolding walked
  adds_walk none within at s w low high forms e = adds_same s.facts
  adds_walk (token i rest) within at s w low high forms e =
      let s1 : State = passed toks i s in
      let p = and_parts (is_adding_token (λ i. true) s.frame.label.production) (is_adding (λ i. true) within s.frame.label rest) e in
      adds_then s.facts s1.facts (walked toks rest s1).facts
      (adds_token s.frame i s.facts s.frame.label.production s.frame.label.alternative s.frame.nth (omega (arith, w.0, low), omega (arith, w.0, high)) p.0)
      (adds_walk rest within (at + 1) s1 w.1 (omega (arith, low)) (omega (arith, high)) forms p.1)
  adds_walk (node l first under rest) within at s w low high forms e =
      let fs = and_parts (has_form l.production under) (have_forms under && have_forms rest) forms in
      let gs = and_parts (have_forms under) (have_forms rest) fs.1 in
      let here : Bool = is_adding_node (λ i. true) l.production s.frame.label within l under in
      let below : Bool = is_adding (λ i. true) (within_of l.production within) l under in
      let more : Bool = is_adding (λ i. true) within s.frame.label rest in
      let p = and_parts here (has_no_list l under && (below && more)) e in
      let q = and_parts (has_no_list l under) (below && more) p.1 in
      let r = and_parts below more q.1 in
      let s1 : State = entered toks l first under s in
      let s2 : State = walked toks under s1 in
      let s3 : State = left toks l first under s s2 in
      adds_then s.facts s1.facts (walked toks rest s3).facts (adds_enter l.production within first l under s.frame s.facts p.0)
      (adds_then s1.facts s2.facts (walked toks rest s3).facts (adds_walk under (within_of l.production within) at s1 w.1 low (omega (arith, high)) gs.0 r.0)
      (adds_then s2.facts s3.facts (walked toks rest s3).facts
      (adds_after l.production within s.frame l first under s2.frame.body s2.facts (λ i x. name_in l under at i lo hi w.1 low (omega (arith, high)) x) p.0 fs.0
      (λ begins. (omega (arith, w.0, low), omega (arith, w.0, high, begins_some under begins))))
      (adds_walk rest within (at + token_count under) s3 w.2 (omega (arith, low)) (omega (arith, high)) gs.1 r.1)))

pub parts_only_add : PartsOnlyAdd
parts_only_add toks f within lo s w forms e = adds_walk toks lo (lo + token_count f) f within lo s w (omega arith) (omega arith) forms e
