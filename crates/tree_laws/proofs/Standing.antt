-- Which nodes stand in which, by the tables of both standards.
use Rattle.std.proofs.Common.{◌≡◌, Bool, true, false, ◌&&◌, ◌||◌, not, if◌then◌else◌, refl, ap}
use Rattle.std.proofs.lemmas.Bool.{and_parts, and_from, or_parts, not-true, false≢true}
use Rattle.cs_base.proofs.BoolLemmas.{not_and_true as strict_free}
use Rattle.c99_tree.specs.Tree.{Forest, none, token, node, Node, Part, leaf, inner, put, lone, collapsed}
use Rattle.c99_tree.specs.declared.production.Label.{Label}
use Rattle.c99_tree.specs.declared.production.Production.{Production}
use Rattle.c99_tree.specs.declared.production.Production.TheVariants.{TranslationUnit, External, ExtRest, Declaration, DeclRest, Sassert, Specs, Members, Member, MemRest, Mdecl, Init, InitItem, Designator}
use Rattle.c99_read.specs.State.{collapses, finished, is_specs}
use Rattle.tree_laws.specs.Narrowed.{is_member, is_line, is_rest, is_lone, has_lone}

abbrev pub is_members : Production → Bool
is_members Members = true
is_members _ = false

abbrev pub is_mdecl : Production → Bool
is_mdecl Mdecl = true
is_mdecl _ = false

-- the parts of a declaration, at file level and in a block
abbrev pub is_outer_part : Production → Bool
is_outer_part ExtRest = true
is_outer_part DeclRest = true
is_outer_part Sassert = true
is_outer_part Specs = true
is_outer_part _ = false

abbrev pub is_unit_part : Production → Bool
is_unit_part TranslationUnit = true
is_unit_part External = true
is_unit_part _ = false

-- the parts of an item of a brace list
abbrev pub is_item_part : Production → Bool
is_item_part Designator = true
is_item_part Init = true
is_item_part _ = false

-- a node of the second may stand in one of the first
abbrev pub within : Production → Production → Bool
within TranslationUnit q = is_unit_part q
within External q = is_outer_part q
within Declaration q = is_outer_part q
within MemRest q = is_mdecl q
within Members q = true
within InitItem q = is_item_part q
within _ q = not (is_member q)

-- .. and in a line of members before its rest
abbrev pub only : Production → Production → Bool
only Member q = is_specs q
only p q = within p q

specs_no_member : (q : Production) → is_specs q ≡ true → not (is_member q) ≡ true
specs_no_member Member e = absurd (false≢true e)
specs_no_member _ e = refl

only_within : (p q : Production) → only p q ≡ true → within p q ≡ true
only_within Member q e = specs_no_member q e
only_within _ q e = e

-- a line of members stands among members alone, and in a brace list stand its items
abbrev pub stands_in : Production → Production → Bool
stands_in InitItem q = is_item_part q
stands_in p q = is_members p || not (is_member q)

unit_no_member : (q : Production) → is_unit_part q ≡ true → not (is_member q) ≡ true
unit_no_member Member e = absurd (false≢true e)
unit_no_member _ e = refl

outer_no_member : (q : Production) → is_outer_part q ≡ true → not (is_member q) ≡ true
outer_no_member Member e = absurd (false≢true e)
outer_no_member _ e = refl

mdecl_no_member : (q : Production) → is_mdecl q ≡ true → not (is_member q) ≡ true
mdecl_no_member Member e = absurd (false≢true e)
mdecl_no_member _ e = refl

pub within_stands : (p q : Production) → within p q ≡ true → stands_in p q ≡ true
within_stands TranslationUnit q e = unit_no_member q e
within_stands External q e = outer_no_member q e
within_stands Declaration q e = outer_no_member q e
within_stands MemRest q e = mdecl_no_member q e
within_stands Members q e = refl
within_stands InitItem q e = e
within_stands _ q e = e

-- ---- Children

-- the nodes among some children are of such productions
abbrev pub kids : (Production → Bool) → Forest → Bool
kids ok none = true
kids ok (token i rest) = kids ok rest
kids ok (node l first under rest) = ok l.production && kids ok rest

abbrev pub part_is : (Production → Bool) → Part → Bool
part_is ok (leaf i) = true
part_is ok (inner n) = ok n.label.production

pub kids-put : (ok : Production → Bool) (f : Forest) (x : Part) → kids ok f ≡ true → part_is ok x ≡ true → kids ok (put f x) ≡ true
kids-put ok none (leaf i) e h = refl
kids-put ok none (inner n) e h = and_from _ _ h refl
kids-put ok (token i rest) x e h = kids-put ok rest x e h
kids-put ok (node l first under rest) x e h =
    let parts = and_parts (ok l.production) (kids ok rest) e in
    and_from _ _ parts.0 (kids-put ok rest x parts.1 h)

pub kids_weaker : (ok other : Production → Bool) → ((q : Production) → ok q ≡ true → other q ≡ true) → (f : Forest) → kids ok f ≡ true → kids other f ≡ true
kids_weaker ok other k none e = refl
kids_weaker ok other k (token i rest) e = kids_weaker ok other k rest e
kids_weaker ok other k (node l first under rest) e =
    let parts = and_parts (ok l.production) (kids ok rest) e in
    and_from _ _ (k l.production parts.0) (kids_weaker ok other k rest parts.1)

pub kids_within : (p : Production) (f : Forest) → kids (only p) f ≡ true → kids (within p) f ≡ true
kids_within p f = kids_weaker (only p) (within p) (only_within p) f

-- ---- Trees

-- specifiers, and what stands behind them in a node
abbrev pub is_line_body : Forest → Bool
is_line_body (node l first under (node m second below none)) = is_specs l.production && is_rest m.production
is_line_body _ = false

-- what stands in a node may stand there; a semicolon that stands alone behind specifiers is asked for by `strict`
abbrev pub is_good : Bool → Label → Forest → Bool
is_good strict l under = (not (is_line l) || is_line_body under) && (kids (within l.production) under && not (is_lone l && strict))

abbrev pub formed : Bool → Forest → Bool
formed strict none = true
formed strict (token i rest) = formed strict rest
formed strict (node l first under rest) = is_good strict l under && (formed strict under && formed strict rest)

abbrev pub part_formed : Bool → Part → Bool
part_formed strict (leaf i) = true
part_formed strict (inner n) = is_good strict n.label n.under && formed strict n.under

pub formed-put : (strict : Bool) (f : Forest) (x : Part) → formed strict f ≡ true → part_formed strict x ≡ true → formed strict (put f x) ≡ true
formed-put strict none (leaf i) e h = refl
formed-put strict none (inner n) e h =
    let parts = and_parts (is_good strict n.label n.under) (formed strict n.under) h in
    and_from _ _ parts.0 (and_from _ _ parts.1 refl)
formed-put strict (token i rest) x e h = formed-put strict rest x e h
formed-put strict (node l first under rest) x e h =
    let a = and_parts (is_good strict l under) (formed strict under && formed strict rest) e in
    let b = and_parts (formed strict under) (formed strict rest) a.1 in
    and_from _ _ a.0 (and_from _ _ b.0 (formed-put strict rest x b.1 h))

pub formed_lone : (strict : Bool) (f : Forest) (n : Node) → formed strict f ≡ true → part_formed strict (inner n) ≡ true → part_formed strict (inner (lone f n)) ≡ true
formed_lone strict none n e h = h
formed_lone strict (token i rest) n e h = h
formed_lone strict (node l first under none) n e h =
    let a = and_parts (is_good strict l under) (formed strict under && true) e in
    and_from _ _ a.0 (and_parts (formed strict under) true a.1).0
formed_lone strict (node l first under (token i rest)) n e h = h
formed_lone strict (node l first under (node m second below rest)) n e h = h

pub formed_finished : (strict : Bool) (p : Production) (n : Node) → part_formed strict (inner n) ≡ true → part_formed strict (inner (finished p n)) ≡ true
formed_finished strict p n h = by (collapses p)
  where
    by : (b : Bool) → part_formed strict (inner (if b then collapsed n else n)) ≡ true
    by true = formed_lone strict n.under n ((and_parts (is_good strict n.label n.under) (formed strict n.under) h).1) h
    by false = h

-- what is strictly so has no such semicolon; and what has none is strictly so
abbrev lone_here : Bool → Label → Bool
lone_here strict l = not (is_lone l && strict)

free_strict : (b strict : Bool) → b ≡ false → not (b && strict) ≡ true
free_strict true strict e = cc
free_strict false strict e = refl

pub formed_free : (f : Forest) → formed true f ≡ true → has_lone f ≡ false
formed_free none e = refl
formed_free (token i rest) e = formed_free rest e
formed_free (node l first under rest) e =
    let a = and_parts (is_good true l under) (formed true under && formed true rest) e in
    let b = and_parts (formed true under) (formed true rest) a.1 in
    let c = and_parts (not (is_line l) || is_line_body under) _ a.0 in
    let d = and_parts (kids (within l.production) under) (lone_here true l) c.1 in
    rw (strict_free (is_lone l) d.1, formed_free under b.0, formed_free rest b.1) refl

pub free_formed : (f : Forest) → formed false f ≡ true → has_lone f ≡ false → formed true f ≡ true
free_formed none e h = refl
free_formed (token i rest) e h = free_formed rest e h
free_formed (node l first under rest) e h =
    let a = and_parts (is_good false l under) (formed false under && formed false rest) e in
    let b = and_parts (formed false under) (formed false rest) a.1 in
    let c = and_parts (not (is_line l) || is_line_body under) _ a.0 in
    let d = and_parts (kids (within l.production) under) (lone_here false l) c.1 in
    let k = or_parts (is_lone l) (has_lone under || has_lone rest) h in
    let m = or_parts (has_lone under) (has_lone rest) k.1 in
    and_from _ _ (and_from _ _ c.0 (and_from _ _ d.0 (free_strict (is_lone l) true k.0))) (and_from _ _ (free_formed under b.0 m.0) (free_formed rest b.1 m.1))

-- ---- A node that is finished

apart : (p : Production) → collapses p ≡ true → is_outer_part p ≡ true → ⊥
apart ExtRest c h = false≢true c
apart DeclRest c h = false≢true c
apart Sassert c h = false≢true c
apart Specs c h = false≢true c
apart _ c h = false≢true h

apart_unit : (p : Production) → collapses p ≡ true → is_unit_part p ≡ true → ⊥
apart_unit TranslationUnit c h = false≢true c
apart_unit External c h = false≢true c
apart_unit _ c h = false≢true h

apart_mdecl : (p : Production) → collapses p ≡ true → is_mdecl p ≡ true → ⊥
apart_mdecl Mdecl c h = false≢true c
apart_mdecl _ c h = false≢true h

apart_item : (p : Production) → collapses p ≡ true → is_item_part p ≡ true → ⊥
apart_item Designator c h = false≢true c
apart_item Init c h = false≢true c
apart_item _ c h = false≢true h

apart_specs : (p : Production) → collapses p ≡ true → is_specs p ≡ true → ⊥
apart_specs Specs c h = false≢true c
apart_specs _ c h = false≢true h

-- where a node that collapses may stand, each may that is no line of members
pub wide_open : (w p q : Production) → collapses p ≡ true → only w p ≡ true → is_member q ≡ false → only w q ≡ true
wide_open TranslationUnit p q c h e = absurd (apart_unit p c h)
wide_open External p q c h e = absurd (apart p c h)
wide_open Declaration p q c h e = absurd (apart p c h)
wide_open MemRest p q c h e = absurd (apart_mdecl p c h)
wide_open Member p q c h e = absurd (apart_specs p c h)
wide_open Members p q c h e = refl
wide_open InitItem p q c h e = absurd (apart_item p c h)
wide_open _ p q c h e = ap not e

-- ---- The root

pub root_part : (f : Forest) (n : Node) → kids is_unit_part f ≡ true → is_unit_part n.label.production ≡ true → is_unit_part (lone f n).label.production ≡ true
root_part none n e h = h
root_part (token i rest) n e h = h
root_part (node l first under none) n e h = (and_parts (is_unit_part l.production) true e).0
root_part (node l first under (token i rest)) n e h = h
root_part (node l first under (node m second below rest)) n e h = h

root_within : (p q : Production) → is_unit_part p ≡ true → within p q ≡ true → stands_in TranslationUnit q ≡ true
root_within TranslationUnit q e h = unit_no_member q h
root_within External q e h = outer_no_member q h
root_within _ q e h = absurd (false≢true e)

-- the tree of a unit, as far as binding rests on it
pub record IsUnit (tree : Node) : Type 0 where
  pub root : is_line tree.label ≡ false
  pub sound : part_formed true (inner tree) ≡ true
  pub apart : kids (stands_in TranslationUnit) tree.under ≡ true

unit_no_line : (l : Label) → is_unit_part l.production ≡ true → is_line l ≡ false
unit_no_line l e = rw (not-true (is_member l.production) (unit_no_member l.production e)) refl

pub unit_of : (f : Forest) (n : Node) → kids is_unit_part f ≡ true → is_unit_part n.label.production ≡ true → part_formed true (inner (lone f n)) ≡ true → IsUnit (lone f n)
unit_of f n e h sound =
    let part : is_unit_part (lone f n).label.production ≡ true = root_part f n e h in
    let good = (and_parts (is_good true (lone f n).label (lone f n).under) (formed true (lone f n).under) sound).0 in
    let inside = and_parts (kids (within (lone f n).label.production) (lone f n).under) _ ((and_parts (not (is_line (lone f n).label) || is_line_body (lone f n).under) _ good).1) in
    record {
      root = unit_no_line (lone f n).label part;
      sound = sound;
      apart = kids_weaker (within (lone f n).label.production) (stands_in TranslationUnit) (λ q. root_within (lone f n).label.production q part) (lone f n).under inside.0;
    }

-- no semicolon stands alone in what is strictly so
pub part_free : (n : Node) → part_formed true (inner n) ≡ true → (is_lone n.label || has_lone n.under) ≡ false
part_free n h =
    let a = and_parts (is_good true n.label n.under) (formed true n.under) h in
    let b = and_parts (not (is_line n.label) || is_line_body n.under) _ a.0 in
    let c = and_parts (kids (within n.label.production) n.under) (lone_here true n.label) b.1 in
    rw (strict_free (is_lone n.label) c.1, formed_free n.under a.1) refl

pub free_part : (n : Node) → part_formed false (inner n) ≡ true → (is_lone n.label || has_lone n.under) ≡ false → part_formed true (inner n) ≡ true
free_part n h e =
    let a = and_parts (is_good false n.label n.under) (formed false n.under) h in
    let b = and_parts (not (is_line n.label) || is_line_body n.under) _ a.0 in
    let c = and_parts (kids (within n.label.production) n.under) (lone_here false n.label) b.1 in
    let d = or_parts (is_lone n.label) (has_lone n.under) e in
    and_from _ _ (and_from _ _ b.0 (and_from _ _ c.0 (free_strict (is_lone n.label) true d.0))) (free_formed n.under a.1 d.1)
