-- Open declarators, and the names of lists that are given to them.
use Rattle.std.proofs.Common.{ℕ, ◌-◌, ◌<◌, ◌≤◌, ◌≡◌, Bool, true, false, if◌then◌else◌, ◌==◌, List, [], ◌∷◌, ◌++◌, length, take, Option, None, Some, unwrap_or, slice_get, refl, sym, ap, ◌∙◌, arith}
use Rattle.std.specs.Option.{option_or, option_map_or}
use Rattle.std.proofs.lemmas.Bool.{eq-eqb, ne_eqb}
use Rattle.std.proofs.lemmas.List.{length-append}
use Rattle.std.proofs.Math.Seq.{take-append_seam}
use Rattle.c99_tree.specs.Tree.{Forest, none, token, node, Node, leaf, inner, put}
use Rattle.c99_read.specs.State.{Head, Names, given_names, head_closed}
use Rattle.c_types.specs.Trees.{is_list, last_token, first_list}
use Rattle.tree_laws.proofs.Private.{Declaration}

-- ---- Giving

-- what becomes of the open declarators where names are given, or none
abbrev pub handed : ℕ → Option (List Declaration) → List Head → List Head
handed count None heads = heads
handed count (Some names) heads = given_names count names heads

-- each of them began with so many scopes open at most
abbrev pub Few : ℕ → List Head → Type 0
Few n [] = Unit {0}
Few n (h ∷ heads) = (h.scopes_open ≤ n) × Few n heads

pub few_more : (n m : ℕ) (heads : List Head) → n ≤ m → Few n heads → Few m heads
few_more n m [] h w = tt
few_more n m (x ∷ heads) h w = (let first = w.0 in omega arith, few_more n m heads h w.1)

few_given : (n count : ℕ) (names : List Declaration) (heads : List Head) → Few n heads → Few n (given_names count names heads)
few_given n count names [] w = tt
few_given n count names (x ∷ heads) w = by (x.scopes_open == count) (few_given n count names heads w.1)
  where
    by : (c : Bool) → Few n (given_names count names heads)
        → Few n (if c then (record x { given = Some (unwrap_or x.given names) } ∷ heads) else (x ∷ given_names count names heads))
    by true h = (w.0, w.1)
    by false h = (w.0, h)

pub few_handed : (n count : ℕ) (x : Option (List Declaration)) (heads : List Head) → Few n heads → Few n (handed count x heads)
few_handed n count None heads w = w
few_handed n count (Some names) heads w = few_given n count names heads w

pub few_last : (n : ℕ) (heads : List Head) (h : Head) → Few n heads → h.scopes_open ≤ n → Few n (heads ++ h ∷ [])
few_last n [] h w last = (last, tt)
few_last n (x ∷ heads) h w last = (w.0, few_last n heads h w.1 last)

-- names are given once
given_twice : (count : ℕ) (x y : List Declaration) (heads : List Head) → given_names count y (given_names count x heads) ≡ given_names count x heads
given_twice count x y [] = refl
given_twice count x y (h ∷ heads) = by (h.scopes_open == count) refl (given_twice count x y heads)
  where
    by : (c : Bool) → (h.scopes_open == count) ≡ c → given_names count y (given_names count x heads) ≡ given_names count x heads
        → given_names count y (if c then (record h { given = Some (unwrap_or h.given x) } ∷ heads) else (h ∷ given_names count x heads))
        ≡ (if c then (record h { given = Some (unwrap_or h.given x) } ∷ heads) else (h ∷ given_names count x heads))
    by true e m =
        ap (λ c. if c then (record h { given = Some (unwrap_or h.given x) } ∷ heads) else (record h { given = Some (unwrap_or h.given x) } ∷ given_names count y heads)) e
    by false e m =
        ap (λ c. if c then (record h { given = Some (unwrap_or h.given y) } ∷ given_names count x heads) else (h ∷ given_names count y (given_names count x heads))) e
        ∙ ap (λ r. h ∷ r) m

pub handed_twice : (count : ℕ) (x y : Option (List Declaration)) (heads : List Head)
    → handed count y (handed count x heads) ≡ handed count (option_or x y) heads
handed_twice count None y heads = refl
handed_twice count (Some names) None heads = refl
handed_twice count (Some names) (Some more) heads = given_twice count names more heads

-- those that began in scopes further out get nothing
pub handed_inside : (n count : ℕ) (x : Option (List Declaration)) (heads : List Head) → n < count → Few n heads → handed count x heads ≡ heads
handed_inside n count None heads h w = refl
handed_inside n count (Some names) heads h w = by heads w
  where
    by : (heads : List Head) → Few n heads → given_names count names heads ≡ heads
    by [] w = refl
    by (x ∷ heads) w =
        ap (λ c. if c then (record x { given = Some (unwrap_or x.given names) } ∷ heads) else (x ∷ given_names count names heads))
        (ne_eqb x.scopes_open count (λ e. (let first = w.0 in omega arith)))
        ∙ ap (λ r. x ∷ r) (by heads w.1)

-- ---- The last one

-- another one behind the others stays the last one
pub record EndsWith (count : ℕ) (x : Option (List Declaration)) (heads : List Head) (h : Head) : Type 0 where
  pub last : Head
  pub same : handed count x (heads ++ h ∷ []) ≡ handed count x heads ++ last ∷ []

pub ends_with : (count : ℕ) (x : Option (List Declaration)) (heads : List Head) (h : Head) → EndsWith count x heads h
ends_with count None heads h = record { last = h; same = refl }
ends_with count (Some names) heads h = by heads
  where
    by : (heads : List Head) → EndsWith count (Some names) heads h
    by [] = first (h.scopes_open == count) refl
      where
        first : (c : Bool) → (h.scopes_open == count) ≡ c → EndsWith count (Some names) [] h
        first true e = record {
          last = record h { given = Some (unwrap_or h.given names) };
          same = ap (λ c. if c then (record h { given = Some (unwrap_or h.given names) } ∷ []) else (h ∷ [])) e;
        }
        first false e = record { last = h; same = ap (λ c. if c then (record h { given = Some (unwrap_or h.given names) } ∷ []) else (h ∷ [])) e }
    by (y ∷ heads) = more (y.scopes_open == count) refl (by heads)
      where
        more : (c : Bool) → (y.scopes_open == count) ≡ c → EndsWith count (Some names) heads h → EndsWith count (Some names) (y ∷ heads) h
        more true e w = record {
          last = h;
          same = ap (λ c. if c then (record y { given = Some (unwrap_or y.given names) } ∷ (heads ++ h ∷ [])) else (y ∷ given_names count names (heads ++ h ∷ []))) e
              ∙ sym (ap (λ c. (if c then (record y { given = Some (unwrap_or y.given names) } ∷ heads) else (y ∷ given_names count names heads)) ++ h ∷ []) e);
        }
        more false e w = record {
          last = w.last;
          same = ap (λ c. if c then (record y { given = Some (unwrap_or y.given names) } ∷ (heads ++ h ∷ [])) else (y ∷ given_names count names (heads ++ h ∷ []))) e
              ∙ (ap (λ r. y ∷ r) w.same
              ∙ sym (ap (λ c. (if c then (record y { given = Some (unwrap_or y.given names) } ∷ heads) else (y ∷ given_names count names heads)) ++ w.last ∷ []) e));
        }

take_front : (heads : List Head) (h : Head) → take (length (heads ++ h ∷ []) - 1) (heads ++ h ∷ []) ≡ heads
take_front heads h =
    ap (λ n. take n (heads ++ h ∷ [])) (let e = length-append heads (h ∷ []) in let one : length (h ∷ []) ≡ 1 = refl in omega arith)
    ∙ take-append_seam heads (h ∷ [])

-- the heads around a declarator that is closed
pub closed_heads : (count : ℕ) (x : Option (List Declaration)) (heads : List Head) (h : Head) (names : Names)
    → names.heads ≡ handed count x (heads ++ h ∷ []) → (head_closed names).heads ≡ handed count x heads
closed_heads count x heads h names e =
    let w = ends_with count x heads h in
    ap (λ hs. take (length hs - 1) hs) (e ∙ w.same) ∙ take_front (handed count x heads) w.last

-- .. and the names that are at hand, where it is the outermost one
abbrev pub names_given : Option (List Declaration) → List Declaration
names_given None = []
names_given (Some names) = names

pub closed_kept : (count : ℕ) (x : Option (List Declaration)) (names : Names)
    → names.heads ≡ handed count x ([] ++ record { scopes_open = count; given = None } ∷ []) → (head_closed names).kept ≡ names_given x
closed_kept count None names e = ap (λ hs. option_map_or (λ (h : Head). unwrap_or h.given []) (slice_get hs (length hs - 1)) []) e
closed_kept count (Some given) names e =
    ap (λ hs. option_map_or (λ (h : Head). unwrap_or h.given []) (slice_get hs (length hs - 1)) [])
    (e ∙ ap (λ c. if c then (record { scopes_open = count; given = Some given } ∷ []) else (record { scopes_open = count; given = None } ∷ [])) (eq-eqb count count refl))

-- ---- The first list of a declarator

pub or_none : (x : Option ℕ) → option_or x None ≡ x
or_none None = refl
or_none (Some i) = refl

pub or_three : (x y z : Option ℕ) → option_or (option_or x y) z ≡ option_or x (option_or y z)
or_three None y z = refl
or_three (Some i) y z = refl

pub list_leaf : (f : Forest) (i : ℕ) → first_list (put f (leaf i)) ≡ first_list f
list_leaf none i = refl
list_leaf (token j rest) i = list_leaf rest i
list_leaf (node l first under rest) i =
    ap (λ r. if is_list l then Some (last_token under 0) else option_or (first_list under) r) (list_leaf rest i)

-- the first list of a node
abbrev pub list_of : Node → Option ℕ
list_of n = if is_list n.label then Some (last_token n.under 0) else first_list n.under

pub list_inner : (f : Forest) (n : Node) → first_list (put f (inner n)) ≡ option_or (first_list f) (list_of n)
list_inner none n = by (is_list n.label)
  where
    by : (c : Bool) → (if c then Some (last_token n.under 0) else option_or (first_list n.under) None) ≡ (if c then Some (last_token n.under 0) else first_list n.under)
    by true = refl
    by false = or_none (first_list n.under)
list_inner (token j rest) n = list_inner rest n
list_inner (node l first under rest) n = by (is_list l) (list_inner rest n)
  where
    by : (c : Bool) → first_list (put rest (inner n)) ≡ option_or (first_list rest) (list_of n)
        → (if c then Some (last_token under 0) else option_or (first_list under) (first_list (put rest (inner n))))
        ≡ option_or (if c then Some (last_token under 0) else option_or (first_list under) (first_list rest)) (list_of n)
    by true e = refl
    by false e = ap (λ r. option_or (first_list under) r) e ∙ sym (or_three (first_list under) (first_list rest) (list_of n))
