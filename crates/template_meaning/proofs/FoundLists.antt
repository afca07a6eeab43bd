-- The lists of a file, each once, in the order in which they begin.
use Rattle.std.proofs.Common.{◌≡◌, ℕ, suc, ◌+◌, ◌<◌, ◌≤◌, ◌⊎◌, inl, inr, Bool, true, false, cond, if◌then◌else◌, List, [], ◌∷◌, ◌++◌, Option, None, Some, refl, sym, ap, subst, ◌∙◌, arith}
use Rattle.std.specs.Prelude.{◌==◌, nat_lt}
use Rattle.std.specs.List.{flat_map, insert, prefix_len}
use Rattle.std.specs.Option.{option_map_or}
use Rattle.std.proofs.lemmas.Bool.{false≢true, eqb-true, ltb-true, ltb-false, eq-eqb}
use Rattle.cs_base.specs.declared.positions.Part.{Part}
use Rattle.cs_base.specs.declared.positions.Pos.{Pos}
use Rattle.cs_base.specs.Token.{Token}
use Rattle.c_types.specs.declared.lists.List.{List as NameList}
use Rattle.analysis.specs.Analysis.{UnitAnalysis, AnalysisValue}
use Rattle.template_rules.specs.declared.file_lists.FoundList.{FoundList}
use Rattle.template_rules.specs.FileLists.{characters_of, found_list, found_at, found_in, function_list, unit_found, all_found, begin_of, place_for, begins_at, with_list, with_lists, marks_in, lists_in}
use Rattle.template_rules.specs.Functions.{origin_of, names_function}
use Rattle.template_rules.specs.Lists.{separators}
use Rattle.reordered_text_laws.specs.Marks.{first_of, Each}
use Rattle.reordered_text_laws.specs.Trees.{IsAmong}
use Rattle.reordered_text_laws.proofs.PartMarks.{Rises, each_among}
use Rattle.template_meaning.specs.Units.{own_lists}
use Rattle.template_meaning.proofs.UnitLists.{in_filtered, filtered_in}
use Rattle.template_meaning.proofs.Walks.{in_among, among_in}

-- ---- one list among others

begin_first : (l : List ℕ) → begin_of l ≡ first_of l
begin_first [] = refl
begin_first (m ∷ ms) = refl

-- a list among lists in order
abbrev placed : List ℕ → List (List ℕ) → List (List ℕ)
placed l [] = l ∷ []
placed l (x ∷ xs) = cond (nat_lt (begin_of x) (begin_of l)) (x ∷ placed l xs) (cond (begin_of x == begin_of l) (x ∷ xs) (l ∷ (x ∷ xs)))

placed_so : (l : List ℕ) (xs : List (List ℕ)) → with_list l xs ≡ placed l xs
placed_so l [] = refl
placed_so l (x ∷ xs) = by (placed_so l xs) (nat_lt (begin_of x) (begin_of l)) refl
  where
    pick : ℕ → List (List ℕ)
    pick n = if begins_at (begin_of l) (x ∷ xs) n then x ∷ xs else insert (x ∷ xs) n l

    later : (b : Bool) (zs : List (List ℕ)) → (if b then x ∷ xs else x ∷ zs) ≡ x ∷ (if b then xs else zs)
    later true zs = refl
    later false zs = refl

    place : nat_lt (begin_of x) (begin_of l) ≡ true → place_for (begin_of l) (x ∷ xs) ≡ suc (place_for (begin_of l) xs)
    place e = rw e (let one : 1 + prefix_len (λ m. nat_lt (begin_of m) (begin_of l)) xs ≡ suc (prefix_len (λ m. nat_lt (begin_of m) (begin_of l)) xs) = omega arith in one)

    stays : nat_lt (begin_of x) (begin_of l) ≡ false → place_for (begin_of l) (x ∷ xs) ≡ 0
    stays e = rw e refl

    by : with_list l xs ≡ placed l xs → (b : Bool) → nat_lt (begin_of x) (begin_of l) ≡ b → with_list l (x ∷ xs) ≡ cond b (x ∷ placed l xs) (cond (begin_of x == begin_of l) (x ∷ xs) (l ∷ (x ∷ xs)))
    by h true e = ap pick (place e) ∙ later (begins_at (begin_of l) xs (place_for (begin_of l) xs)) (insert xs (place_for (begin_of l) xs) l) ∙ ap (λ (zs : List (List ℕ)). x ∷ zs) h
    by h false e = ap pick (stays e)

-- what lists are once one is placed among them
record IsPlaced (l : List ℕ) (xs ys : List (List ℕ)) : Type 0 where
  only : (t : List ℕ) → IsAmong ys t → (t ≡ l) ⊎ IsAmong xs t
  all : (t : List ℕ) → IsAmong xs t → IsAmong ys t
  begins : (t : List ℕ) × IsAmong ys t × (first_of t ≡ first_of l)
  rises : Rises ys

lower : (l m : List ℕ) (xs : List (List ℕ)) → first_of l < first_of m → Each (λ t. first_of m < first_of t) xs → Each (λ t. first_of l < first_of t) xs
lower l m [] lt h = tt
lower l m (x ∷ xs) lt h = let far = h.0 in (omega (arith, lt, far), lower l m xs lt h.1)

each_of_all : (P : List ℕ → Type 0) (xs : List (List ℕ)) → ((t : List ℕ) → IsAmong xs t → P t) → Each P xs
each_of_all P [] f = tt
each_of_all P (x ∷ xs) f = (f x (inl refl), each_of_all P xs (λ t i. f t (inr i)))

differ : (m n : ℕ) → n ≤ m → (m == n) ≡ false → n < m
differ m n le other = by (nat_lt n m) refl
  where
    by : (b : Bool) → nat_lt n m ≡ b → n < m
    by true e = ltb-true n m e
    by false e =
        let ge = ltb-false n m e in
        let same : m ≡ n = omega (arith, ge, le) in
        absurd (false≢true (sym other ∙ eq-eqb m n same))

placed_one : (l : List ℕ) (xs : List (List ℕ)) → Rises xs → IsPlaced l xs (placed l xs)
placed_one l [] h = record {
  only = λ t i. elim i [ inl e ↦ inl (sym e) | inr j ↦ inr j ];
  all = λ t i. absurd i;
  begins = (l, inl refl, refl);
  rises = (tt, tt);
}
placed_one l (x ∷ xs) h = by (placed_one l xs h.1) (nat_lt (begin_of x) (begin_of l)) refl (begin_of x == begin_of l) refl
  where
    by : IsPlaced l xs (placed l xs) → (b : Bool) → nat_lt (begin_of x) (begin_of l) ≡ b → (c : Bool) → (begin_of x == begin_of l) ≡ c
        → IsPlaced l (x ∷ xs) (cond b (x ∷ placed l xs) (cond c (x ∷ xs) (l ∷ (x ∷ xs))))
    by r true e c f =
        let lt = ltb-true (begin_of x) (begin_of l) e in
        let one = begin_first x in
        let two_ = begin_first l in
        let begins_ = r.begins in
        record {
          only = λ t i. elim i [ inl a ↦ inr (inl a) | inr j ↦ elim (r.only t j) [ inl a ↦ inl a | inr k ↦ inr (inr k) ] ];
          all = λ t i. elim i [ inl a ↦ inl a | inr j ↦ inr (r.all t j) ];
          begins = (begins_.0, inr begins_.1, begins_.2);
          rises = (
            each_of_all (λ t. first_of x < first_of t) (placed l xs) (λ t i. elim (r.only t i) [
              | inl a ↦ let same = ap first_of a in omega (arith, lt, one, two_, same)
              | inr k ↦ each_among (λ m. first_of x < first_of m) xs t h.0 k
            ]),
            r.rises,
          );
        }
    by r false e true f = record {
      only = λ t i. inr i;
      all = λ t i. i;
      begins = (x, inl refl, sym (begin_first x) ∙ eqb-true (begin_of x) (begin_of l) f ∙ begin_first l);
      rises = h;
    }
    by r false e false f =
        let ge = ltb-false (begin_of x) (begin_of l) e in
        let lt : begin_of l < begin_of x = differ (begin_of x) (begin_of l) ge f in
        let one = begin_first x in
        let two_ = begin_first l in
        let less : first_of l < first_of x = omega (arith, lt, one, two_) in
        record {
          only = λ t i. elim i [ inl a ↦ inl (sym a) | inr j ↦ inr j ];
          all = λ t i. inr i;
          begins = (l, inl refl, refl);
          rises = ((less, lower l x xs less h.0), h);
        }

-- ---- all lists

record AreTogether (ls xs ys : List (List ℕ)) : Type 0 where
  only : (t : List ℕ) → IsAmong ys t → IsAmong ls t ⊎ IsAmong xs t
  all : (t : List ℕ) → IsAmong xs t → IsAmong ys t
  begins : (l : List ℕ) → IsAmong ls l → (t : List ℕ) × IsAmong ys t × (first_of t ≡ first_of l)
  rises : Rises ys

together : (ls xs : List (List ℕ)) → Rises xs → AreTogether ls xs (with_lists ls xs)
unfolding with_lists
together [] xs h = record { only = λ t i. inr i; all = λ t i. i; begins = λ l i. absurd i; rises = h }
together (l ∷ ls) xs h =
    let one = subst (IsPlaced l xs) (sym (placed_so l xs)) (placed_one l xs h) in
    let r = together ls (with_list l xs) one.rises in
    let begins_ = one.begins in
    record {
      only = λ t i. elim (r.only t i) [ inl a ↦ inl (inr a) | inr j ↦ elim (one.only t j) [ inl e ↦ inl (inl (sym e)) | inr k ↦ inr k ] ];
      all = λ t i. r.all t (one.all t i);
      begins = λ m i. elim i [
        | inl e ↦ (begins_.0, r.all begins_.0 begins_.1, begins_.2 ∙ ap first_of e)
        | inr j ↦ r.begins m j
      ];
      rises = r.rises;
    }

-- ---- the lists in a file

in_marks : (b : Bool) (f : FoundList) (t : List ℕ) → IsAmong (if b then f.marks ∷ [] else []) t → (b ≡ true) × (f.marks ≡ t)
in_marks true f t (inl e) = (refl, e)
in_marks true f t (inr i) = absurd i
in_marks false f t i = absurd i

among_join : {X : Type 0} (xs ys : List X) (x : X) → IsAmong (xs ++ ys) x → IsAmong xs x ⊎ IsAmong ys x
among_join [] ys x i = inr i
among_join (z ∷ xs) ys x (inl e) = inl (inl e)
among_join (z ∷ xs) ys x (inr i) = elim (among_join xs ys x i) [ inl a ↦ inl (inr a) | inr b ↦ inr b ]

among_first : {X : Type 0} (xs ys : List X) (x : X) → IsAmong xs x → IsAmong (xs ++ ys) x
among_first [] ys x h = absurd h
among_first (z ∷ xs) ys x (inl e) = inl e
among_first (z ∷ xs) ys x (inr h) = inr (among_first xs ys x h)

among_later : {X : Type 0} (xs ys : List X) (x : X) → IsAmong ys x → IsAmong (xs ++ ys) x
among_later [] ys x h = h
among_later (z ∷ xs) ys x h = inr (among_later xs ys x h)

flat_found : {X Y : Type 0} (f : X → List Y) (xs : List X) (y : Y) → IsAmong (flat_map f xs) y → (x : X) × IsAmong xs x × IsAmong (f x) y
flat_found f [] y i = absurd i
flat_found f (x ∷ xs) y i = elim (among_join (f x) (flat_map f xs) y i) [
  | inl a ↦ (x, inl refl, a)
  | inr b ↦ let r = flat_found f xs y b in (r.0, inr r.1, r.2)
]

flat_among : {X Y : Type 0} (f : X → List Y) (xs : List X) (x : X) (y : Y) → IsAmong xs x → IsAmong (f x) y → IsAmong (flat_map f xs) y
flat_among f [] x y i j = absurd i
flat_among f (z ∷ xs) x y (inl e) j = among_first (f z) (flat_map f xs) y (subst (λ (u : _). IsAmong (f u) y) (sym e) j)
flat_among f (z ∷ xs) x y (inr i) j = among_later (f z) (flat_map f xs) y (flat_among f xs x y i j)

-- What the lists in a file are: in order, each found; and of each that is found one begins there.
pub record AreListsIn (found : List FoundList) (file : ℕ) : Type 0 where
  pub rises : Rises (lists_in found file)
  pub found_so : (t : List ℕ) → IsAmong (lists_in found file) t → (f : FoundList) × IsAmong found f × (f.file ≡ file) × (f.marks ≡ t)
  pub begins : (f : FoundList) → IsAmong found f → f.file ≡ file → (t : List ℕ) × IsAmong (lists_in found file) t × (first_of t ≡ first_of f.marks)

pub lists_are_in : (found : List FoundList) (file : ℕ) → AreListsIn found file
lists_are_in found file =
    let r = together (flat_map (marks_in file) found) [] tt in
    record {
      rises = r.rises;
      found_so = λ t i. elim (r.only t i) [
        | inl a ↦
            let f = flat_found (marks_in file) found t a in
            let m = in_marks (f.0.file == file) f.0 t f.2 in
            (f.0, f.1, eqb-true f.0.file file m.0, m.1)
        | inr b ↦ absurd b
      ];
      begins = λ f i e. r.begins f.marks (flat_among (marks_in file) found f f.marks i (own f e));
    }
  where
    own : (f : FoundList) → f.file ≡ file → IsAmong (marks_in file f) f.marks
    own f e = let here : (f.file == file) ≡ true = eq-eqb f.file file e in rw here (inl refl)

-- ---- the lists that are found

-- a list of a function, and where its `(` stands
pub record IsFoundOf (members : List Part) (a : AnalysisValue) (f : FoundList) : Type 0 where
  pub unit : UnitAnalysis
  pub there : IsAmong a.units unit
  pub list : NameList
  pub own : IsAmong (own_lists members unit) list
  pub at : Pos
  pub origin : origin_of unit.text.toks list.begin ≡ Some at
  pub file_is : f.file ≡ at.file
  pub marks_are : f.marks ≡ flat_map (characters_of at.file unit.text.toks) (separators list)

module _ (members : List Part) (u : UnitAnalysis) where
  abbrev toks : List Token
  toks = u.text.toks

  abbrev Own : FoundList → NameList → Type 0
  Own f l = (at : Pos) × (origin_of toks l.begin ≡ Some at) × (f.file ≡ at.file) × (f.marks ≡ flat_map (characters_of at.file toks) (separators l))

  found_by : (f : FoundList) (l : NameList) (o : Option Pos) → origin_of toks l.begin ≡ o → IsAmong (option_map_or (found_at toks l) o []) f → Own f l
  found_by f l None e i = absurd i
  found_by f l (Some p) e (inl same) = (p, e, sym (ap (λ (g : FoundList). g.file) same), sym (ap (λ (g : FoundList). g.marks) same))
  found_by f l (Some p) e (inr i) = absurd i

  function_by : (f : FoundList) (l : NameList) (b : Bool) → names_function members toks u.bound.names l.name ≡ b → IsAmong (if b then found_in toks l else []) f
      → (names_function members toks u.bound.names l.name ≡ true) × Own f l
  function_by f l true e i = (e, found_by f l (origin_of toks l.begin) refl i)
  function_by f l false e i = absurd i

  in_unit : (f : FoundList) → IsAmong (unit_found members u) f → (l : NameList) × IsAmong (own_lists members u) l × Own f l
  in_unit f i = elim (among_join (flat_map (function_list members toks u.bound.names) u.bound.declarators) (flat_map (function_list members toks u.bound.names) u.bound.calls) f i) [
    | inl d ↦ let r = flat_found (function_list members toks u.bound.names) u.bound.declarators f d in one r.0 (among_first u.bound.declarators u.bound.calls r.0 r.1) r.2
    | inr c ↦ let r = flat_found (function_list members toks u.bound.names) u.bound.calls f c in one r.0 (among_later u.bound.declarators u.bound.calls r.0 r.1) r.2
  ]
    where
      one : (l : NameList) → IsAmong (u.bound.declarators ++ u.bound.calls) l → IsAmong (function_list members toks u.bound.names l) f → (m : NameList) × IsAmong (own_lists members u) m × Own f m
      one l there j =
          let r = function_by f l (names_function members toks u.bound.names l.name) refl j in
          (l, in_among (own_lists members u) l (filtered_in (λ (m : NameList). names_function members toks u.bound.names m.name) l (u.bound.declarators ++ u.bound.calls) (among_in (u.bound.declarators ++ u.bound.calls) l there) r.0), r.1)

  if_among : (b : Bool) (xs : List FoundList) (f : FoundList) → b ≡ true → IsAmong xs f → IsAmong (if b then xs else []) f
  if_among true xs f e i = i
  if_among false xs f e i = absurd (false≢true e)

  -- each list with a place is found
  of_unit : (l : NameList) (p : Pos) → IsAmong (own_lists members u) l → origin_of toks l.begin ≡ Some p → IsAmong (unit_found members u) (found_list p.file (flat_map (characters_of p.file toks) (separators l)))
  of_unit l p i at =
      let parts = in_filtered (λ (m : NameList). names_function members toks u.bound.names m.name) l (u.bound.declarators ++ u.bound.calls) (among_in (own_lists members u) l i) in
      let here : IsAmong (function_list members toks u.bound.names l) (found_list p.file (flat_map (characters_of p.file toks) (separators l))) = if_among (names_function members toks u.bound.names l.name) (found_in toks l) _ parts.1
      (subst (λ (o : Option Pos). IsAmong (option_map_or (found_at toks l) o []) (found_list p.file (flat_map (characters_of p.file toks) (separators l)))) (sym at) (inl refl)) in
      elim (among_join u.bound.declarators u.bound.calls l (in_among (u.bound.declarators ++ u.bound.calls) l parts.0)) [
        | inl d ↦ among_first (flat_map (function_list members toks u.bound.names) u.bound.declarators) (flat_map (function_list members toks u.bound.names) u.bound.calls) _
            (flat_among (function_list members toks u.bound.names) u.bound.declarators l _ d here)
        | inr c ↦ among_later (flat_map (function_list members toks u.bound.names) u.bound.declarators) (flat_map (function_list members toks u.bound.names) u.bound.calls) _
            (flat_among (function_list members toks u.bound.names) u.bound.calls l _ c here)
      ]

pub found_of : (members : List Part) (a : AnalysisValue) (f : FoundList) → IsAmong (all_found members a) f → IsFoundOf members a f
found_of members a f i =
    let r = flat_found (unit_found members) a.units f i in
    let l = in_unit members r.0 f r.2 in
    record { unit = r.0; there = r.1; list = l.0; own = l.1; at = l.2.0; origin = l.2.1; file_is = l.2.2; marks_are = l.2.3 }

pub is_found : (members : List Part) (a : AnalysisValue) (u : UnitAnalysis) (l : NameList) (p : Pos) → IsAmong a.units u → IsAmong (own_lists members u) l → origin_of u.text.toks l.begin ≡ Some p
    → IsAmong (all_found members a) (found_list p.file (flat_map (characters_of p.file u.text.toks) (separators l)))
is_found members a u l p there own at = flat_among (unit_found members) a.units u _ there (of_unit members u l p own at)
