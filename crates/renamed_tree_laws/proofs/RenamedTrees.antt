-- A renamed text is read to the tree of the old one.
use Rattle.std.proofs.Common.{ℕ, ◌+◌, ◌≡◌, Bool, true, false, ◌&&◌, ◌||◌, not, if◌then◌else◌, ◌==◌, ◌%◌, List, [], ◌∷◌, ◌++◌, codes, map, reverse, filter, length, None, inl, inr, refl, sym, ap, subst, ◌∙◌}
use mathlib.Core.List.{reverse-cons}
use Rattle.std.specs.List.{All, list_all}
use Rattle.std.specs.Option.{option_map_or}
use Rattle.std.specs.Str.{bytes_eq}
use Rattle.std.proofs.lemmas.Bool.{and_parts, and_from}
use Rattle.std.proofs.lemmas.Slice.Eq.{bytes_eq-Decides}
use Rattle.c99_grammar.specs.declared.dialects.Edition.{Edition}
use Rattle.cs_base.specs.Token.{Token}
use Rattle.c99_tree.specs.Tree.{Forest, none, token, node}
use Rattle.c99_tree.specs.declared.production.Label.{Label}
use Rattle.c99_tree.specs.declared.production.Production.{Production}
use Rattle.c99_tree.specs.declared.production.Production.TheVariants.{TranslationUnit, Main, Params, Primary, Pdirect}
use Rattle.c99_grammar.specs.Standard.{iso}
use Rattle.c99_read.specs.State.{base_at, is_identifier}
use Rattle.c_types.specs.declared.lists.Range.{Range}
use Rattle.scope_bind.specs.Named.{Declaration, Frame, ordinary}
use Rattle.c_types.specs.Trees.{is_at}
use Rattle.c_types.specs.Declarations.{Facts, is_space, is_typedef_name, spelling_at, alike, visible}
use Rattle.name_chains.specs.Frames.{State, at_first as before}
use Rattle.scope_bind.specs.Ordinary.{used, is_func}
use Rattle.name_chains.specs.Entering.{entered}
use Rattle.scope_bind.specs.Roles.{role_of}
use Rattle.scope_bind.specs.Walk.{facts_at, passed, left, walked}
use Rattle.scope_bind.specs.Bound.{Bound, names_of, bound_of, range_of as range_of_declaration, typedefs_of, facts_of, binding_of}
use Rattle.scope_bind.specs.declared.bound.Name.{Name}
use Rattle.tree_laws.specs.RenamedNames.{is_own_word, StaysApart}
use Rattle.tree_laws.proofs.Lookups.{In, StandApart}
use Rattle.tree_laws.proofs.Renaming.{Good, Kept, stand_apart}
use Rattle.tree_laws.proofs.RenamedNames.{used_visible}
use Rattle.tree_laws.proofs.RenamedSteps.{entered_kept, entered_same, passed_kept, passed_same, left_back, left_kept, left_same}
use Rattle.tree_laws.proofs.Unnamed.{found_named}
use Rattle.tree_laws.proofs.RenamedWalk.{walked_back, walked_same, names_good, no_fault}
use Rattle.tree_laws.specs.Agreeing.{denotes_typedef, is_read_so, is_named_so, agrees}
use Rattle.tree_laws.proofs.Outline.{Entry, Outline}
use Rattle.tree_laws.proofs.Outlines.{entry_of, entries_of, outline, denotes_among, left_same as left_outline, walked_same as walked_outline}
use Rattle.tree_laws.proofs.Rules.{labelled}
use Rattle.tree_laws.proofs.Texts.{units_agree}
use Rattle.tree_laws.proofs.HeldNames.{bound_is}
use Rattle.renamed_tree_laws.specs.TreesAlike.{RenamedTextsReadAlike}
use Rattle.renamed_tree_laws.specs.Loose.{is_listed, AllLoose, StaysWhole}
use Rattle.renamed_tree_laws.proofs.LooseNames.{range_of, more_in, after_in, outlined_in, Covered, none_still}
use Rattle.renamed_tree_laws.proofs.AgreeingTexts.{agreeing_alike}

abbrev func : List ℕ
func = codes "__func__"

-- ---- Ranges of typedef names

in_before : {X : Type 0} (x : X) (xs ys : List X) → In x xs → In x (xs ++ ys)
in_before x [] ys w = absurd w
in_before x (y ∷ xs) ys (inl s) = inl s
in_before x (y ∷ xs) ys (inr w) = inr (in_before x xs ys w)

reversed_in : {X : Type 0} (x : X) (xs : List X) → In x xs → In x (reverse xs)
reversed_in x [] w = absurd w
reversed_in x (y ∷ ys) (inl s) = subst (λ zs. In x zs) (sym (reverse-cons y ys)) (more_in x (reverse ys) (y ∷ []) (inl s))
reversed_in x (y ∷ ys) (inr w) = subst (λ zs. In x zs) (sym (reverse-cons y ys)) (in_before x (reverse ys) (y ∷ []) (reversed_in x ys w))

abbrev ranges : List Declaration → List Range
ranges ds = map range_of_declaration (filter (λ (d : Declaration). is_typedef_name d.kind) ds)

range_here : (c : Bool) (d : Declaration) (ds : List Declaration) (r : Range) → c ≡ true → range_of_declaration d ≡ r
    → In r (map range_of_declaration (if c then d ∷ ds else ds))
range_here true d ds r e s = inl s
range_here false d ds r e s = absurd (cc)

range_later : (c : Bool) (d : Declaration) (ds : List Declaration) (r : Range) → In r (map range_of_declaration ds) → In r (map range_of_declaration (if c then d ∷ ds else ds))
range_later true d ds r w = inr w
range_later false d ds r w = w

range_in : (e : Entry) (ds : List Declaration) → In e (entries_of ds) → e.typedef ≡ true → In (range_of e) (ranges ds)
range_in e [] w t = absurd w
range_in e (d ∷ ds) w t = by (is_space d.space ordinary) w (λ v. range_in e ds v t)
  where
    by : (o : Bool) → In e (if o then entry_of d ∷ entries_of ds else entries_of ds) → (In e (entries_of ds) → In (range_of e) (ranges ds)) → In (range_of e) (ranges (d ∷ ds))
    by true (inl s) more =
        range_here (is_typedef_name d.kind) d (filter (λ (x : Declaration). is_typedef_name x.kind) ds) (range_of e) (ap (λ (x : Entry). x.typedef) s ∙ t) (ap range_of s)
    by true (inr v) more = range_later (is_typedef_name d.kind) d (filter (λ (x : Declaration). is_typedef_name x.kind) ds) (range_of e) (more v)
    by false v more = range_later (is_typedef_name d.kind) d (filter (λ (x : Declaration). is_typedef_name x.kind) ds) (range_of e) (more v)

-- no token gets the spelling of a declared name that it had not
entry_apart : (a b : List Token) (x : Entry) (ds : List Declaration) → StandApart a b ds → In x (entries_of ds) → StaysApart a b x.name_at
entry_apart a b x [] apart w = absurd w
entry_apart a b x (d ∷ ds) apart w = by (is_space d.space ordinary) refl w (λ v. entry_apart a b x ds (λ e u named. apart e (inr u) named) v)
  where
    by : (c : Bool) → is_space d.space ordinary ≡ c → In x (if c then entry_of d ∷ entries_of ds else entries_of ds) → (In x (entries_of ds) → StaysApart a b x.name_at)
        → StaysApart a b x.name_at
    by true here (inl s) later = subst (λ (e : Entry). StaysApart a b e.name_at) s (apart d (inl refl) (found_named d.space ordinary here))
    by true here (inr v) later = later v
    by false here v later = later v

module _ (std : Edition) where
  module _ (a b : List Token)
      (words : (word : List ℕ) (k : ℕ) → is_own_word word ≡ true → bytes_eq (spelling_at b k) word ≡ bytes_eq (spelling_at a k) word)
      (same : (k : ℕ) → base_at (iso std) a k ≡ base_at (iso std) b k) (typedefs : List Range) where
    abbrev Stays : ℕ → Type 0
    Stays i = StaysWhole a b typedefs i

    abbrev AllCovered : List Declaration → Type 0
    AllCovered ds = Covered std a b typedefs (entries_of ds)

    -- ---- What a name denotes

    denotes_same : (i : ℕ) (facts : Facts) → visible b ordinary i i facts ≡ visible a ordinary i i facts → denotes_typedef b i facts ≡ denotes_typedef a i facts
    denotes_same i facts e = ap (λ r. option_map_or (λ (d : Declaration). is_typedef_name d.kind) r false) e

    none_kept : (i : ℕ) (facts : Facts) → AllCovered facts.declared → Stays i → not (denotes_typedef a i facts) ≡ true → not (denotes_typedef b i facts) ≡ true
    none_kept i facts covered stays h =
        ap not (denotes_among std b i facts.declared)
        ∙ none_still std a b typedefs i (entries_of facts.declared) covered stays (sym (ap not (denotes_among std a i facts.declared)) ∙ h)

    func_in_b : (k : ℕ) → spelling_at a k ≡ func → spelling_at b k ≡ func
    func_in_b k e = (bytes_eq-Decides (spelling_at b k) func).0 (words func k refl ∙ (bytes_eq-Decides (spelling_at a k) func).1 e)

    func_stays : (i : ℕ) → bytes_eq (spelling_at a i) func ≡ true → (j : ℕ) → alike a i j ≡ true → alike b i j ≡ true
    func_stays i h j e =
        let here : spelling_at a i ≡ func = (bytes_eq-Decides (spelling_at a i) func).0 h in
        let there : spelling_at a i ≡ spelling_at a j = (bytes_eq-Decides (spelling_at a i) (spelling_at a j)).0 e in
        (bytes_eq-Decides (spelling_at b i) (spelling_at b j)).1 (func_in_b i here ∙ sym (func_in_b j (sym there ∙ here)))

    -- ---- Tokens

    module _ (i : ℕ) (f : Frame) (facts : Facts) (kept : Kept a facts) (covered : AllCovered facts.declared) where
      type_case : (c : Bool) → Good a b (facts_at a (if c then role_of Main 4 0 else role_of TranslationUnit 0 0) i f facts)
          → (if c then denotes_typedef a i facts else true) ≡ true → (if c then denotes_typedef b i facts else true) ≡ true
      type_case true g h = denotes_same i facts (used_visible a b i facts kept g) ∙ h
      type_case false g h = refl

      func_case : (c : Bool) → is_func a f i ≡ c → Good a b (if c then facts else used a i facts) → not (denotes_typedef a i facts) ≡ true → not (denotes_typedef b i facts) ≡ true
      func_case true e g h =
          none_kept i facts covered (λ hidden j w. func_stays i ((and_parts (option_map_or (λ x. true) f.body false && not f.listing) (bytes_eq (spelling_at a i) func) e).1) j w) h
      func_case false e g h = ap not (denotes_same i facts (used_visible a b i facts kept g)) ∙ h

      primary_case : (c : Bool) → Good a b (facts_at a (if c then role_of Primary 1 0 else role_of TranslationUnit 0 0) i f facts)
          → (if c then not (denotes_typedef a i facts) else true) ≡ true → (if c then not (denotes_typedef b i facts) else true) ≡ true
      primary_case true g h = func_case (is_func a f i) refl g h
      primary_case false g h = refl

      list_case : (c : Bool) → (c ≡ true → Stays i) → (if c then not (denotes_typedef a i facts) else true) ≡ true → (if c then not (denotes_typedef b i facts) else true) ≡ true
      list_case true stays h = none_kept i facts covered (stays refl) h
      list_case false stays h = refl

      read_kept : (p : Production) (n k : ℕ) → Good a b (facts_at a (role_of p n k) i f facts) → (is_listed (labelled p n) k ≡ true → Stays i)
          → is_read_so a p n k i facts ≡ true → is_read_so b p n k i facts ≡ true
      read_kept Main n k g stays h = type_case ((n == 4) && (k == 0)) g h
      read_kept Primary n k g stays h = primary_case (n == 1) g h
      read_kept Params n k g stays h = list_case ((n == 1) && (k % 2 == 0)) stays h
      read_kept _ n k g stays h = refl

    -- ---- Nodes

    module _ (k : ℕ) (facts : Facts) (covered : AllCovered facts.declared) where
      bare_case : (c : Bool) → (c ≡ true → Stays k) → (not c || not (denotes_typedef a k facts)) ≡ true → (not c || not (denotes_typedef b k facts)) ≡ true
      bare_case true stays h = none_kept k facts covered (stays refl) h
      bare_case false stays h = refl

      named_case : (c : Bool) → ((c && is_identifier (base_at (iso std) a k)) ≡ true → Stays k)
          → (if c then not (is_identifier (base_at (iso std) a k)) || not (denotes_typedef a k facts) else true) ≡ true
          → (if c then not (is_identifier (base_at (iso std) b k)) || not (denotes_typedef b k facts) else true) ≡ true
      named_case true stays h =
          ap (λ x. not (is_identifier x) || not (denotes_typedef b k facts)) (sym (same k)) ∙ bare_case (is_identifier (base_at (iso std) a k)) stays h
      named_case false stays h = refl

    -- ---- The walk

    covered_back : (f : Forest) (s : State) → AllCovered (walked a f s).facts.declared → AllCovered s.facts.declared
    covered_back f s c = λ e w. c e (subst (λ es. In e es) (sym (ap (λ (x : Outline). x.entries) (walked_outline std a f s))) (outlined_in e f (outline s) w))

    covered_inside : (l : Label) (first : ℕ) (under : Forest) (s s' : State) → AllCovered (left a l first under s s').facts.declared → AllCovered s'.facts.declared
    covered_inside l first under s s' c = λ e w.
        c e (subst (λ es. In e es) (sym (ap (λ (x : Outline). x.entries) (left_outline std a l first under s s')))
        (after_in e l.production first (outline s) l under (entries_of s'.facts.declared) w))

    agree_kept : (f : Forest) (s : State) → Kept a s.facts → Good a b (walked a f s).facts → AllCovered (walked a f s).facts.declared
        → AllLoose std a Stays s.frame.label s.frame.nth f → agrees std a f s ≡ true → agrees std b f s ≡ true
    unfolding walked
    agree_kept none s k h c loose e = refl
    agree_kept (token i rest) s k h c loose e =
        let r = role_of s.frame.label.production s.frame.label.alternative s.frame.nth in
        let after : State = passed a i s in
        let g : Good a b after.facts = walked_back a b words rest after h in
        let both = and_parts (is_read_so a s.frame.label.production s.frame.label.alternative s.frame.nth i s.facts) (agrees std a rest after) e in
        and_from _ _
        (read_kept i s.frame s.facts k (covered_back (token i rest) s c) s.frame.label.production s.frame.label.alternative s.frame.nth g loose.0 both.0)
        (ap (agrees std b rest) (passed_same a b words r i s k g)
        ∙ agree_kept rest after (passed_kept a b words r i s k g) h c loose.1 both.1)
    agree_kept (node l first under rest) s k h c loose e =
        let inner_start : State = entered a l first under s in
        let inside : State = walked a under inner_start in
        let after : State = left a l first under s inside in
        let g : Good a b after.facts = walked_back a b words rest after h in
        let g' : Good a b inside.facts = left_back a b words l first under s inside g in
        let start : Kept a inner_start.facts = entered_kept a b words l first under s k in
        let below = walked_same a b words under inner_start start g' in
        let both = and_parts (is_named_so std a l first s.facts) _ e in
        let more = and_parts (agrees std a under inner_start) (agrees std a rest after) both.1 in
        and_from _ _
        (named_case (first + 1) s.facts (covered_back (node l first under rest) s c) (is_at l Pdirect 2) loose.0 both.0)
        (and_from _ _
        (ap (agrees std b under) (entered_same a b words l first under s)
        ∙ agree_kept under inner_start start g' (covered_inside l first under s inside (covered_back rest after c)) loose.1.0 more.0)
        (ap (λ x. agrees std b rest (left b l first under s (walked b under x))) (entered_same a b words l first under s)
        ∙ (ap (λ x. agrees std b rest (left b l first under s x)) below.same
        ∙ (ap (agrees std b rest) (left_same a b words l first under s inside below.kept g)
        ∙ agree_kept rest after (left_kept a b words l first under s inside below.kept g) h c loose.1.1 more.1))))

pub renamed_alike : RenamedTextsReadAlike
unfolding binding_of
renamed_alike std old new tree bound read e r same loose =
    let facts : Facts = facts_of old tree.under in
    let clean : facts.fault ≡ None = no_fault tree.under facts facts.fault bound e in
    let is : bound ≡ bound_of tree.under facts = bound_is tree.under facts facts.fault bound e in
    let names : bound.names ≡ names_of facts = ap (λ (x : Bound). x.names) is in
    let typedefs : bound.typedefs ≡ typedefs_of facts = ap (λ (x : Bound). x.typedefs) is in
    let good : Good old new facts =
    names_good old new facts clean (ap (list_all (λ n. alike new n.index n.entity)) (sym names) ∙ r.together)
    (subst (λ (ns : List Name). All (λ (n : Name). StaysApart old new n.index) ns) names r.apart) in
    let start : Kept old (before (length old)).facts = record { covered = λ d w. absurd w; linked = λ d w. absurd w; one = λ i d x v w l m. absurd v } in
    let end = walked_same old new r.words tree.under (before (length old)) start good in
    let apart : StandApart old new facts.declared = stand_apart old new facts end.kept good in
    let covered : Covered std old new bound.typedefs (entries_of facts.declared) = (λ x w. record {
      ranged = λ t. subst (λ rs. In (range_of x) rs) (sym typedefs) (reversed_in (range_of x) (ranges facts.declared) (range_in x facts.declared w t));
      apart = entry_apart old new x facts.declared apart w;
    }) in
    (agreeing_alike std) old new tree (sym r.as_long) same read
    (ap (λ n. agrees std new tree.under (before n)) r.as_long
    ∙ agree_kept std old new r.words same bound.typedefs tree.under (before (length old)) start good covered loose (units_agree std old tree read))
