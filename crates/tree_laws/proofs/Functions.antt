-- Reading bodies of functions, and what stands around them (6.9.1).
use Rattle.std.proofs.Common.{ℕ, ◌+◌, ◌<◌, ◌≤◌, ◌≡◌, Bool, true, false, ◌&&◌, not, if◌then◌else◌, List, [], ◌∷◌, ◌++◌, length, Option, None, Some, Ok, Err, nat_lt, refl, sym, ap, subst, ◌∙◌, arith}
use Rattle.std.proofs.lemmas.Bool.{false≢true, le-ltb}
use Rattle.c99_grammar.specs.declared.dialects.Edition.{Edition}
use Rattle.cs_base.specs.Token.{Token}
use Rattle.c99_tree.specs.Tree.{Forest, Node, node_of, leaf, inner, put, count_of, collapsed}
use Rattle.c99_tree.specs.declared.production.Label.{Label}
use Rattle.c99_tree.specs.declared.production.Production.{Production}
use Rattle.c99_tree.specs.declared.production.Production.TheVariants.{External, ExtRest, ExtTail, FunBody, Specs, Declarator}
use Rattle.c99_tree.specs.contracts.production.ProductionPartialEq.TheImpl.{ghosts}
use Rattle.c99_grammar.specs.Items.{Item, one, act, ◌·◌, end}
use Rattle.c99_grammar.specs.Standard.{iso}
use Rattle.c99_read.specs.State.{State, Names, with_scope_ended, is_declarator, head_closed, names_closed, nearest, collapses, acted, opened, closed}
use Rattle.c99_read.specs.Reading.{Goal, Step, and_then, take_one, step}
use Rattle.c_types.specs.Trees.{has_mod, last_token}
use Rattle.tree_laws.proofs.Private.{Class, Declaration}
use Rattle.tree_laws.proofs.Outline.{Entry, Outline, begun, copies, kept_entries, entries_after, outlined, is_open, all_agree}
use Rattle.tree_laws.proofs.Matching.{shown, Matches, Bounds, Within, IsOpen, SameOuter, outer_still, bounds_within, bounds_inner, within_sooner}
use Rattle.tree_laws.proofs.Places.{last_leaf, count_inner, outlined_inner, behind, agree_inner}
use Rattle.tree_laws.proofs.Rules.{labelled, fine, entries_alone}
use Rattle.tree_laws.proofs.Goes.{After, with_token, IsIn, Fits, Goes, goes_still, goes_further, Made, made_entries}
use Rattle.tree_laws.proofs.TypedefSteps.{Reads, taken, goes_step, quiet_fits}
use Rattle.tree_laws.proofs.ScopeNodes.{renamed_to, ended_scopes, end_fits}
use Rattle.tree_laws.proofs.Owned.{chosen, is_of, chosen_append, shown_chosen, copies_shown}
use Rattle.tree_laws.proofs.Listed.{head_of, outlined_scope}
use Rattle.tree_laws.proofs.Heads.{names_given}
use Rattle.tree_laws.proofs.Handing.{names_of, now}

abbrev pub tail_of : List (List Declaration) → List (List Declaration)
tail_of [] = []
tail_of (s ∷ outer) = outer

-- the names of the scope are those of the list that a body would begin with
abbrev pub Kept : List Declaration → Outline → Type 0
Kept names o = names ≡ names_given (names_of o o.kept o.entries)

-- ---- Productions in which a body may stand

abbrev pub is_outer : Production → Bool
is_outer External = true
is_outer ExtRest = true
is_outer ExtTail = true
is_outer FunBody = true
is_outer _ = false

outer_specs : (p : Production) → is_outer p ≡ true → ghosts.eq p Specs ≡ false
outer_specs Specs h = absurd (false≢true h)
outer_specs _ h = refl

pub outer_declarator : (p : Production) → is_outer p ≡ true → is_declarator p ≡ false
outer_declarator Declarator h = absurd (false≢true h)
outer_declarator _ h = refl

pub outer_collapses : (p : Production) → is_outer p ≡ true → collapses p ≡ false
outer_collapses External h = refl
outer_collapses ExtRest h = refl
outer_collapses ExtTail h = refl
outer_collapses FunBody h = refl
outer_collapses _ h = absurd (false≢true h)

outer_after : (p : Production) (first : ℕ) (o : Outline) (l : Label) (under : Forest) (es : List Entry) → is_outer p ≡ true
    → entries_after p first o l under es ≡ entries_alone p first o under es
outer_after External first o l under es h = refl
outer_after ExtRest first o l under es h = refl
outer_after ExtTail first o l under es h = refl
outer_after FunBody first o l under es h = refl
outer_after _ first o l under es h = absurd (false≢true h)

outer_nearest : (p : Production) (n : Node) (near : Bool) → is_outer p ≡ true → nearest p n near ≡ near
outer_nearest Specs n near h = absurd (false≢true h)
outer_nearest _ n near h = refl

module _ (std : Edition) where
  module _ (toks : List Token) (base : List (List Declaration)) (pre : Outline → Type 0) where
    -- what is known of the outline where a node begins that was read from s to s'
    abbrev pub Fitting : State → State → Node → Type 0
    Fitting s s' n =
        (o : Outline) (ends : List ℕ) → s.toks ≡ toks → IsOpen base → Bounds s'.at o.scope.to s'.names.scopes ends
        → Matches s.at base ends o.entries → o.typedef ≡ s.near → pre o → Made std toks s'.at s' ends o n

    -- the items of such a node were read, in these scopes, and where this was known
    pub record Opens (p : Production) (n : ℕ) (s s' : State) : Type 0 where
      pub same_text : s'.toks ≡ s.toks
      pub later : s.at ≤ s'.at
      pub within : s.at ≤ length s.toks → s'.at ≤ length s.toks
      pub outer : IsOpen base → SameOuter base s'.names.scopes
      pub inside : IsIn (labelled p n) s.at s'
      pub fits : Fitting s s' (node_of (labelled p n) s.at s'.built.under)

    -- .. and the node
    pub record Extends (p : Production) (s s' : State) : Type 0 where
      pub child : Node
      pub built : s'.built ≡ record s.built { under = put s.built.under (inner child) }
      pub label : child.label.production ≡ p
      pub same_text : s'.toks ≡ s.toks
      pub later : s.at ≤ s'.at
      pub within : s.at ≤ length s.toks → s'.at ≤ length s.toks
      pub outer : IsOpen base → SameOuter base s'.names.scopes
      pub near : s'.near ≡ s.near
      pub fits : Fitting s s' child

    -- the node is closed
    pub opens_extends : (p : Production) (n : ℕ) (s s' : State) → is_outer p ≡ true → Opens p n s s' → Extends p s (closed p s s')
    unfolding closed
    opens_extends p n s s' h b =
        let child : Node = node_of (labelled p n) s.at s'.built.under in
        let same : s'.built ≡ child = ap (λ l. node_of l s'.built.first s'.built.under) b.inside.label ∙ ap (λ k. node_of (labelled p n) k s'.built.under) b.inside.begins in
        let names : names_closed p s'.names ≡ s'.names = ap (λ c. if c then head_closed s'.names else s'.names) (outer_declarator p h) in
        record {
          child = child;
          built = ap (λ c. record s.built { under = put s.built.under (inner c) }) (ap (λ c. if c then collapsed s'.built else s'.built) (outer_collapses p h) ∙ same);
          label = refl;
          same_text = b.same_text;
          later = b.later;
          within = b.within;
          outer = λ op. subst (λ (n : Names). SameOuter base n.scopes) (sym names) (b.outer op);
          near = outer_nearest p s'.built s.near h;
          fits = λ o ends t op bounds m near k. (
              let made = b.fits o ends t op (subst (λ (n : Names). Bounds s'.at o.scope.to n.scopes ends) names bounds) m near k in
              record {
                matches = subst (λ (n : Names). Matches s'.at n.scopes ends (made_entries std toks o child)) (sym names) made.matches;
                agree = made.agree;
                named = made.named;
              });
        }

  module _ (toks : List Token) where
    -- a node that says nothing else than what it is made of fits into the open one
    pub made_fits : (l : Label) (p : Production) (s s' : State) (child : Node) (ends : List ℕ) (o : Outline) → is_outer p ≡ true → child.label.production ≡ p
        → s'.built ≡ record s.built { under = put s.built.under (inner child) } → s'.toks ≡ toks → s'.near ≡ s.near → IsOpen s'.names.scopes
        → (now s o).typedef ≡ s.near → (now s o).label ≡ l → (now s o).nth ≡ count_of s.built.under → all_agree std toks s.built.under o ≡ true
        → Made std toks s'.at s' ends (now s o) child → Fits std toks l s' ends o
    made_fits l p s s' child ends o h e built t near op typed label nth agree made =
        let here : Outline = now s o in
        let under : s'.built.under ≡ put s.built.under (inner child) = ap (λ (n : Node). n.under) built in
        let more : now s' o ≡ behind child here = ap (λ g. outlined g o) under ∙ outlined_inner s.built.under child o in
        let inside : List Entry = (outlined child.under (begun child.label child.first child.under here)).entries in
        let entries : (now s' o).entries ≡ made_entries std toks here child =
        ap (λ (x : Outline). x.entries) more
        ∙ outer_after child.label.production child.first here child.label child.under inside (ap is_outer e ∙ h) in
        record {
          text = t;
          matches = subst (Matches s'.at s'.names.scopes ends) (sym entries) made.matches;
          near = ap (λ (x : Outline). x.typedef) more
              ∙ (ap (λ c. if c then has_mod 1 child.under else here.typedef) (outer_specs child.label.production (ap is_outer e ∙ h)) ∙ (typed ∙ sym near));
          label = ap (λ (x : Outline). x.label) more ∙ label;
          nth = ap (λ (x : Outline). x.nth) more ∙ (ap (λ n. n + 1) nth ∙ (sym (count_inner s.built.under child) ∙ sym (ap count_of under)));
          scope = outlined_scope s'.built.under o;
          agree = ap (λ g. all_agree std toks g o) under ∙ agree_inner std toks s.built.under child o agree made.named made.agree;
          opens = op;
        }

    -- ---- Bodies

    tail_outer : (x y : List (List Declaration)) → IsOpen (tail_of x) → SameOuter x y → SameOuter ([] ∷ tail_of x) y
    tail_outer [] y op same = absurd op
    tail_outer (s ∷ x) [] op same = absurd same
    tail_outer (s ∷ x) (t ∷ y) op same = same

    -- the declarations of a list, once more, are shown in the body
    kept_shown : (kept : Option ℕ) (depth from to k : ℕ) (es : List Entry) (names : List Declaration) → from ≤ k
        → names ≡ names_given (names_of (record { entries = es; label = labelled FunBody 1; nth = 0; scope = record { depth = depth; to = 0 }; typedef = false; kept = kept }) kept es)
        → shown k (kept_entries kept (depth + 1) from to es) ≡ (if nat_lt k to then names else []) ++ shown k es
    kept_shown None depth from to k es names h e = by (nat_lt k to)
      where
        by : (c : Bool) → shown k es ≡ (if c then names else []) ++ shown k es
        by true = ap (λ x. x ++ shown k es) (sym e)
        by false = refl
    kept_shown (Some list) depth from to k es names h e =
        shown_append (copies list (depth + 1) from to es) es
        ∙ ap (λ x. x ++ shown k es)
        (copies_shown k list (depth + 1) from to es
        ∙ (ap (λ c. if not c && nat_lt k to then chosen (is_of (depth + 1) list) es else []) (le-false k from h)
        ∙ ap (λ x. if nat_lt k to then x else []) (sym e)))
      where
        shown_append : (xs ys : List Entry) → shown k (xs ++ ys) ≡ shown k xs ++ shown k ys
        shown_append xs ys = shown_chosen k (xs ++ ys) ∙ (chosen_append (is_open k) xs ys ∙ (ap (λ r. r ++ chosen (is_open k) ys) (sym (shown_chosen k xs)) ∙ ap (λ r. shown k xs ++ r) (sym (shown_chosen k ys))))

        le-false : (k from : ℕ) → from ≤ k → nat_lt k from ≡ false
        le-false k from h = le-ltb k from h

    -- the items of a body up to its end
    pub record Bracketed (l : Label) (first : ℕ) (s s' : State) : Type 0 where
      pub last_one : State
      pub goes : Goes std toks l first s last_one
      pub more : last_one.at < length last_one.toks
      pub same : s' ≡ with_token (acted (iso std) end last_one)

    module _ (below : ℕ → Goal → State → Step) (reads : Reads std toks below) where
      body_end : (l : Label) (first : ℕ) (right : List Class) (s : State) → After (Bracketed l first s) (take_one (iso std) right (acted (iso std) end s))
      unfolding acted
      body_end l first right s =
          (taken std) (Bracketed l first s) right (acted (iso std) end s) (λ c more. record { last_one = s; goes = goes_still std toks l first s; more = more; same = refl })

      body_then : (l : Label) (first : ℕ) (s : State) (r : Step) (next_step : State → Step) → IsIn l first s → After (Goes std toks l first s) r
          → ((s' : State) → IsIn l first s' → After (Bracketed l first s') (next_step s')) → After (Bracketed l first s) (and_then r next_step)
      body_then l first s (Err stop) next_step i m n = tt
      body_then l first s (Ok s') next_step i m n = onward (next_step s') (n s' (m.inside i))
        where
          onward : (r : Step) → After (Bracketed l first s') r → After (Bracketed l first s) r
          onward (Err stop) n' = tt
          onward (Ok s'') n' = record { last_one = n'.last_one; goes = goes_further std toks l first s s' n'.last_one m n'.goes; more = n'.more; same = n'.same }

      abbrev body_label : Label
      body_label = labelled FunBody 1

      pub body_steps : (first depth : ℕ) (a b c : Item) (right : List Class) (s : State) → fine body_label a ≡ true → fine body_label b ≡ true → fine body_label c ≡ true
          → IsIn body_label first s → After (Bracketed body_label first s) (step (iso std) below depth (a · (b · (c · (act end · one right)))) s)
      body_steps first depth a b c right s ha hb hc i =
          body_then body_label first s (step (iso std) below depth a s) (step (iso std) below depth (b · (c · (act end · one right)))) i (goes_step std toks below reads a body_label first depth s ha i)
          (λ s1 i1. body_then body_label first s1 (step (iso std) below depth b s1) (step (iso std) below depth (c · (act end · one right))) i1 (goes_step std toks below reads b body_label first depth s1 hb i1)
          (λ s2 i2. body_then body_label first s2 (step (iso std) below depth c s2) (step (iso std) below depth (act end · one right)) i2 (goes_step std toks below reads c body_label first depth s2 hc i2)
          (λ s3 i3. body_end body_label first right s3)))

    module _ (s s' : State) (w : Bracketed (labelled FunBody 1) s.at (opened FunBody 1 s) s') where
      abbrev last_one : State
      last_one = w.last_one

      abbrev body : Forest
      body = put last_one.built.under (leaf last_one.at)

      abbrev ended_names : Names
      ended_names = with_scope_ended last_one.names last_one.names.scopes

      pub ended_is : with_token (acted (iso std) end last_one) ≡ with_token (renamed_to last_one ended_names)
      unfolding acted
      ended_is = refl

      abbrev pub body_end_state : State
      body_end_state = with_token (renamed_to last_one ended_names)

      body_scopes : SameOuter s.names.scopes last_one.names.scopes
      unfolding opened
      body_scopes = w.goes.outer

      pub body_outer : IsOpen (tail_of s.names.scopes) → SameOuter ([] ∷ tail_of s.names.scopes) last_one.names.scopes
      body_outer op = tail_outer s.names.scopes last_one.names.scopes op body_scopes

      pub body_back : IsOpen (tail_of s.names.scopes) → ended_names.scopes ≡ tail_of s.names.scopes
      body_back op = ended_scopes last_one.names (tail_of s.names.scopes) last_one.names.scopes op (body_outer op)

      cons_of : (x : List (List Declaration)) → IsOpen (tail_of x) → x ≡ head_of std x ∷ tail_of x
      cons_of [] op = absurd op
      cons_of (a ∷ x) op = refl

      pub body_begins : (o : Outline) (ends : List ℕ) → s.toks ≡ toks → IsOpen (tail_of s.names.scopes) → Matches s.at (tail_of s.names.scopes) ends o.entries
          → o.typedef ≡ s.near → Kept (head_of std s.names.scopes) o → Fits std toks (labelled FunBody 1) (opened FunBody 1 s) (last_one.at ∷ ends) (begun (labelled FunBody 1) s.at body o)
      unfolding opened
      body_begins o ends t op m near kept =
          let to : last_token body 0 ≡ last_one.at = last_leaf last_one.built.under last_one.at 0 in
          record {
            text = t;
            matches = subst (λ x. Matches s.at x (last_one.at ∷ ends) (begun (labelled FunBody 1) s.at body o).entries) (sym (cons_of s.names.scopes op))
                (λ k h.
                kept_shown o.kept o.scope.depth s.at (last_token body 0) k o.entries (head_of std s.names.scopes) h kept
                ∙ (ap (λ e. (if nat_lt k e then head_of std s.names.scopes else []) ++ shown k o.entries) to
                ∙ ap (λ r. (if nat_lt k last_one.at then head_of std s.names.scopes else []) ++ r) (m k h)));
            near = near;
            label = refl;
            nth = refl;
            scope = refl;
            agree = refl;
            opens = open_of s.names.scopes op;
          }
        where
          open_of : (x : List (List Declaration)) → IsOpen (tail_of x) → IsOpen x
          open_of [] op = absurd op
          open_of (a ∷ x) op = tt

      body_fits : (o : Outline) (ends : List ℕ) → s.toks ≡ toks → IsOpen (tail_of s.names.scopes) → Bounds (last_one.at + 1) o.scope.to ended_names.scopes ends
          → Matches s.at (tail_of s.names.scopes) ends o.entries → o.typedef ≡ s.near → Kept (head_of std s.names.scopes) o
          → Fits std toks (labelled FunBody 1) body_end_state ends (begun (labelled FunBody 1) s.at body o)
      body_fits o ends t op b m near kept =
          let o' : Outline = begun (labelled FunBody 1) s.at body o in
          let to : o'.scope.to ≡ last_one.at = last_leaf last_one.built.under last_one.at 0 in
          let within : Within (last_one.at + 1) (tail_of s.names.scopes) ends =
          bounds_within (last_one.at + 1) o.scope.to (tail_of s.names.scopes) ends (subst (λ x. Bounds (last_one.at + 1) o.scope.to x ends) (body_back op) b) in
          let bounds = subst (λ e. Bounds last_one.at e last_one.names.scopes (last_one.at ∷ ends)) (sym to)
          (bounds_inner last_one.at last_one.at (tail_of s.names.scopes) last_one.names.scopes ends (body_outer op) (omega arith)
          (within_sooner last_one.at (last_one.at + 1) (tail_of s.names.scopes) ends (omega arith) within)) in
          (quiet_fits std) toks (labelled FunBody 1) (renamed_to last_one ended_names) ends o' refl
          (end_fits std toks (labelled FunBody 1) last_one last_one.at ends o' (tail_of s.names.scopes) ended_names op (body_outer op) (omega arith) (body_back op)
          (w.goes.fits o' (last_one.at ∷ ends) bounds (body_begins o ends t op m near kept)))

      body_opens : Opens toks (tail_of s.names.scopes) (Kept (head_of std s.names.scopes)) FunBody 1 s body_end_state
      unfolding opened
      body_opens = record {
        same_text = w.goes.same_text;
        later = (let e = w.goes.later in omega arith);
        within = λ h. (let e = ap length w.goes.same_text in let k = w.more in omega arith);
        outer = λ op. subst (SameOuter (tail_of s.names.scopes)) (sym (body_back op)) (outer_still (tail_of s.names.scopes));
        inside = (let i = w.goes.inside (record { label = refl; begins = refl }) in record { label = i.label; begins = i.begins });
        fits = λ o ends t op b m near kept. (let f = body_fits o ends t op b m near kept in record { matches = f.matches; agree = f.agree; named = refl });
      }

      pub body_read : Opens toks (tail_of s.names.scopes) (Kept (head_of std s.names.scopes)) FunBody 1 s s'
      body_read = subst (Opens toks (tail_of s.names.scopes) (Kept (head_of std s.names.scopes)) FunBody 1 s) (sym (w.same ∙ ended_is)) body_opens
