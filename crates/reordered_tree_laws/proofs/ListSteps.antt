-- One item of a list behind others: it adds what it adds alone.
use Rattle.std.proofs.Common.{ℕ, ◌+◌, ◌≤◌, ◌<◌, ◌≡◌, Bool, true, false, ◌&&◌, ◌||◌, not, List, [], ◌++◌, None, ◌⊎◌, inl, inr, refl, sym, ap, subst, ◌∙◌, arith, append_assoc, append-nil}
use Rattle.std.specs.Prelude.{nat_lt}
use Rattle.std.specs.List.{All}
use Rattle.std.proofs.lemmas.Bool.{false≢true, ltb-true}
use Rattle.std.proofs.lemmas.List.Elements.{All-nil, All-weaker, All-append, All-filter}
use Rattle.cs_base.specs.Token.{Token}
use Rattle.cs_base.proofs.BoolLemmas.{or_first as first_name, no_case as refuted, or_right as second_name}
use Rattle.c99_tree.specs.Tree.{Forest, none, node, node_of}
use Rattle.c99_tree.specs.declared.production.Label.{Label}
use Rattle.c_types.specs.declared.declarations.Space.TheVariants.{Ordinary, Tags, Members, Inner, Unnamed, Labels}
use Rattle.c_types.specs.Declarations.{Facts, is_in}
use Rattle.c_types.specs.Tags.{number_in}
use Rattle.name_chains.specs.Entering.{is_member}
use Rattle.name_chains.specs.Frames.{state}
use Rattle.scope_bind.specs.Named.{Space, Declaration, Occurrence, Frame}
use Rattle.scope_bind.specs.Walk.{walked}
use Rattle.tree_laws.specs.TreesOfTexts.{token_count, AreFrom, have_forms}
use Rattle.reordered_tree_laws.specs.Beside.{beside_in, is_beside, beside_of, seen_of, is_apart, IsOwnDeclaration, IsOwnFrame, StandBeside}
use Rattle.reordered_tree_laws.specs.Adding.{IsNamedIn, IsAddedIn}
use Rattle.reordered_tree_laws.specs.Ranges.{has_range}
use Rattle.reordered_tree_laws.specs.Premises.{is_items, is_item, is_unasked_in}
use Rattle.reordered_tree_laws.specs.Lasting.{tags_pass, IsLast, IsQuiet, AddAlike}
use Rattle.reordered_tree_laws.specs.Owned.{space_number, IsOwnName}
use Rattle.reordered_tree_laws.specs.Siblings.{IsAside, read_alone, is_between, IsItsName, HasEnded, AreFresh, has_signs}
use Rattle.reordered_tree_laws.proofs.Adding.{Added}
use Rattle.reordered_tree_laws.proofs.BesideWalk.{walk_beside}
use Rattle.reordered_tree_laws.proofs.OnlyAdding.{parts_only_add}
use Rattle.reordered_tree_laws.proofs.AddsAlike.{nothing_more, same_front, filter_append, items_add_alike}
use Rattle.reordered_tree_laws.proofs.Quiet.{names_last}
use Rattle.reordered_tree_laws.proofs.SiblingsApart.{siblings_are_apart}
use Rattle.reordered_tree_laws.proofs.Signs.{part_adds}
use Rattle.reordered_tree_laws.proofs.RangesBehind.{Near, ranges_end_behind}
use Rattle.reordered_tree_laws.proofs.ListForms.{between_yes, between_from, between_before, between_less, between_out, tokens_beyond, all_front, all_three, filter_none, filter_all, all_pass, item_apart, its_name, IsListed, item_listed, items_plain}
use Rattle.reordered_tree_laws.proofs.Answering.{its_name as its_name_is}

-- ---- What stands beside

-- what is known of no token from one number on does not stand beside those behind
unbeside : (foreign : ℕ → Bool) (s : Space) (i : ℕ) → foreign i ≡ false → foreign (space_number s) ≡ false → beside_in foreign s i ≡ false
unbeside foreign Ordinary i name number = name
unbeside foreign Tags i name number = name
unbeside foreign (Members n) i name number = number
unbeside foreign (Inner n) i name number = number
unbeside foreign (Unnamed n) i name number = number
unbeside foreign (Labels n) i name number = refl

more_in : (foreign wider : ℕ → Bool) (s : Space) (i : ℕ) → ((n : ℕ) → foreign n ≡ true → wider n ≡ true) → beside_in foreign s i ≡ true → beside_in wider s i ≡ true
more_in foreign wider Ordinary i more e = more i e
more_in foreign wider Tags i more e = more i e
more_in foreign wider (Members n) i more e = more n e
more_in foreign wider (Inner n) i more e = more n e
more_in foreign wider (Unnamed n) i more e = more n e
more_in foreign wider (Labels n) i more e = e

no_member : (s : Space) → has_range s ≡ true → is_member s ≡ false
no_member Ordinary e = refl
no_member Tags e = refl
no_member _ e = absurd (false≢true e)

module _ (toks : List Token) (barred : ℕ → Bool) (f0 : Facts) (lo : ℕ) (begins : 1 ≤ lo) (clean : f0.fault ≡ None) where
  abbrev pub from_here : ℕ → Bool
  from_here k = not (nat_lt k lo)

  -- what is known behind some items, whose tokens end before a number, in a scope: these names may last
  pub record Behind (f : Facts) (behind depth : ℕ) (named : ℕ → Bool) : Type 0 where
    pub gone : List Declaration
    pub heard : List Occurrence
    pub declared : f.declared ≡ gone ++ f0.declared
    pub noted : f.occurrences ≡ heard ++ f0.occurrences
    pub jumps : f.jumps ≡ f0.jumps
    pub fault : f.fault ≡ None
    pub beside : All (λ d. is_beside (is_between lo behind) d ≡ true) gone
    pub aside : All (IsAside named depth behind) gone
    pub begun : (k : ℕ) → is_between lo behind k ≡ false → is_in f.begun k ≡ is_in f0.begun k
    pub complete : (k : ℕ) → is_between lo behind k ≡ false → is_in f.complete k ≡ is_in f0.complete k

  pub behind_none : (depth : ℕ) (named : ℕ → Bool) → Behind f0 lo depth named
  behind_none depth named = record {
    gone = [];
    heard = [];
    declared = refl;
    noted = refl;
    jumps = refl;
    fault = clean;
    beside = All-nil (λ d. is_beside (is_between lo lo) d ≡ true);
    aside = All-nil (IsAside named depth lo);
    begun = λ k h. refl;
    complete = λ k h. refl;
  }

  -- An item at a place behind others, whose names it does not ask for; nothing is known of the tokens of the list at its `(`.
  pub record IsNext (fr : Frame) (behind at : ℕ) (named : ℕ → Bool) (m : Label) (first : ℕ) (under : Forest) : Type 0 where
    pub low : lo ≤ behind
    pub high : behind ≤ at
    pub items : is_items fr.label ≡ true
    pub frame : IsOwnFrame from_here (record fr { token = 0 })
    pub known : All (IsOwnName from_here) f0.declared
    pub token : is_between lo behind fr.token ≡ false
    pub from : AreFrom at (node m first under none)
    pub forms : have_forms (node m first under none) ≡ true
    pub item : is_item (node_of m first under) ≡ true
    pub signs : has_signs (node_of m first under) ≡ true
    pub tags : tags_pass barred fr.label fr.nth (node m first under none) ≡ true
    pub unasked : (j : ℕ) → named j ≡ true → is_unasked_in toks (node_of m first under) j ≡ true

  module _ (f : Facts) (fr : Frame) (behind at : ℕ) (named : ℕ → Bool) (m : Label) (first : ℕ) (under : Forest) where
    abbrev item : Forest
    item = node m first under none

    abbrev hi : ℕ
    hi = at + token_count under

    abbrev foreign : ℕ → Bool
    foreign k = is_between lo behind k

    abbrev alone : Facts
    alone = read_alone toks f0 fr m first under

    abbrev later : Facts
    later = read_alone toks f fr m first under

    -- It adds the same.
    pub record IsStep : Type 0 where
      pub declared : List Declaration
      pub occurrences : List Occurrence
      pub alone_declared : alone.declared ≡ declared ++ f0.declared
      pub later_declared : later.declared ≡ declared ++ f.declared
      pub alone_noted : alone.occurrences ≡ occurrences ++ f0.occurrences
      pub later_noted : later.occurrences ≡ occurrences ++ f.occurrences
      pub fault : later.fault ≡ alone.fault
      pub begun : (k : ℕ) → foreign k ≡ false → is_in later.begun k ≡ is_in alone.begun k
      pub complete : (k : ℕ) → foreign k ≡ false → is_in later.complete k ≡ is_in alone.complete k

    module _ (b : Behind f behind fr.scope.depth named) (x : IsNext fr behind at named m first under) where
      listed : IsListed fr.label m first under (its_name (node_of m first under))
      listed = item_listed fr.label m first under x.item

      no_between : (k : ℕ) → from_here k ≡ false → foreign k ≡ false
      no_between k e = ap (λ c. c && nat_lt k behind) e

      unknown : (d : Declaration) → IsOwnName from_here d → is_beside foreign d ≡ false
      unknown d h = unbeside foreign d.space d.name_at (no_between d.name_at h.name) (no_between (space_number d.space) h.space)

      own_one : (d : Declaration) → IsOwnName from_here d → IsOwnDeclaration foreign d
      own_one d h = record { ctype = no_between (number_in d.ctype) h.ctype; entity = no_between d.entity h.entity }

      hidden_none : beside_of foreign f0.declared ≡ []
      hidden_none = filter_none (λ d. is_beside foreign d) f0.declared (All-weaker (IsOwnName from_here) (λ d. is_beside foreign d ≡ false) unknown f0.declared x.known)

      zero_own : foreign 0 ≡ false
      zero_own = refuted (foreign 0) (λ h. omega (arith, begins, between_from lo behind 0 h))

      stand : StandBeside foreign [] b.gone f0.occurrences f.occurrences (state f0 fr) (state f fr)
      stand = record {
        facts = record {
          seen = ap (seen_of foreign) b.declared
              ∙ (filter_append (λ d. not (is_beside foreign d)) b.gone f0.declared
              ∙ ap (λ (l : List Declaration). l ++ seen_of foreign f0.declared)
              (filter_none (λ d. not (is_beside foreign d)) b.gone
              (All-weaker (λ d. is_beside foreign d ≡ true) (λ d. not (is_beside foreign d) ≡ false) (λ d h. ap not h) b.gone b.beside)));
          first = hidden_none;
          second = ap (beside_of foreign) b.declared
              ∙ (filter_append (λ d. is_beside foreign d) b.gone f0.declared
              ∙ (ap (λ (l : List Declaration). beside_of foreign b.gone ++ l) hidden_none
              ∙ (append-nil (beside_of foreign b.gone) ∙ filter_all (λ d. is_beside foreign d) b.gone b.beside)));
          owned = All-filter (λ d. not (is_beside foreign d)) (IsOwnDeclaration foreign) f0.declared
              (All-weaker (IsOwnName from_here) (IsOwnDeclaration foreign) own_one f0.declared x.known);
          begun = b.begun;
          complete = b.complete;
          fault = b.fault ∙ sym clean;
          own = [];
          bound = refl;
          again = refl;
        };
        frame = refl;
        owned = record {
          base = no_between (number_in fr.base) x.frame.base;
          given = no_between (number_in fr.given) x.frame.given;
          found = no_between (number_in fr.found) x.frame.found;
          token = x.token;
          owner = no_between fr.owner x.frame.owner;
        };
      }

      apart_from : (ds : List Declaration) → All (IsAside named fr.scope.depth at) ds → is_apart foreign toks ds fr.label fr.nth fr.scope item ≡ true
      apart_from ds aside =
          item_apart toks foreign ds fr.label fr.nth fr.scope m first under listed.production (between_out lo behind first (omega (arith, x.from.0, x.high)))
          ((siblings_are_apart toks foreign named (node_of m first under) at fr.scope ds x.from.1 x.item (tokens_beyond under at lo behind x.from.1 x.high) x.unasked aside).0)

      aside_here : All (IsAside named fr.scope.depth at) b.gone
      aside_here =
          All-weaker (IsAside named fr.scope.depth behind) (IsAside named fr.scope.depth at) (λ d h r. further d (h r)) b.gone b.aside
        where
          further : (d : Declaration) → (d.to ≤ behind) ⊎ IsLast named fr.scope.depth d → (d.to ≤ at) ⊎ IsLast named fr.scope.depth d
          further d (inl h) = inl (omega (arith, h, x.high))
          further d (inr h) = inr h

      pub step_taken : IsStep
      step_taken =
          let none_asked : is_apart foreign toks [] fr.label fr.nth fr.scope item ≡ true = apart_from [] (All-nil (IsAside named fr.scope.depth at)) in
          let others_unasked : is_apart foreign toks b.gone fr.label fr.nth fr.scope item ≡ true = apart_from b.gone aside_here in
          let after : StandBeside foreign [] b.gone f0.occurrences f.occurrences (walked toks item (state f0 fr)) (walked toks item (state f fr)) =
          walk_beside toks foreign zero_own [] b.gone f0.occurrences f.occurrences item (state f0 fr) (state f fr) stand none_asked others_unasked in
          let added : AddAlike f0 f alone later =
          items_add_alike toks foreign [] b.gone f0.occurrences f.occurrences item false at (state f0 fr) (state f fr) zero_own stand none_asked others_unasked
          x.from x.forms listed.adds in
          record {
            declared = added.declared;
            occurrences = after.facts.own;
            alone_declared = added.first;
            later_declared = added.second;
            alone_noted = after.facts.bound;
            later_noted = after.facts.again;
            fault = after.facts.fault;
            begun = after.facts.begun;
            complete = after.facts.complete;
          }

      -- ---- What it adds, where it is clear by itself

      abbrev fore : ℕ → Bool
      fore k = is_between at hi k

      in_item : (i : ℕ) → at ≤ i → i < at + token_count item → fore i ≡ true
      in_item i low high = between_yes at hi i low (omega (arith, high))

      added_alone : Added toks fore f0 alone
      added_alone =
          let p = items_plain toks fr.label x.items in
          part_adds toks fore at item (state f0 fr) in_item x.from x.forms listed.adds (listed.follow x.signs) p.0 p.1

      added_later : Added toks fore f later
      added_later =
          let p = items_plain toks fr.label x.items in
          part_adds toks fore at item (state f fr) in_item x.from x.forms listed.adds (listed.follow x.signs) p.0 p.1

      -- What it adds is its own.
      pub record IsClearStep (s : IsStep) : Type 0 where
        pub jumps : alone.jumps ≡ f0.jumps
        pub beside : All (λ d. is_beside fore d ≡ true) s.declared
        pub names : All (IsNamedIn at hi) s.declared
        pub indices : All (λ (o : Occurrence). (at ≤ o.index) × (o.index < hi)) s.occurrences
        pub ends : All (HasEnded (node_of m first under) fr.scope at hi) s.declared
        pub begun : (k : ℕ) → fore k ≡ false → is_in alone.begun k ≡ is_in f0.begun k
        pub complete : (k : ℕ) → fore k ≡ false → is_in alone.complete k ≡ is_in f0.complete k
        pub begun_later : (k : ℕ) → fore k ≡ false → is_in later.begun k ≡ is_in f.begun k
        pub complete_later : (k : ℕ) → fore k ≡ false → is_in later.complete k ≡ is_in f.complete k
        pub behind_it : Behind later hi fr.scope.depth (λ j. named j || its_name (node_of m first under) j)

      module _ (s : IsStep) (sound : alone.fault ≡ None) (fresh : AreFresh barred alone.occurrences) where
        abbrev lasting : ℕ → Bool
        lasting i = its_name (node_of m first under) i

        abbrev old : Declaration → Bool
        old d = nat_lt d.name_at lo

        all_old : All (λ d. old d ≡ true) f0.declared
        all_old = All-weaker (IsOwnName from_here) (λ d. old d ≡ true) (λ d h. known (nat_lt d.name_at lo) h.name) f0.declared x.known
          where
            known : (c : Bool) → not c ≡ false → c ≡ true
            known true e = refl
            known false e = sym e

        only_alone : IsAddedIn at (at + token_count item) f0 alone
        only_alone = parts_only_add toks item false at (state f0 fr) x.from x.forms listed.adds

        only_later : IsAddedIn at (at + token_count item) f later
        only_later = parts_only_add toks item false at (state f fr) x.from x.forms listed.adds

        same_declared : only_alone.declared ≡ s.declared
        same_declared = same_front only_alone.declared s.declared f0.declared (sym only_alone.front ∙ s.alone_declared)

        same_noted : only_alone.occurrences ≡ s.occurrences
        same_noted = same_front only_alone.occurrences s.occurrences f0.occurrences (sym only_alone.noted ∙ s.alone_noted)

        names : All (IsNamedIn at hi) s.declared
        names =
            subst (λ (l : List Declaration). All (IsNamedIn at hi) l) same_declared
            (All-weaker (IsNamedIn at (at + token_count item)) (IsNamedIn at hi)
            (λ d h r. let n = h r in ((n.0.0, omega (arith, n.0.1)), n.1)) only_alone.declared only_alone.names)

        indices : All (λ (o : Occurrence). (at ≤ o.index) × (o.index < hi)) s.occurrences
        indices =
            subst (λ (l : List Occurrence). All (λ (o : Occurrence). (at ≤ o.index) × (o.index < hi)) l) same_noted
            (All-weaker (λ (o : Occurrence). (at ≤ o.index) × (o.index < at + token_count item)) (λ (o : Occurrence). (at ≤ o.index) × (o.index < hi))
            (λ o h. (h.0, omega (arith, h.1))) only_alone.occurrences only_alone.indices)

        beside : All (λ d. is_beside fore d ≡ true) s.declared
        beside =
            all_pass (λ d. is_beside fore d) s.declared
            (nothing_more (seen_of fore s.declared) (seen_of fore f0.declared)
            (sym (filter_append (λ d. not (is_beside fore d)) s.declared f0.declared) ∙ (ap (seen_of fore) (sym s.alone_declared) ∙ added_alone.seen)))

        -- what it declares with a range has ended, but for its name
        quiet : All (IsQuiet (λ d. old d ≡ true) lasting fr.scope.depth (at + token_count item)) s.declared
        quiet =
            all_front (IsQuiet (λ d. old d ≡ true) lasting fr.scope.depth (at + token_count item)) s.declared f0.declared
            (subst (λ (l : List Declaration). All (IsQuiet (λ d. old d ≡ true) lasting fr.scope.depth (at + token_count item)) l) s.alone_declared
            (names_last old lasting barred toks item false at (state f0 fr) (omega (arith, begins, x.low, x.high)) x.from x.forms listed.adds listed.quiet x.tags fresh all_old))

        ranges : All (Near (λ d. old d ≡ true) at lasting fr.scope) s.declared
        ranges =
            all_front (Near (λ d. old d ≡ true) at lasting fr.scope) s.declared f0.declared
            (subst (λ (l : List Declaration). All (Near (λ d. old d ≡ true) at lasting fr.scope) l) s.alone_declared
            (ranges_end_behind old lasting barred toks item false at (state f0 fr) x.from x.forms listed.adds listed.quiet x.tags fresh all_old))

        not_old : {X : Type 0} (d : Declaration) → IsNamedIn at hi d → has_range d.space ≡ true → old d ≡ true → X
        not_old d h r e = absurd (omega (arith, (h (no_member d.space r)).0.0, ltb-true d.name_at lo e, x.low, x.high))

        abbrev Ended : Declaration → Type 0
        Ended d = ((at ≤ d.to) × (d.to ≤ hi) × (fr.scope.depth + 1 ≤ d.depth)) ⊎ IsItsName (node_of m first under) fr.scope d

        ended_by : (d : Declaration) → IsNamedIn at hi d → has_range d.space ≡ true → (old d ≡ true) ⊎ ((d.to ≤ at + token_count item) ⊎ IsLast lasting fr.scope.depth d)
            → (old d ≡ true) ⊎ (((at ≤ d.to) × (fr.scope.depth + 1 ≤ d.depth)) ⊎ (IsLast lasting fr.scope.depth d × (d.to ≡ fr.scope.to))) → Ended d
        ended_by d h range q (inl e) = not_old d h range e
        ended_by d h range (inl e) (inr (inl k)) = not_old d h range e
        ended_by d h range (inr (inl e)) (inr (inl k)) = inl (k.0, omega (arith, e), k.1)
        ended_by d h range (inr (inr last)) (inr (inl k)) = absurd (omega (arith, last.depth, k.1))
        ended_by d h range q (inr (inr k)) =
            inr (record { space = k.0.space; name = its_name_is (node_of m first under) d.name_at k.0.name; depth = k.0.depth; to = k.1 })

        ended : (d : Declaration) → IsNamedIn at hi d → IsQuiet (λ e. old e ≡ true) lasting fr.scope.depth (at + token_count item) d
            → Near (λ e. old e ≡ true) at lasting fr.scope d → HasEnded (node_of m first under) fr.scope at hi d
        ended d h q r range = ended_by d h range (q range) (r range)

        ends : All (HasEnded (node_of m first under) fr.scope at hi) s.declared
        ends =
            all_three (IsNamedIn at hi) (IsQuiet (λ d. old d ≡ true) lasting fr.scope.depth (at + token_count item))
            (Near (λ d. old d ≡ true) at lasting fr.scope) (HasEnded (node_of m first under) fr.scope at hi) ended s.declared names quiet ranges

        abbrev more_named : ℕ → Bool
        more_named j = named j || lasting j

        aside_mine : All (IsAside more_named fr.scope.depth hi) s.declared
        aside_mine =
            all_three (IsNamedIn at hi) (IsQuiet (λ d. old d ≡ true) lasting fr.scope.depth (at + token_count item)) (IsNamedIn at hi)
            (IsAside more_named fr.scope.depth hi) (λ d h q n range. by d h range (q range)) s.declared names quiet names
          where
            by : (d : Declaration) → IsNamedIn at hi d → has_range d.space ≡ true → (old d ≡ true) ⊎ ((d.to ≤ at + token_count item) ⊎ IsLast lasting fr.scope.depth d)
                → (d.to ≤ hi) ⊎ IsLast more_named fr.scope.depth d
            by d h range (inl e) = not_old d h range e
            by d h range (inr (inl e)) = inl (omega (arith, e))
            by d h range (inr (inr last)) =
                inr (record { space = last.space; name = second_name (named d.name_at) (lasting d.name_at) last.name; depth = last.depth })

        aside_others : All (IsAside more_named fr.scope.depth hi) b.gone
        aside_others = All-weaker (IsAside named fr.scope.depth behind) (IsAside more_named fr.scope.depth hi) (λ d h range. by d (h range)) b.gone b.aside
          where
            by : (d : Declaration) → (d.to ≤ behind) ⊎ IsLast named fr.scope.depth d → (d.to ≤ hi) ⊎ IsLast more_named fr.scope.depth d
            by d (inl e) = inl (omega (arith, e, x.high))
            by d (inr last) =
                inr (record { space = last.space; name = first_name (named d.name_at) (lasting d.name_at) last.name; depth = last.depth })

        wider : (lo' hi' : ℕ) → lo ≤ lo' → hi' ≤ hi → (d : Declaration) → is_beside (is_between lo' hi') d ≡ true → is_beside (is_between lo hi) d ≡ true
        wider lo' hi' low high d e =
            more_in (is_between lo' hi') (is_between lo hi) d.space d.name_at
            (λ n h. between_yes lo hi n (omega (arith, low, between_from lo' hi' n h)) (omega (arith, high, between_before lo' hi' n h))) e

        less : (lo' hi' k : ℕ) → lo ≤ lo' → hi' ≤ hi → is_between lo hi k ≡ false → is_between lo' hi' k ≡ false
        less lo' hi' k low high e = between_less lo hi lo' hi' k low high e

        now_behind : Behind later hi fr.scope.depth more_named
        now_behind = record {
          gone = s.declared ++ b.gone;
          heard = s.occurrences ++ b.heard;
          declared = s.later_declared ∙ (ap (λ (l : List Declaration). s.declared ++ l) b.declared ∙ sym (append_assoc s.declared b.gone f0.declared));
          noted = s.later_noted ∙ (ap (λ (l : List Occurrence). s.occurrences ++ l) b.noted ∙ sym (append_assoc s.occurrences b.heard f0.occurrences));
          jumps = only_later.jumps ∙ b.jumps;
          fault = s.fault ∙ sound;
          beside = All-append (λ d. is_beside (is_between lo hi) d ≡ true) s.declared b.gone
              (All-weaker (λ d. is_beside fore d ≡ true) (λ d. is_beside (is_between lo hi) d ≡ true) (wider at hi (omega (arith, x.low, x.high)) (omega arith)) s.declared beside)
              (All-weaker (λ d. is_beside foreign d ≡ true) (λ d. is_beside (is_between lo hi) d ≡ true)
              (wider lo behind (omega arith) (omega (arith, x.high))) b.gone b.beside);
          aside = All-append (IsAside more_named fr.scope.depth hi) s.declared b.gone aside_mine aside_others;
          begun = λ k h. s.begun k (less lo behind k (omega arith) (omega (arith, x.high)) h) ∙ added_alone.begun k (less at hi k (omega (arith, x.low, x.high)) (omega arith) h);
          complete = λ k h. s.complete k (less lo behind k (omega arith) (omega (arith, x.high)) h)
              ∙ added_alone.complete k (less at hi k (omega (arith, x.low, x.high)) (omega arith) h);
        }

        pub step_clear : IsClearStep s
        step_clear = record {
          jumps = only_alone.jumps;
          beside = beside;
          names = names;
          indices = indices;
          ends = ends;
          begun = added_alone.begun;
          complete = added_alone.complete;
          begun_later = added_later.begun;
          complete_later = added_later.complete;
          behind_it = now_behind;
        }
