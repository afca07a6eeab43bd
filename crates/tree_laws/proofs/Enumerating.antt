-- Enumerators (6.7.2.2), and parameters in parentheses (6.7.5.3 paragraph 11).
use Rattle.std.proofs.Common.{ℕ, ◌+◌, ◌<◌, ◌≡◌, Bool, true, false, List, length, None, Some, Ok, Err, nat_lt, inl, inr, refl, sym, ap, subst, ◌∙◌, arith}
use Rattle.c99_grammar.specs.declared.dialects.Edition.{Edition}
use Rattle.cs_base.specs.Token.{Token}
use Rattle.c99_tree.specs.Tree.{none, Node}
use Rattle.c99_tree.specs.declared.production.Label.{Label}
use Rattle.c99_tree.specs.declared.production.Production.TheVariants.{Enumerator, Cond}
use Rattle.c99_grammar.specs.Classes.{among}
use Rattle.c99_grammar.specs.Items.{Item, one, part, act, ◌·◌, maybe, deep, own, names, name}
use Rattle.c99_grammar.specs.Standard.{iso}
use Rattle.c99_read.specs.State.{State, class_at, last_identifier, declaration, in_innermost, acted, opened}
use Rattle.c99_read.specs.Reading.{Goal, produce, Step, and_then, deepest, take_one, enter, may, step}
use Rattle.c_types.specs.Trees.{last_token}
use Rattle.tree_laws.proofs.TypedefClasses.{equals, name_is, equals_is}
use Rattle.tree_laws.proofs.Outline.{Outline, begun, outlined}
use Rattle.tree_laws.proofs.Matching.{Bounds, outer_further, outer_open, bounds_sooner}
use Rattle.tree_laws.proofs.Places.{EndsAt, ends_none}
use Rattle.tree_laws.proofs.Rules.{labelled}
use Rattle.tree_laws.proofs.Goes.{After, with_token, IsIn, Goes, goes_further, Makes, Body}
use Rattle.tree_laws.proofs.TypedefSteps.{Reads, Grows, after_if, taken, quiet_goes, goes_step, opened_fits, opened_outer}
use Rattle.tree_laws.proofs.Declaring.{naming, outer_declared, put_matches}
use Rattle.tree_laws.proofs.Listing.{last_put, last_other, last_node, named_is}

module _ (std : Edition) where
  module _ (toks : List Token) where
    abbrev enumerator : Label
    enumerator = labelled Enumerator 1

    -- the name of the enumerator is the last identifier among its tokens
    abbrev IsLast : ℕ → State → Type 0
    IsLast i s = last_identifier (iso std) s.toks s.built.under None ≡ Some i

    module _ (below : ℕ → Goal → State → Step) (reads : Reads std toks below) where
      abbrev value_items : Item
      value_items = one equals · deep (part Cond)

      enter_last : (i depth : ℕ) (b : Bool) (s : State) → IsLast i s → After (IsLast i) (enter depth b s)
      unfolding enter
      enter_last i depth b s h = after_if (IsLast i) b _ _ (after_if (IsLast i) (nat_lt depth deepest) _ _ h tt) tt

      cond_last : (i depth : ℕ) (s : State) → IsLast i s → After (IsLast i) (below depth (produce Cond) s)
      cond_last i depth s h = by (below depth (produce Cond) s) (reads.made depth Cond s refl)
        where
          by : (r : Step) → After (λ s'. Makes std toks Cond s s' × Grows Cond s s') r → After (IsLast i) r
          by (Err stop) m = tt
          by (Ok s') m =
              ap (λ t. last_identifier (iso std) t s'.built.under None) m.0.same_text
              ∙ (ap (λ (n : Node). last_identifier (iso std) s.toks n.under None) m.0.built ∙ (last_node std s.toks s.built.under m.0.child None ∙ h))

      value_last : (i depth : ℕ) (s : State) → IsLast i s → After (IsLast i) (step (iso std) below depth (maybe value_items) s)
      value_last i depth s h =
          after_if (IsLast i) (may (iso std) own value_items s) _ _ (by (take_one (iso std) equals s) (taken std (IsLast i) equals s (λ c more. with_sign c))) h
        where
          with_sign : among equals (class_at (iso std) s s.at) ≡ true → IsLast i (with_token s)
          with_sign c = last_other std s.toks s.built.under s.at None (equals_is std s s.at c) ∙ h

          inside : (r : Step) → After (IsLast i) r → After (IsLast i) (and_then r (step (iso std) below (depth + 1) (part Cond)))
          inside (Err stop) m = tt
          inside (Ok s') m = cond_last i (depth + 1) s' m

          by : (r : Step) → After (IsLast i) r → After (IsLast i) (and_then r (step (iso std) below depth (deep (part Cond))))
          by (Err stop) m = tt
          by (Ok s') m = inside (enter depth (may (iso std) own (part Cond) s') s') (enter_last i depth (may (iso std) own (part Cond) s') s' m)

      opened_at : (s : State) → (opened Enumerator 1 s).at ≡ s.at
      unfolding opened
      opened_at s = refl

      token_in : (s : State) → IsIn enumerator s.at (with_token (opened Enumerator 1 s))
      unfolding opened
      token_in s = record { label = refl; begins = refl }

      name_last : (s : State) → among names (class_at (iso std) (opened Enumerator 1 s) (opened Enumerator 1 s).at) ≡ true → IsLast s.at (with_token (opened Enumerator 1 s))
      unfolding opened
      name_last s c = last_put std s.toks none s.at None (name_is std (opened Enumerator 1 s) s.at c)

      -- the constant is declared behind its enumerator
      module _ (s s' : State) (g : Goes std toks enumerator s.at (opened Enumerator 1 s) s') (grows : s.at < s'.at) (last : IsLast s.at s') where
        last_is : EndsAt s.at s'.built.under s'.at → (k : ℕ) → last_token s'.built.under k + 1 ≡ s'.at
        last_is (inl h) k = absurd (let e : s'.at ≡ s.at = h.0 in omega arith)
        last_is (inr h) k = h k

        enumerator_made : Body std toks Enumerator 1 s (naming s' (Some s.at) false)
        unfolding opened
        enumerator_made = record {
          same_text = g.same_text;
          later = g.later;
          within = g.within;
          outer = outer_further s.names.scopes s'.names.scopes (in_innermost s'.names.scopes (declaration s.at false)) (opened_outer std toks Enumerator 1 s s' g.outer)
              (outer_declared s'.names.scopes (declaration s.at false));
          inside = (let i = g.inside (record { label = refl; begins = refl }) in record { label = i.label; begins = i.begins });
          holds = g.holds refl;
          ends = g.ends (ends_none s.at);
          fits = λ o ends t op b m near. (
              let o' : Outline = begun enumerator s.at s'.built.under o in
              let before : Bounds s'.at o.scope.to s'.names.scopes ends =
              bounds_sooner s'.at s'.at o.scope.to s'.names.scopes (in_innermost s'.names.scopes (declaration s.at false)) ends
              (outer_open s.names.scopes s'.names.scopes op (opened_outer std toks Enumerator 1 s s' g.outer)) (omega arith)
              (outer_declared s'.names.scopes (declaration s.at false)) b in
              let f = g.fits o' ends before (opened_fits std toks Enumerator 1 s s'.built.under o ends t op refl m near) in
              record {
                matches = put_matches s'.at s'.at s.at (last_token s'.built.under s.at + 1) o.scope.to o.scope.depth false s'.names.scopes ends
                    (outlined s'.built.under o').entries before (let e = last_is (g.ends (ends_none s.at)) s.at in omega arith) f.matches;
                agree = f.agree;
                named = refl;
              });
        }

      pub enumerator_body : (depth : ℕ) (s : State)
          → After (Body std toks Enumerator 1 s) (step (iso std) below depth (one names · (maybe value_items · act name)) (opened Enumerator 1 s))
      enumerator_body depth s =
          by (take_one (iso std) names (opened Enumerator 1 s))
          (taken std (λ s'. (s' ≡ with_token (opened Enumerator 1 s)) × (IsLast s.at s' × ((opened Enumerator 1 s).at < length (opened Enumerator 1 s).toks))) names (opened Enumerator 1 s) (λ c more. (refl, (first_last c, more))))
        where
          first_last : among names (class_at (iso std) (opened Enumerator 1 s) (opened Enumerator 1 s).at) ≡ true → IsLast s.at (with_token (opened Enumerator 1 s))
          first_last c = name_last s c

          onward : (s' : State) → (opened Enumerator 1 s).at < length (opened Enumerator 1 s).toks → Goes std toks enumerator s.at (with_token (opened Enumerator 1 s)) s' → IsLast s.at s' → After (Body std toks Enumerator 1 s) (Ok (acted (iso std) name s'))
          onward s' more g last =
              subst (Body std toks Enumerator 1 s) (sym (named_is std s' s.at last))
              (enumerator_made s s'
              (goes_further std toks enumerator s.at (opened Enumerator 1 s) (with_token (opened Enumerator 1 s)) s' (quiet_goes std toks below reads enumerator s.at (opened Enumerator 1 s) more refl) g)
              (let h = g.later in let e = opened_at s in omega arith) last)

          second : (r : Step) → (opened Enumerator 1 s).at < length (opened Enumerator 1 s).toks → After (Goes std toks enumerator s.at (with_token (opened Enumerator 1 s))) r → After (IsLast s.at) r
              → After (Body std toks Enumerator 1 s) (and_then r (λ s'. Ok (acted (iso std) name s')))
          second (Err stop) more g last = tt
          second (Ok s') more g last = onward s' more g last

          by : (r : Step) → After (λ s'. (s' ≡ with_token (opened Enumerator 1 s)) × (IsLast s.at s' × ((opened Enumerator 1 s).at < length (opened Enumerator 1 s).toks))) r
              → After (Body std toks Enumerator 1 s) (and_then r (step (iso std) below depth (maybe value_items · act name)))
          by (Err stop) m = tt
          by (Ok s') m =
              subst (λ x. After (Body std toks Enumerator 1 s) (step (iso std) below depth (maybe value_items · act name) x)) (sym m.0)
              (second (step (iso std) below depth (maybe value_items) (with_token (opened Enumerator 1 s))) m.1.1
              (goes_step std toks below reads (maybe value_items) enumerator s.at depth (with_token (opened Enumerator 1 s)) refl (token_in s))
              (value_last s.at depth (with_token (opened Enumerator 1 s)) (subst (IsLast s.at) m.0 m.1.0)))
