-- A parameter's declarator in parentheses (6.7.5.3 paragraph 11).
use Rattle.std.proofs.Common.{ℕ, ◌+◌, ◌<◌, ◌≡◌, Bool, true, false, ◌||◌, not, List, length, Ok, Err, refl, sym, ap, subst, ◌∙◌, arith}
use Rattle.c99_grammar.specs.declared.dialects.Edition.{Edition}
use Rattle.cs_base.specs.Token.{Token}
use Rattle.c99_tree.specs.declared.production.Label.{Label}
use Rattle.c99_tree.specs.declared.production.Production.TheVariants.{Pdirect}
use Rattle.c99_grammar.specs.Classes.{among}
use Rattle.c99_grammar.specs.Items.{Item, one, ◌·◌}
use Rattle.c99_grammar.specs.Standard.{iso}
use Rattle.c99_read.specs.Sound.{has_token, is_low, is_met, goal_has_token}
use Rattle.c99_read.specs.State.{State, base_at, is_identifier, is_typedef_at, class_at, opened}
use Rattle.c99_read.specs.Reading.{Goal, Step, and_then, take_one, step}
use Rattle.c99_read.proofs.Moves.{Moves, Moves-step}
use Rattle.tree_laws.proofs.Private.{Class}
use Rattle.tree_laws.proofs.TypedefClasses.{bare, bare_is}
use Rattle.tree_laws.proofs.Outline.{Outline, Entry, typedef_among}
use Rattle.tree_laws.proofs.Matching.{Matches, Bounds, IsOpen, bounds_within, bounds_sooner, same_typedef}
use Rattle.tree_laws.proofs.Rules.{labelled, fine}
use Rattle.tree_laws.proofs.Goes.{After, with_token, IsIn, Goes, goes_further, Body}
use Rattle.tree_laws.proofs.TypedefSteps.{Reads, taken, goes_step, quiet_goes, goes_named, opened_outer}

module _ (std : Edition) where
  module _ (toks : List Token) where
    abbrev in_parentheses : Label
    in_parentheses = labelled Pdirect 2

    module _ (s : State) (c : among bare (class_at (iso std) s (s.at + 1)) ≡ true) where
      not_named : (b : Bool) (es : List Entry) → is_identifier (base_at (iso std) toks (s.at + 1)) ≡ b → (b ≡ true → typedef_among std toks (s.at + 1) es ≡ false)
          → (not b || not (typedef_among std toks (s.at + 1) es)) ≡ true
      not_named true es e h = ap not (h refl)
      not_named false es e h = refl

      named : (s' : State) → Goes std toks in_parentheses s.at (opened Pdirect 2 s) s' → s.at + 1 < s'.at
          → (o : Outline) (ends : List ℕ) → s.toks ≡ toks → IsOpen s.names.scopes → Bounds s'.at o.scope.to s'.names.scopes ends
          → Matches s.at s.names.scopes ends o.entries
          → (not (is_identifier (base_at (iso std) toks (s.at + 1))) || not (typedef_among std toks (s.at + 1) o.entries)) ≡ true
      named s' g further o ends t op b m =
          not_named (is_identifier (base_at (iso std) toks (s.at + 1))) o.entries refl
          (λ h. (
          let w = bounds_within ((s.at + 1) + 1) o.scope.to s.names.scopes ends
          (bounds_sooner ((s.at + 1) + 1) s'.at o.scope.to s.names.scopes s'.names.scopes ends op (omega arith) (opened_outer std toks Pdirect 2 s s' g.outer) b) in
          sym (same_typedef std toks (s.at + 1) s.at s.names.scopes ends o.entries (omega arith) w m)
          ∙ (ap (λ x. is_typedef_at x s.names.scopes (s.at + 1)) (sym t)
          ∙ bare_is std s (s.at + 1) c (ap (λ x. is_identifier (base_at (iso std) x (s.at + 1))) t ∙ h))))

    opened_at : (s : State) → ((opened Pdirect 2 s).at ≡ s.at)
    unfolding opened
    opened_at s = refl

    second_in : (s : State) → IsIn in_parentheses s.at (with_token (opened Pdirect 2 s))
    unfolding opened
    second_in s = record { label = refl; begins = refl }

    module _ (below : ℕ → Goal → State → Step) (reads : Reads std toks below)
        (moves : (depth : ℕ) (goal : Goal) (s : State) → is_met goal ≡ true → Moves (goal_has_token goal) s (below depth goal s)) where
      pub parentheses_body : (depth : ℕ) (s : State) (left : List Class) (rest : Item) → among bare (class_at (iso std) s (s.at + 1)) ≡ true
          → fine in_parentheses rest ≡ true → has_token rest ≡ true → is_low 64 rest ≡ true
          → After (Body std toks Pdirect 2 s) (step (iso std) below depth (one left · rest) (opened Pdirect 2 s))
      parentheses_body depth s left rest c h has low =
          by (take_one (iso std) left (opened Pdirect 2 s)) (taken std (λ s'. (s' ≡ with_token (opened Pdirect 2 s)) × ((opened Pdirect 2 s).at < length (opened Pdirect 2 s).toks)) left (opened Pdirect 2 s) (λ d more. (refl, more)))
        where
          grown : (s' : State) → s'.toks ≡ (with_token (opened Pdirect 2 s)).toks → Moves true (with_token (opened Pdirect 2 s)) (Ok s') → s.at + 1 < s'.at
          grown s' e m = (let f = m.1 refl in let k = ap length e in let a = opened_at s in omega arith)

          onward : (r : Step) → (opened Pdirect 2 s).at < length (opened Pdirect 2 s).toks → After (Goes std toks in_parentheses s.at (with_token (opened Pdirect 2 s))) r → Moves true (with_token (opened Pdirect 2 s)) r
              → After (Body std toks Pdirect 2 s) r
          onward (Err stop) more g m = tt
          onward (Ok s') more g m =
              let all = goes_further std toks in_parentheses s.at (opened Pdirect 2 s) (with_token (opened Pdirect 2 s)) s'
              (quiet_goes std toks below reads in_parentheses s.at (opened Pdirect 2 s) more refl) g in
              (goes_named std) toks Pdirect 2 s s' refl (named s c s' all (grown s' g.same_text m)) all

          by : (r : Step) → After (λ s'. (s' ≡ with_token (opened Pdirect 2 s)) × ((opened Pdirect 2 s).at < length (opened Pdirect 2 s).toks)) r → After (Body std toks Pdirect 2 s) (and_then r (step (iso std) below depth rest))
          by (Err stop) m = tt
          by (Ok s1) m =
              subst (λ x. After (Body std toks Pdirect 2 s) (step (iso std) below depth rest x)) (sym m.0)
              (onward (step (iso std) below depth rest (with_token (opened Pdirect 2 s))) m.1
              (goes_step std toks below reads rest in_parentheses s.at depth (with_token (opened Pdirect 2 s)) h (second_in s))
              (subst (λ x. Moves x (with_token (opened Pdirect 2 s)) (step (iso std) below depth rest (with_token (opened Pdirect 2 s)))) has
              (Moves-step (iso std) below moves rest depth 64 (with_token (opened Pdirect 2 s)) low)))
