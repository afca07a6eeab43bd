-- Tokens that are read by their class: type names and primary expressions.
use Rattle.std.proofs.Common.{ℕ, ◌+◌, ◌≡◌, Bool, true, false, not, if◌then◌else◌, ◌==◌, List, Ok, Err, refl, sym, ap, ◌∙◌, arith}
use Rattle.c99_grammar.specs.declared.dialects.Edition.{Edition}
use Rattle.cs_base.specs.Token.{Token}
use Rattle.c99_tree.specs.declared.production.Label.{Label}
use Rattle.c99_tree.specs.declared.production.Production.TheVariants.{Main, Mod, Primary}
use Rattle.c99_grammar.specs.Classes.{among}
use Rattle.c99_grammar.specs.Items.{one, part, ◌·◌, many, own}
use Rattle.c99_grammar.specs.Standard.{iso}
use Rattle.c99_read.specs.State.{State, class_at, is_typedef_at, opened}
use Rattle.c99_read.specs.Reading.{Goal, Step, take_one, step}
use Rattle.tree_laws.proofs.TypedefClasses.{identifiers, typedef_names, identifier_is, typedef_is}
use Rattle.tree_laws.proofs.Outline.{Entry, Outline, outlined, typedef_among, token_agrees}
use Rattle.tree_laws.proofs.Matching.{Bounds, bounds_within, same_typedef}
use Rattle.tree_laws.proofs.Rules.{labelled}
use Rattle.tree_laws.proofs.Goes.{After, with_token, Fits, Goes, token_goes, Body}
use Rattle.tree_laws.proofs.TypedefSteps.{Reads, taken, goes_then, goes_step, goes_body, opened_in}

module _ (std : Edition) where
  module _ (toks : List Token) where
    module _ (l : Label) (s : State) where
      -- what the reader says of the next token, the outline says too
      next_same : (o : Outline) (ends : List ℕ) → Bounds (s.at + 1) o.scope.to s.names.scopes ends → Fits std toks l s ends o
          → is_typedef_at s.toks s.names.scopes s.at ≡ typedef_among std toks s.at (outlined s.built.under o).entries
      next_same o ends b f =
          ap (λ t. is_typedef_at t s.names.scopes s.at) f.text
          ∙ same_typedef std toks s.at s.at s.names.scopes ends (outlined s.built.under o).entries (omega arith) (bounds_within (s.at + 1) o.scope.to s.names.scopes ends b) f.matches

      pub no_typedef : (o : Outline) (ends : List ℕ) → among identifiers (class_at (iso std) s s.at) ≡ true → Bounds (s.at + 1) o.scope.to s.names.scopes ends → Fits std toks l s ends o
          → typedef_among std toks s.at (outlined s.built.under o).entries ≡ false
      no_typedef o ends c b f = sym (next_same o ends b f) ∙ (identifier_is std s s.at c).1

      pub some_typedef : (o : Outline) (ends : List ℕ) → among typedef_names (class_at (iso std) s s.at) ≡ true → Bounds (s.at + 1) o.scope.to s.names.scopes ends → Fits std toks l s ends o
          → typedef_among std toks s.at (outlined s.built.under o).entries ≡ true
      some_typedef o ends c b f = sym (next_same o ends b f) ∙ typedef_is std s s.at c

    -- a primary expression that is an identifier (6.5.1)
    pub primary_body : (s : State) → After (Body std toks Primary 1 s) (take_one (iso std) identifiers (opened Primary 1 s))
    primary_body s =
        (taken std) (Body std toks Primary 1 s) identifiers (opened Primary 1 s)
        (λ c more. goes_body std toks Primary 1 s (with_token (opened Primary 1 s)) refl refl
        (token_goes std toks (labelled Primary 1) s.at (opened Primary 1 s) more
        (λ o ends b f. (refl, ap not (no_typedef (labelled Primary 1) (opened Primary 1 s) o ends c b f)))))

    pub if_held : (c x : Bool) → x ≡ true → (if c then x else true) ≡ true
    if_held true x h = h
    if_held false x h = refl

    main_agrees : (k i : ℕ) (es : List Entry) → typedef_among std toks i es ≡ true → token_agrees std toks Main 4 k i es ≡ true
    main_agrees k i es h = if_held (k == 0) (typedef_among std toks i es) h

    -- a type specifier that is a typedef name (6.7.2)
    pub main_body : (below : ℕ → Goal → State → Step) → Reads std toks below → (depth : ℕ) (s : State)
        → After (Body std toks Main 4 s) (step (iso std) below depth (one typedef_names · many own (part Mod)) (opened Main 4 s))
    main_body below reads depth s =
        by (step (iso std) below depth (one typedef_names · many own (part Mod)) (opened Main 4 s))
        (goes_then std toks below reads (labelled Main 4) s.at (opened Main 4 s) (take_one (iso std) typedef_names (opened Main 4 s)) (step (iso std) below depth (many own (part Mod)))
        (opened_in std toks Main 4 s)
        (taken std (Goes std toks (labelled Main 4) s.at (opened Main 4 s)) typedef_names (opened Main 4 s)
        (λ c more. token_goes std toks (labelled Main 4) s.at (opened Main 4 s) more
        (λ o ends b f. (
          refl,
          main_agrees (outlined (opened Main 4 s).built.under o).nth (opened Main 4 s).at (outlined (opened Main 4 s).built.under o).entries
              (some_typedef (labelled Main 4) (opened Main 4 s) o ends c b f),
        ))))
        (λ s' i. goes_step std toks below reads (many own (part Mod)) (labelled Main 4) s.at depth s' refl i))
      where
        by : (r : Step) → After (Goes std toks (labelled Main 4) s.at (opened Main 4 s)) r → After (Body std toks Main 4 s) r
        by (Err stop) m = tt
        by (Ok s') m = goes_body std toks Main 4 s s' refl refl m
