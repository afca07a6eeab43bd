-- Names of an anonymous member, one after another.
use Rattle.std.proofs.Common.{ℕ, ◌≡◌, List, [], ◌∷◌, ◌++◌, map, reverse, refl, sym, ap, ◌∙◌}
use Rattle.std.specs.Prelude.{filter, is_some}
use Rattle.std.proofs.lemmas.List.{reverse-append}
use Rattle.cs_base.specs.Token.{Token}
use Rattle.c_types.specs.declared.declarations.Declaration.{Declaration}
use Rattle.c_types.specs.declared.declarations.Cause.TheVariants.{Redeclared as redeclared}
use Rattle.c_types.specs.declared.declarations.Space.TheVariants.{Members as members}
use Rattle.c_types.specs.Declarations.{Facts, with_fault, anywhere}
use Rattle.name_chains.specs.Members.{is_found_in, lifted, found_of, with_silent, with_lifted}
use Rattle.name_chains.proofs.Reversed.{map_reversed}
use Rattle.scope_bind.specs.Known.{Known, known}

module _ (toks : List Token) (owner : ℕ) where
  abbrev pub with_copy : Declaration → Facts → Facts
  with_copy d facts = with_silent d (with_fault (is_some (anywhere toks (members owner) d.name_at facts)) redeclared d.name_at facts)

  -- these are lifted already
  abbrev pub with_copies : List Declaration → Facts → Facts
  with_copies [] facts = facts
  with_copies (d ∷ later) facts = with_copies later (with_copy d facts)

  copies_lifted : (ds : List Declaration) (facts : Facts) → with_copies (map (lifted owner) ds) facts ≡ with_lifted toks owner ds facts
  copies_lifted [] facts = refl
  copies_lifted (d ∷ later) facts = copies_lifted later (with_copy (lifted owner d) facts)

  pub copies_all : (items : List Declaration) (number : ℕ) (facts : Facts) → items ≡ map (lifted owner) (filter (is_found_in number) facts.declared)
      → with_copies (reverse items) facts ≡ with_lifted toks owner (found_of number facts) facts
  copies_all items number facts e =
      ap (λ ds. with_copies (reverse ds) facts) e
      ∙ (ap (λ ds. with_copies ds facts) (sym (map_reversed (lifted owner) (filter (is_found_in number) facts.declared)))
      ∙ copies_lifted (found_of number facts) facts)

pub copies_step : (owner : ℕ) (items rest : List Declaration) (d : Declaration) (K K' : Known) → items ≡ rest ++ d ∷ []
    → K' ≡ known K.toks (with_copy K.toks owner d K.facts)
    → known K'.toks (with_copies K'.toks owner (reverse rest) K'.facts) ≡ known K.toks (with_copies K.toks owner (reverse items) K.facts)
copies_step owner items rest d K K' e step =
    ap (λ (k : Known). known k.toks (with_copies k.toks owner (reverse rest) k.facts)) step
    ∙ ap (λ ds. known K.toks (with_copies K.toks owner ds K.facts)) (sym (ap reverse e ∙ reverse-append rest (d ∷ [])))
