-- Facts on what reading keeps.
use Rattle.std.proofs.Common.{Bool, List, [], false, if◌then◌else◌, not, refl, true, ℕ, ◌∷◌, ◌≡◌}
use Rattle.std.proofs.lemmas.Bool.{and_parts}
use Rattle.std.specs.List.{list_all}
use Rattle.std.specs.Str.{bytes_eq}
use Rattle.c99_tree.specs.declared.production.Production.{Production}
use Rattle.c99_read.specs.State.{State, is_identifier, opened}
use Rattle.c99_grammar.specs.Spellings.{Spelled}
use Rattle.c99_grammar.specs.TokenClasses.{spelled_class}

pub sign_class : (words : List Spelled) (text : List ℕ) (other : _) → list_all (λ w. not (is_identifier w.1)) words ≡ true → is_identifier other ≡ false
    → is_identifier (spelled_class words text other) ≡ false
unfolding spelled_class
sign_class [] text other all last = last
sign_class (w ∷ words) text other all last =
    let both = and_parts (not (is_identifier w.1)) (list_all (λ v. not (is_identifier v.1)) words) all in
    by (bytes_eq text w.0) both.0 (sign_class words text other both.1 last)
  where
    not_true : (b : Bool) → not b ≡ true → b ≡ false
    not_true true k = absurd (cc)
    not_true false k = refl

    by : (c : Bool) → not (is_identifier w.1) ≡ true → is_identifier (spelled_class words text other) ≡ false
        → is_identifier (if c then w.1 else spelled_class words text other) ≡ false
    by true k m = not_true (is_identifier w.1) k
    by false k m = m

pub opened_text : (p : Production) (n : ℕ) (s : State) → (opened p n s).toks ≡ s.toks
unfolding opened
opened_text p n s = refl
