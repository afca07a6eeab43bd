-- One child after another is asked, until one answers.
use Rattle.std.proofs.Common.{ℕ, ◌≡◌, Bool, Option, None, Some, sym, ap, ◌∙◌, unwrap_or}
use Rattle.std.specs.Option.{option_or}

pub answered-yes : (here whole rest b : Bool) (r : Option Bool) → here ≡ whole → here ≡ unwrap_or r rest → r ≡ Some b → b ≡ whole
answered-yes here whole rest b r kept step is = sym (sym kept ∙ (step ∙ ap (λ o. unwrap_or o rest) is))

pub answered-no : (here whole rest : Bool) (r : Option Bool) → here ≡ whole → here ≡ unwrap_or r rest → r ≡ None → rest ≡ whole
answered-no here whole rest r kept step is = sym (step ∙ ap (λ o. unwrap_or o rest) is) ∙ kept

pub told-yes : (here whole rest r : Option ℕ) (i : ℕ) → here ≡ whole → here ≡ option_or r rest → r ≡ Some i → Some i ≡ whole
told-yes here whole rest r i kept step is = sym (sym kept ∙ (step ∙ ap (λ o. option_or o rest) is))

pub told-no : (here whole rest r : Option ℕ) → here ≡ whole → here ≡ option_or r rest → r ≡ None → rest ≡ whole
told-no here whole rest r kept step is = sym (step ∙ ap (λ o. option_or o rest) is) ∙ kept
