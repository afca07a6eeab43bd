-- Declarations of a list that are pushed again as a body begins.
use Rattle.std.proofs.Common.{ℕ, ◌+◌, ◌<◌, ◌≤◌, ◌≡◌, List, ◌++◌, length, take, reverse, Option, None, Some, refl, sym, ap, ◌∙◌, arith}
use Rattle.std.specs.Prelude.{filter_map, slice_get}
use Rattle.std.specs.Option.{option_and_then, option_to_list}
use Rattle.std.proofs.lemmas.List.{reverse-append, reverse-reverse, length-reverse, take_all}
use Rattle.cs_base.specs.Token.{Token}
use Rattle.c_types.specs.declared.declarations.Declaration.{Declaration}
use Rattle.name_chains.specs.Chains.{Chains}
use Rattle.name_chains.proofs.KeptLemmas.{kept-step, kept-seen}

reverse_one : {A : Type 0} (o : Option A) → reverse (option_to_list o) ≡ option_to_list o
reverse_one None = refl
reverse_one (Some x) = refl

module _ (f : Declaration → Option Declaration) (ds : List Declaration) where
  -- so many of the first ones are asked, and those that are kept stand behind them all
  abbrev Kept : ℕ → List Declaration → Type 0
  Kept n es = reverse es ≡ reverse ds ++ filter_map f (take n (reverse ds))

  -- one is asked
  pub kept-one : (n : ℕ) (o : Option Declaration) (es items new first : List Declaration) → reverse first ≡ ds → n < length first
      → reverse items ≡ es → Kept n es → o ≡ option_and_then f (slice_get items n) → new ≡ option_to_list o ++ es → Kept (n + 1) new
  kept-one n o es items new first begin l seen kept asked pushed =
      kept-step f (reverse ds) items (reverse new) n o
      (omega (arith, l, length-reverse first, ap length begin, length-reverse ds))
      (sym (reverse-reverse items) ∙ (ap reverse seen ∙ kept)) asked
      (ap reverse pushed
      ∙ (reverse-append (option_to_list o) es
      ∙ (ap (λ ys. reverse es ++ ys) (reverse_one o)
      ∙ ap (λ ys. ys ++ option_to_list o) (ap reverse (sym seen) ∙ reverse-reverse items))))

  -- all are asked
  pub kept-all : (n : ℕ) (es first : List Declaration) → reverse first ≡ ds → length first ≤ n → Kept n es → es ≡ filter_map f ds ++ ds
  kept-all n es first begin l kept =
      sym (reverse-reverse es)
      ∙ (kept-seen f (reverse ds) (reverse es)
      (kept ∙ ap (λ ys. reverse ds ++ filter_map f ys) (take_all n (reverse ds) (omega (arith, l, length-reverse first, ap length begin, length-reverse ds))))
      ∙ ap (λ ys. filter_map f ys ++ ys) (reverse-reverse ds))

abbrev chains : List Token → List Declaration → Chains
chains toks declared = record { toks = toks; declared = declared }

pub same_toks : (c old : Chains) (ds : List Declaration) → c.toks ≡ old.toks → c.declared ≡ ds → c ≡ record old { declared = ds }
same_toks c old ds e f = ap (λ toks. chains toks c.declared) e ∙ ap (chains old.toks) f

module _ (new old : Chains) (ds : List Declaration) (e : new ≡ record old { declared = ds ++ old.declared }) where
  pub toks_stay : new.toks ≡ old.toks
  toks_stay = ap (λ (c : Chains). c.toks) e

  pub declared_grows : new.declared ≡ ds ++ old.declared
  declared_grows = ap (λ (c : Chains). c.declared) e
