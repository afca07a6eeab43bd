-- What stands in a line as it is read, where its tokens stay (6.10.2, 6.10.6).
use Rattle.std.proofs.Common.{◌≡◌, ℕ, zero, suc, ◌+◌, ◌&&◌, Bool, true, false, nat_lt, cond, List, [], ◌∷◌, length, map, take, codes, Option, Some, None, refl, ap, subst, ◌∙◌, inl, inr}
use Rattle.std.specs.List.{position_or_len}
use Rattle.std.specs.Option.{option_map}
use Rattle.std.specs.Str.{bytes_eq}
use Rattle.std.proofs.lemmas.Bool.{cases_Bool}
use Rattle.std.proofs.lemmas.List.{length-map, take-map}
use Rattle.std.proofs.lemmas.Option.{none-some, same_Some}
use Rattle.cs_base.specs.Token.{Token}
use Rattle.lexer.specs.Characters.{begins, double_quote}
use Rattle.line_shape.specs.Signs.{is_identifier}
use Rattle.macro_expand.specs.Renaming.{Renaming, renamed}
use Rattle.source_files.specs.Search.{Header, header}
use Rattle.source_files.specs.HeaderNames.{is_string, header_in, is_less, is_greater, spelled, header_of_string, until_greater, header_behind_less, header_or_less, header_at}
use Rattle.unit_steps.specs.Directives.{says_once}
use Rattle.edited_unit_laws.specs.Lines.{Each}
use Rattle.edited_unit_laws.proofs.IncludeLemmas.{Stays, sign-stays, named-same}

each-take : (P : Token → Type 0) (n : ℕ) (toks : List Token) → Each P toks → Each P (take n toks)
each-take P zero toks h = tt
each-take P (suc n) [] h = h
each-take P (suc n) (t ∷ toks) h = (h.0, each-take P n toks h.1)

module _ (r : Renaming) where
  place-same : (toks : List Token) → Each (Stays r) toks → position_or_len is_greater (map (renamed r) toks) ≡ position_or_len is_greater toks
  place-same [] h = refl
  place-same (t ∷ toks) h = elim (cases_Bool (is_greater t)) [
    | inl is ↦ rw (sign-stays r (codes ">") t h.0, is) refl
    | inr other ↦ rw (sign-stays r (codes ">") t h.0, other) (ap (λ (n : ℕ). 1 + n) (place-same toks h.1))
  ]

  until-by : (n : ℕ) (b : Bool) (toks : List Token)
      → option_map (λ (k : ℕ). take k (map (renamed r) toks)) (cond b (Some n) None) ≡ option_map (map (renamed r)) (option_map (λ (k : ℕ). take k toks) (cond b (Some n) None))
  until-by n true toks = ap (λ (ts : List Token). Some ts) (take-map (renamed r) n toks)
  until-by n false toks = refl

  until-same : (toks : List Token) → Each (Stays r) toks → until_greater (map (renamed r) toks) ≡ option_map (map (renamed r)) (until_greater toks)
  until-same toks h =
      rw (place-same toks h, length-map toks (renamed r))
      (until-by (position_or_len is_greater toks) (nat_lt (position_or_len is_greater toks) (length toks)) toks)

  until-each : (n : ℕ) (b : Bool) (toks ts : List Token) → Each (Stays r) toks → option_map (λ (k : ℕ). take k toks) (cond b (Some n) None) ≡ Some ts → Each (Stays r) ts
  until-each n true toks ts h e = subst (λ (us : List Token). Each (Stays r) us) (same_Some (take n toks) ts e) (each-take (Stays r) n toks h)
  until-each n false toks ts h e = absurd (none-some ts e)

  behind-same : (t : Token) (toks : List Token) → Each (Stays r) (t ∷ toks) → header_behind_less (map (renamed r) (t ∷ toks)) ≡ header_behind_less (t ∷ toks)
  behind-same t toks h =
      ap (λ (b : Bool). cond b (option_map (λ (ts : List Token). header false (spelled ts)) (until_greater (map (renamed r) toks))) None) (sign-stays r (codes "<") t h.0)
      ∙ ap (λ (o : Option Header). cond (is_less t) o None)
      (ap (option_map (λ (ts : List Token). header false (spelled ts))) (until-same toks h.1)
      ∙ named-same r (until_greater toks) (λ ts e. until-each (position_or_len is_greater toks) (nat_lt (position_or_len is_greater toks) (length toks)) toks ts h.1 e))

  or-same : (o : Option Header) (t : Token) (toks : List Token) → Each (Stays r) (t ∷ toks) → header_or_less o (map (renamed r) (t ∷ toks)) ≡ header_or_less o (t ∷ toks)
  or-same (Some found) t toks h = refl
  or-same None t toks h = behind-same t toks h

  -- the header with which tokens begin
  pub header_at-same : (toks : List Token) → Each (Stays r) toks → header_at (map (renamed r) toks) ≡ header_at toks
  header_at-same [] h = refl
  header_at-same (t ∷ toks) h =
      ap (λ (x : List ℕ). header_or_less (cond (is_string t.kind && begins double_quote x) (Some (header_in x)) None) (map (renamed r) (t ∷ toks))) h.0
      ∙ or-same (header_of_string t) t toks h

  -- whether a pragma says that its file is read once
  pub once-same : (hash word : Token) (operands : List Token) → Each (Stays r) operands → says_once (map (renamed r) (hash ∷ word ∷ operands)) ≡ says_once (hash ∷ word ∷ operands)
  once-same hash word [] h = refl
  once-same hash word (t ∷ operands) h = ap (λ (x : List ℕ). is_identifier t.kind && bytes_eq x (codes "once")) h.0
