-- A name that is respelled with what it denotes denotes it still.
use Rattle.std.proofs.Common.{ℕ, ◌≡◌, Bool, true, false, if◌then◌else◌, List, [], ◌∷◌, Option, None, Some, unwrap_or, refl, sym, ap, ◌∙◌}
use Rattle.std.specs.Option.{option_map_or}
use Rattle.std.specs.Str.{bytes_eq}
use Rattle.std.proofs.lemmas.Bool.{false≢true}
use Rattle.c99_grammar.specs.declared.dialects.Dialect.{Dialect}
use Rattle.cs_base.specs.Token.{Token}
use Rattle.c99_tree.specs.Names.{latest}
use Rattle.c99_grammar.specs.Standard.{grammar}
use Rattle.c99_read.specs.State.{base_at, is_identifier, is_typedef_at, spelling_at, spelled_scope}
use Rattle.renamed_tree_laws.specs.Respelled.{Declaration, declared_in, or_outer, denoted}
use Rattle.renamed_tree_laws.proofs.Named.{AllIn, AllScopes}

module _ (std : Dialect) where
  module _ (a b : List Token)
      (apart : (i j : ℕ) → is_identifier (base_at (grammar std) a i) ≡ true → is_identifier (base_at (grammar std) a j) ≡ true
      → bytes_eq (spelling_at b i) (spelling_at b j) ≡ true → bytes_eq (spelling_at a i) (spelling_at a j) ≡ true)
      (k : ℕ) (is_name : is_identifier (base_at (grammar std) a k) ≡ true) where
    abbrev with_it : Option Declaration → Bool
    with_it d = option_map_or (λ d. bytes_eq (spelling_at b k) (spelling_at b d.name_at)) d true

    abbrev told : Option Declaration → Option Bool
    told None = None
    told (Some d) = Some d.typedef

    latest_told : (scope : List Declaration) → latest (spelled_scope a scope) (spelling_at a k) ≡ told (declared_in a scope k)
    latest_told [] = refl
    latest_told (d ∷ older) = by (bytes_eq (spelling_at a k) (spelling_at a d.name_at)) (latest_told older)
      where
        by : (c : Bool) → latest (spelled_scope a older) (spelling_at a k) ≡ told (declared_in a older k)
            → (if c then Some d.typedef else latest (spelled_scope a older) (spelling_at a k)) ≡ told (if c then Some d else declared_in a older k)
        by true e = refl
        by false e = e

    latest_same : (scope : List Declaration) → AllIn std a scope → with_it (declared_in a scope k) ≡ true
        → latest (spelled_scope b scope) (spelling_at b k) ≡ latest (spelled_scope a scope) (spelling_at a k)
    latest_same [] all h = refl
    latest_same (d ∷ older) all h =
        by (bytes_eq (spelling_at a k) (spelling_at a d.name_at)) (bytes_eq (spelling_at b k) (spelling_at b d.name_at)) refl refl
        (apart k d.name_at is_name all.0) h (latest_same older all.1)
      where
        by : (x y : Bool) → bytes_eq (spelling_at a k) (spelling_at a d.name_at) ≡ x → bytes_eq (spelling_at b k) (spelling_at b d.name_at) ≡ y
            → (bytes_eq (spelling_at b k) (spelling_at b d.name_at) ≡ true → bytes_eq (spelling_at a k) (spelling_at a d.name_at) ≡ true)
            → with_it (if x then Some d else declared_in a older k) ≡ true
            → (with_it (declared_in a older k) ≡ true → latest (spelled_scope b older) (spelling_at b k) ≡ latest (spelled_scope a older) (spelling_at a k))
            → (if y then Some d.typedef else latest (spelled_scope b older) (spelling_at b k))
            ≡ (if x then Some d.typedef else latest (spelled_scope a older) (spelling_at a k))
        by true true e f g m r = refl
        by true false e f g m r = absurd (false≢true (sym f ∙ m))
        by false true e f g m r = absurd (false≢true (sym e ∙ g f))
        by false false e f g m r = r m

    -- the innermost visible declaration is the same
    pub denoted_same : (scopes : List (List Declaration)) → AllScopes std a scopes → with_it (denoted a scopes k) ≡ true
        → is_typedef_at b scopes k ≡ is_typedef_at a scopes k
    denoted_same [] all h = refl
    denoted_same (s ∷ outer) all h = by (declared_in a s k) refl (denoted_same outer all.1) h
      where
        by : (o : Option Declaration) → declared_in a s k ≡ o
            → (with_it (denoted a outer k) ≡ true → is_typedef_at b outer k ≡ is_typedef_at a outer k)
            → with_it (or_outer o (denoted a outer k)) ≡ true
            → unwrap_or (latest (spelled_scope b s) (spelling_at b k)) (is_typedef_at b outer k)
            ≡ unwrap_or (latest (spelled_scope a s) (spelling_at a k)) (is_typedef_at a outer k)
        by None e r m =
            let in_a : latest (spelled_scope a s) (spelling_at a k) ≡ None = latest_told s ∙ ap told e in
            let in_b : latest (spelled_scope b s) (spelling_at b k) ≡ None = latest_same s all.0 (ap with_it e) ∙ in_a in
            ap (λ x. unwrap_or x (is_typedef_at b outer k)) in_b
            ∙ (r m ∙ ap (λ x. unwrap_or x (is_typedef_at a outer k)) (sym in_a))
        by (Some d) e r m =
            let in_a : latest (spelled_scope a s) (spelling_at a k) ≡ Some d.typedef = latest_told s ∙ ap told e in
            let in_b : latest (spelled_scope b s) (spelling_at b k) ≡ Some d.typedef = latest_same s all.0 (ap with_it e ∙ m) ∙ in_a in
            ap (λ x. unwrap_or x (is_typedef_at b outer k)) in_b ∙ ap (λ x. unwrap_or x (is_typedef_at a outer k)) (sym in_a)
