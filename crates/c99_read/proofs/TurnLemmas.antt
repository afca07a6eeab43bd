-- One turn of a repetition, and the alternative that is chosen.
use Rattle.std.proofs.Common.{ℕ, ◌+◌, List, [], ◌∷◌, length, drop, map, get_or, Option, None, Some, ◌<◌, ◌≤◌, ◌≡◌, Bool, true, false, if◌then◌else◌, Ok, Err, refl, sym, ap, subst, ◌∙◌}
use Rattle.std.proofs.lemmas.Bool.{and_parts}
use Rattle.std.proofs.lemmas.List.{drop_more, drop_all}
use Rattle.c99_grammar.specs.declared.dialects.Dialect.{Dialect}
use Rattle.c99_tree.specs.declared.production.Production.{Production}
use Rattle.c99_grammar.specs.Items.{Item, Test, many, Alternative}
use Rattle.c99_grammar.specs.ItemsOf.{alternative_of, test_of, item_of}
use Rattle.c99_read.specs.Choosing.{Choice, chosen, chosen_read}
use Rattle.c99_grammar.specs.declared.items.Alternative as code
use Rattle.c99_read.specs.State.{State}
use Rattle.c99_read.specs.Reading.{Step, and_then, may, step, alternative, pick, run, whole, produce, repeat, tokens_left, syntax}
use Rattle.c99_read.specs.Sound.{has_token, is_low, is_met}
use Rattle.c99_grammar.specs.Standard.{grammar}
use Rattle.c99_read.proofs.C99Sound.{grammar-sound}
use Rattle.c99_read.proofs.Moves.{Moves, Moves-step}
use Rattle.c99_read.proofs.Suffices.{whole-runs, whole-moves}

module _ (std : Dialect) where
  pub produced : (depth : ℕ) (p : Production) (s : State) → whole (grammar std) depth (produce p) s ≡ run (grammar std) (whole (grammar std)) depth (produce p) s
  produced depth p s = whole-runs (grammar std) (grammar-sound std) depth (produce p) s refl

  pub many-turn : (t : Test) (a : Item) (depth : ℕ) (s s' : State) → is_met (repeat t a) ≡ true → may (grammar std) t a s ≡ true
      → step (grammar std) (whole (grammar std)) depth a s ≡ Ok s'
      → step (grammar std) (whole (grammar std)) depth (many t a) s' ≡ step (grammar std) (whole (grammar std)) depth (many t a) s
  many-turn t a depth s s' met starts turn =
      sym
      (ap (λ x. if x then and_then (step (grammar std) (whole (grammar std)) depth a s) (whole (grammar std) depth (repeat t a)) else Ok s) starts
      ∙ ap (λ q. and_then q (whole (grammar std) depth (repeat t a))) turn
      ∙ whole-runs (grammar std) (grammar-sound std) depth (repeat t a) s' met)

  pub many-falls : (t : Test) (a : Item) (depth : ℕ) (s s' : State) → is_met (repeat t a) ≡ true
      → step (grammar std) (whole (grammar std)) depth a s ≡ Ok s' → tokens_left s' < tokens_left s
  many-falls t a depth s s' met turn =
      let both = and_parts (has_token a) (is_low 63 a) met in
      let moves = Moves-step (grammar std) (whole (grammar std)) (λ d goal r m. whole-moves (grammar std) (grammar-sound std) d goal r m) a depth 63 s both.1 in
      let P : Step → Type 0 = Moves (has_token a) s in
      (subst P turn moves).1 both.0

  -- the alternative that is chosen is the one that is read
  chosen-if : (b : Bool) (depth : ℕ) (p : Production) (c : Choice) (rest : Option Choice) (s : State) (later : Step)
      → later ≡ chosen_read (grammar std) depth p rest s
      → (if b then chosen_read (grammar std) depth p (Some c) s else later) ≡ chosen_read (grammar std) depth p (if b then Some c else rest) s
  chosen-if true depth p c rest s later e = refl
  chosen-if false depth p c rest s later e = e

  chosen-picked : (depth : ℕ) (p : Production) (n : ℕ) (alternatives : List Alternative) (s : State)
      → pick (grammar std) (whole (grammar std)) depth p n alternatives s ≡ chosen_read (grammar std) depth p (chosen (grammar std) s n alternatives) s
  chosen-picked depth p n [] s = refl
  chosen-picked depth p n (a ∷ more) s =
      chosen-if (may (grammar std) a.test a.body s) depth p (record { number = n; body = a.body }) (chosen (grammar std) s (n + 1) more) s _
      (chosen-picked depth p (n + 1) more s)

  chosen-whole : (depth : ℕ) (p : Production) (s : State) → whole (grammar std) depth (produce p) s ≡ chosen_read (grammar std) depth p (chosen (grammar std) s 1 ((grammar std).table p)) s
  chosen-whole depth p s = produced depth p s ∙ chosen-picked depth p 1 ((grammar std).table p) s

  pub read-chosen : (depth : ℕ) (p : Production) (s : State) (c : Choice) → chosen (grammar std) s 1 ((grammar std).table p) ≡ Some c
      → alternative (grammar std) (whole (grammar std)) depth p c.number c.body s ≡ whole (grammar std) depth (produce p) s
  read-chosen depth p s c e = sym (chosen-whole depth p s ∙ ap (λ o. chosen_read (grammar std) depth p o s) e)

  pub read-none : (depth : ℕ) (p : Production) (s : State) → chosen (grammar std) s 1 ((grammar std).table p) ≡ None → whole (grammar std) depth (produce p) s ≡ Err (syntax s.at)
  read-none depth p s e = chosen-whole depth p s ∙ ap (λ o. chosen_read (grammar std) depth p o s) e

  -- one row of the code's table, and those behind it
  chosen-at : (s : State) (n k : ℕ) (rows : List code.Alternative) (d : code.Alternative) → k < length rows
      → chosen (grammar std) s n (map alternative_of (drop k rows)) ≡ chosen (grammar std) s n (map alternative_of (get_or rows k d ∷ drop (k + 1) rows))
  chosen-at s n k rows d within = ap (λ l. chosen (grammar std) s n (map alternative_of l)) (drop_more rows k d within)

  pub chosen-here : (s : State) (n k : ℕ) (rows : List code.Alternative) (d : code.Alternative) → k < length rows
      → may (grammar std) (test_of (get_or rows k d).test) (item_of (get_or rows k d).body) s ≡ true
      → chosen (grammar std) s n (map alternative_of (drop k rows)) ≡ Some (record { number = n; body = item_of (get_or rows k d).body })
  chosen-here s n k rows d within starts =
      chosen-at s n k rows d within
      ∙ ap (λ b. if b then Some (record { number = n; body = item_of (get_or rows k d).body }) else chosen (grammar std) s (n + 1) (map alternative_of (drop (k + 1) rows))) starts

  pub chosen-behind : (s : State) (n k : ℕ) (rows : List code.Alternative) (d : code.Alternative) → k < length rows
      → may (grammar std) (test_of (get_or rows k d).test) (item_of (get_or rows k d).body) s ≡ false
      → chosen (grammar std) s (n + 1) (map alternative_of (drop (k + 1) rows)) ≡ chosen (grammar std) s n (map alternative_of (drop k rows))
  chosen-behind s n k rows d within starts =
      sym
      (chosen-at s n k rows d within
      ∙ ap (λ b. if b then Some (record { number = n; body = item_of (get_or rows k d).body }) else chosen (grammar std) s (n + 1) (map alternative_of (drop (k + 1) rows))) starts)

  pub chosen-end : (s : State) (n k : ℕ) (rows : List code.Alternative) → length rows ≤ k → chosen (grammar std) s n (map alternative_of (drop k rows)) ≡ None
  chosen-end s n k rows past = ap (λ l. chosen (grammar std) s n (map alternative_of l)) (drop_all k rows past)
