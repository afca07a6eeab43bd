-- Tests have the same answers in both lists, where enough is known.
use Rattle.std.proofs.Common.{ℕ, ◌+◌, ◌≡◌, Bool, true, false, ◌&&◌, ◌||◌, not, if◌then◌else◌, List, [], ◌∷◌, refl, sym, ap, ◌∙◌, inl, inr}
use Rattle.std.specs.List.{list_all, list_any}
use Rattle.std.proofs.lemmas.Bool.{and_parts, false≢true}
use Rattle.c99_grammar.specs.declared.dialects.Dialect.{Dialect}
use Rattle.cs_base.specs.Token.{Token}
use Rattle.c99_tree.specs.declared.production.Production.{Production}
use Rattle.c99_grammar.specs.Classes.{among}
use Rattle.c99_grammar.specs.declared.classes.Class.TheVariants.{Colon}
use Rattle.c99_grammar.specs.Items.{Item, one, part, end_of_text, act, ◌·◌, choice, maybe, many, deep, Test, own, otherwise, next, next_two, Ask, is, is_not, begins, either}
use Rattle.c99_grammar.specs.Standard.{grammar}
use Rattle.c99_read.specs.State.{State, class_at, base_at}
use Rattle.c99_read.specs.Reading.{may}
use Rattle.c99_grammar.specs.Starting.{is_passed, production_starts, asks, holds, starts, is_pair}
use Rattle.c99_grammar.proofs.PairLemmas.{pairs_same}
use Rattle.c99_read.proofs.Alike.{swapped}
use Rattle.renamed_tree_laws.proofs.Private.{Class, end_class, colon, colons}
use Rattle.renamed_tree_laws.proofs.Twins.{agree_is, blind, plain_class, alike_by, blind_same, same_class, Same}
use Rattle.renamed_tree_laws.proofs.Moods.{Mood, any, label, calm, solid, asks_same, test_same, starts_same, joint, pair_behind, blind_pair, blind_part, each_list, each_part, decides}
use Rattle.renamed_tree_laws.proofs.Knowing.{Known, no_name, colon_is}

colon_class : (d : Class) → among colons d ≡ true → d ≡ colon
colon_class Colon e = refl
colon_class _ e = absurd (false≢true e)

module _ (std : Dialect) where
  pub asks_are : (sees : List Class → Bool) (e e' : Class) → ((L : List Class) → sees L ≡ true → among L e' ≡ among L e)
      → (x : Ask) → asks_same std sees x ≡ true → asks (grammar std) x e' ≡ asks (grammar std) x e
  asks_are sees e e' f (is L) h = f L h
  asks_are sees e e' f (is_not L) h = ap not (f L h)
  asks_are sees e e' f (begins p) h = f ((grammar std).first p) h
  asks_are sees e e' f (either x y) h =
      let both = and_parts (asks_same std sees x) (asks_same std sees y) h in
      ap (λ z. z || asks (grammar std) y e') (asks_are sees e e' f x both.0) ∙ ap (λ z. asks (grammar std) x e || z) (asks_are sees e e' f y both.1)

  module _ (c d c' d' : Class) (sees : List Class → Bool) (parts : Production → Bool)
      (firsts : (L : List Class) → sees L ≡ true → among L c' ≡ among L c)
      (seconds : (L : List Class) → blind L ≡ true → among L d' ≡ among L d)
      (producing : (p : Production) → parts p ≡ true → production_starts (grammar std) p c' d' ≡ production_starts (grammar std) p c d)
      (ends : among (end_class ∷ []) c' ≡ among (end_class ∷ []) c) where
    test_is : (t : Test) (x x' started : Bool) → (started ≡ true → x' ≡ x) → test_same std sees t started ≡ true
        → holds (grammar std) t x' c' d' ≡ holds (grammar std) t x c d
    test_is own x x' started f h = f h
    test_is otherwise x x' started f h = refl
    test_is (next y) x x' started f h = asks_are sees c c' firsts y h
    test_is (next_two y z) x x' started f h =
        let both = and_parts (asks_same std sees y) (asks_same std blind z) h in
        ap (λ v. v && asks (grammar std) z d') (asks_are sees c c' firsts y both.0) ∙ ap (λ v. asks (grammar std) y c && v) (asks_are blind d d' seconds z both.1)

    starts_are : (item : Item) → starts_same std sees parts item ≡ true → starts (grammar std) item c' d' ≡ starts (grammar std) item c d
    starts_are (one L) h = firsts L h
    starts_are (part p) h = producing p h
    starts_are end_of_text h = ends
    starts_are (act action) h = refl
    starts_are (x · y) h =
        let both = and_parts (starts_same std sees parts x) _ h in
        by (is_passed x) _ _ _ _ (starts_are x both.0) (starts_same std sees parts y) (starts_are y) both.1
      where
        by : (p u u' v v' : Bool) → u' ≡ u → (s : Bool) → (s ≡ true → v' ≡ v) → (if p then s else true) ≡ true
            → (if p then u' || v' else u') ≡ (if p then u || v else u)
        by true u u' v v' e s f k = ap (λ z. z || v') e ∙ ap (λ z. u || z) (f k)
        by false u u' v v' e s f k = e
    starts_are (choice x y) h =
        let both = and_parts (starts_same std sees parts x) (starts_same std sees parts y) h in
        ap (λ z. z || starts (grammar std) y c' d') (starts_are x both.0) ∙ ap (λ z. starts (grammar std) x c d || z) (starts_are y both.1)
    starts_are (maybe x) h = starts_are x h
    starts_are (many t x) h = test_is t _ _ (starts_same std sees parts x) (starts_are x) h
    starts_are (deep x) h = starts_are x h

    pub holds_are : (t : Test) (item : Item) → test_same std sees t (starts_same std sees parts item) ≡ true
        → holds (grammar std) t (starts (grammar std) item c' d') c' d' ≡ holds (grammar std) t (starts (grammar std) item c d) c d
    holds_are t item h = test_is t _ _ (starts_same std sees parts item) (starts_are item) h

  module _ (a b : List Token) (classes : (k : ℕ) → base_at (grammar std) a k ≡ base_at (grammar std) b k) (s : State) (of_a : s.toks ≡ a) where
    abbrev c : Class
    c = class_at (grammar std) s s.at

    abbrev d : Class
    d = class_at (grammar std) s (s.at + 1)

    abbrev c' : Class
    c' = class_at (grammar std) (swapped b s) s.at

    abbrev d' : Class
    d' = class_at (grammar std) (swapped b s) (s.at + 1)

    pub blind_first : (L : List Class) → blind L ≡ true → among L c' ≡ among L c
    blind_first L h = blind_same std a b classes s s.at of_a L h

    pub blind_second : (L : List Class) → blind L ≡ true → among L d' ≡ among L d
    blind_second L h = blind_same std a b classes s (s.at + 1) of_a L h

    -- what is asked behind the next token has the same answer in both lists
    pair_is : (x : Class × Ask) → among (x.0 ∷ []) c' ≡ among (x.0 ∷ []) c → pair_behind std x ≡ true → is_pair (grammar std) x c' d' ≡ is_pair (grammar std) x c d
    pair_is x e h = ap (λ z. z && asks (grammar std) x.1 d') e ∙ ap (λ z. among (x.0 ∷ []) c && z) (asks_are blind d d' blind_second x.1 h)

    starts_as : (p : Production) (P : Class × Ask → Bool) → among ((grammar std).first p) c' ≡ among ((grammar std).first p) c
        → ((x : Class × Ask) → P x ≡ true → is_pair (grammar std) x c' d' ≡ is_pair (grammar std) x c d) → list_all P ((grammar std).pairs p) ≡ true
        → production_starts (grammar std) p c' d' ≡ production_starts (grammar std) p c d
    starts_as p P e f h =
        ap (λ z. z || list_any (λ x. is_pair (grammar std) x c' d') ((grammar std).pairs p)) e
        ∙ ap (λ z. among ((grammar std).first p) c || z) (pairs_same (grammar std) P c d c' d' f ((grammar std).pairs p) h)

    blind_pair_is : (x : Class × Ask) → blind_pair std x ≡ true → is_pair (grammar std) x c' d' ≡ is_pair (grammar std) x c d
    blind_pair_is x h = let both = and_parts (blind (x.0 ∷ [])) (pair_behind std x) h in pair_is x (blind_first (x.0 ∷ []) both.0) both.1

    any_decides : (t : Test) (item : Item) → test_same std blind t (starts_same std blind (blind_part std) item) ≡ true
        → may (grammar std) t item (swapped b s) ≡ may (grammar std) t item s
    any_decides t item h =
        holds_are c d c' d' blind (blind_part std) blind_first blind_second
        (λ p k. (let both = and_parts (blind ((grammar std).first p)) (list_all (blind_pair std) ((grammar std).pairs p)) k in
        starts_as p (blind_pair std) (blind_first ((grammar std).first p) both.0) blind_pair_is both.1))
        (blind_first (end_class ∷ []) refl) t item h

    -- the next token is the same
    calm_decides : Same std a b s.names.scopes s.at → (t : Test) (item : Item) → test_same std each_list t (starts_same std each_list (each_part std) item) ≡ true
        → may (grammar std) t item (swapped b s) ≡ may (grammar std) t item s
    calm_decides same t item h =
        let e : c' ≡ c = same_class std a b classes s s.at of_a same in
        holds_are c d c' d' each_list (each_part std) (λ L k. ap (among L) e) blind_second
        (λ p k. starts_as p (pair_behind std) (ap (among ((grammar std).first p)) e) (λ x h. pair_is x (ap (among (x.0 ∷ [])) e) h) k)
        (ap (among (end_class ∷ [])) e) t item h

    -- .. or stands before a colon
    label_decides : among colons (base_at (grammar std) a (s.at + 1)) ≡ true → (t : Test) (item : Item) → test_same std blind t (starts_same std blind (joint std) item) ≡ true
        → may (grammar std) t item (swapped b s) ≡ may (grammar std) t item s
    label_decides stands t item h =
        let at_a : among colons (base_at (grammar std) s.toks (s.at + 1)) ≡ true = ap (λ x. among colons (base_at (grammar std) x (s.at + 1))) of_a ∙ stands in
        let here : among colons d ≡ true = ap (among colons) (plain_class std s (s.at + 1) (colon_is std s.toks (s.at + 1) at_a)) ∙ at_a in
        let there : among colons d' ≡ true = blind_second colons refl ∙ here in
        holds_are c d c' d' blind (joint std) blind_first blind_second
        (λ p k.
        ap (production_starts (grammar std) p c') (colon_class d' there)
        ∙ (alike_by std a b classes s s.at of_a (λ x. production_starts (grammar std) p x colon) (agree_is _ _ k)
        ∙ sym (ap (production_starts (grammar std) p c) (colon_class d here))))
        (blind_first (end_class ∷ []) refl) t item h

    pub decided_same : (m : Mood) → Known std a b s.names.scopes s.at m → (t : Test) (item : Item) → decides std m t item ≡ true
        → may (grammar std) t item (swapped b s) ≡ may (grammar std) t item s
    decided_same any known t item h = any_decides t item h
    decided_same label (inl same) t item h =
        calm_decides same t item (and_parts (test_same std blind t (starts_same std blind (joint std) item)) (test_same std each_list t (starts_same std each_list (each_part std) item)) h).1
    decided_same label (inr colon) t item h =
        label_decides colon t item (and_parts (test_same std blind t (starts_same std blind (joint std) item)) (test_same std each_list t (starts_same std each_list (each_part std) item)) h).0
    decided_same calm known t item h = calm_decides known t item h
    decided_same solid known t item h = calm_decides (no_name std a b s.names.scopes s.at known) t item h
