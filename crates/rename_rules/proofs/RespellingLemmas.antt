-- Tables of old and new spellings.
use Rattle.std.proofs.Common.{◌≡◌, ℕ, Bool, true, false, List, [], ◌∷◌, inl, inr, refl, sym, ap, ◌∙◌}
use Rattle.std.specs.Prelude.{◌||◌, ◌&&◌}
use Rattle.std.specs.List.{list_any}
use Rattle.std.specs.Str.{bytes_eq}
use Rattle.std.proofs.lemmas.Bool.{cases_Bool, and_parts}
use Rattle.std.proofs.lemmas.Slice.Eq.{bytes_eq-Decides}
use Rattle.cs_base.specs.declared.positions.Part.{Part}
use Rattle.cs_base.specs.Token.{Token}
use Rattle.part_respell.specs.Respelled.{spelled}
use Rattle.rename_rules.specs.Respellings.{RespellingValue, respelling, Adds, AreRespellings, is_old, is_new, is_clash}
use Rattle.rename_rules.specs.Tokens.{clashes}

or_again : (a b : Bool) → ((a || b) || a) ≡ (a || b)
or_again true b = refl
or_again false true = refl
or_again false false = refl

or_later : (a b c : Bool) → b ≡ (b || c) → (a || b) ≡ ((a || b) || c)
or_later true b c e = refl
or_later false b c e = e

same_respelling : (x r : RespellingValue) → (is_old r.old x && is_new r.new x) ≡ true → x ≡ r
same_respelling x r h =
    let both = and_parts (bytes_eq x.old r.old) (bytes_eq x.new r.new) h in
    let old : x.old ≡ r.old = (bytes_eq-Decides x.old r.old).0 both.0 in
    let new : x.new ≡ r.new = (bytes_eq-Decides x.new r.new).0 both.1 in
    ap (λ (text : List ℕ). respelling text x.new) old ∙ ap (λ (text : List ℕ). respelling r.old text) new

pub adds_known : (r : RespellingValue) (table : List RespellingValue) → list_any (λ x. is_old r.old x && is_new r.new x) table ≡ true
    → Adds r table table
adds_known r [] h test = absurd (cc)
adds_known r (x ∷ table) h test =
    elim (cases_Bool (is_old r.old x && is_new r.new x)) [
      | inl same ↦
          let is : test r ≡ test x = ap test (sym (same_respelling x r same)) in
          rw is (sym (or_again (test x) (list_any test table)))
      | inr other ↦
          let later : list_any (λ x. is_old r.old x && is_new r.new x) table ≡ true = rw other at h in
          or_later (test x) (list_any test table) (test r) (adds_known r table later test)
    ]

-- ---- what the table tells

pub clash_told : (members : List Part) (name : List ℕ) (toks : List Token) (t : Token) (table : List RespellingValue) (old new : List ℕ) (b : Bool)
    → AreRespellings members name toks table → old ≡ t.text → new ≡ spelled members name t → b ≡ list_any (is_clash old new) table
    → clashes members name toks t ≡ b
clash_told members name toks t table old new b told o n e =
    let test : Bool = list_any (is_clash t.text (spelled members name t)) table in
    let same : list_any (is_clash old new) table ≡ test =
    ap (λ (text : List ℕ). list_any (is_clash text new) table) o ∙ ap (λ (text : List ℕ). list_any (is_clash t.text text) table) n in
    sym (e ∙ same ∙ told (is_clash t.text (spelled members name t)))
