-- Two first offences among some are one: they stand at one place and have one cause, where each path of the table stands once.
use Rattle.std.proofs.Common.{◌≡◌, ℕ, List, [], Option, None, Some, refl, sym, ap, subst, ◌∙◌}
use Rattle.std.specs.Prelude.{slice_get}
use Rattle.std.specs.Cmp.{IsTotalOrder}
use Rattle.std.specs.Cmp.Lexicographic.{slice_cmp}
use Rattle.std.specs.Option.{option_map_or}
use Rattle.std.specs.Ordering.{nat_cmp, ordering_then, ordering_reverse}
use Rattle.std.specs.declared.cmp.Ordering.{Ordering}
use Rattle.std.specs.declared.cmp.Ordering.TheVariants.{Less, Equal, Greater}
use Rattle.std.proofs.lemmas.Cmp.{then_total, on_total, nat_list_cmp_total, nat_cmp_total}
use Rattle.std.proofs.lemmas.Option.{none-some, same_Some}
use Rattle.cs_base.specs.declared.causes.Cause.{Cause}
use Rattle.cs_base.specs.declared.positions.Place.{Place}
use Rattle.cs_base.specs.declared.positions.Pos.{Pos}
use Rattle.cs_base.specs.Order.{number_of}
use Rattle.analysis.specs.Below.source_files.Files.{Table, lines_path}
use Rattle.analysis.specs.Below.source_files.KeptFiles.{KeptValue, kept_at}
use Rattle.analysis.specs.Below.source_files.Tables.{paths_in, HasEachOnce}
use Rattle.analysis.specs.Analysis.{AnalysisValue}
use Rattle.analysis.specs.Places.{place_at, place_in_file, place_in_lines}
use Rattle.offences.specs.declared.firsts.Offence.{Offence}
use Rattle.offences.specs.First.{offence_cmp, path_of, position_cmp, IsAmong, IsFirst}
use Rattle.offences.specs.Refusals.{refused_for}
use Rattle.offences.proofs.PlaceLemmas.{one_place, kept_there}
use Rattle.offences.specs.declared.refusals.Refusal.TheVariants as refusal
use Rattle.cs_base.proofs.CauseLemmas.{one_cause}
use Rattle.cs_base.proofs.OrderLemmas.{nat_cmp-tie as number_equal, tied}

-- ---- orders

then_equal : (o p : Ordering) → ordering_then o p ≡ Equal → (o ≡ Equal) × (p ≡ Equal)
then_equal Less p e = cc
then_equal Equal p e = (refl, e)
then_equal Greater p e = cc

offences_total : (table : Table) → IsTotalOrder (offence_cmp table)
offences_total table =
    then_total
    (then_total (on_total (λ (o : Offence). path_of table o.at.file) nat_list_cmp_total) (on_total (λ (o : Offence). o.at.at) nat_cmp_total))
    (on_total (λ (o : Offence). number_of o.cause) nat_cmp_total)

neither_first : (table : Table) (o p : Offence) → (offence_cmp table o p ≡ Less → ⊥) → (offence_cmp table p o ≡ Less → ⊥) → offence_cmp table o p ≡ Equal
neither_first table o p before behind = by (offence_cmp table o p) refl
  where
    by : (c : Ordering) → offence_cmp table o p ≡ c → offence_cmp table o p ≡ Equal
    by Less e = absurd (before e)
    by Equal e = e
    by Greater e = absurd (behind (let total = offences_total table in total.antisymm p o ∙ ap ordering_reverse e))

-- ---- places

-- the number of the table that a path has
module _ (table : Table) (once : HasEachOnce table) (lines : kept_at table 0 ≡ None) (first : slice_get (paths_in table) 0 ≡ Some lines_path) where
  -- no kept file has the path of the pseudo file of lines
  not_lines : (n : ℕ) (f : KeptValue) → kept_at table n ≡ Some f → f.path ≡ lines_path → ⊥
  not_lines n f is same =
      let zero_is : n ≡ 0 = one_place (paths_in table) n 0 lines_path once (kept_there table n f is ∙ ap (λ (p : List ℕ). Some p) same) first in
      none-some f (sym lines ∙ (ap (kept_at table) (sym zero_is) ∙ is))

  one_file : (n k : ℕ) (f g : KeptValue) → kept_at table n ≡ Some f → kept_at table k ≡ Some g → f.path ≡ g.path → f ≡ g
  one_file n k f g is also same =
      let number : n ≡ k = one_place (paths_in table) n k g.path once (kept_there table n f is ∙ ap (λ (p : List ℕ). Some p) same) (kept_there table k g also) in
      same_Some f g (sym is ∙ (ap (kept_at table) number ∙ also))

  -- one path and one character are one place
  one_place_at : (p q : Pos) → path_of table p.file ≡ path_of table q.file → p.at ≡ q.at → place_at table p ≡ place_at table q
  one_place_at p q path at = by (kept_at table p.file) (kept_at table q.file) refl refl
    where
      told : (x y : Option KeptValue) → kept_at table p.file ≡ x → kept_at table q.file ≡ y
          → option_map_or (λ (f : KeptValue). f.path) x lines_path ≡ option_map_or (λ (f : KeptValue). f.path) y lines_path
      told x y e f = sym (ap (λ (o : Option KeptValue). option_map_or (λ (g : KeptValue). g.path) o lines_path) e)
          ∙ (path ∙ ap (λ (o : Option KeptValue). option_map_or (λ (g : KeptValue). g.path) o lines_path) f)

      place_by : (r : Pos) (x : Option KeptValue) → kept_at table r.file ≡ x → place_at table r ≡ option_map_or (place_in_file r) x (place_in_lines r)
      place_by r x e = ap (λ (o : Option KeptValue). option_map_or (place_in_file r) o (place_in_lines r)) e

      in_lines : (m n : ℕ) → m ≡ n → place_in_lines (record { file = p.file; at = m }) ≡ place_in_lines (record { file = q.file; at = n })
      in_lines m n e = ap (λ (k : ℕ). place_in_lines (record { file = p.file; at = k })) e

      in_file : (f g : KeptValue) → f ≡ g → place_in_file p f ≡ place_in_file q g
      in_file f g e =
          ap (λ (h : KeptValue). place_in_file p h) e ∙ ap (λ (k : ℕ). place_in_file (record { file = p.file; at = k }) g) at

      by : (x y : Option KeptValue) → kept_at table p.file ≡ x → kept_at table q.file ≡ y → place_at table p ≡ place_at table q
      by None None e f = place_by p None e ∙ (in_lines p.at q.at at ∙ sym (place_by q None f))
      by (Some f) None e g = absurd (not_lines p.file f e (told (Some f) None e g))
      by None (Some g) e f = absurd (not_lines q.file g f (sym (told None (Some g) e f)))
      by (Some f) (Some g) e k =
          place_by p (Some f) e ∙ (in_file f g (one_file p.file q.file f g e k (told (Some f) (Some g) e k)) ∙ sym (place_by q (Some g) k))

  -- two first offences among some stand at one place, and their causes have one number
  pub firsts_are_tied : (offences : List Offence) (o u : Offence) → IsFirst table offences (Some o) → IsFirst table offences (Some u)
      → (place_at table o.at ≡ place_at table u.at) × (number_of o.cause ≡ number_of u.cause)
  firsts_are_tied offences o u p q =
      let equal = neither_first table o u (λ e. q.1 o p.0 e) (λ e. p.1 u q.0 e) in
      let outer = then_equal (position_cmp table o.at u.at) (nat_cmp (number_of o.cause) (number_of u.cause)) equal in
      let inner = then_equal (slice_cmp nat_cmp (path_of table o.at.file) (path_of table u.at.file)) (nat_cmp o.at.at u.at.at) outer.0 in (
        one_place_at o.at u.at (tied (path_of table o.at.file) (path_of table u.at.file) inner.0) (number_equal o.at.at u.at.at inner.1),
        number_equal (number_of o.cause) (number_of u.cause) outer.1,
      )

-- so their refusals are one
pub one_refusal : (a : AnalysisValue) → HasEachOnce a.table → kept_at a.table 0 ≡ None → slice_get (paths_in a.table) 0 ≡ Some lines_path
    → (offences : List Offence) (o u : Offence) → IsFirst a.table offences (Some o) → IsFirst a.table offences (Some u) → refused_for a o ≡ refused_for a u
one_refusal a once lines first offences o u p q =
    let both = firsts_are_tied a.table once lines first offences o u p q in
    let cause_is : o.cause ≡ u.cause = one_cause o.cause u.cause both.1 in
    ap (λ (z : Place). refusal.Offence z o.cause) both.0 ∙ ap (λ (c : Cause). refusal.Offence (place_at a.table u.at) c) cause_is

-- where an offence stands there are some
pub none_stands : {X : Type 0} (xs : List X) (x : X) → xs ≡ [] → IsAmong xs x → ⊥
none_stands xs x none at = none-some x (subst (λ ys. slice_get ys at.0 ≡ Some x) none at.1)
