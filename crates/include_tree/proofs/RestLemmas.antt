-- The items of a file that are left, one call at a time.
use Rattle.std.proofs.Common.{◌≡◌, ℕ, ◌+◌, ◌<◌, ◌≤◌, List, [], drop, length, Option, Some, None, Result, Ok, Err, sym, ◌∙◌, ap, subst, arith}
use Rattle.std.specs.Prelude.{IfSome, slice_get}
use Rattle.cs_base.specs.Answer.{Gives}
use Rattle.cs_base.specs.Units.{UnitValue}
use Rattle.source_files.specs.declared.pre_fault.PreFault.{PreFault}
use Rattle.source_files.specs.Files.{Source, SourceFile}
use Rattle.source_files.specs.Faults.{Fault}
use Rattle.source_files.specs.Answers.{fault_of}
use Rattle.unit_steps.specs.State.{State}
use Rattle.unit_steps.specs.Texts.{UnitTextValue}
use Rattle.unit_steps.specs.Keeping.{put_after}
use Rattle.include_tree.specs.Sections.{Section}
use Rattle.include_tree.specs.GivenFiles.{unit_context}
use Rattle.include_tree.specs.Leads.{rest_at}
use Rattle.include_tree.specs.Walk.{ItemText, items_in, walk, file_end, file_items}
use Rattle.include_tree.specs.Walking.{inner_in}
use Rattle.include_tree.proofs.StayingLemmas.{some_three}
use Rattle.include_tree.proofs.WalkingLemmas.{fault_on}
use Rattle.include_tree.proofs.WalkedLemmas.{some-more, some-fault, walk-end}
use Rattle.include_tree.proofs.WalksLemmas.{rest_of, item_of}

gives-along : (r : Result (Unit {0}) PreFault) (s : State) (k : UnitTextValue) (x y : Result (State × UnitTextValue) Fault) → y ≡ x
    → Gives (λ _. (s, k)) fault_of r x → Gives (λ _. (s, k)) fault_of r y
gives-along r s k x y is h = subst (λ (z : Result (State × UnitTextValue) Fault). Gives (λ _. (s, k)) fault_of r z) (sym is) h

-- what is the same for a file, if there is one, along what it gives
pub some-along : (q : Option SourceFile) (A B : SourceFile → Result (State × UnitTextValue) Fault) (r : Result (Unit {0}) PreFault) (s : State) (k : UnitTextValue)
    → IfSome q (λ file. A file ≡ B file) → IfSome q (λ file. Gives (λ _. (s, k)) fault_of r (B file)) → IfSome q (λ file. Gives (λ _. (s, k)) fault_of r (A file))
some-along None A B r s k is h = tt
some-along (Some file) A B r s k is h = gives-along r s k (B file) (A file) is h

pub some-trans : (q : Option SourceFile) (A B C : SourceFile → Result (State × UnitTextValue) Fault)
    → IfSome q (λ file. A file ≡ B file) → IfSome q (λ file. B file ≡ C file) → IfSome q (λ file. A file ≡ C file)
some-trans None A B C h k = tt
some-trans (Some file) A B C h k = h ∙ k

pub some-faulted : (q : Option SourceFile) (found : Option Fault) (A B : SourceFile → Result (State × UnitTextValue) Fault)
    → IfSome q (λ file. A file ≡ B file) → IfSome q (λ file. IfSome found (λ f. B file ≡ Err f)) → IfSome q (λ file. IfSome found (λ f. A file ≡ Err f))
some-faulted None found A B h k = tt
some-faulted (Some file) found A B h k = fault_on found (B file) (A file) k (λ f is. h ∙ is)

pub rest-begins : (source : Source) (q : Option SourceFile) (unit : UnitValue) (toks k : ℕ) (s : State) (text : UnitTextValue) (sections : List Section) → sections ≡ []
    → IfSome q (λ file. rest_at (unit_context source unit toks) file k s text
    ≡ put_after text (walk (unit_context source unit toks) (inner_in (unit_context source unit toks) 199) file k (drop k (items_in file)) sections s))
rest-begins source None unit toks k s text sections none = tt
rest-begins source (Some file) unit toks k s text sections none =
    ap (λ (xs : List Section). put_after text (walk (unit_context source unit toks) (inner_in (unit_context source unit toks) 199) file k (drop k (items_in file)) xs s)) (sym none)

module _ (source : Source) (q : Option SourceFile) (unit : UnitValue) (toks room : ℕ) (start : State) (before : UnitTextValue)
    (all : SourceFile → Result (State × UnitTextValue) Fault) where
  abbrev left : SourceFile → ℕ → List Section → State → UnitTextValue → Result (State × UnitTextValue) Fault
  left file k sections s text = rest_of source q unit toks room start before file k sections s text

  abbrev gives : SourceFile → ℕ → ℕ → ItemText → List Section → State → UnitTextValue → Result (List Section × State × UnitTextValue) Fault
  gives file count k i sections s text = item_of source q unit toks room start before file count k i sections s text

  module _ (q1 : Option SourceFile) (toks1 n k : ℕ) (sections : List Section) (s : State) (text : UnitTextValue)
      (same : q1 ≡ q) (counted : toks1 ≡ toks) (count : IfSome q (λ file. n ≡ length (items_in file))) (within : k < n)
      (rest : IfSome q (λ file. all file ≡ left file k sections s text)) where
    item-here : (P : Result (List Section × State × UnitTextValue) Fault → Type 0)
        → IfSome q1 (λ file. IfSome (slice_get (items_in file) k) (λ i. P (gives file toks1 k i sections s text)))
        → IfSome q (λ file. IfSome (slice_get (items_in file) k) (λ i. P (gives file toks k i sections s text)))
    item-here P h =
        subst (λ (c : ℕ). IfSome q (λ file. IfSome (slice_get (items_in file) k) (λ i. P (gives file c k i sections s text)))) counted
        (subst (λ (x : Option SourceFile). IfSome x (λ file. IfSome (slice_get (items_in file) k) (λ i. P (gives file toks1 k i sections s text)))) same h)

    pub rest-goes : (more : List Section) (t : State) (new : UnitTextValue)
        → IfSome q1 (λ file. IfSome (slice_get (items_in file) k) (λ i. gives file toks1 k i sections s text ≡ Ok (more, t, new)))
        → IfSome q (λ file. all file ≡ left file (k + 1) more t new)
    rest-goes more t new h =
        some_three q (λ file. all file ≡ left file k sections s text) (λ file. n ≡ length (items_in file))
        (λ file. IfSome (slice_get (items_in file) k) (λ i. gives file toks k i sections s text ≡ Ok (more, t, new)))
        (λ file. all file ≡ left file (k + 1) more t new) rest count
        (item-here (λ (x : Result (List Section × State × UnitTextValue) Fault). x ≡ Ok (more, t, new)) h)
        (λ file x c y. x ∙ some-more (unit_context source unit toks) (inner_in (unit_context source unit toks) room) file k (items_in file) sections s text more t new (omega (arith, c, within)) y)

    pub rest-faulted : (found : Option Fault)
        → IfSome q1 (λ file. IfSome (slice_get (items_in file) k) (λ i. IfSome found (λ f. gives file toks1 k i sections s text ≡ Err f)))
        → IfSome q (λ file. IfSome found (λ f. all file ≡ Err f))
    rest-faulted found h =
        some_three q (λ file. all file ≡ left file k sections s text) (λ file. n ≡ length (items_in file))
        (λ file. IfSome (slice_get (items_in file) k) (λ i. IfSome found (λ f. gives file toks k i sections s text ≡ Err f)))
        (λ file. IfSome found (λ f. all file ≡ Err f)) rest count
        (item-here (λ (x : Result (List Section × State × UnitTextValue) Fault). IfSome found (λ f. x ≡ Err f)) h)
        (λ file x c y. fault_on found (left file k sections s text) (all file)
        (some-fault (unit_context source unit toks) (inner_in (unit_context source unit toks) room) file k (items_in file) sections s text found (omega (arith, c, within)) y)
        (λ f is. x ∙ is))

  pub rest-ends : (q1 : Option SourceFile) (n k : ℕ) (sections : List Section) (s : State) (text : UnitTextValue) (r : Result (Unit {0}) PreFault) → q1 ≡ q
      → IfSome q (λ file. n ≡ length (items_in file)) → n ≤ k
      → IfSome q (λ file. all file ≡ left file k sections s text)
      → IfSome q1 (λ file. (t : State) (x : UnitTextValue) → Gives (λ _. (t, x)) fault_of r (put_after x (file_end file sections t)))
      → IfSome q (λ file. Gives (λ _. (s, text)) fault_of r (all file))
  rest-ends q1 n k sections s text r same count past rest end =
      some_three q (λ file. all file ≡ left file k sections s text) (λ file. n ≡ length (items_in file))
      (λ file. (t : State) (x : UnitTextValue) → Gives (λ _. (t, x)) fault_of r (put_after x (file_end file sections t))) (λ file. Gives (λ _. (s, text)) fault_of r (all file)) rest count
      (subst (λ (x : Option SourceFile). IfSome x (λ file. (t : State) (y : UnitTextValue) → Gives (λ _. (t, y)) fault_of r (put_after y (file_end file sections t)))) same end)
      (λ file x c y. gives-along r s text (put_after text (file_end file sections s)) (all file)
      (x ∙ walk-end (unit_context source unit toks) (inner_in (unit_context source unit toks) room) file k (items_in file) sections s text (omega (arith, c, past))) (y s text))

-- ---- from one line to the next

pub some-begins : (source : Source) (q : Option SourceFile) (unit : UnitValue) (toks : ℕ) (s : State) (text : UnitTextValue) {j k : ℕ} → k ≡ j
    → IfSome q (λ file. rest_at (unit_context source unit toks) file j s text ≡ rest_at (unit_context source unit toks) file k s text)
some-begins source None unit toks s text is = tt
some-begins source (Some file) unit toks s text is = ap (λ (n : ℕ). rest_at (unit_context source unit toks) file n s text) (sym is)

pub some-next : (source : Source) (q q1 : Option SourceFile) (unit : UnitValue) (toks toks1 j k : ℕ) (s t u : State) (text text2 text3 : UnitTextValue) → q1 ≡ q → toks1 ≡ toks
    → IfSome q (λ file. rest_at (unit_context source unit toks) file j s text ≡ rest_at (unit_context source unit toks) file k t text2)
    → IfSome q1 (λ file. rest_at (unit_context source unit toks1) file k t text2 ≡ rest_at (unit_context source unit toks1) file (k + 1) u text3)
    → IfSome q (λ file. rest_at (unit_context source unit toks) file j s text ≡ rest_at (unit_context source unit toks) file (k + 1) u text3)
some-next source q q1 unit toks toks1 j k s t u text text2 text3 same counted rest step =
    some-trans q (λ file. rest_at (unit_context source unit toks) file j s text) (λ file. rest_at (unit_context source unit toks) file k t text2)
    (λ file. rest_at (unit_context source unit toks) file (k + 1) u text3) rest
    (subst (λ (c : ℕ). IfSome q (λ file. rest_at (unit_context source unit c) file k t text2 ≡ rest_at (unit_context source unit c) file (k + 1) u text3)) counted
    (subst (λ (x : Option SourceFile). IfSome x (λ file. rest_at (unit_context source unit toks1) file k t text2 ≡ rest_at (unit_context source unit toks1) file (k + 1) u text3)) same step))

pub some-stops : (source : Source) (q q1 : Option SourceFile) (unit : UnitValue) (toks toks1 j k : ℕ) (s t : State) (text text2 : UnitTextValue) (found : Option Fault) → q1 ≡ q → toks1 ≡ toks
    → IfSome q (λ file. rest_at (unit_context source unit toks) file j s text ≡ rest_at (unit_context source unit toks) file k t text2)
    → IfSome q1 (λ file. IfSome found (λ f. rest_at (unit_context source unit toks1) file k t text2 ≡ Err f))
    → IfSome q (λ file. IfSome found (λ f. rest_at (unit_context source unit toks) file j s text ≡ Err f))
some-stops source q q1 unit toks toks1 j k s t text text2 found same counted rest step =
    some-faulted q found (λ file. rest_at (unit_context source unit toks) file j s text) (λ file. rest_at (unit_context source unit toks) file k t text2) rest
    (subst (λ (c : ℕ). IfSome q (λ file. IfSome found (λ f. rest_at (unit_context source unit c) file k t text2 ≡ Err f))) counted
    (subst (λ (x : Option SourceFile). IfSome x (λ file. IfSome found (λ f. rest_at (unit_context source unit toks1) file k t text2 ≡ Err f))) same step))

-- ---- what a unit begins with, and the rest

module _ (source : Source) (q : Option SourceFile) (unit : UnitValue) (toks j : ℕ) (s0 s1 : State) (text0 text1 : UnitTextValue)
    (put : IfSome q (λ file. put_after text0 (file_items (unit_context source unit toks) 199 file s0) ≡ rest_at (unit_context source unit toks) file j s1 text1)) where
  abbrev all_items : SourceFile → Result (State × UnitTextValue) Fault
  all_items file = put_after text0 (file_items (unit_context source unit toks) 199 file s0)

  abbrev from_there : SourceFile → Result (State × UnitTextValue) Fault
  from_there file = rest_at (unit_context source unit toks) file j s1 text1

  pub shared-rest : (q2 : Option SourceFile) (toks2 k : ℕ) (s2 u : State) (text2 text3 : UnitTextValue) (r : Result (Unit {0}) PreFault) → q2 ≡ q → toks2 ≡ toks
      → IfSome q (λ file. from_there file ≡ rest_at (unit_context source unit toks) file k s2 text2)
      → IfSome q2 (λ file. Gives (λ _. (u, text3)) fault_of r (rest_at (unit_context source unit toks2) file k s2 text2))
      → IfSome q (λ file. Gives (λ _. (u, text3)) fault_of r (all_items file))
  shared-rest q2 toks2 k s2 u text2 text3 r same counted along rest =
      some-along q all_items (λ file. rest_at (unit_context source unit toks) file k s2 text2) r u text3
      (some-trans q all_items from_there (λ file. rest_at (unit_context source unit toks) file k s2 text2) put along)
      (subst (λ (c : ℕ). IfSome q (λ file. Gives (λ _. (u, text3)) fault_of r (rest_at (unit_context source unit c) file k s2 text2))) counted
      (subst (λ (x : Option SourceFile). IfSome x (λ file. Gives (λ _. (u, text3)) fault_of r (rest_at (unit_context source unit toks2) file k s2 text2))) same rest))

  pub shared-stops : (found : Option Fault) → IfSome q (λ file. IfSome found (λ f. from_there file ≡ Err f)) → IfSome q (λ file. IfSome found (λ f. all_items file ≡ Err f))
  shared-stops found h = some-faulted q found all_items from_there put h
