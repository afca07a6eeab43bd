-- Expansions of tokens that are alike.
use Rattle.std.proofs.Common.{◌≡◌, ℕ, zero, suc, ◌+◌, ◌-◌, ◌<◌, ◌≤◌, Bool, true, false, not, cond, List, [], ◌∷◌, ◌++◌, length, map, Option, Some, None, Result, Ok, Err, refl, ap, sym, subst, ◌∙◌, arith, nat_lt, length-append}
use Rattle.std.specs.List.{list_all}
use Rattle.std.specs.Option.{option_map}
use Rattle.std.proofs.lemmas.Bool.{ltb-false, le-ltb, and_parts}
use Rattle.std.proofs.lemmas.List.{length-map, map-append}
use Rattle.std.proofs.lemmas.List.Folds.{list_all-append}
use Rattle.std.proofs.lemmas.Option.{none-some, same_Some}
use Rattle.cs_base.specs.Token.{Token}
use Rattle.line_shape.specs.Signs.{is_open, is_close, is_comma}
use Rattle.macro_body.specs.declared.notes.Work.{Work}
use Rattle.macro_body.specs.declared.definitions.Form.{Form}
use Rattle.macro_body.specs.declared.definitions.Form.TheVariants as form
use Rattle.macro_body.specs.declared.definitions.Definition.{Definition}
use Rattle.macro_body.specs.Hides.{Hidden, hidden, hide_more}
use Rattle.macro_body.specs.Macro.{Table, is_function}
use Rattle.macro_body.specs.Bodies.{Part, chains_of, occurs_alone}
use Rattle.macro_expand.specs.Calls.{Call, Role, Closes, Separates, Belongs, role_of, level_after, fewer, onto_first, with_token, with_argument, call_step, call_from, commas_of, is_blank, arguments_of}
use Rattle.macro_body.specs.Notes.{Fault, OpenCall, WrongArguments, TooMuchWork, TooDeep, Note, Replaced, Linked, Expanded, expanded, put_out, noted, onward}
use Rattle.macro_body.specs.Substitution.{Arguments, Made, made, result_of, cost_of, path_string}
use Rattle.macro_expand.specs.Expansion.{Setting, Next, most_depth, one_more, stays, Full, full, with_full, without_full, alone, full_step, full_from, spent, substituted, put_for, links_name, first_notes, replaced, added_by, called_with, called, behind_name, act, macro_of, whole}
use Rattle.macro_body.proofs.ResultLemmas.{ok_same, err_ok, onward_ok, cond_ok, cond_ok_yes}
use Rattle.macro_expand.proofs.CallLemmas.{AllWithin, none, more, Shorter, call_shorter, arguments_within, arguments_mapped}
use Rattle.macro_expand.proofs.StepLemmas.{put_for_puts}
use Rattle.macro_expand.proofs.WholeLemmas.{whole_below_itself, whole_is_step, whole_falls}
use Rattle.expansion_laws.proofs.ClosureLemmas.{found_macro}
use Rattle.expansion_laws.specs.Alike.{kept_place, kept_origins, kept, stands_for_line, names_line, brings_no_line, ExpandsAlike}
use Rattle.expansion_laws.specs.Alike as alike
use Rattle.expansion_laws.proofs.PlainLemmas as plainly
use Rattle.expansion_laws.proofs.SplitLemmas.{first_same, rest_same}

module _ (far : Bool) where
  abbrev unlined : Token → Token
  unlined t = alike.unlined far t

  abbrev label : Bool → Token → Token
  label loose t = alike.label far loose t

  abbrev unlined_hidden : Hidden → Hidden
  unlined_hidden h = alike.unlined_hidden far h

  abbrev label_hidden : Bool → Hidden → Hidden
  label_hidden loose h = alike.label_hidden far loose h

  abbrev canon : Bool → List Hidden → List Hidden
  canon loose hs = alike.canon far loose hs

  abbrev plain_note : Note → Note
  plain_note n = alike.plain_note far n

  abbrev AreAlike : Bool → Work → Work → Expanded → Expanded → Type 0
  AreAlike loose work work2 e e2 = alike.AreAlike far loose work work2 e e2

  abbrev unlined_lists : List (List Hidden) → List (List Hidden)
  unlined_lists ls = plainly.unlined_lists far ls

  abbrev plain : List Hidden → List Hidden
  plain hs = plainly.plain far hs

  abbrev plain_arguments : Arguments → Arguments
  plain_arguments args = plainly.plain_arguments far args

  abbrev mapped : {A B : Type 0} → (A → B) → Result (Made A) Fault → Result (Made B) Fault
  mapped f r = plainly.mapped far f r

  abbrev mapped_ok : {A B : Type 0} (f : A → B) (r : Result (Made A) Fault) (b : Made B) → mapped f r ≡ Ok b
      → (m : Made A) × (r ≡ Ok m) × (f m.value ≡ b.value) × (map plain_note m.notes ≡ b.notes)
  mapped_ok f r b e = plainly.mapped_ok far f r b e

  -- ---- lists of tokens that are alike

  strict_canon : (loose : Bool) (xs ys : List Hidden) → map unlined_hidden xs ≡ map unlined_hidden ys → canon loose xs ≡ canon loose ys
  strict_canon loose [] [] e = refl
  strict_canon loose [] (y ∷ ys) e = absurd cc
  strict_canon loose (x ∷ xs) [] e = absurd cc
  strict_canon loose (x ∷ xs) (y ∷ ys) e =
      let here : unlined_hidden x ≡ unlined_hidden y = first_same (unlined_hidden x) (unlined_hidden y) (map unlined_hidden xs) (map unlined_hidden ys) e in
      let behind : map unlined_hidden xs ≡ map unlined_hidden ys = rest_same (unlined_hidden x) (unlined_hidden y) (map unlined_hidden xs) (map unlined_hidden ys) e in
      ap (λ (v : Hidden). hidden (record v.tok { gap = kept loose v.tok.gap }) v.hides ∷ map unlined_hidden xs) here ∙ ap (λ (l : List Hidden). label_hidden loose y ∷ l) behind

  pub canon_strict : (xs : List Hidden) → canon false xs ≡ map unlined_hidden xs
  canon_strict [] = refl
  canon_strict (x ∷ xs) = refl

  more_unlined : (added : List (List ℕ)) (xs : List Hidden) → map unlined_hidden (map (hide_more added) xs) ≡ map (hide_more added) (map unlined_hidden xs)
  more_unlined added [] = refl
  more_unlined added (x ∷ xs) = ap (λ (l : List Hidden). unlined_hidden (hide_more added x) ∷ l) (more_unlined added xs)

  more_same : (added : List (List ℕ)) (xs ys us vs : List Hidden) → map unlined_hidden xs ≡ map unlined_hidden ys → map unlined_hidden us ≡ map unlined_hidden vs
      → map unlined_hidden (map (hide_more added) xs ++ us) ≡ map unlined_hidden (map (hide_more added) ys ++ vs)
  more_same added xs ys us vs h k =
      map-append unlined_hidden (map (hide_more added) xs) us
      ∙ ap (λ (l : List Hidden). l ++ map unlined_hidden us) (more_unlined added xs ∙ ap (map (hide_more added)) h ∙ sym (more_unlined added ys))
      ∙ ap (λ (l : List Hidden). map unlined_hidden (map (hide_more added) ys) ++ l) k
      ∙ sym (map-append unlined_hidden (map (hide_more added) ys) vs)

  joined : (loose : Bool) (added : List (List ℕ)) (xs ys us vs : List Hidden) → canon loose xs ≡ canon loose ys → map unlined_hidden us ≡ map unlined_hidden vs
      → canon loose (map (hide_more added) xs ++ us) ≡ canon loose (map (hide_more added) ys ++ vs)
  joined loose added [] [] us vs h k = strict_canon loose us vs k
  joined loose added [] (y ∷ ys) us vs h k = absurd cc
  joined loose added (x ∷ xs) [] us vs h k = absurd cc
  joined loose added (x ∷ xs) (y ∷ ys) us vs h k =
      let here : label_hidden loose x ≡ label_hidden loose y = first_same (label_hidden loose x) (label_hidden loose y) (map unlined_hidden xs) (map unlined_hidden ys) h in
      let behind : map unlined_hidden xs ≡ map unlined_hidden ys = rest_same (label_hidden loose x) (label_hidden loose y) (map unlined_hidden xs) (map unlined_hidden ys) h in
      ap (λ (v : Hidden). hide_more added v ∷ map unlined_hidden (map (hide_more added) xs ++ us)) here
      ∙ ap (λ (l : List Hidden). label_hidden loose (hide_more added y) ∷ l) (more_same added xs ys us vs behind k)

  -- ---- calls

  abbrev call_plain : Call → Call
  call_plain call = record { arguments = unlined_lists call.arguments; close = call.close; rest = map unlined_hidden call.rest }

  onto_plain : (t : Hidden) (lists : List (List Hidden)) → onto_first (unlined_hidden t) (unlined_lists lists) ≡ unlined_lists (onto_first t lists)
  onto_plain t [] = refl
  onto_plain t (l ∷ ls) = refl

  with_token_plain : (t : Hidden) (call : Option Call) → option_map (with_token (unlined_hidden t)) (option_map call_plain call) ≡ option_map call_plain (option_map (with_token t) call)
  with_token_plain t None = refl
  with_token_plain t (Some call) = ap (λ (lists : List (List Hidden)). Some (record { arguments = lists; close = call.close; rest = map unlined_hidden call.rest })) (onto_plain t call.arguments)

  with_argument_plain : (call : Option Call) → option_map with_argument (option_map call_plain call) ≡ option_map call_plain (option_map with_argument call)
  with_argument_plain None = refl
  with_argument_plain (Some call) = refl

  step_plain : (t : Hidden) (ts : List Hidden) (commas : Option ℕ) (level : ℕ)
      → ((c : Option ℕ) (l : ℕ) → call_from (map unlined_hidden ts) c l ≡ option_map call_plain (call_from ts c l)) → (role : Role)
      → call_step role commas level (unlined_hidden t) (map unlined_hidden ts) (call_from (map unlined_hidden ts)) ≡ option_map call_plain (call_step role commas level t ts (call_from ts))
  unfolding is_open is_close
  step_plain t ts commas level later Closes = refl
  step_plain t ts commas level later Separates = ap (option_map with_argument) (later (fewer commas) level) ∙ with_argument_plain (call_from ts (fewer commas) level)
  step_plain t ts commas level later Belongs =
      ap (option_map (with_token (unlined_hidden t))) (later commas (level_after t.tok level))
      ∙ with_token_plain t (call_from ts commas (level_after t.tok level))

  role_plain : (commas : Option ℕ) (level : ℕ) (t : Token) → role_of commas level (unlined t) ≡ role_of commas level t
  unfolding is_close is_comma
  role_plain commas (suc level) t = refl
  role_plain commas zero t = refl

  call_from_plain : (ts : List Hidden) (commas : Option ℕ) (level : ℕ) → call_from (map unlined_hidden ts) commas level ≡ option_map call_plain (call_from ts commas level)
  unfolding call_from
  call_from_plain [] commas level = refl
  call_from_plain (t ∷ ts) commas level =
      ap (λ (r : Role). call_step r commas level (unlined_hidden t) (map unlined_hidden ts) (call_from (map unlined_hidden ts))) (role_plain commas level t.tok)
      ∙ step_plain t ts commas level (call_from_plain ts) (role_of commas level t.tok)

  blank_plain : (lists : List (List Hidden)) → is_blank (unlined_lists lists) ≡ is_blank lists
  blank_plain [] = refl
  blank_plain ([] ∷ []) = refl
  blank_plain ([] ∷ l ∷ ls) = refl
  blank_plain ((h ∷ hs) ∷ ls) = refl

  arguments_plain : (m : Definition) (lists : List (List Hidden)) → arguments_of m (unlined_lists lists) ≡ option_map unlined_lists (arguments_of m lists)
  arguments_plain m lists = arguments_mapped (map unlined_hidden) refl m m refl refl refl lists (blank_plain lists)

  -- what becomes alike, is there in the other too
  some_alike : {A B : Type 0} (f : A → B) (x y : Option A) (a : A) → option_map f y ≡ option_map f x → x ≡ Some a → (b : A) × (y ≡ Some b) × (f b ≡ f a)
  some_alike f x (Some b) a same is = (b, refl, same_Some (f b) (f a) (same ∙ ap (option_map f) is))
  some_alike f x None a same is = absurd (none-some (f a) (same ∙ ap (option_map f) is))

  -- ---- what is put in

  unfoldable AlikeBelow : Setting → ℕ → Type 0
  AlikeBelow set b = (loose : Bool) (depth before before2 : ℕ) (ts ts2 : List Hidden) (work work2 : Work) (e : Expanded) → work.left + length ts < b
      → whole set depth before ts work ≡ Ok e → canon loose ts2 ≡ canon loose ts → work.left ≤ e.left.left + work2.left → list_all (brings_no_line set.table) e.notes ≡ true
      → (e2 : Expanded) × (whole set depth before2 ts2 work2 ≡ Ok e2) × AreAlike loose work work2 e e2

  -- the same of expanded arguments
  record FullAlike (work work2 : Work) (f f2 : Full) : Type 0 where
    lists : map plain f2.lists ≡ map plain f.lists
    notes : map plain_note f2.notes ≡ map plain_note f.notes
    cost : f2.left.left + work.left ≡ f.left.left + work2.left
    counters : (f.left.counter ≡ work.counter) × (f2.left.counter ≡ work2.counter)

  notes_parts : (p : Note → Bool) (xs ys : List Note) → list_all p (xs ++ ys) ≡ true → (list_all p xs ≡ true) × (list_all p ys ≡ true)
  notes_parts p xs ys h = and_parts (list_all p xs) (list_all p ys) (sym (list_all-append p xs ys) ∙ h)

  notes_join : (xs ys us vs : List Note) → map plain_note xs ≡ map plain_note us → map plain_note ys ≡ map plain_note vs → map plain_note (xs ++ ys) ≡ map plain_note (us ++ vs)
  notes_join xs ys us vs h k =
      map-append plain_note xs ys ∙ ap (λ (l : List Note). l ++ map plain_note ys) h ∙ ap (λ (l : List Note). map plain_note us ++ l) k ∙ sym (map-append plain_note us vs)

  step_falls : (set : Setting) (depth before : ℕ) (name : Token) (a : List Hidden) (work : Work) (rest : Work → Result Full Fault)
      → ((w : Work) (v : Full) → rest w ≡ Ok v → v.left.left ≤ w.left) → (wanted : Bool) (f : Full) → full_step wanted (whole set) depth before name a work rest ≡ Ok f → f.left.left ≤ work.left
  step_falls set depth before name a work rest later false f e =
      let j = onward_ok {A = Full} (rest work) (λ v. Ok (without_full v)) f e in
      let same : j.0.left.left ≡ f.left.left = ap (λ (v : Full). v.left.left) (ok_same (without_full j.0) f j.2) in
      let k = later work j.0 j.1 in
      omega (arith, same)
  step_falls set depth before name a work rest later true f e =
      let i = onward_ok {A = Expanded} (alone (whole set) depth before name a work) (λ v. onward (rest v.left) (λ w. Ok (with_full v w))) f e in
      let c = cond_ok_yes (nat_lt depth most_depth) (TooDeep name.at) (whole set (suc depth) before a work) i.0 i.1 in
      let j = onward_ok {A = Full} (rest i.0.left) (λ w. Ok (with_full i.0 w)) f i.2 in
      let same : j.0.left.left ≡ f.left.left = ap (λ (v : Full). v.left.left) (ok_same (with_full i.0 j.0) f j.2) in
      let k = later i.0.left j.0 j.1 in
      let k2 = whole_falls set (suc depth) before a work i.0 c.1 in
      omega (arith, same)

  full_falls : (set : Setting) (depth before : ℕ) (name : Token) (chains : List (List Part)) (i : ℕ) (raw : List (List Hidden)) (work : Work) (f : Full)
      → full_from (whole set) depth before name chains i raw work ≡ Ok f → f.left.left ≤ work.left
  full_falls set depth before name chains i [] work f is =
      let same : work.left ≡ f.left.left = ap (λ (v : Full). v.left.left) (ok_same (full [] [] work) f is) in omega (arith, same)
  full_falls set depth before name chains i (a ∷ raw) work f is =
      step_falls set depth before name a work (full_from (whole set) depth before name chains (suc i) raw) (full_falls set depth before name chains (suc i) raw) (occurs_alone i chains) f is

  -- what is the same of other arguments that are expanded from so much work on
  abbrev FullToo : Work → Work → Full → Result Full Fault → Type 0
  FullToo work work2 f r2 = (f2 : Full) × (r2 ≡ Ok f2) × FullAlike work work2 f f2

  -- so it is with the arguments behind one
  abbrev FullLater : Setting → Work → (Work → Result Full Fault) → (Work → Result Full Fault) → Type 0
  FullLater set work rest rest2 = (w w2 : Work) (f : Full) → w.left ≤ work.left → rest w ≡ Ok f → w.left ≤ f.left.left + w2.left → list_all (brings_no_line set.table) f.notes ≡ true → FullToo w w2 f (rest2 w2)

  step_alike : (set : Setting) (b : ℕ) → AlikeBelow set b → (depth before before2 : ℕ) (name name2 : Token) (a a2 : List Hidden) → map unlined_hidden a2 ≡ map unlined_hidden a
      → (work work2 : Work) → work.left + length a < b → (rest rest2 : Work → Result Full Fault) → ((w : Work) (v : Full) → rest w ≡ Ok v → v.left.left ≤ w.left) → FullLater set work rest rest2
      → (wanted : Bool) (f : Full) → full_step wanted (whole set) depth before name a work rest ≡ Ok f → work.left ≤ f.left.left + work2.left → list_all (brings_no_line set.table) f.notes ≡ true
      → FullToo work work2 f (full_step wanted (whole set) depth before2 name2 a2 work2 rest2)
  unfolding AlikeBelow
  step_alike set b below depth before before2 name name2 a a2 same work work2 h rest rest2 falls later false f e room told =
      let j = onward_ok {A = Full} (rest work) (λ v. Ok (without_full v)) f e in
      let f_is : without_full j.0 ≡ f = ok_same (without_full j.0) f j.2 in
      let left_is : j.0.left.left ≡ f.left.left = ap (λ (v : Full). v.left.left) f_is in
      let told_there : list_all (brings_no_line set.table) j.0.notes ≡ true = ap (λ (v : Full). list_all (brings_no_line set.table) v.notes) f_is ∙ told in
      let k = later work work2 j.0 (omega arith) j.1 (omega (arith, left_is)) told_there in
      subst (λ (v : Full). FullToo work work2 v (full_step false (whole set) depth before2 name2 a2 work2 rest2)) f_is (
        without_full k.0,
        ap (λ (r : Result Full Fault). onward r (λ v. Ok (without_full v))) k.1,
        record { lists = ap (λ (l : List (List Hidden)). [] ∷ l) k.2.lists; notes = k.2.notes; cost = k.2.cost; counters = k.2.counters },
      )
  step_alike set b below depth before before2 name name2 a a2 same work work2 h rest rest2 falls later true f e room told =
      let i = onward_ok {A = Expanded} (alone (whole set) depth before name a work) (λ v. onward (rest v.left) (λ x. Ok (with_full v x))) f e in
      let c = cond_ok_yes (nat_lt depth most_depth) (TooDeep name.at) (whole set (suc depth) before a work) i.0 i.1 in
      let j = onward_ok {A = Full} (rest i.0.left) (λ x. Ok (with_full i.0 x)) f i.2 in
      let f_is : with_full i.0 j.0 ≡ f = ok_same (with_full i.0 j.0) f j.2 in
      let left_is : j.0.left.left ≡ f.left.left = ap (λ (v : Full). v.left.left) f_is in
      let told_there : list_all (brings_no_line set.table) (i.0.notes ++ j.0.notes) ≡ true = ap (λ (v : Full). list_all (brings_no_line set.table) v.notes) f_is ∙ told in
      let parts = notes_parts (brings_no_line set.table) i.0.notes j.0.notes told_there in
      let falls1 = falls i.0.left j.0 j.1 in
      let falls2 = whole_falls set (suc depth) before a work i.0 c.1 in
      let k = below true (suc depth) before before2 a a2 work work2 i.0 h c.1 (strict_canon true a2 a same) (omega (arith, left_is)) parts.0 in
      let cost1 = k.2.cost in
      let l = later i.0.left k.0.left j.0 falls2 j.1 (omega (arith, left_is)) parts.1 in
      let cost2 = l.2.cost in
      let alone_is : alone (whole set) depth before2 name2 a2 work2 ≡ Ok k.0 = ap (λ (v : Bool). cond v (whole set (suc depth) before2 a2 work2) (Err (TooDeep name2.at))) c.0 ∙ k.1 in
      subst (λ (v : Full). FullToo work work2 v (full_step true (whole set) depth before2 name2 a2 work2 rest2)) f_is (
        with_full k.0 l.0,
        ap (λ (r : Result Expanded Fault). onward r (λ v. onward (rest2 v.left) (λ x. Ok (with_full v x)))) alone_is ∙ ap (λ (r : Result Full Fault). onward r (λ x. Ok (with_full k.0 x))) l.1,
        record {
          lists = ap (λ (v : List Hidden). v ∷ map plain l.0.lists) k.2.toks ∙ ap (λ (v : List (List Hidden)). plain i.0.toks ∷ v) l.2.lists;
          notes = notes_join k.0.notes l.0.notes i.0.notes j.0.notes k.2.notes l.2.notes;
          cost = omega arith;
          counters = (l.2.counters.0 ∙ k.2.counters.0, l.2.counters.1 ∙ k.2.counters.1);
        },
      )

  first_lists : (a a2 : List Hidden) (raw raw2 : List (List Hidden)) → unlined_lists (a2 ∷ raw2) ≡ unlined_lists (a ∷ raw) → map unlined_hidden a2 ≡ map unlined_hidden a
  first_lists a a2 raw raw2 e = cc

  rest_lists : (a a2 : List Hidden) (raw raw2 : List (List Hidden)) → unlined_lists (a2 ∷ raw2) ≡ unlined_lists (a ∷ raw) → unlined_lists raw2 ≡ unlined_lists raw
  rest_lists a a2 raw raw2 e = cc

  full_alike : (set : Setting) (b : ℕ) → AlikeBelow set b → (depth before before2 : ℕ) (name name2 : Token) (chains : List (List Part)) (i n : ℕ) (raw raw2 : List (List Hidden))
      → AllWithin n raw → unlined_lists raw2 ≡ unlined_lists raw → (work work2 : Work) → work.left + n < b → (f : Full)
      → full_from (whole set) depth before name chains i raw work ≡ Ok f → work.left ≤ f.left.left + work2.left → list_all (brings_no_line set.table) f.notes ≡ true
      → FullToo work work2 f (full_from (whole set) depth before2 name2 chains i raw2 work2)
  full_alike set b below depth before before2 name name2 chains i n [] (a2 ∷ raw2) within same work work2 h f is room told = absurd cc
  full_alike set b below depth before before2 name name2 chains i n (a ∷ raw) [] within same work work2 h f is room told = absurd cc
  full_alike set b below depth before before2 name name2 chains i n [] [] within same work work2 h f is room told =
      subst (λ (v : Full). FullToo work work2 v (full_from (whole set) depth before2 name2 chains i [] work2)) (ok_same (full [] [] work) f is)
      (full [] [] work2, refl, record { lists = refl; notes = refl; cost = omega arith; counters = (refl, refl) })
  full_alike set b below depth before before2 name name2 chains i n (a ∷ raw) (a2 ∷ raw2) (more here behind) same work work2 h f is room told =
      step_alike set b below depth before before2 name name2 a a2 (first_lists a a2 raw raw2 same) work work2 (omega arith)
      (full_from (whole set) depth before name chains (suc i) raw) (full_from (whole set) depth before2 name2 chains (suc i) raw2)
      (full_falls set depth before name chains (suc i) raw)
      (λ w w2 g le g_is g_room g_told. full_alike set b below depth before before2 name name2 chains (suc i) n raw raw2 behind (rest_lists a a2 raw raw2 same) w w2 (omega arith) g g_is g_room g_told)
      (occurs_alone i chains) f is room told

  -- the other replacement, with the same cost
  spent_alike : (loose : Bool) (name name2 : Token) (cost : ℕ) (work work2 : Work) (r r2 : Result (Made (List Hidden)) Fault) (e : Expanded) → spent name cost work r ≡ Ok e
      → mapped (canon loose) r2 ≡ mapped (canon loose) r → work.left ≤ e.left.left + work2.left → (e2 : Expanded) × (spent name2 cost work2 r2 ≡ Ok e2) × AreAlike loose work work2 e e2
  spent_alike loose name name2 cost work work2 r r2 e is same room =
      let c = cond_ok (nat_lt work.left cost) (TooMuchWork name.at) (onward r (λ m. Ok (expanded m.value m.notes (record work { left = work.left - cost })))) e is in
      let i = onward_ok {A = Made (List Hidden)} r (λ m. Ok (expanded m.value m.notes (record work { left = work.left - cost }))) e c.1 in
      let e_is : expanded i.0.value i.0.notes (record work { left = work.left - cost }) ≡ e = ok_same (expanded i.0.value i.0.notes (record work { left = work.left - cost })) e i.2 in
      let left_is : work.left - cost ≡ e.left.left = ap (λ (v : Expanded). v.left.left) e_is in
      let k = mapped_ok (canon loose) r2 (made (canon loose i.0.value) (map plain_note i.0.notes)) (same ∙ ap (mapped (canon loose)) i.1) in
      let enough = ltb-false work.left cost c.0 in
      let enough2 : cost ≤ work2.left = omega (arith, left_is) in
      let e2 : Expanded = expanded k.0.value k.0.notes (record work2 { left = work2.left - cost }) in
      subst (λ (v : Expanded). (e2 : Expanded) × (spent name2 cost work2 r2 ≡ Ok e2) × AreAlike loose work work2 v e2) e_is (
        e2,
        ap (λ (v : Bool). cond v (Err (TooMuchWork name2.at)) (onward r2 (λ m. Ok (expanded m.value m.notes (record work2 { left = work2.left - cost }))))) (le-ltb work2.left cost enough2)
            ∙ ap (λ (v : Result (Made (List Hidden)) Fault). onward v (λ m. Ok (expanded m.value m.notes (record work2 { left = work2.left - cost })))) k.1,
        record { toks = k.2; notes = k.3; cost = omega arith; counters = (refl, refl) },
      )

  spent_falls : (name : Token) (cost : ℕ) (work : Work) (r : Result (Made (List Hidden)) Fault) (e : Expanded) → spent name cost work r ≡ Ok e → e.left.left ≤ work.left
  spent_falls name cost work r e is =
      let c = cond_ok (nat_lt work.left cost) (TooMuchWork name.at) (onward r (λ m. Ok (expanded m.value m.notes (record work { left = work.left - cost })))) e is in
      let i = onward_ok {A = Made (List Hidden)} r (λ m. Ok (expanded m.value m.notes (record work { left = work.left - cost }))) e c.1 in
      let left_is : work.left - cost ≡ e.left.left = ap (λ (v : Expanded). v.left.left) (ok_same (expanded i.0.value i.0.notes (record work { left = work.left - cost })) e i.2) in
      omega (arith, left_is)

  abbrev PutToo : Bool → Form → List ℕ → Next → ℕ → ℕ → Token → Definition → List (List Hidden) → Work → Work → Expanded → Type 0
  PutToo loose form path next depth before2 name2 m raw2 work work2 e =
      (e2 : Expanded) × (put_for form path next depth before2 name2 m raw2 work2 ≡ Ok e2) × AreAlike loose work work2 e e2

  substituted_alike : (loose : Bool) (set : Setting) (b : ℕ) → AlikeBelow set b → (depth before before2 : ℕ) (name name2 : Token) → label loose name2 ≡ label loose name → (m : Definition) (n : ℕ)
      → (raw raw2 : List (List Hidden)) → AllWithin n raw → unlined_lists raw2 ≡ unlined_lists raw → (work work2 : Work) → work.left + n < b → (e : Expanded)
      → substituted (whole set) depth before name m raw work ≡ Ok e → work.left ≤ e.left.left + work2.left → list_all (brings_no_line set.table) e.notes ≡ true
      → (e2 : Expanded) × (substituted (whole set) depth before2 name2 m raw2 work2 ≡ Ok e2) × AreAlike loose work work2 e e2
  substituted_alike loose set b below depth before before2 name name2 names m n raw raw2 within same work work2 h e is room told =
      let cs = chains_of m in
      let args_of : List (List Hidden) → Arguments = λ lists. record { raw = raw; full = lists } in
      let args2_of : List (List Hidden) → Arguments = λ lists. record { raw = raw2; full = lists } in
      let next : Full → Result Expanded Fault = λ f. onward (spent name (cost_of name (args_of f.lists) cs) f.left (result_of name (args_of f.lists) cs)) (λ o. Ok (noted f.notes o)) in
      let next2 : Full → Result Expanded Fault = λ f. onward (spent name2 (cost_of name2 (args2_of f.lists) cs) f.left (result_of name2 (args2_of f.lists) cs)) (λ o. Ok (noted f.notes o)) in
      let i = onward_ok {A = Full} (full_from (whole set) depth before name cs 0 raw work) next e is in
      let cost = cost_of name (args_of i.0.lists) cs in
      let j = onward_ok {A = Expanded} (spent name cost i.0.left (result_of name (args_of i.0.lists) cs)) (λ o. Ok (noted i.0.notes o)) e i.2 in
      let e_is : noted i.0.notes j.0 ≡ e = ok_same (noted i.0.notes j.0) e j.2 in
      let left_is : j.0.left.left ≡ e.left.left = ap (λ (v : Expanded). v.left.left) e_is in
      let told_there : list_all (brings_no_line set.table) (i.0.notes ++ j.0.notes) ≡ true = ap (λ (v : Expanded). list_all (brings_no_line set.table) v.notes) e_is ∙ told in
      let parts = notes_parts (brings_no_line set.table) i.0.notes j.0.notes told_there in
      let falls = spent_falls name cost i.0.left (result_of name (args_of i.0.lists) cs) j.0 j.1 in
      let falls2 = full_falls set depth before name cs 0 raw work i.0 i.1 in
      let k = full_alike set b below depth before before2 name name2 cs 0 n raw raw2 within same work work2 h i.0 i.1 (omega (arith, left_is)) parts.0 in
      let cost1 = k.2.cost in
      let args_same : plain_arguments (args2_of k.0.lists) ≡ plain_arguments (args_of i.0.lists) =
      ap (λ (l : List (List Hidden)). record { raw = l; full = map plain k.0.lists }) same ∙ ap (λ (l : List (List Hidden)). record { raw = unlined_lists raw; full = l }) k.2.lists in
      let r = plainly.result_same far loose name name2 names (args_of i.0.lists) (args2_of k.0.lists) cs args_same in
      let l = spent_alike loose name name2 cost i.0.left k.0.left (result_of name (args_of i.0.lists) cs) (result_of name2 (args2_of k.0.lists) cs) j.0 j.1 r.0 (omega (arith, left_is)) in
      let cost2 = l.2.cost in
      subst (λ (v : Expanded). (e2 : Expanded) × (substituted (whole set) depth before2 name2 m raw2 work2 ≡ Ok e2) × AreAlike loose work work2 v e2) e_is (
        noted k.0.notes l.0,
        ap (λ (v : Result Full Fault). onward v next2) k.1
            ∙ ap (λ (c : ℕ). onward (spent name2 c k.0.left (result_of name2 (args2_of k.0.lists) cs)) (λ o. Ok (noted k.0.notes o))) r.1
            ∙ ap (λ (v : Result Expanded Fault). onward v (λ o. Ok (noted k.0.notes o))) l.1,
        record { toks = l.2.toks; notes = notes_join k.0.notes l.0.notes i.0.notes j.0.notes k.2.notes l.2.notes; cost = omega arith; counters = (l.2.counters.0 ∙ k.2.counters.0, l.2.counters.1 ∙ k.2.counters.1) },
      )

  put_alike : (loose : Bool) (set : Setting) (b : ℕ) → AlikeBelow set b → (form : Form) → stands_for_line form ≡ false → (depth before before2 : ℕ) (name name2 : Token) → label loose name2 ≡ label loose name
      → (m : Definition) (n : ℕ) (raw raw2 : List (List Hidden)) → AllWithin n raw → unlined_lists raw2 ≡ unlined_lists raw → (work work2 : Work) → work.left + n < b → (e : Expanded)
      → put_for form set.path (whole set) depth before name m raw work ≡ Ok e → work.left ≤ e.left.left + work2.left → list_all (brings_no_line set.table) e.notes ≡ true
      → PutToo loose form set.path (whole set) depth before2 name2 m raw2 work work2 e
  put_alike loose set b below form.Line no_line depth before before2 name name2 names m n raw raw2 within same work work2 h e is room told = absurd cc
  put_alike loose set b below form.Counter no_line depth before before2 name name2 names m n raw raw2 within same work work2 h e is room told = absurd cc
  put_alike loose set b below form.File no_line depth before before2 name name2 names m n raw raw2 within same work work2 h e is room told =
      spent_alike loose name name2 1 work work2 (Ok (made (hidden (path_string set.path name) [] ∷ []) [])) (Ok (made (hidden (path_string set.path name2) [] ∷ []) [])) e is
      (ap (λ (v : Token). Ok (made (hidden (record (unlined (path_string set.path name)) { gap = v.gap; at = v.at }) [] ∷ []) [])) names) room
  put_alike loose set b below form.Object no_line depth before before2 name name2 names m n raw raw2 within same work work2 h e is room told =
      substituted_alike loose set b below depth before before2 name name2 names m n raw raw2 within same work work2 h e is room told
  put_alike loose set b below form.Function no_line depth before before2 name name2 names m n raw raw2 within same work work2 h e is room told =
      substituted_alike loose set b below depth before before2 name name2 names m n raw raw2 within same work work2 h e is room told

  -- ---- steps

  -- the other tokens, expanded
  abbrev Too : Bool → Work → Work → Expanded → Result Expanded Fault → Type 0
  Too loose work work2 e r2 = (e2 : Expanded) × (r2 ≡ Ok e2) × AreAlike loose work work2 e e2

  stays_alike : (loose : Bool) (set : Setting) (b : ℕ) → AlikeBelow set b → (depth before before2 : ℕ) (t t2 : Hidden) (ts ts2 : List Hidden) → label_hidden loose t2 ≡ label_hidden loose t
      → map unlined_hidden ts2 ≡ map unlined_hidden ts → (work work2 : Work) → work.left + length ts < b → (e : Expanded) → stays (whole set) depth before t ts work ≡ Ok e
      → work.left ≤ e.left.left + work2.left → list_all (brings_no_line set.table) e.notes ≡ true → Too loose work work2 e (stays (whole set) depth before2 t2 ts2 work2)
  unfolding AlikeBelow
  stays_alike loose set b below depth before before2 t t2 ts ts2 here behind work work2 h e is room told =
      let i = onward_ok {A = Expanded} (whole set depth (one_more depth before) ts work) (λ o. Ok (put_out t o)) e is in
      let e_is : put_out t i.0 ≡ e = ok_same (put_out t i.0) e i.2 in
      let left_is : i.0.left.left ≡ e.left.left = ap (λ (v : Expanded). v.left.left) e_is in
      let told_there : list_all (brings_no_line set.table) i.0.notes ≡ true = ap (λ (v : Expanded). list_all (brings_no_line set.table) v.notes) e_is ∙ told in
      let strict : canon false ts2 ≡ canon false ts = canon_strict ts2 ∙ behind ∙ sym (canon_strict ts) in
      let k = below false depth (one_more depth before) (one_more depth before2) ts ts2 work work2 i.0 h i.1 strict (omega (arith, left_is)) told_there in
      let later : map unlined_hidden k.0.toks ≡ map unlined_hidden i.0.toks = sym (canon_strict k.0.toks) ∙ k.2.toks ∙ canon_strict i.0.toks in
      subst (λ (v : Expanded). Too loose work work2 v (stays (whole set) depth before2 t2 ts2 work2)) e_is (
        put_out t2 k.0,
        ap (λ (v : Result Expanded Fault). onward v (λ o. Ok (put_out t2 o))) k.1,
        record {
          toks = ap (λ (v : Hidden). v ∷ map unlined_hidden k.0.toks) here ∙ ap (λ (l : List Hidden). label_hidden loose t ∷ l) later;
          notes = k.2.notes;
          cost = k.2.cost;
          counters = k.2.counters;
        },
      )

  abbrev after : Next → ℕ → ℕ → Token → Definition → List (List ℕ) → List Hidden → Expanded → Result Expanded Fault
  after next depth before name m added ts e =
      onward (next depth before (map (hide_more added) e.toks ++ ts) e.left) (λ rest. Ok (noted (first_notes name m before ++ e.notes) rest))

  link_plain : (b : Bool) (x y : Token) → map plain_note (cond b (Linked x y ∷ []) []) ≡ cond b (Linked (label true x) y ∷ []) []
  link_plain true x y = refl
  link_plain false x y = refl

  first_plain : (name : Token) (m : Definition) (before : ℕ) → map plain_note (first_notes name m before) ≡ first_notes (label true name) m 0
  first_plain name m before = ap (λ (l : List Note). Replaced (label true name) m.name 0 ∷ l) (link_plain (links_name m.form) name m.name)

  first_told : (table : Table) (name : Token) (m : Definition) (before : ℕ) (notes : List Note) → table name.text ≡ Some m
      → list_all (brings_no_line table) (first_notes name m before ++ notes) ≡ true → stands_for_line m.form ≡ false
  first_told table name m before notes is told =
      let parts = and_parts (brings_no_line table (Replaced name m.name before)) (list_all (brings_no_line table) ((cond (links_name m.form) (Linked name m.name ∷ []) []) ++ notes)) told in
      let no : not (stands_for_line m.form) ≡ true = ap (λ (o : Option Definition). not (names_line o)) (sym is) ∙ parts.0 in
      not_true (stands_for_line m.form) no
    where
      not_true : (b : Bool) → not b ≡ true → b ≡ false
      not_true true h = absurd cc
      not_true false h = refl

  replaced_alike : (loose : Bool) (set : Setting) (b : ℕ) → AlikeBelow set b → (depth before before2 : ℕ) (name name2 : Token) → label loose name2 ≡ label loose name
      → (m : Definition) → set.table name.text ≡ Some m → (added : List (List ℕ)) (n : ℕ) (raw raw2 : List (List Hidden)) → AllWithin n raw → unlined_lists raw2 ≡ unlined_lists raw
      → (ts ts2 : List Hidden) → map unlined_hidden ts2 ≡ map unlined_hidden ts → (work work2 : Work) → work.left + n < b → work.left + length ts < b → (e : Expanded)
      → replaced set (whole set) depth before name m added raw ts work ≡ Ok e → work.left ≤ e.left.left + work2.left → list_all (brings_no_line set.table) e.notes ≡ true
      → Too loose work work2 e (replaced set (whole set) depth before2 name2 m added raw2 ts2 work2)
  unfolding AlikeBelow
  replaced_alike loose set b below depth before before2 name name2 names m is_m added n raw raw2 within same ts ts2 behind work work2 h h2 e is room told =
      let i = onward_ok {A = Expanded} (put_for m.form set.path (whole set) depth before name m raw work) (after (whole set) depth before name m added ts) e is in
      let list : List Hidden = map (hide_more added) i.0.toks ++ ts in
      let notes : List Note = first_notes name m before ++ i.0.notes in
      let j = onward_ok {A = Expanded} (whole set depth before list i.0.left) (λ rest. Ok (noted notes rest)) e i.2 in
      let e_is : noted notes j.0 ≡ e = ok_same (noted notes j.0) e j.2 in
      let left_is : j.0.left.left ≡ e.left.left = ap (λ (v : Expanded). v.left.left) e_is in
      let told_all : list_all (brings_no_line set.table) (notes ++ j.0.notes) ≡ true = ap (λ (v : Expanded). list_all (brings_no_line set.table) v.notes) e_is ∙ told in
      let parts = notes_parts (brings_no_line set.table) notes j.0.notes told_all in
      let parts2 = notes_parts (brings_no_line set.table) (first_notes name m before) i.0.notes parts.0 in
      let no_line = first_told set.table name m before i.0.notes is_m parts.0 in
      let puts = (put_for_puts b (whole set) (whole set) (whole_below_itself set b) m.form set.path depth before name m n raw within work h).falls i.0 i.1 in
      let falls = whole_falls set depth before list i.0.left j.0 j.1 in
      let room2 : i.0.left.left + length list < b = omega (arith, length-append (map (hide_more added) i.0.toks) ts, length-map i.0.toks (hide_more added)) in
      let k = put_alike loose set b below m.form no_line depth before before2 name name2 names m n raw raw2 within same work work2 h i.0 i.1 (omega (arith, left_is)) parts2.1 in
      let cost1 = k.2.cost in
      let list2 : List Hidden = map (hide_more added) k.0.toks ++ ts2 in
      let l = below loose depth before before2 list list2 i.0.left k.0.left j.0 room2 j.1 (joined loose added k.0.toks i.0.toks ts2 ts k.2.toks behind) (omega (arith, left_is)) parts.1 in
      let cost2 = l.2.cost in
      let notes2 : List Note = first_notes name2 m before2 ++ k.0.notes in
      let firsts : map plain_note (first_notes name2 m before2) ≡ map plain_note (first_notes name m before) =
      first_plain name2 m before2 ∙ ap (λ (v : Token). first_notes (record v { gap = false }) m 0) names ∙ sym (first_plain name m before) in
      subst (λ (v : Expanded). Too loose work work2 v (replaced set (whole set) depth before2 name2 m added raw2 ts2 work2)) e_is (
        noted notes2 l.0,
        ap (λ (v : Result Expanded Fault). onward v (after (whole set) depth before2 name2 m added ts2)) k.1 ∙ ap (λ (v : Result Expanded Fault). onward v (λ rest. Ok (noted notes2 rest))) l.1,
        record {
          toks = l.2.toks;
          notes = notes_join notes2 l.0.notes notes j.0.notes (notes_join (first_notes name2 m before2) k.0.notes (first_notes name m before) i.0.notes firsts k.2.notes) l.2.notes;
          cost = omega arith;
          counters = (l.2.counters.0 ∙ k.2.counters.0, l.2.counters.1 ∙ k.2.counters.1);
        },
      )

  called_alike : (loose : Bool) (set : Setting) (b : ℕ) → AlikeBelow set b → (depth before before2 : ℕ) (t t2 : Hidden) → label_hidden loose t2 ≡ label_hidden loose t
      → (m : Definition) → set.table t.tok.text ≡ Some m → (ts ts2 : List Hidden) → map unlined_hidden ts2 ≡ map unlined_hidden ts → (work work2 : Work) → work.left + length ts < b → (e : Expanded)
      → (call : Option Call) → call_from ts (commas_of m) 0 ≡ call → called set (whole set) depth before t m work call ≡ Ok e
      → work.left ≤ e.left.left + work2.left → list_all (brings_no_line set.table) e.notes ≡ true
      → Too loose work work2 e (called set (whole set) depth before2 t2 m work2 (call_from ts2 (commas_of m) 0))
  called_alike loose set b below depth before before2 t t2 here m is_m ts ts2 behind work work2 h e None call_is is room told = err_ok (OpenCall t.tok.at) e is
  called_alike loose set b below depth before before2 t t2 here m is_m ts ts2 behind work work2 h e (Some call) call_is is room told =
      let calls : option_map call_plain (call_from ts2 (commas_of m) 0) ≡ option_map call_plain (call_from ts (commas_of m) 0) =
      sym (call_from_plain ts2 (commas_of m) 0) ∙ ap (λ (l : List Hidden). call_from l (commas_of m) 0) behind ∙ call_from_plain ts (commas_of m) 0 in
      let k = some_alike call_plain (call_from ts (commas_of m) 0) (call_from ts2 (commas_of m) 0) call calls call_is in
      let args_are : unlined_lists k.0.arguments ≡ unlined_lists call.arguments = ap (λ (c : Call). c.arguments) k.2 in
      let args_same : option_map unlined_lists (arguments_of m k.0.arguments) ≡ option_map unlined_lists (arguments_of m call.arguments) =
      sym (arguments_plain m k.0.arguments) ∙ ap (arguments_of m) args_are ∙ arguments_plain m call.arguments in
      let closes : k.0.close ≡ call.close = ap (λ (c : Call). c.close) k.2 in
      let rests : map unlined_hidden k.0.rest ≡ map unlined_hidden call.rest = ap (λ (c : Call). c.rest) k.2 in
      let short = call_shorter ts (commas_of m) 0 call call_is in
      let shorter = short.behind in
      let hides : added_by t2 k.0.close ≡ added_by t call.close = ap (λ (v : Hidden). added_by v k.0.close) here ∙ ap (added_by t) closes in
      let goes = with_arguments k.0 args_same closes rests hides short (arguments_of m call.arguments) refl is in
      (goes.0, ap (called set (whole set) depth before2 t2 m work2) k.1 ∙ goes.1, goes.2)
    where
      with_arguments : (call2 : Call) → option_map unlined_lists (arguments_of m call2.arguments) ≡ option_map unlined_lists (arguments_of m call.arguments) → call2.close ≡ call.close
          → map unlined_hidden call2.rest ≡ map unlined_hidden call.rest → added_by t2 call2.close ≡ added_by t call.close → Shorter (length ts) call
          → (raw : Option (List (List Hidden))) → arguments_of m call.arguments ≡ raw → called_with set (whole set) depth before t m call work raw ≡ Ok e
          → Too loose work work2 e (called_with set (whole set) depth before2 t2 m call2 work2 (arguments_of m call2.arguments))
      with_arguments call2 args_same closes rests hides short None raw_is go = err_ok (WrongArguments t.tok.at) e go
      with_arguments call2 args_same closes rests hides short (Some raw) raw_is go =
          let shorter = short.behind in
          let r = some_alike unlined_lists (arguments_of m call.arguments) (arguments_of m call2.arguments) raw args_same raw_is in
          let tok_here : label loose t2.tok ≡ label loose t.tok = ap (λ (v : Hidden). v.tok) here in
          let k = replaced_alike loose set b below depth before before2 t.tok t2.tok tok_here m is_m (added_by t call.close) (length ts) raw r.0
          (arguments_within m (length ts) call.arguments raw short.each raw_is) r.2 call.rest call2.rest rests work work2 h (omega arith) e go room told in (
            k.0,
            ap (called_with set (whole set) depth before2 t2 m call2 work2) r.1
                ∙ ap (λ (l : List (List ℕ)). replaced set (whole set) depth before2 t2.tok m l r.0 call2.rest work2) hides ∙ k.1,
            k.2,
          )

  open_plain : (p p2 : Hidden) → unlined_hidden p2 ≡ unlined_hidden p → is_open p2.tok ≡ is_open p.tok
  unfolding is_open
  open_plain p p2 same = ap (λ (v : Hidden). is_open v.tok) same

  behind_alike : (loose : Bool) (set : Setting) (b : ℕ) → AlikeBelow set b → (depth before before2 : ℕ) (t t2 : Hidden) → label_hidden loose t2 ≡ label_hidden loose t
      → (m : Definition) → set.table t.tok.text ≡ Some m → (ts ts2 : List Hidden) → map unlined_hidden ts2 ≡ map unlined_hidden ts → (work work2 : Work) → work.left + length ts < b → (e : Expanded)
      → behind_name set (whole set) depth before t m ts work ≡ Ok e → work.left ≤ e.left.left + work2.left → list_all (brings_no_line set.table) e.notes ≡ true
      → Too loose work work2 e (behind_name set (whole set) depth before2 t2 m ts2 work2)
  behind_alike loose set b below depth before before2 t t2 here m is_m [] [] behind work work2 h e is room told =
      stays_alike loose set b below depth before before2 t t2 [] [] here behind work work2 h e is room told
  behind_alike loose set b below depth before before2 t t2 here m is_m [] (p2 ∷ ts2) behind work work2 h e is room told = absurd cc
  behind_alike loose set b below depth before before2 t t2 here m is_m (p ∷ ts) [] behind work work2 h e is room told = absurd cc
  behind_alike loose set b below depth before before2 t t2 here m is_m (p ∷ ts) (p2 ∷ ts2) behind work work2 h e is room told = by (is_open p.tok) refl is
    where
      first_is : unlined_hidden p2 ≡ unlined_hidden p
      first_is = first_same (unlined_hidden p2) (unlined_hidden p) (map unlined_hidden ts2) (map unlined_hidden ts) behind

      rest_is : map unlined_hidden ts2 ≡ map unlined_hidden ts
      rest_is = rest_same (unlined_hidden p2) (unlined_hidden p) (map unlined_hidden ts2) (map unlined_hidden ts) behind

      opens : is_open p2.tok ≡ is_open p.tok
      opens = open_plain p p2 first_is

      go : (v : Bool) → is_open p.tok ≡ v → (r : Result Expanded Fault)
          → cond v (called set (whole set) depth before2 t2 m work2 (call_from ts2 (commas_of m) 0)) (stays (whole set) depth before2 t2 (p2 ∷ ts2) work2) ≡ r
          → behind_name set (whole set) depth before2 t2 m (p2 ∷ ts2) work2 ≡ r
      go v w r k = ap (λ (b : Bool). cond b (called set (whole set) depth before2 t2 m work2 (call_from ts2 (commas_of m) 0)) (stays (whole set) depth before2 t2 (p2 ∷ ts2) work2)) (opens ∙ w) ∙ k

      by : (v : Bool) → is_open p.tok ≡ v
          → cond v (called set (whole set) depth before t m work (call_from ts (commas_of m) 0)) (stays (whole set) depth before t (p ∷ ts) work) ≡ Ok e
          → Too loose work work2 e (behind_name set (whole set) depth before2 t2 m (p2 ∷ ts2) work2)
      by true w k =
          let c = called_alike loose set b below depth before before2 t t2 here m is_m ts ts2 rest_is work work2 (omega arith) e (call_from ts (commas_of m) 0) refl k room told in
          (c.0, go true w (Ok c.0) c.1, c.2)
      by false w k =
          let c = stays_alike loose set b below depth before before2 t t2 (p ∷ ts) (p2 ∷ ts2) here behind work work2 h e k room told in
          (c.0, go false w (Ok c.0) c.1, c.2)

  macro_found : (table : Table) (t : Hidden) (m : Definition) → macro_of table t ≡ Some m → table t.tok.text ≡ Some m
  macro_found table t m e = (found_macro table t m e).1

  act_alike : (loose : Bool) (set : Setting) (b : ℕ) → AlikeBelow set b → (depth before before2 : ℕ) (t t2 : Hidden) → label_hidden loose t2 ≡ label_hidden loose t
      → (ts ts2 : List Hidden) → map unlined_hidden ts2 ≡ map unlined_hidden ts → (work work2 : Work) → work.left + length ts < b → (e : Expanded)
      → (m : Option Definition) → macro_of set.table t ≡ m → act set (whole set) depth before t ts work m ≡ Ok e → work.left ≤ e.left.left + work2.left → list_all (brings_no_line set.table) e.notes ≡ true
      → Too loose work work2 e (act set (whole set) depth before2 t2 ts2 work2 m)
  act_alike loose set b below depth before before2 t t2 here ts ts2 behind work work2 h e None is_m is room told =
      stays_alike loose set b below depth before before2 t t2 ts ts2 here behind work work2 h e is room told
  act_alike loose set b below depth before before2 t t2 here ts ts2 behind work work2 h e (Some m) is_m is room told = by (is_function m.form) refl is
    where
      added : List (List ℕ)
      added = t.hides ++ t.tok.text ∷ []

      added2 : List (List ℕ)
      added2 = t2.hides ++ t2.tok.text ∷ []

      hides : added2 ≡ added
      hides = ap (λ (v : Hidden). v.hides ++ v.tok.text ∷ []) here

      go : (v : Bool) → is_function m.form ≡ v → (r : Result Expanded Fault)
          → cond v (behind_name set (whole set) depth before2 t2 m ts2 work2) (replaced set (whole set) depth before2 t2.tok m added2 [] ts2 work2) ≡ r
          → act set (whole set) depth before2 t2 ts2 work2 (Some m) ≡ r
      go v w r k = ap (λ (b : Bool). cond b (behind_name set (whole set) depth before2 t2 m ts2 work2) (replaced set (whole set) depth before2 t2.tok m added2 [] ts2 work2)) w ∙ k

      by : (v : Bool) → is_function m.form ≡ v → cond v (behind_name set (whole set) depth before t m ts work) (replaced set (whole set) depth before t.tok m added [] ts work) ≡ Ok e
          → Too loose work work2 e (act set (whole set) depth before2 t2 ts2 work2 (Some m))
      by true w k =
          let c = behind_alike loose set b below depth before before2 t t2 here m (macro_found set.table t m is_m) ts ts2 behind work work2 h e k room told in
          (c.0, go true w (Ok c.0) c.1, c.2)
      by false w k =
          let tok_here : label loose t2.tok ≡ label loose t.tok = ap (λ (v : Hidden). v.tok) here in
          let c = replaced_alike loose set b below depth before before2 t.tok t2.tok tok_here m (macro_found set.table t m is_m) added 0 [] [] none refl ts ts2 behind work work2 (omega arith) h e k room told in
          (c.0, go false w (Ok c.0) (ap (λ (l : List (List ℕ)). replaced set (whole set) depth before2 t2.tok m l [] ts2 work2) hides ∙ c.1), c.2)

  whole_alike : (loose : Bool) (set : Setting) (b : ℕ) → AlikeBelow set b → (depth before before2 : ℕ) (ts ts2 : List Hidden) (work work2 : Work) (e : Expanded) → work.left + length ts < suc b
      → whole set depth before ts work ≡ Ok e → canon loose ts2 ≡ canon loose ts → work.left ≤ e.left.left + work2.left → list_all (brings_no_line set.table) e.notes ≡ true
      → Too loose work work2 e (whole set depth before2 ts2 work2)
  whole_alike loose set b below depth before before2 [] (t2 ∷ ts2) work work2 e h is same room told = absurd cc
  whole_alike loose set b below depth before before2 (t ∷ ts) [] work work2 e h is same room told = absurd cc
  whole_alike loose set b below depth before before2 [] [] work work2 e h is same room told =
      subst (λ (v : Expanded). Too loose work work2 v (whole set depth before2 [] work2)) (ok_same (expanded [] [] work) e (sym (whole_is_step set depth before [] work) ∙ is))
      (expanded [] [] work2, whole_is_step set depth before2 [] work2, record { toks = refl; notes = refl; cost = omega arith; counters = (refl, refl) })
  whole_alike loose set b below depth before before2 (t ∷ ts) (t2 ∷ ts2) work work2 e h is same room told =
      let here : label_hidden loose t2 ≡ label_hidden loose t = first_same (label_hidden loose t2) (label_hidden loose t) (map unlined_hidden ts2) (map unlined_hidden ts) same in
      let behind : map unlined_hidden ts2 ≡ map unlined_hidden ts = rest_same (label_hidden loose t2) (label_hidden loose t) (map unlined_hidden ts2) (map unlined_hidden ts) same in
      let macros : macro_of set.table t2 ≡ macro_of set.table t = ap (macro_of set.table) here in
      let c = act_alike loose set b below depth before before2 t t2 here ts ts2 behind work work2 (omega arith) e (macro_of set.table t) refl
      (sym (whole_is_step set depth before (t ∷ ts) work) ∙ is) room told in
      (c.0, whole_is_step set depth before2 (t2 ∷ ts2) work2 ∙ ap (act set (whole set) depth before2 t2 ts2 work2) macros ∙ c.1, c.2)

  alike_below : (set : Setting) (b : ℕ) → AlikeBelow set b
  unfolding AlikeBelow
  alike_below set zero = λ loose depth before before2 ts ts2 work work2 e h is same room told. absurd (omega arith)
  alike_below set (suc b) = λ loose depth before before2 ts ts2 work work2 e h is same room told.
      whole_alike loose set b (alike_below set b) depth before before2 ts ts2 work work2 e h is same room told

pub expands_alike : ExpandsAlike
unfolding AlikeBelow
expands_alike = λ far loose set depth before before2 ts ts2 work work2 e is same room told.
    let below : (loose : Bool) (depth before before2 : ℕ) (us us2 : List Hidden) (w w2 : Work) (e : Expanded) → w.left + length us < suc (work.left + length ts)
    → whole set depth before us w ≡ Ok e → alike.canon far loose us2 ≡ alike.canon far loose us → w.left ≤ e.left.left + w2.left → list_all (brings_no_line set.table) e.notes ≡ true
    → Too far loose w w2 e (whole set depth before2 us2 w2) = alike_below far set (suc (work.left + length ts)) in
    below loose depth before before2 ts ts2 work work2 e (omega arith) is same room told
