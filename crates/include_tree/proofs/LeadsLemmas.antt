-- Steps that lead from one state to another.
use Rattle.std.proofs.Common.{◌≡◌, ℕ, ◌+◌, ◌≤◌, Bool, true, false, cond, List, [], ◌∷◌, ◌++◌, refl, subst, arith, is_some}
use Rattle.cs_base.specs.Token.{Token}
use Rattle.unit_steps.specs.State.{Context, State}
use Rattle.unit_steps.specs.Names.{with_name, spelled_in}
use Rattle.include_tree.specs.Laws.{Leads}
use Rattle.source_files.specs.Tables.{Widens}
use Rattle.source_files.proofs.TableLemmas.{widens_refl, widens_trans}

-- a step that puts out nothing
pub leads_by : (ctx : Context) (s t : State) → t.before ≡ s.before → t.work.left ≤ s.work.left → Widens ctx.source s.table t.table → Leads ctx s 0 t
leads_by ctx s t same falls wide = record {
  counted = omega (arith, same);
  few = λ h. omega (arith, same, h);
  work = falls;
  table = wide;
}

pub leads_refl : (ctx : Context) (s : State) → Leads ctx s 0 s
leads_refl ctx s = leads_by ctx s s refl (omega arith) (widens_refl ctx.source s.table)

-- one step behind another
pub leads_trans : (ctx : Context) (s t u : State) (m n : ℕ) → Leads ctx s m t → Leads ctx t n u → Leads ctx s (m + n) u
leads_trans ctx s t u m n h k = record {
  counted = omega (arith, h.counted, k.counted);
  few = λ f. k.few (h.few f);
  work = omega (arith, h.work, k.work);
  table = widens_trans ctx.source s.table t.table u.table h.table k.table;
}

-- as many tokens, counted in another way
pub leads_as : (ctx : Context) (s t : State) (m n : ℕ) → m ≡ n → Leads ctx s m t → Leads ctx s n t
leads_as ctx s t m n e h = subst (λ (k : ℕ). Leads ctx s k t) e h

-- a step that puts out nothing, before another
pub leads_then : (ctx : Context) (s t u : State) (n : ℕ) → Leads ctx s 0 t → Leads ctx t n u → Leads ctx s n u
leads_then ctx s t u n h k = leads_as ctx s u (0 + n) n (omega arith) (leads_trans ctx s t u 0 n h k)

-- a state with the same table, work and count
leads_cond : (ctx : Context) (s : State) (b : Bool) (names : List Token) → Leads ctx s 0 (cond b s (record s { names = names }))
leads_cond ctx s true names = leads_refl ctx s
leads_cond ctx s false names = leads_by ctx s (record s { names = names }) refl (omega arith) (widens_refl ctx.source s.table)

pub leads_name : (ctx : Context) (name : Token) (s : State) → Leads ctx s 0 (with_name name s)
leads_name ctx name s = leads_cond ctx s (is_some (spelled_in s.names name.text)) (s.names ++ name ∷ [])
