-- How an alternative begins whose node may be left out, or that is one token.
use Rattle.std.specs.Prelude.{◌≡◌, true, false}
use Rattle.c99_tree.specs.declared.production.Production.{Production}
use Rattle.c99_grammar.specs.Items.{Item, one, part, ◌·◌}
use Rattle.c99_grammar.specs.ItemsOf.{item_of}
use Rattle.c99_read.specs.declared.leads.Lead.{Lead}
use Rattle.c99_read.specs.declared.leads.Lead.TheVariants.{Alone, Before, Single, Otherwise}
use Rattle.c99_read.specs.Leading.{CanBeLeftOut}
use Rattle.c99_read.specs.State.{collapses, is_declarator, is_specs}

-- a node of the production stays, and changes no names
pub record IsPlain (p : Production) : Type 0 where
  pub stays : collapses p ≡ false
  pub declarator : is_declarator p ≡ false
  pub specs : is_specs p ≡ false

-- the alternative of the production is one production, or one behind which an item may follow, or one token
abbrev pub Leads : Production → Item → Lead → Type 0
Leads p body (Alone q) = (collapses p ≡ true) × (body ≡ part q)
Leads p body (Before q rest) = CanBeLeftOut p (item_of rest.now) × (body ≡ part q · item_of rest.now)
Leads p body (Single classes) = IsPlain p × (body ≡ one classes.now)
Leads p body Otherwise = Unit {0}
