use Rattle.std.proofs.Common.{◌≡◌, ◌+◌, ◌-◌, ◌*◌, ◌<◌, ◌≤◌, ◌^◌, length, drop, [], IsTrue}
use Rattle.std.specs.List.{list_all}
use Rattle.macro_expand.specs.Expansion.{full_from, whole}
use Rattle.macro_body.specs.Kept.{finished}
use Rattle.macro_body.specs.Sound.{all_sound}
use Rattle.macro_expand.specs.Going.{setting_of, whole_in, all_full}
use Rattle.macro_expand.proofs.context.Context.+expansion.Given as goal

-- How many arguments may still be expanded inside one another counts most, then the part of the work.
abbrev pub decreases-whole_list : goal.decreases-whole_list
decreases-whole_list l = 16 * (201 - l.self.now.depth) + 10

abbrev pub decreases-next_token : goal.decreases-next_token
decreases-next_token l = 16 * (201 - l.self.now.depth) + 9

abbrev pub decreases-object_like : goal.decreases-object_like
decreases-object_like l = 16 * (201 - l.self.now.depth) + 8

abbrev pub decreases-function_like : goal.decreases-function_like
decreases-function_like l = 16 * (201 - l.self.now.depth) + 8

abbrev pub decreases-call : goal.decreases-call
decreases-call l = 16 * (201 - l.self.now.depth) + 7

abbrev pub decreases-replacement : goal.decreases-replacement
decreases-replacement l = 16 * (201 - l.self.now.depth) + 6

abbrev pub decreases-put_for : goal.decreases-put_for
decreases-put_for l = 16 * (201 - l.self.now.depth) + 5

abbrev pub decreases-substituted : goal.decreases-substituted
decreases-substituted l = 16 * (201 - l.self.now.depth) + 4

abbrev pub decreases-full_arguments : goal.decreases-full_arguments
decreases-full_arguments l = 16 * (201 - l.self.now.depth) + 3

abbrev pub decreases-full_argument : goal.decreases-full_argument
decreases-full_argument l = 16 * (201 - l.self.now.depth) + 2

abbrev pub decreases-alone : goal.decreases-alone
decreases-alone l = 16 * (201 - l.self.now.depth) + 1

-- What is left behind what was put out comes to what all comes to.
abbrev pub invariant-whole_list-toks : goal.invariant-whole_list-toks
invariant-whole_list-toks l = record {
  same : finished l.notes l.out.items (whole_in l.self l.before l.rest l.work) ≡ finished l.initial.notes [] (whole_in l.self l.initial.before l.initial.rest l.initial.work);
  fits : l.before + l.work.left + length l.rest < 2 ^ 32;
  falls : l.work.left ≤ l.initial.work.left;
  few : length l.out.items + l.work.left + length l.rest ≤ l.initial.work.left + length l.initial.rest;
  sound : IsTrue (all_sound l.rest);
  out_sound : IsTrue (all_sound l.out.items);
}

abbrev pub decreases-whole_list-toks : goal.decreases-whole_list-toks
decreases-whole_list-toks l = l.work.left + length l.rest

-- The arguments that are left, behind those that were expanded, come to what all come to.
abbrev pub invariant-full_arguments-loop-number : goal.invariant-full_arguments-loop-number
invariant-full_arguments-loop-number l = record {
  same : all_full l.notes l.full.items (full_from (whole (setting_of l.self)) l.self.depth l.before l.name l.chains l.number (drop l.number l.raw) l.work)
      ≡ all_full l.initial.notes [] (full_from (whole (setting_of l.self)) l.self.depth l.before l.name l.chains 0 l.raw l.initial.work);
  falls : l.work.left ≤ l.initial.work.left;
  sound : IsTrue (list_all all_sound l.full.items);
}
