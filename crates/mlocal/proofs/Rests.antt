-- SPDX-License-Identifier: Apache-2.0
-- The variables of other names, where there are none.
use Rattle.mlocal.proofs.LocalWords.{◌≡◌, Bool, List, Option, None, sym, ap, subst, ◌∙◌, option_map, unwrap_or, empty, retain_keys, get-empty}
use Rattle.mlocal.proofs.LocalWords.{slice_cmp, nat_cmp}
use Rattle.mlocal.proofs.LocalWords.{Text, NamedTrees, kill_at}
use Rattle.std.specs.FinMap.{get}
use Rattle.mspec.proofs.ComputedMaps.{no_trees_cut}

module _ {B : Type 0} (f : B → NamedTrees) (table : Option B) (ts : NamedTrees) (none : table ≡ None) (view : unwrap_or (option_map f table) empty ≡ ts) where
  seen : empty ≡ ts
  seen = ap (λ o. unwrap_or (option_map f o) empty) (sym none) ∙ view

  pub none_got : (n : Text) → None ≡ get ts n
  none_got n = sym (get-empty (slice_cmp nat_cmp) n) ∙ ap (λ us. get us n) seen

  pub none_killed : (n : Text) (k : List Text) → ts ≡ kill_at n k (get ts n) ts
  none_killed n k = ap (λ o. kill_at n k o ts) (none_got n)

  pub none_kept : (p : Text → Bool) → ts ≡ retain_keys ts p
  none_kept p = subst (λ us. us ≡ retain_keys us p) seen (sym (no_trees_cut p))
