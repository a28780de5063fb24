-- SPDX-License-Identifier: Apache-2.0
use Rattle.mlock.proofs.LockWords.{Entry, ◌≡◌, ◌<◌, ℕ, List, [], ◌∷◌, Option, Some, None, length, get_or, refl, sym, subst, ◌∙◌, arith, IfSome, slice_get}
use Rattle.mlock.proofs.LockWords.{slice_get-get_or, IndexMap, IsUnique, with_value_at, LockName, Holding, name_eq, IsRecounted}
use Rattle.mlock.proofs.Moves.{recounted, recounted_locks}
use Rattle.mlock.proofs.holdings.set_count.Goals as goal

some_there : (es : List Entry) (i : ℕ) → slice_get es i ≡ None → i < length es → {A : Type 0} → A
some_there [] i at inside = absurd (omega (arith, inside))
some_there (e ∷ es) i at inside = let no : ◌≡◌ {A = Option Entry} (Some (get_or (e ∷ es) i e)) None = sym (slice_get-get_or (e ∷ es) i e inside) ∙ at in absurd (cc)

by_entry : {S : Type 0} (h : IndexMap LockName Holding S) (i : ℕ) (w : Holding) (unique : IsUnique name_eq h) (o : Option Entry) → slice_get h.entries i ≡ o → IfSome o (λ e. e.1.terminal ≡ w.terminal)
    → i < length h.entries → IsRecounted h (with_value_at h i w)
by_entry h i w unique None at own inside = some_there h.entries i at inside
by_entry h i w unique (Some e) at own inside = recounted h i e.0 e.1 unique at w own

pub returns-clause-kept : goal.returns-clause-kept
returns-clause-kept c unique =
    by_entry c.args.holdings.now c.args.index c.args.holding unique (slice_get c.args.holdings.now.entries c.args.index) refl c.requires.own c.requires.within

pub returns-clause-locks : goal.returns-clause-locks
returns-clause-locks c n h at unique =
    recounted_locks c.args.holdings.now c.args.index n h unique at c.args.holding (subst (λ o. IfSome o (λ e. e.1.terminal ≡ c.args.holding.terminal)) at c.requires.own)
