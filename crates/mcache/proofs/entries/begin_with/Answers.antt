-- SPDX-License-Identifier: Apache-2.0
use Rattle.mcache.proofs.CacheWords.{◌≡◌, ◌∙◌, ℕ, ◌-◌, ◌<◌, List, length, ap, sym, refl, false, nat_eq, starts_with, arith, slice_index_or, false_from_ne_true}
use Rattle.std.proofs.Common.{drop}
use Rattle.std.proofs.lemmas.Bool.Decides.{Decides-eqb}
use Rattle.std.proofs.lemmas.List.{get_or_append_left}
use Rattle.std.proofs.lemmas.Slice.Eq.{starts_is}
use Rattle.mcache.proofs.entries.begin_with.Goals as goal

differ : (m n : ℕ) → (m ≡ n → ⊥) → nat_eq m n ≡ false
differ m n apart = grind arith

-- bytes that differ at a place do not begin with one another
apart_at : (bytes front : List ℕ) (i : ℕ) → i < length front → (slice_index_or bytes i 0 ≡ slice_index_or front i 0 → ⊥) → starts_with nat_eq bytes front ≡ false
apart_at bytes front i within apart = false_from_ne_true (starts_with nat_eq bytes front) (λ begin.
    let all = (starts_is Decides-eqb bytes front (starts_with nat_eq bytes front) refl).0 begin in
    apart (ap (λ l. slice_index_or l i 0) all ∙ get_or_append_left front (drop (length front) bytes) 0 i within))

pub returns-else-bytes-place : goal.returns-else-bytes-place
returns-else-bytes-place c =
    differ _ _ c.if-bytes-place.false ∙ sym (apart_at c.args.bytes.now c.args.front.now (length c.args.front.now - 3) (omega (arith, c.if-front-lt3.false)) c.if-bytes-place.false)
