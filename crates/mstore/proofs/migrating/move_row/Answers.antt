-- SPDX-License-Identifier: Apache-2.0
use Rattle.mstore.proofs.Words.{◌≡◌, [], ◌∷◌, drop, length, rules, ap₂, arith, sym, Value, Blob, Row, column}
use Rattle.mstore.proofs.Tied.{on_ok, both_ok}
use Rattle.mstore.proofs.migrating.move_row.Goals as goal

two_columns : (r : Row) (a b : Value) → length r ≡ 3 → a ≡ column r 1 → b ≡ column r 2 → drop 1 r ≡ a ∷ b ∷ []
two_columns [] a b three first second = absurd (omega (arith, three))
two_columns (w ∷ []) a b three first second = absurd (omega (arith, three))
two_columns (w ∷ x ∷ []) a b three first second = absurd (omega (arith, three))
two_columns (w ∷ x ∷ y ∷ []) a b three first second = ap₂ (λ m n. m ∷ n ∷ []) (sym first) (sym second)
two_columns (w ∷ x ∷ y ∷ z ∷ more) a b three first second = absurd (omega (arith, three))

pub returns-in-Ok-Blob-Ok-Blob-clause-moved : goal.returns-in-Ok-Blob-Ok-Blob-clause-moved
returns-in-Ok-Blob-Ok-Blob-clause-moved g c sure was =
    let key = c.in-Ok-Blob-Ok-Blob.key.now in
    let value = c.in-Ok-Blob-Ok-Blob.value.now in
    let three : length c.args.row.now ≡ 3 = search rules in
    let first : Blob key ≡ column c.args.row.now 1 = search rules in
    let second : Blob value ≡ column c.args.row.now 2 = search rules in
    on_ok c.move_key.result
    (λ it. record { node = it.0.0; key = key; value = value; shows = two_columns c.args.row.now (Blob key) (Blob value) three first second; is = it.0.1; moved = it.0.2; version = it.1 })
    (both_ok _ _ c.move_key.result (c.move_key.ensures.moved sure was) (c.move_key.ensures.version sure was))
