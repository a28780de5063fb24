-- SPDX-License-Identifier: Apache-2.0
use Rattle.std.proofs.Common.{w64}
use Rattle.std.proofs.lemmas.Int.{to_z-of_z}
use Rattle.std.proofs.lemmas.List.{length-replicate}
use Rattle.mspec.specs.Cursor.{Cursor, spaces_to}
use Rattle.mcommand.proofs.CommandLaws.{refl, sym, ap, write, does_is, does_then, does_evaluated, does_wanting, does_write}
use Rattle.mcommand.proofs.parts.Parts.write_spaces.Goals as goal

pub returns-in_err-push_spaces : goal.returns-in_err-push_spaces
returns-in_err-push_spaces g c = does_then (λ i (k : Cursor). write (spaces_to c.args.column k.column)) (does_evaluated c.cursor.ensures) (does_wanting _ _ _ c.from_residual.ensures refl refl refl refl)

pub returns : goal.returns
returns g c =
    let spaces = rw (to_z-of_z w64 c.args.column c.ranges.column) at c.spaces_between-count.ensures in
    does_then (λ i (k : Cursor). write (spaces_to c.args.column k.column)) (does_evaluated c.cursor.ensures)
    (does_is (λ i. ap write (sym spaces)) (does_write _ _ _ _ c.in_ok-push_spaces.ensures refl refl refl (sym (length-replicate _ 32)) c.wrote.ensures))
