-- SPDX-License-Identifier: Apache-2.0
use Rattle.moperator.proofs.OperatorWords.{◌<◌}
use Rattle.moperator.proofs.PieceBytes.{piece_all}
use Rattle.moperator.proofs.function_calls.pieces_from_to.Goals as goal

pub of_bytes-requires : goal.of_bytes-requires
of_bytes-requires c =
    rw c.piece-part.ensures
    (piece_all (λ x. x < 128) c.as_bytes.result.now c.as_bytes-2.result.now c.in_ok-from.from c.in_ok-to.to c.as_bytes.ensures.ascii c.as_bytes-2.ensures.ascii)
