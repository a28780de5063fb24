-- SPDX-License-Identifier: Apache-2.0
use Rattle.mkey.proofs.KeyWords.{arith, unwrap_or}
use Rattle.mkey.proofs.Heads.{fitting_bytes, head_fits}
use Rattle.mkey.proofs.head.short_word.Goals as goal

pub overflow_mul-number : goal.overflow_mul-number
overflow_mul-number c = omega (arith, c.loop-place.invariant, head_fits c.loop-place.place 0 c.args.bytes.now c.loop-place-test.true (omega arith) (fitting_bytes c.args.bytes.now c.type_inv.bytes))

pub overflow_add-number : goal.overflow_add-number
overflow_add-number c = omega (arith, c.loop-place.invariant, head_fits c.loop-place.place c.unwrap_or.result c.args.bytes.now c.loop-place-test.true c.unwrap_or.type_inv (fitting_bytes c.args.bytes.now c.type_inv.bytes))
