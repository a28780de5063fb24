-- SPDX-License-Identifier: Apache-2.0
use Rattle.meval.proofs.global_reference.GlobalReference.key.Goals as goal

pub returns-clause-checked : goal.returns-clause-checked
returns-clause-checked c = rw c.subscripts.ensures at c.key_with.ensures.checked
