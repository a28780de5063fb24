-- SPDX-License-Identifier: Apache-2.0
use Rattle.mnum.proofs.NameTexts.{name_is_ascii}
use Rattle.mscan.proofs.name_values.parts.Goals as goal

pub append-requires : goal.append-requires
append-requires c = name_is_ascii c.in-Some.name.now c.in-Some.ensures.is_name
