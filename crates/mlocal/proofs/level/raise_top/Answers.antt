-- SPDX-License-Identifier: Apache-2.0
use Rattle.mlocal.proofs.LocalLaws.{arith, ◌∙◌, ap, sym, no_top, of_top}
use Rattle.std.proofs.Common.{option_copied}
use Rattle.mlocal.proofs.level.raise_top.Goals as goal

pub returns-in-None : goal.returns-in-None
returns-in-None c = no_top c.args.levels.now _ _ (sym c.last.ensures.value ∙ ap option_copied c.in-None.is)

pub returns-in-Some : goal.returns-in-Some
returns-in-Some c = of_top c.args.levels.now c.in-Some.top.now _ _ _ c.in-Some.ensures.value (omega arith) c.raise.ensures
