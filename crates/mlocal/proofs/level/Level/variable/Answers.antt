-- SPDX-License-Identifier: Apache-2.0
use Rattle.mlocal.proofs.Levels.{entered_tree}
use Rattle.mlocal.proofs.level.Level.variable.Goals as goal

pub returns-in-None : goal.returns-in-None
returns-in-None c = entered_tree (λ scope. scope.value) c.self.inside.scope _ c.in-None.is c.self.view_is c.args.name.now
