-- SPDX-License-Identifier: Apache-2.0
use Rattle.misolation.specs.TransitionLaws.{IsolatedTransition}
use Rattle.misolation.proofs.Transitions.{transitions_are_isolated}
use Rattle.misolation.proofs.TransitionsWrite.{transitions_write}
use Rattle.mworld.proofs.WorldWords.{undoubted, settings_of, world_of, reply_of}
use Rattle.mworld.proofs.Checks.{refused_transition}
use Rattle.mworld.proofs.world.World.line.Goals as goal

-- a line that was let through

pub returns-in-Ok-clause-writes : goal.returns-in-Ok-clause-writes
returns-in-Ok-clause-writes g c = λ sound. transitions_write _ _ _ _ _ (c.run.ensures.transition sound)

pub returns-in-Ok-clause-inside : goal.returns-in-Ok-clause-inside
returns-in-Ok-clause-inside g c = λ sound s closed.
    let law : IsolatedTransition s _ (record { terminal = c.args.terminal; text = c.args.text.now }) (reply_of c.run.result) (world_of g.S.NodeStore c.args.self.now) (world_of g.S.NodeStore c.run.new.self) =
    transitions_are_isolated _ _ _ _ _ (c.run.ensures.transition sound) s closed in
    law.inside (c.args.self.now.fit (undoubted c.run.ensures.doubt sound))

pub returns-in-Ok-clause-outside : goal.returns-in-Ok-clause-outside
returns-in-Ok-clause-outside g c = λ sound s closed.
    let law : IsolatedTransition s _ (record { terminal = c.args.terminal; text = c.args.text.now }) (reply_of c.run.result) (world_of g.S.NodeStore c.args.self.now) (world_of g.S.NodeStore c.run.new.self) =
    transitions_are_isolated _ _ _ _ _ (c.run.ensures.transition sound) s closed in
    law.outside

-- one that was refused

pub returns-in-Err-clause-writes : goal.returns-in-Err-clause-writes
returns-in-Err-clause-writes g c = λ sound.
    transitions_write _ (record { terminal = c.args.terminal; text = c.args.text.now }) _ _ _
    (refused_transition _ (record { terminal = c.args.terminal; text = c.args.text.now }) c.in-Err.code _ (world_of g.S.NodeStore c.args.self.now) c.in-Err.ensures c.refused.ensures)

pub returns-in-Err-clause-inside : goal.returns-in-Err-clause-inside
returns-in-Err-clause-inside g c = λ sound s closed.
    let law : IsolatedTransition s (settings_of c.args.self.now) (record { terminal = c.args.terminal; text = c.args.text.now }) (reply_of c.refused.result) (world_of g.S.NodeStore c.args.self.now) (world_of g.S.NodeStore c.args.self.now) =
    transitions_are_isolated _ (record { terminal = c.args.terminal; text = c.args.text.now }) _ _ _
    (refused_transition _ (record { terminal = c.args.terminal; text = c.args.text.now }) c.in-Err.code _ (world_of g.S.NodeStore c.args.self.now) c.in-Err.ensures c.refused.ensures) s closed in
    law.inside (c.args.self.now.fit sound)
