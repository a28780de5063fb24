-- SPDX-License-Identifier: Apache-2.0
use Rattle.mexec.proofs.ExecLaws.{source_args, ◌-◌, sym, argument_there, argument_whole}
use Rattle.mexec.proofs.arguments.resuming.Goals as goal

pub resume-requires : goal.resume-requires
resume-requires g c = rw c.saturating_sub.ensures (argument_there (source_args c.args.source) (c.args.argument - 1) _ c.requires)

pub returns-clause-does : goal.returns-clause-does
returns-clause-does g c =
    let ready = rw (sym c.saturating_sub.ensures) at c.requires in
    let whole = argument_whole (source_args c.args.source) c.saturating_sub.result _ ready in
    rw c.into_inner-pause.ensures at (c.resume.ensures.does _ whole)

pub returns-clause-falls : goal.returns-clause-falls
returns-clause-falls g c = c.resume.ensures.falls
