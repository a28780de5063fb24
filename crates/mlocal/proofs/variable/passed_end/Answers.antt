-- SPDX-License-Identifier: Apache-2.0
use Rattle.mlocal.proofs.LocalLaws.{sym, ap, ◌∙◌, IfOk-map, whole, behind_below, front}
use Rattle.std.specs.Prelude.{if◌then◌else◌}
use Rattle.mkey.proofs.Searches.{ends_full}
use Rattle.mlocal.proofs.variable.passed_end.Goals as goal

pub returns-then-ends_empty : goal.returns-then-ends_empty
returns-then-ends_empty c =
    let subs = c.args.subs.now in
    IfOk-map c.behind_below.result
    (λ high is. is ∙ ap behind_below c.front.ensures ∙ ap (λ b. if b then behind_below (front subs) else subs) c.if-ends_empty.ensures)
    c.behind_below.ensures.key

pub build-requires : goal.build-requires
build-requires c = whole c.args.subs.now c.requires.subs (ends_full c.args.subs.now c.requires.subs.some (sym c.if-ends_empty.ensures))

pub returns-else-ends_empty : goal.returns-else-ends_empty
returns-else-ends_empty c =
    let subs = c.args.subs.now in
    IfOk-map c.build.result (λ high is. is ∙ ap (λ b. if b then behind_below (front subs) else subs) c.if-ends_empty.ensures) c.build.ensures.key
