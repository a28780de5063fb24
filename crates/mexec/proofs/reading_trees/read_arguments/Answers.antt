-- SPDX-License-Identifier: Apache-2.0
use Rattle.std.specs.Prelude.{◌≡◌, ◌≤◌}
use Rattle.mexec.proofs.ExecWords.{arith, arg_tree, map}
use Rattle.mgrammar.specs.Languages.{since_args}
use Rattle.mgrammar.proofs.StepsEarly.{first_args_are_in_steps}
use Rattle.mexec.proofs.reading_trees.read_arguments.Goals as goal

pub returns-else-since-language-clause-played : goal.returns-else-since-language-clause-played
returns-else-since-language-clause-played c =
    let args = map arg_tree c.in-Ok.args.items in
    let counted : c.since_args-since.result ≡ since_args args = rw c.deref.ensures.value at c.since_args-since.ensures in
    let within = c.if-since-language.false in
    let known = c.requires in
    (counted, omega (arith, within, known))

pub returns-else-since-language-clause-stepped : goal.returns-else-since-language-clause-stepped
returns-else-since-language-clause-stepped c =
    let args = map arg_tree c.in-Ok.args.items in
    let counted : c.since_args-since.result ≡ since_args args = rw c.deref.ensures.value at c.since_args-since.ensures in
    let within = c.if-since-language.false in
    let known = c.requires in
    first_args_are_in_steps args (omega (arith, within, known, counted))
