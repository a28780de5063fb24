-- SPDX-License-Identifier: Apache-2.0
use Rattle.std.proofs.Common.{sym, ◌∙◌, codes}
use Rattle.std.specs.Str.Parse.{ParsesUnsigned, ExplainsUnsignedError, HasUnsignedDigitsIfOk}
use Rattle.clap.specs.Words.{found_of, one_text}
use Rattle.clap.proofs.WalkLemmas.{one_text-rows}
use Rattle.mjob.proofs.Numbers.{number_read}
use Rattle.mjob.proofs.command_line.job_of_serve.Goals as goal

pub returns-clause-ok : goal.returns-clause-ok
returns-clause-ok c =
    let f = found_of c.args.options.now in
    let port = number_read 16 (λ bs r. ParsesUnsigned 16 10 bs r × ExplainsUnsignedError 10 bs r × HasUnsignedDigitsIfOk bs r)
    c.in-Some.port (one_text f (codes "port")) (λ t x g. g.0) c.in-Some.ensures.none c.in-Some.ensures.value in
    let connections = number_read 32 (λ bs r. ParsesUnsigned 32 10 bs r × ExplainsUnsignedError 10 bs r × HasUnsignedDigitsIfOk bs r)
    c.in-Some-get_one.connections (one_text f (codes "connections")) (λ t x g. g.0) c.in-Some-get_one.ensures.none c.in-Some-get_one.ensures.value in (
      c.in_ok-settings.ensures.ok.0,
      c.in_ok-settings.ensures.ok.1,
      (port.0, sym (one_text-rows f (codes "port")) ∙ port.1, port.2),
      (connections.0, sym (one_text-rows f (codes "connections")) ∙ connections.1, connections.2),
    )
