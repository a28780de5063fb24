-- SPDX-License-Identifier: Apache-2.0
use Rattle.mexec.proofs.ExecLaws.{refl, map, at_as, at_in, at_yielded, slice_get_read}
use Rattle.std.specs.Prelude.{slice_get}
use Rattle.mlocal.specs.Bindings.{binding_of}
use Rattle.mmeaning.specs.Parameters.{formals_for, formals_in}
use Rattle.mmeaning.specs.Programs.{listed}
use Rattle.mexec.proofs.entering.formals_of_target.Goals as goal

pub returns : goal.returns
returns g c =
    let t = c.args.target.now in
    let lines = t.copy.value.items in
    let xs = listed c.args.is_listed in
    let bs = map binding_of c.args.bindings.items in
    let there = slice_get_read lines _ t.line c.index.result.now refl c.requires (rw c.deref.ensures at c.index.ensures) in
    let formals = rw (c.as_bytes-line.ensures.bytes, c.language-language.ensures.language) at c.formals_of_line.ensures in
    at_as (λ a n. λ i s. formals_for xs (formals_in s.given.language (slice_get lines t.line)) bs s)
    (at_in (λ l. formals_for xs (formals_in l (slice_get lines t.line)) bs) (at_yielded (rw there formals)))
