-- SPDX-License-Identifier: Apache-2.0
use Rattle.mexec.proofs.ExecLaws.{◌-◌, ◌≤◌, length, refl, sym, ap, Some, slice_get_read, runs_completion}
use Rattle.std.specs.Prelude.{option_map}
use Rattle.std.proofs.lemmas.Bool.{ltb-true}
use Rattle.std.proofs.lemmas.Option.{slice_get_past}
use Rattle.mtree.specs.declared.tree.Spaced.{Spaced}
use Rattle.mexec.specs.declared.completion.Completion.TheVariants as completion
use Rattle.mexec.proofs.continuation.held.Goals as goal

pub returns-in-None-clause-does : goal.returns-in-None-clause-does
returns-in-None-clause-does g c =
    let behind = c.args.behind.now in
    let past = rw (c.deref-2.ensures.value, c.deref.ensures, c.saturating_sub.ensures) at c.in-None.ensures.lookup.3 in
    rw (slice_get_past behind.line.value.commands.items (behind.at - 1) past) (runs_completion completion.Quits)

pub effected-requires : goal.effected-requires
effected-requires g c =
    let found = c.in-Some.ensures.lookup in
    let all = c.deref-2.result.now in
    let there = slice_get_read all (length all) c.saturating_sub.result c.in-Some.spaced.now refl (ltb-true _ _ (sym found.0)) found.1 in
    let some = rw (c.deref-2.ensures.value, c.deref.ensures, c.saturating_sub.ensures) at there in
    ap (option_map (λ (s : Spaced). s.command)) some
