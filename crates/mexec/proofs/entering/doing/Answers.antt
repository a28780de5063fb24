-- SPDX-License-Identifier: Apache-2.0
use Rattle.mexec.proofs.ExecLaws.{ap, sym, ◌∙◌, ◌≡◌, map, not, arith, ◌>>=◌, ◌>>◌, Act, a_level_free, target, in_level, leaves, Some, actual_tree, called_tree}
use Rattle.mexec.proofs.ExecLaws.{Context, context, position_of, Completion, runs_as, runs_then, runs_stopped, at_as, at_done, handed_over_here, List}
use Rattle.std.proofs.lemmas.Bool.Decides.{nat_tests}
use Rattle.mspec.specs.Scopes.{Binding}
use Rattle.mgrammar.specs.Grammar.{ActualsTree, EntryTree}
use Rattle.mlocal.specs.Bindings.{binding_of}
use Rattle.mmeaning.specs.Levels.{Closing}
use Rattle.mmeaning.specs.LineMeaning as meaning
use Rattle.mmeaning.specs.LineMeaning.{lines_called}
use Rattle.mmeaning.specs.Parameters.{formals_of_target, with_formals}
use Rattle.mmeaning.specs.Programs.{is_list, listed}
use Rattle.mtree.specs.declared.tree.Called.{out-Called}
use Rattle.mcommand.proofs.HandedActuals.{called_is}
use Rattle.mcommand.proofs.LevelFormals.{listed_alike, is_written}
use Rattle.mexec.proofs.entering.doing.Goals as goal

-- whether a list of actuals is written is all that counts
entering_alike : (x : Context) (e : EntryTree) (xs : ActualsTree) (bs : List Binding) (c : Closing)
    → ◌≡◌ {A = Act Completion} (meaning.entering x e xs bs c) (meaning.entering x e (listed (is_list xs)) bs c)
entering_alike x e xs bs c =
    λ i. a_level_free x.position.depth >> (target x.position.level.copy 0 e >>= (λ t. formals_of_target t >>= (λ names.
    listed_alike xs names bs i >>= (λ formals. in_level x (record { copy = t.copy; next = Some t.line; dots = 0 }) c (with_formals formals) lines_called))))

pub returns-in_err-bindings-clause-does : goal.returns-in_err-bindings-clause-does
returns-in_err-bindings-clause-does g c =
    let p = position_of c.args.position.now in
    let called = called_tree c.args.called.now in
    let does = rw (c.deref.ensures.value, sym (ap (λ (x : EntryTree × ActualsTree). x.1) (called_is c.args.called.now))) at c.in_err-bindings.ensures in
    runs_stopped (λ a n bs. meaning.entering (context a n p) called.0 called.1 bs leaves) (at_as (λ a n. handed_over_here p called.1 c.requires a n) (at_done c.args.position.now.depth does)) c.from_residual.ensures

pub returns-clause-does : goal.returns-clause-does
returns-clause-does g c =
    let p = position_of c.args.position.now in
    let called = called_tree c.args.called.now in
    let bs = map binding_of c.in_ok-bindings.bindings.items in
    let ys = (out-Called c.args.called.now).actuals in
    let is = is_written actual_tree ys.items c.is_empty.result (λ is. grind (arith, nat_tests, c.is_empty.ensures, ys.ok.0, is)) (λ is. grind (arith, nat_tests, c.is_empty.ensures, ys.ok.0, is)) in
    let written : not c.is_empty.result ≡ is_list called.1 = sym is ∙ ap (λ (x : EntryTree × ActualsTree). is_list x.1) (sym (called_is c.args.called.now)) in
    let does = rw (c.deref.ensures.value, sym (ap (λ (x : EntryTree × ActualsTree). x.1) (called_is c.args.called.now))) at c.in_ok-bindings.ensures in
    let enters = rw (written, sym (ap (λ (x : EntryTree × ActualsTree). x.0) (called_is c.args.called.now))) at c.entering.ensures.does in
    runs_then (λ a n bs. meaning.entering (context a n p) called.0 called.1 bs leaves) (at_as (λ a n. handed_over_here p called.1 c.requires a n) (at_done c.args.position.now.depth does))
    (runs_as (λ a n. entering_alike (context a n p) called.0 called.1 bs leaves) enters)
