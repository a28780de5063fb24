-- SPDX-License-Identifier: Apache-2.0
use Rattle.mexec.proofs.ExecLaws.{◌≡◌, ◌≤◌, [], Option, Some, None, Err, length, refl, arith, none_left, Zmem, commands_of, line_tree, runs_wanting, stack_push}
use Rattle.mexec.proofs.ExecLaws.{size_push, leads_first, leads_on, leads_stopped, leads_ends}
use Rattle.mexec.proofs.line.run_line.Goals as goal

pub returns-in_err-first : goal.returns-in_err-first
returns-in_err-first g c =
    leads_stopped _ _ _ (leads_first (commands_of (line_tree c.args.line.value)) c.args.parts.now) (runs_wanting _ {fs' = []} (Err Zmem) (refl, refl)) c.from_residual.ensures

pub returns-in_err-completion : goal.returns-in_err-completion
returns-in_err-completion g c =
    let does = rw (c.in_ok-first.ensures.frames, c.in_ok-first.ensures.position, c.in_ok-first.ensures.line, c.in_ok-first.ensures.at) at c.in_err-completion.ensures.does in
    leads_stopped _ _ _ (leads_first (commands_of (line_tree c.args.line.value)) c.args.parts.now) does c.from_residual-in_err-completion.ensures

pub loop-frame-init : goal.loop-frame-init
loop-frame-init g c =
    let does = rw (c.in_ok-first.ensures.frames, c.in_ok-first.ensures.position, c.in_ok-first.ensures.line, c.in_ok-first.ensures.at) at c.in_ok-completion.ensures.does in
    leads_on _ _ _ (leads_first (commands_of (line_tree c.args.line.value)) c.args.parts.now) does

pub loop-frame-preserved : goal.loop-frame-preserved
loop-frame-preserved g c =
    let leads = rw (c.in-Some.ensures.items, stack_push) at c.loop-frame.invariant in
    leads_on _ _ _ leads c.in_ok-completion-2.ensures.does

pub loop-frame-smaller : goal.loop-frame-smaller
loop-frame-smaller g c =
    let falls = c.in_ok-completion-2.ensures.falls in
    rw (c.in-Some.ensures.items, size_push) (omega (arith, falls))

pub returns-in_err-completion-2 : goal.returns-in_err-completion-2
returns-in_err-completion-2 g c =
    let leads = rw (c.in-Some.ensures.items, stack_push) at c.loop-frame.invariant in
    leads_stopped _ _ _ leads c.in_err-completion-2.ensures.does c.from_residual-in_err-completion-2.ensures

none_is : {A : Type 0} (r : Option A) → ((x : A) → r ≡ Some x → ⊥) → r ≡ None
none_is None h = refl
none_is (Some x) h = absurd (h x refl)

pub returns : goal.returns
returns g c =
    let v = c.loop-frame.scratch.frames in
    let r : c.pop.result ≡ None = none_is c.pop.result (λ x e. c.in_default.not-Some x e) in
    let n = rw r at c.pop.ensures.cases in
    let few : length v.items ≤ 0 = omega (arith, v.ok, n) in
    let leads = rw (none_left 0 v.items few) at c.loop-frame.invariant in
    leads_ends _ c.loop-frame.completion leads
