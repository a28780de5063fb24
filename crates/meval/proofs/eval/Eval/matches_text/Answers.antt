-- SPDX-License-Identifier: Apache-2.0
use Rattle.meval.proofs.EvalLaws.{evaluates_then, evaluates_stopped, evaluates_wanting, evaluates_yielded, not_free, is_free}
use Rattle.mmeaning.specs.Operators.{matching}
use Rattle.meval.specs.Acts.{matches_read}
use Rattle.meval.proofs.Indirections.{deep_fails, free_then}
use Rattle.meval.proofs.eval.Eval.matches_text.Goals as goal

pub returns-in_default : goal.returns-in_default
returns-in_default g c = deep_fails (λ i. matches_read c.args.value.now c.args.given) (not_free _ _ c.in_default.is c.indirected.ensures.free)

pub returns-in_err-text : goal.returns-in_err-text
returns-in_err-text g c = evaluates_wanting _ _ _ c.from_residual.ensures

pub returns-in_err-atoms : goal.returns-in_err-atoms
returns-in_err-atoms g c =
    let free = is_free _ _ c.in-Some.is c.indirected.ensures.free in
    let none = rw (c.as_bytes.ensures.bytes, c.in_ok-text.ensures) at c.in_err-atoms.ensures in
    free_then (λ i. matches_read c.args.value.now c.args.given) free
    (evaluates_stopped (λ i atoms. matching atoms c.args.value.now) (evaluates_yielded none) c.from_residual-in_err-atoms.ensures)

pub returns : goal.returns
returns g c =
    let free = is_free _ _ c.in-Some.is c.indirected.ensures.free in
    let read = rw (c.as_bytes.ensures.bytes, c.in_ok-text.ensures) at c.in_ok-atoms.ensures in
    let matched = rw c.deref.ensures.value at c.matching.ensures in
    free_then (λ i. matches_read c.args.value.now c.args.given) free (evaluates_then (λ i atoms. matching atoms c.args.value.now) (evaluates_yielded read) matched)
