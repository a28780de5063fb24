-- SPDX-License-Identifier: Apache-2.0
use Rattle.mkey.proofs.KeyWords.{◌++◌, ◌+◌, ◌∙◌, drop, sym, ap, subst, All, ◌<◌, text_bytes, IsFront}
use Rattle.mkey.proofs.TextFronts.{raised_text, match_map, text_more, text_found, text_other, text_open}
use Rattle.mkey.proofs.decoding.read_text.Goals as goal

pub loop-i-init : goal.loop-i-init
loop-i-init c = ap (λ t. raised_text t ++ c.args.bytes.now) (sym c.in_ok-text.ensures.items)

pub returns-then-byte-eq0 : goal.returns-then-byte-eq0
returns-then-byte-eq0 c =
    match_map c.counted.result
    (λ other. text_other c.args.bytes.now c.loop-i.text.items c.loop-i.i c.loop-i-test.true c.if-byte-eq0.true c.loop-i.invariant other)
    (λ part is. (
      subst (λ n. IsFront c.args.bytes.now (text_bytes part.0) n) (sym is.1)
          (subst (λ t. IsFront c.args.bytes.now (text_bytes t) (c.loop-i.i + 1)) (sym is.0) (text_found c.args.bytes.now c.loop-i.text.items c.loop-i.i c.loop-i-test.true c.if-byte-eq0.true c.loop-i.invariant)),
      subst (All (λ c. c < 128)) (sym is.0) is.2,
    ))
    c.counted.ensures

pub loop-i-preserved : goal.loop-i-preserved
loop-i-preserved c =
    text_more c.args.bytes.now c.loop-i.text.items c.loop-i.i c.loop-i-test.true c.if-byte-eq0.false c.loop-i.invariant
    ∙ ap (λ t. raised_text t ++ drop (c.loop-i.i + 1) c.args.bytes.now) (sym c.in_ok-push.ensures.items)

pub returns : goal.returns
returns c = text_open c.args.bytes.now c.loop-i.text.items c.loop-i.i c.loop-i-test.false c.loop-i.invariant
