-- SPDX-License-Identifier: Apache-2.0
use Rattle.mkey.proofs.KeyWords.{◌≡◌, Some, None, length, sym, ◌∙◌, ap, arith, position}
use Rattle.mkey.proofs.KeyWalks.{is_zero, zero_at, length-text_bytes}
use Rattle.mkey.proofs.ancestors.text_len.Goals as goal

pub returns-in-Some-clause-text : goal.returns-in-Some-clause-text
returns-in-Some-clause-text c s rest e =
    let found : Some c.in-Some.end ≡ Some (length s) = sym c.in-Some.is ∙ c.first_zero.ensures.value ∙ ap (position is_zero) e ∙ zero_at s rest in
    let end : c.in-Some.end ≡ length s = cc in
    omega (arith, end, length-text_bytes s)

pub returns-in-None-clause-text : goal.returns-in-None-clause-text
returns-in-None-clause-text c s rest e =
    let found : None ≡ Some (length s) = sym c.in-None.is ∙ c.first_zero.ensures.value ∙ ap (position is_zero) e ∙ zero_at s rest in
    absurd (cc)
