-- SPDX-License-Identifier: Apache-2.0
use Rattle.moperator.proofs.function_calls.translated.Goals as goal

pub returns : goal.returns
returns c =
    let made = rw (c.as_text.ensures, c.in_ok-text.ensures, c.as_text-2.ensures, c.in_ok-from.ensures, c.as_text-3.ensures, c.in_ok-to.ensures) at c.translate.ensures in
    c.answered.ensures.value _ made
