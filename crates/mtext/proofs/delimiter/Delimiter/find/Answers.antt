-- SPDX-License-Identifier: Apache-2.0
use Rattle.mtext.proofs.TextWords.{sym, ap, subst, FindsNeedle, delimiter_text}
use Rattle.mtext.proofs.delimiter.Delimiter.find.Goals as goal

pub returns-in-Text : goal.returns-in-Text
returns-in-Text c = subst (λ needle. FindsNeedle c.args.text.now needle 0 c.find.result) (sym (ap delimiter_text c.in-Text.is)) c.find.ensures
