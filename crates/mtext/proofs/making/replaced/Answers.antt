-- SPDX-License-Identifier: Apache-2.0
use Rattle.mtext.proofs.TextWords.{◌≡◌, ◌+◌, subst, take, drop, made, join, pieces_of, Answers, IsBehind, delimiter_text}
use Rattle.std.proofs.lemmas.List.{take_rest}
use Rattle.mtext.proofs.PieceSetting.{set_found}
use Rattle.mtext.proofs.making.replaced.Goals as goal

pub returns : goal.returns
returns c =
    let s = c.args.text.now in
    let at = c.in-Ok.start in
    let end = c.end_of.result in
    let behind = subst (λ needle. IsBehind needle s c.args.before at) c.new-sought.ensures c.in-Ok.ensures.behind in
    let found = subst (λ r. take end r ≡ join (delimiter_text c.new-sought.result) (take (c.args.more + 1) (pieces_of (delimiter_text c.new-sought.result) r))) (take_rest s at) c.end_of.ensures.end in
    let cut = subst (λ needle. take end (drop at s) ≡ join needle (take (c.args.more + 1) (pieces_of needle (drop at s)))) c.new-sought.ensures found in
    subst (λ t. Answers (made t) c.spliced.result) (set_found c.args.delimiter.now s c.args.value.now c.args.before at end c.args.more c.requires.some behind cut) c.spliced.ensures
