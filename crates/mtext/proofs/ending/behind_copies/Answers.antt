-- SPDX-License-Identifier: Apache-2.0
use Rattle.mtext.proofs.TextWords.{◌≡◌, ℕ, ◌-◌, Bool, true, List, length, take, drop, eqb, sym, ap, ◌∙◌, arith, true≢false, starts_with, Decides-eqb, take_rest}
use Rattle.std.proofs.lemmas.Slice.Eq.{starts_is}
use Rattle.mtext.proofs.PatternEndings.{one_copy_more, one_copy_lacks}
use Rattle.mtext.proofs.ending.behind_copies.Goals as goal

-- what the test of the rest of a text says
in_rest : (text string : List ℕ) (at : ℕ) (r : Bool) → r ≡ starts_with eqb (take (length text - at) (drop at text)) string → r ≡ starts_with eqb (drop at text) string
in_rest text string at r is = is ∙ ap (λ (t : List ℕ). starts_with eqb t string) (take_rest text at)

pub returns-then-not-starts_with : goal.returns-then-not-starts_with
returns-then-not-starts_with c = λ rest whole.
    let later = one_copy_lacks c.args.string.now c.args.text.now rest c.loop-copy._copy c.args.number c.loop-copy.at (omega arith) c.loop-copy.invariant.stand whole in
    let starts : c.starts_with.result ≡ true = (starts_is Decides-eqb (drop c.loop-copy.at c.args.text.now) c.args.string.now c.starts_with.result
    (in_rest c.args.text.now c.args.string.now c.loop-copy.at c.starts_with.result c.starts_with.ensures.value)).1 later.0 later.1 in
    true≢false (sym starts ∙ c.if-not-starts_with.true)

pub loop-copy-preserved : goal.loop-copy-preserved
loop-copy-preserved c =
    let here = (starts_is Decides-eqb (drop c.loop-copy.at c.args.text.now) c.args.string.now c.starts_with.result
    (in_rest c.args.text.now c.args.string.now c.loop-copy.at c.starts_with.result c.starts_with.ensures.value)).0 c.if-not-starts_with.false in
    let more = one_copy_more c.args.string.now c.args.text.now c.loop-copy._copy c.loop-copy.at c.loop-copy.invariant.within c.loop-copy.invariant.stand here in
    record { within = more.0; stand = more.1 }
