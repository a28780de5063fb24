-- SPDX-License-Identifier: Apache-2.0
use Rattle.mtext.proofs.TextWords.{◌≡◌, Bool, true, false, refl, sym, subst, ◌∙◌, not, is_in_set, Repeats}
use Rattle.mtext.proofs.PatternEndings.{lent_copies_apart}
use Rattle.mtext.proofs.ending.is_apart.Goals as goal

is_false : (b : Bool) → not b ≡ true → b ≡ false
is_false true e = absurd cc
is_false false e = refl

pub returns-in-Some : goal.returns-in-Some
returns-in-Some c = λ apart count what same some text is.
    lent_copies_apart (is_in_set c.args.set) c.in-Copies.string c.in-Some.character.now count what text c.in-Some.ensures.value
    (sym c.contains.ensures ∙ is_false c.contains.result apart) (subst (λ r. Repeats r what) c.in-Copies.is same) some is
