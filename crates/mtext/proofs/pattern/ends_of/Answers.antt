-- SPDX-License-Identifier: Apache-2.0
use Rattle.mtext.proofs.TextWords.{◌≡◌, IfOk, length, sym, subst, ap, ◌∙◌, Decides-eqb, count_of, repeated_of, AreEnds}
use Rattle.mtext.proofs.PatternCopies.{ends_at_starts_if}
use Rattle.mtext.proofs.pattern.ends_of.Goals as goal

pub returns-then-is_empty : goal.returns-then-is_empty
returns-then-is_empty c =
    let none : length c.as_bytes.result.now ≡ 0 = (Decides-eqb (length c.as_bytes.result.now) 0).0 (sym c.if-is_empty.ensures) in
    subst (λ w. IfOk c.ends_of_nothing.result (λ ends. AreEnds c.args.text.now (count_of c.args.atom.now.count) (repeated_of w) c.args.starts.now ends.items)) (sym c.in-Copies.is)
    (ends_at_starts_if c.args.text.now _ (count_of c.args.atom.now.count) c.args.starts.now c.ends_of_nothing.result (sym (ap length c.as_bytes.ensures.bytes) ∙ none) c.requires c.ends_of_nothing.ensures.size c.ends_of_nothing.ensures.each)
