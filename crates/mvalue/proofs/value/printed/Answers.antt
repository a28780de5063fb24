-- SPDX-License-Identifier: Apache-2.0
use Rattle.mvalue.proofs.ValueWords.{◌≡◌, ◌++◌, All, true, false, ap, sym, ◌∙◌, subst, number_text, units, ℕ, List}
use Rattle.mvalue.proofs.AsciiNumbers.{Ascii, text_ascii}
use Rattle.mvalue.proofs.value.printed.Goals as goal

pub unreachable-requires : goal.unreachable-requires
unreachable-requires c =
    let text = number_text (units c.args.number) in
    let written : c.write.new.out.items ≡ text = c.in_ok-write.ensures.ok ∙ ap (λ (s : List ℕ). s ++ text) c.new-bytes.ensures.items in
    let ascii : All Ascii c.write.new.out.items = subst (All Ascii) (sym written) (text_ascii c.args.number) in
    let taken : false ≡ true = c.in-Err.ensures.when.1 ascii in
    cc
