-- SPDX-License-Identifier: Apache-2.0
use Rattle.mkey.proofs.KeyWords.{subst, sym, IsCanonical, none_of_other}
use Rattle.mkey.proofs.ShortTexts.{none_where_other}
use Rattle.mkey.proofs.TextFronts.{not_so}
use Rattle.mkey.proofs.SubscriptFronts.{other_letters, letters_found}
use Rattle.mkey.proofs.decoding.read_letters.Goals as goal

pub returns-then-not-is_subscript : goal.returns-then-not-is_subscript
returns-then-not-is_subscript c =
    let found = rw c.in-Some.is at c.in_ok-read_text.ensures in
    other_letters c.args.kept c.args.bytes.now c.in-Some.text c.in-Some.count found.0 (λ sub none. not_so (c.if-not-is_subscript.ensures.1 sub.0))

pub returns-then-is_canonical_by : goal.returns-then-is_canonical_by
returns-then-is_canonical_by c =
    let found = rw c.in-Some.is at c.in_ok-read_text.ensures in
    other_letters c.args.kept c.args.bytes.now c.in-Some.text c.in-Some.count found.0
    (λ sub none. none_of_other c.args.kept c.in-Some.text none (subst (IsCanonical c.args.kept) c.as_bytes.ensures.bytes (c.is_canonical_by.ensures.0 c.if-is_canonical_by.true)))

pub returns-else-is_canonical_by : goal.returns-else-is_canonical_by
returns-else-is_canonical_by c =
    let found = rw c.in-Some.is at c.in_ok-read_text.ensures in
    let none = none_where_other c.args.kept c.in-Some.text (λ canonical. not_so (c.if-is_canonical_by.ensures.1 (subst (IsCanonical c.args.kept) (sym c.as_bytes.ensures.bytes) canonical))) in
    (letters_found c.args.kept c.args.bytes.now c.in-Some.text c.in-Some.count found.0 none, (c.is_subscript.ensures.0 c.if-not-is_subscript.false, found.1))
