-- SPDX-License-Identifier: Apache-2.0
use Rattle.mkey.proofs.KeyWords.{◌≡◌, ◌++◌, ◌∙◌, Some, ap, subst, sym, number_text, IsCanonical, canonical_value, units, units_number}
use Rattle.mkey.proofs.TextFronts.{match_map, not_so}
use Rattle.mkey.proofs.SubscriptFronts.{canonical_text, text_where_canonical, no_other_text, not_canonical}
use Rattle.mkey.proofs.decoding.numeric_sub.Goals as goal

pub is_kept-requires-clause-canonical : goal.is_kept-requires-clause-canonical
is_kept-requires-clause-canonical c =
    let is : c.write.new.out.items ≡ number_text (units c.args.number) = c.in_ok-write.ensures.ok ∙ ap (λ t. t ++ number_text (units c.args.number)) c.in_ok-text.ensures.items in
    subst (IsCanonical 18) (sym c.as_slice.ensures.value) (canonical_text 18 c.write.new.out.items (units c.args.number) is (units_number c.args.number))

pub returns-then-not-is_kept : goal.returns-then-not-is_kept
returns-then-not-is_kept c =
    let is : c.write.new.out.items ≡ number_text (units c.args.number) = c.in_ok-write.ensures.ok ∙ ap (λ t. t ++ number_text (units c.args.number)) c.in_ok-text.ensures.items in
    not_canonical c.args.kept c.write.new.out.items (units c.args.number) is (λ canonical. not_so (c.if-not-is_kept.ensures.1 (subst (IsCanonical c.args.kept) (sym c.as_slice.ensures.value) canonical)))

pub returns : goal.returns
returns c =
    let is : c.write.new.out.items ≡ number_text (units c.args.number) = c.in_ok-write.ensures.ok ∙ ap (λ t. t ++ number_text (units c.args.number)) c.in_ok-text.ensures.items in
    let canonical : IsCanonical c.args.kept c.write.new.out.items = subst (IsCanonical c.args.kept) c.as_slice.ensures.value (c.is_kept.ensures.0 c.if-not-is_kept.false) in
    match_map c.sub_of.result
    (λ other. no_other_text c.args.kept c.write.new.out.items (units c.args.number) is other)
    (λ part found. (
      subst (λ t. IsCanonical c.args.kept t → canonical_value c.args.kept t ≡ Some (units c.args.number)) (sym found.0) (text_where_canonical c.args.kept c.write.new.out.items (units c.args.number) is (units_number c.args.number) c.requires.some_kept c.requires.kept_at_most)
          (subst (IsCanonical c.args.kept) (sym found.0) canonical),
      found.1,
      found.2,
    ))
    c.sub_of.ensures
