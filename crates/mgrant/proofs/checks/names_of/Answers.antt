-- SPDX-License-Identifier: Apache-2.0
use Rattle.mgrant.proofs.GrantWords.{◌≡◌, ◌++◌, [], ◌∷◌, ◌+◌, inr, true, false, Some, get_or, take, refl, sym, ap, subst, ◌∙◌, arith, rules, not, list_any}
use Rattle.mgrant.proofs.GrantWords.{and_right, common_steps, text_eq, are_names, is_account_name, names_of, entries_seen, Bytes, IsIndex}
use Rattle.std.specs.HashMap as hash
use Rattle.mgrant.proofs.Places.{found_any, found_none, place_told, absence_told, index_more, same_bytes}
use Rattle.mgrant.proofs.Parts.{names_more, names_good, names_fail, names_count}
use Rattle.mgrant.proofs.checks.names_of.Goals as goal

pub returns-then-not-is_account_name : goal.returns-then-not-is_account_name
returns-then-not-is_account_name c =
    let es = c.args.entries.now in
    let i = c.loop-place.place in
    let e = c.index-entries-place.result in
    let at : get_or es i e ≡ e = sym c.index-entries-place.is in
    let bad : is_account_name e.name.items ≡ false = grind (arith, common_steps) in
    inr (refl, names_fail es i e c.loop-place-test.true (rw (at, bad) refl))

pub returns-then-is_some : goal.returns-then-is_some
returns-then-is_some c =
    let es = c.args.entries.now in
    let i = c.loop-place.place in
    let e = c.index-entries-place.result in
    let at : get_or es i e ≡ e = sym c.index-entries-place.is in
    let names = names_of (entries_seen (take i es)) in
    let there = found_any names c.as_slice-name.result.now c.place_in.result (place_told names c.loop-place.places c.loop-place.invariant.0 c.as_slice-name.result.now c.place_in.result c.place_in.ensures) (sym c.is_some.ensures ∙ c.if-is_some.true) in
    let twice : list_any (text_eq e.name.items) names ≡ true = ap (λ t. list_any (text_eq t) names) (sym c.as_slice-name.ensures.value) ∙ there in
    inr (refl, names_fail es i e c.loop-place-test.true (rw at (and_right (is_account_name e.name.items) _ (ap not twice))))

pub loop-place-preserved : goal.loop-place-preserved
loop-place-preserved c =
    let es = c.args.entries.now in
    let i = c.loop-place.place in
    let e = c.index-entries-place.result in
    let at : get_or es i e ≡ e = sym c.index-entries-place.is in
    let names = names_of (entries_seen (take i es)) in
    let key : Bytes = c.in_ok-key.key in
    let items : key.items ≡ e.name.items = search rules in
    let good : is_account_name e.name.items ≡ true = grind (arith, common_steps) in
    let none = found_none names c.as_slice-name.result.now c.place_in.result (absence_told names c.loop-place.places c.loop-place.invariant.0 c.as_slice-name.result.now c.place_in.result c.place_in.ensures) (sym c.is_some.ensures ∙ c.if-is_some.false) in
    let new : list_any (text_eq e.name.items) names ≡ false = ap (λ t. list_any (text_eq t) names) (sym c.as_slice-name.ensures.value) ∙ none in
    let more : names_of (entries_seen (take (i + 1) es)) ≡ names ++ e.name.items ∷ [] = names_more es i e c.loop-place-test.true ∙ ap (λ x. names ++ x.name.items ∷ []) at in
    let index = index_more names c.loop-place.places c.insert.new.self key c.loop-place.invariant.0 (rw items new)
    (subst (λ k. hash.UpdatesBy same_bytes (same_bytes key) c.loop-place.places c.insert.new.self (Some k)) (sym (names_count es i (omega arith))) c.in_ok-insert.ensures.updates) in (
      subst (λ ts. IsIndex ts c.insert.new.self) (ap (λ t. names ++ t ∷ []) items ∙ sym more) index,
      ap are_names more ∙ names_good names e.name.items c.loop-place.invariant.1 good new,
    )
