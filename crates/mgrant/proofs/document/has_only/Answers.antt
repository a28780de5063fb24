-- SPDX-License-Identifier: Apache-2.0
use Rattle.mgrant.proofs.GrantWords.{◌≡◌, ◌∷◌, ◌∙◌, true, false, String, Global, string_bytes, sym, ap, arith, ◌&&◌, list_any, and_left, common_steps, text_eq}
use Rattle.mgrant.proofs.GrantWords.{keys_view}
use Rattle.mgrant.proofs.Keys.{keys_only, has_only-keys, among_view}
use Rattle.mgrant.proofs.document.has_only.Goals as goal

pub loop-key-init : goal.loop-key-init
loop-key-init c = (tt, tt, ap (keys_only (keys_view c.args.keys.now)) (c.into_iter-key-iterator.ensures.into_iter_gives ∙ c.keys-key-items.ensures.rest) ∙ has_only-keys (keys_view c.args.keys.now) c.args.table.now.entries)

pub returns-then-not-is_among : goal.returns-then-not-is_among
returns-then-not-is_among c =
    let k : String Global = c.in-Some.key.now in
    let iter : c.loop-key.key-iterator ≡ k ∷ c.next.new.self = grind (arith, common_steps) in
    let other : list_any (text_eq (string_bytes k)) (keys_view c.args.keys.now) ≡ false =
    sym (ap (λ t. list_any (text_eq t) (keys_view c.args.keys.now)) c.as_str.ensures.value) ∙ sym (among_view c.as_str.result.now c.args.keys.now) ∙ sym c.is_among.ensures ∙ c.if-not-is_among.true in
    sym (sym c.loop-key.invariant.2 ∙ ap (keys_only (keys_view c.args.keys.now)) iter ∙ and_left _ _ other)

pub loop-key-preserved : goal.loop-key-preserved
loop-key-preserved c =
    let k : String Global = c.in-Some.key.now in
    let iter : c.loop-key.key-iterator ≡ k ∷ c.next.new.self = grind (arith, common_steps) in
    let one : list_any (text_eq (string_bytes k)) (keys_view c.args.keys.now) ≡ true =
    sym (ap (λ t. list_any (text_eq t) (keys_view c.args.keys.now)) c.as_str.ensures.value) ∙ sym (among_view c.as_str.result.now c.args.keys.now) ∙ sym c.is_among.ensures ∙ c.if-not-is_among.false in
    (tt, tt, sym (ap (λ b. b && keys_only (keys_view c.args.keys.now) c.next.new.self) one) ∙ sym (ap (keys_only (keys_view c.args.keys.now)) iter) ∙ c.loop-key.invariant.2)
