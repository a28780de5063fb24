-- SPDX-License-Identifier: Apache-2.0
use Rattle.mgrant.proofs.GrantWords.{◌≡◌, ◌++◌, [], ◌∷◌, Some, ap, sym, subst, ◌∙◌, length, false, rules, arith, vec_len, list_any, map-append, length-map}
use Rattle.mgrant.proofs.GrantWords.{text_eq, IsIndex, Bytes, texts_of}
use Rattle.std.specs.HashMap as hash
use Rattle.mgrant.proofs.Places.{index_more, same_bytes}

pub invariant_of-result : Rattle.mgrant.proofs.words.Words.with.Goals.invariant_of-result
invariant_of-result c =
    let items = c.self.inside.list.items in
    let key : Bytes = c.in_ok-key.key in
    let is : key.items ≡ c.args.text.items = search rules in
    let same : vec_len c.self.inside.list ≡ length items = omega arith in
    let count : c.len.result ≡ length (texts_of items) = rw (length-map items (λ (v : Bytes). v.items)) (omega arith) in
    let absent : list_any (text_eq key.items) (texts_of items) ≡ false = rw (is, c.self.view_is) c.requires in
    let more = index_more (texts_of items) c.self.inside.places c.insert.new.self key c.self.invariant absent
    (subst (λ k. hash.UpdatesBy same_bytes (same_bytes key) c.self.inside.places c.insert.new.self (Some k)) count c.in_ok-insert.ensures.updates) in
    let new : c.push.new.self.items ≡ items ++ c.args.text ∷ [] = search rules in
    subst (λ ts. IsIndex ts c.insert.new.self) (ap (λ t. texts_of items ++ t ∷ []) is ∙ sym (map-append (λ (v : Bytes). v.items) items (c.args.text ∷ [])) ∙ ap texts_of (sym new)) more
