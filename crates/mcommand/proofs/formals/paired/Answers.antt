-- SPDX-License-Identifier: Apache-2.0
use Rattle.mcommand.proofs.CommandLaws.{◌≡◌, ◌++◌, List, Text, map, arith, refl, sym, ap, ◌∙◌, into_iter_items}
use Rattle.std.proofs.Common.{append-nil, add-one, drop, drop-cons, suc, ℕ, ◌+◌, ◌∷◌}
use Rattle.std.proofs.lemmas.List.{drop_all}
use Rattle.mmeaning.specs.Parameters as meaning
use Rattle.mlocal.specs.Bindings.{binding_of, bindings_of}
use Rattle.mcommand.proofs.PairedNames.{pair_pushed}
use Rattle.mcommand.proofs.formals.paired.Goals as goal

pub loop-name-init : goal.loop-name-init
loop-name-init c = rw (c.in_ok-formals.ensures.items, c.into_iter-rest.ensures.rest) refl

pub loop-name-preserved : goal.loop-name-preserved
loop-name-preserved c =
    let names = c.args.names.now in
    let i = c.loop-name.name-index in
    let name = c.name-item.result in
    let there : drop i names ≡ name ∷ drop (i + 1) names =
    drop-cons names i name c.loop-name-test.true ∙ ap (λ (x : Text). x ∷ drop (suc i) names) (sym c.name-item.is)
    ∙ ap (λ (k : ℕ). name ∷ drop k names) (sym (add-one i)) in
    rw (c.in_ok-push.ensures.items, c.unwrap_or-binding.ensures, c.in_ok-copy.ensures)
    (sym (pair_pushed c.loop-name.formals.items name (drop (i + 1) names) c.loop-name.rest c.next.new.self c.next.result c.next.ensures.cases)
    ∙ ap (λ (xs : List Text). bindings_of c.loop-name.formals.items ++ meaning.paired xs (map binding_of (into_iter_items c.loop-name.rest))) (sym there)
    ∙ c.loop-name.invariant)

pub returns : goal.returns
returns c =
    let done = drop_all c.loop-name.name-index c.args.names.now (omega arith) in
    sym (append-nil (bindings_of c.loop-name.formals.items))
    ∙ sym (ap (λ (xs : List Text). bindings_of c.loop-name.formals.items ++ meaning.paired xs (map binding_of (into_iter_items c.loop-name.rest))) done)
    ∙ c.loop-name.invariant
