-- SPDX-License-Identifier: Apache-2.0
use Rattle.mcommand.proofs.CommandLaws.{◌≡◌, [], map, ap, List, Vec, Global, arith, does_gives, does_is}
use Rattle.std.proofs.lemmas.Bool.{false≢true}
use Rattle.std.proofs.lemmas.Bool.Decides.{nat_tests}
use Rattle.std.proofs.lemmas.List.{nil_from_length}
use Rattle.mspec.specs.Scopes as scopes
use Rattle.mlocal.specs.Bindings.{binding_of}
use Rattle.mlocal.specs.declared.binding.Binding.{Binding}
use Rattle.mgrammar.specs.Grammar.{actuals_of}
use Rattle.mtree.specs.Tree.{actual_tree}
use Rattle.mcommand.proofs.Handed.{each_handed}
use Rattle.mcommand.proofs.parts.Parts.handed_over.Goals as goal

pub returns-then-is_empty : goal.returns-then-is_empty
returns-then-is_empty g c =
    let none : c.args.actuals.now ≡ [] = nil_from_length c.args.actuals.now (grind (arith, nat_tests, c.is_empty.ensures, c.if-is_empty.true)) in
    rw none
    (does_gives {A = List scopes.Binding} [] (λ (bs : Vec Binding Global). map binding_of bs.items) c.new.result
    (ap (λ (bs : List Binding). map binding_of bs) c.new.ensures.items))

pub returns-then-is_bare : goal.returns-then-is_bare
returns-then-is_bare g c =
    let bare = c.is_bare.ensures.0 c.if-is_bare.true in
    rw bare
    (does_gives {A = List scopes.Binding} [] (λ (bs : Vec Binding Global). map binding_of bs.items) c.new-then-is_bare.result
    (ap (λ (bs : List Binding). map binding_of bs) c.new-then-is_bare.ensures.items))

pub returns : goal.returns
returns g c =
    does_is (λ i. each_handed i (actuals_of (map actual_tree c.args.actuals.now)) (λ e. false≢true (rw c.if-is_bare.false at c.is_bare.ensures.1 e))) c.all_handed.ensures
