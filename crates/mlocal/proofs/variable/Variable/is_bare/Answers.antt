-- SPDX-License-Identifier: Apache-2.0
use Rattle.mlocal.proofs.LocalLaws.{◌≡◌, ◌&&◌, true, false, not, length, sym, ap, ◌∙◌, arith, is_some, nat_eq, nat_tests, is_bare, own_bare}
use Rattle.mlocal.proofs.variable.Variable.is_bare.Goals as goal

pub returns-then-is_none : goal.returns-then-is_none
returns-then-is_none c =
    let v = c.self.inside in
    let none : is_some v.own ≡ false = c.is_none.ensures ∙ ap not c.if-is_none.true in
    let empty : c.is_empty.result ≡ nat_eq (length v.values.entries) 0 = grind (arith, nat_tests, c.is_empty.ensures) in
    empty ∙ ap (λ b. not b && nat_eq (length v.values.entries) 0) (sym none) ∙ own_bare v.own v.values ∙ ap is_bare c.self.view_is

pub returns-else-is_none : goal.returns-else-is_none
returns-else-is_none c =
    let v = c.self.inside in
    let some : is_some v.own ≡ true = c.is_none.ensures ∙ ap not c.if-is_none.false in
    c.if-is_none.false ∙ ap (λ b. not b && nat_eq (length v.values.entries) 0) (sym some) ∙ own_bare v.own v.values ∙ ap is_bare c.self.view_is
