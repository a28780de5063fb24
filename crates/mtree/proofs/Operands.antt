-- SPDX-License-Identifier: Apache-2.0
-- What is an `@` with its operand and nothing more, by how many subscripts, signs and steps are beside it.
use Rattle.std.proofs.Common.{◌≡◌, ◌<◌, List, [], ◌∷◌, length, map, Some, None, Box, Vec, Global, refl, sym, ap, ◌∙◌, arith}
use Rattle.mgrammar.specs.Grammar.{ExprTree, TailTree, tails_of, OperandTree, PrimaryTree, ReferenceTree, ActualTree, exprs_of}
use Rattle.mgrammar.specs.WellFormed.{bare_reference, bare_primary, bare_expr}
use Rattle.mtree.specs.Tree.{CalledTree, ChoiceTree, expr_tree, tail_tree, operand_tree, primary_tree, reference_tree, sign_tree, actual_layer, primary_layer}
use Rattle.mtree.specs.Tree.{reference_layer, tail_layer, called_layer, choice_layer, expr_layer, operand_layer, referring_layer}
use Rattle.mtree.specs.declared.tree.Expr.{Expr}
use Rattle.mgrammar.specs.Grammar as grammar
use Rattle.mtree.specs.declared.tree.Tail.{Tail}
use Rattle.mtree.specs.declared.tree.Operand.{Operand}
use Rattle.mtree.specs.declared.tree.Primary.{Primary}
use Rattle.mtree.specs.declared.tree.Reference.TheVariants as reference
use Rattle.mtree.specs.declared.tree.Sign.{Sign}
use Rattle.mtree.specs.declared.tree.Actual.TheFolds.{fold_out-Expr, fold_out-Operand, fold-roll-Reference}

-- ---- a level of a tree

expr_is : (e : Expr) → expr_tree e ≡ grammar.expr (operand_tree e.first) (tails_of (map tail_tree e.rest.items))
expr_is = fold_out-Expr ActualTree PrimaryTree ReferenceTree TailTree CalledTree ChoiceTree ExprTree OperandTree PrimaryTree actual_layer primary_layer reference_layer tail_layer called_layer choice_layer expr_layer operand_layer referring_layer

operand_is : (o : Operand) → operand_tree o ≡ grammar.operand (map sign_tree o.signs.items) (primary_tree o.primary)
operand_is = fold_out-Operand ActualTree PrimaryTree ReferenceTree TailTree CalledTree ChoiceTree ExprTree OperandTree PrimaryTree actual_layer primary_layer reference_layer tail_layer called_layer choice_layer expr_layer operand_layer referring_layer

indirect_is : (operand : Box Primary Global) (subscripts : Vec Expr Global) → reference_tree (reference.Indirect operand subscripts) ≡ grammar.indirect (primary_tree operand.value) (exprs_of (map expr_tree subscripts.items))
indirect_is operand subscripts = ap reference_tree (sym (reference.rolls-Indirect operand subscripts)) ∙ fold-roll-Reference ActualTree PrimaryTree ReferenceTree TailTree CalledTree ChoiceTree ExprTree OperandTree PrimaryTree actual_layer primary_layer reference_layer tail_layer called_layer choice_layer expr_layer operand_layer referring_layer _

-- ---- variables

attached_some : (p : PrimaryTree) (xs : List Expr) → 0 < length xs → bare_reference (grammar.indirect p (exprs_of (map expr_tree xs))) ≡ None
attached_some p [] some = absurd (omega arith)
attached_some p (x ∷ xs) some = refl

attached_none : (p : PrimaryTree) (xs : List Expr) → length xs ≡ 0 → bare_reference (grammar.indirect p (exprs_of (map expr_tree xs))) ≡ Some p
attached_none p [] none = refl
attached_none p (x ∷ xs) none = absurd (omega arith)

pub with_subscripts : (operand : Box Primary Global) (subscripts : Vec Expr Global) → 0 < length subscripts.items → bare_reference (reference_tree (reference.Indirect operand subscripts)) ≡ None
with_subscripts operand subscripts some = rw (indirect_is operand subscripts) (attached_some (primary_tree operand.value) subscripts.items some)

pub without_subscripts : (operand : Box Primary Global) (subscripts : Vec Expr Global) → length subscripts.items ≡ 0
    → bare_reference (reference_tree (reference.Indirect operand subscripts)) ≡ Some (primary_tree operand.value)
without_subscripts operand subscripts none = rw (indirect_is operand subscripts) (attached_none (primary_tree operand.value) subscripts.items none)

-- ---- expressions

tails_some : (o : OperandTree) (ss : List Tail) → 0 < length ss → bare_expr (grammar.expr o (tails_of (map tail_tree ss))) ≡ None
tails_some o [] some = absurd (omega arith)
tails_some o (s ∷ ss) some = refl

signs_some : (signs : List Sign) (p : PrimaryTree) (ss : List Tail) → 0 < length signs → bare_expr (grammar.expr (grammar.operand (map sign_tree signs) p) (tails_of (map tail_tree ss))) ≡ None
signs_some [] p ss some = absurd (omega arith)
signs_some (g ∷ signs) p [] some = refl
signs_some (g ∷ signs) p (s ∷ ss) some = refl

primary_alone : (signs : List Sign) (p : PrimaryTree) (ss : List Tail) → length signs ≡ 0 → length ss ≡ 0
    → bare_expr (grammar.expr (grammar.operand (map sign_tree signs) p) (tails_of (map tail_tree ss))) ≡ bare_primary p
primary_alone [] p [] none no_tails = refl
primary_alone [] p (s ∷ ss) none no_tails = absurd (omega arith)
primary_alone (g ∷ signs) p ss none no_tails = absurd (omega arith)

pub with_tails : (e : Expr) → 0 < length e.rest.items → bare_expr (expr_tree e) ≡ None
with_tails e some = rw (expr_is e) (tails_some (operand_tree e.first) e.rest.items some)

pub with_signs : (e : Expr) → 0 < length e.first.signs.items → bare_expr (expr_tree e) ≡ None
with_signs e some = rw (expr_is e, operand_is e.first) (signs_some e.first.signs.items (primary_tree e.first.primary) e.rest.items some)

pub without_both : (e : Expr) → length e.first.signs.items ≡ 0 → length e.rest.items ≡ 0 → bare_expr (expr_tree e) ≡ bare_primary (primary_tree e.first.primary)
without_both e no_signs no_tails =
    rw (expr_is e, operand_is e.first) (primary_alone e.first.signs.items (primary_tree e.first.primary) e.rest.items no_signs no_tails)
