-- SPDX-License-Identifier: Apache-2.0
-- What has no call means the same whatever functions give.
use Rattle.mmeaning.proofs.MeaningWords.{◌≡◌, true, false, not, cond, List, [], ◌∷◌, ◌++◌, refl, Text, Act, ◌>>=◌, give}
use Rattle.mmeaning.proofs.MeaningWords.{ExprTree, ExprsTree, PrimaryTree, ReferenceTree, OperandTree, expr, tail, no_tails, apply, operand, number, text}
use Rattle.mmeaning.proofs.MeaningWords.{reference, bracket, refer, local, global, naked, indirect, extended, exprs, no_exprs, Calls, Depth, Inside}
use Rattle.mmeaning.proofs.MeaningWords.{Evaluated, of_local, of_global, of_naked, inside, finds, value, evaluated}
use Rattle.std.specs.Prelude.{◌||◌}
use Rattle.mspec.specs.Act.{◌>>◌, charge}
use Rattle.mspec.specs.Interpretations.{truth_text}
use Rattle.mgrammar.specs.Grammar.{special, call, select, extrinsic, matches_indirect, matches_not_indirect, TailsTree, TailTree, matches, matches_not, raise}
use Rattle.mgrammar.specs.Grammar.{ChoicesTree, no_choices, choice}
use Rattle.mgrammar.specs.Functions.{function_of}
pub use Rattle.mgrammar.proofs.StepsUncalled.{neither}
use Rattle.mgrammar.specs.CallsIn.{has_call, has_call_tails, has_call_tail, has_call_operand, has_call_primary, has_call_reference, has_call_exprs}
use Rattle.mgrammar.specs.CallsIn.{has_call_choices}
use Rattle.mmeaning.specs.Operators.{as_truth, unaries, binary, raising}
use Rattle.mmeaning.specs.Functions.{call_value}
use Rattle.mmeaning.specs.Variables.{with_more, reading, resolve, read_at, referring}
use Rattle.mmeaning.specs.Expression.{indirected, matches_text, named_by, tails_value, tail_value, operand_value, primary_value, values}
use Rattle.mmeaning.specs.Expression.{chosen}
use Rattle.mmeaning.specs.CallLaws.{CallsAloneDiffer}

module _ (a : Text) (find : Depth → ReferenceTree → Act Evaluated) (c c' : Calls) where
  abbrev with : Depth → Calls → Inside
  with d calls = record { account = a; depth = d; calls = calls; find = find }

  abbrev Same : {A : Type 0} → Depth → (Inside → Act A) → Type 0
  Same {A} d p = ◌≡◌ {A = Act A} (p (with d c)) (p (with d c'))

  mutual
    pub value_same : (d : Depth) → (e : ExprTree) → has_call e ≡ false → Same d (λ i. value i e)
    value_same d (expr first rest) h =
        let n = neither (has_call_operand first) (has_call_tails rest) h in
        λ j. operand_same d first n.0 j >>= (λ x. tails_same d x rest n.1 j)

    tails_same : (d : Depth) → (x : Text) (s : TailsTree) → has_call_tails s ≡ false → Same d (λ i. tails_value i x s)
    tails_same d x no_tails h = refl
    tails_same d x (tail s rest) h =
        let n = neither (has_call_tail s) (has_call_tails rest) h in
        λ j. tail_same d x s n.0 j >>= (λ y. tails_same d y rest n.1 j)

    pub tail_same : (d : Depth) → (x : Text) (s : TailTree) → has_call_tail s ≡ false → Same d (λ i. tail_value i x s)
    tail_same d x (apply b o) h = λ j. operand_same d o h j >>= (λ y. binary b x y)
    tail_same d x (matches atoms) h = refl
    tail_same d x (matches_not atoms) h = refl
    tail_same d x (raise o) h = λ j. operand_same d o h j >>= (λ y. raising x y)
    tail_same d x (matches_indirect p) h = λ j. primary_same d p h j >>= (λ t. matches_text (with d c) x t >>= (λ b. give (truth_text b)))
    tail_same d x (matches_not_indirect p) h = λ j. primary_same d p h j >>= (λ t. matches_text (with d c) x t >>= (λ b. give (truth_text (not b))))

    pub operand_same : (d : Depth) → (o : OperandTree) → has_call_operand o ≡ false → Same d (λ i. operand_value i o)
    operand_same d (operand signs p) h = λ j. primary_same d p h j >>= (λ x. unaries signs x)

    pub primary_same : (d : Depth) → (p : PrimaryTree) → has_call_primary p ≡ false → Same d (λ i. primary_value i p)
    primary_same d (number literal) h = refl
    primary_same d (text t) h = refl
    primary_same d (special word) h = refl
    primary_same d (reference r) h = λ j. charge >> (reference_same d r h j >>= (λ v. resolve reading v >>= (λ p. read_at p)))
    primary_same d (bracket e) h = λ j. charge >> value_same d e h j
    primary_same d (call word args) h = λ j. charge >> (values_same d [] args h j >>= (λ xs. call_value word xs))
    primary_same d (select word choices) h = λ j. charge >> choices_same d choices h j
    primary_same d (refer word r more) h =
        let n = neither (has_call_reference r) (has_call_exprs more) h in
        λ j. charge >> referring a (function_of word) (reference_same d r n.0 j) (values_same d [] more n.1 j)
    primary_same d (extrinsic e xs) h = absurd (let clash : true ≡ false = h in cc)

    pub reference_same : (d : Depth) → (r : ReferenceTree) → has_call_reference r ≡ false → Same d (λ i. evaluated i r)
    reference_same d (local name subscripts) h = λ j. values_same d [] subscripts h j >>= (λ xs. give (of_local name xs))
    reference_same d (global name subscripts) h =
        λ j. values_same d [] subscripts h j >>= (λ xs. give (of_global (record { account = a; name = name; subscripts = xs })))
    reference_same d (naked subscripts) h = λ j. values_same d [] subscripts h j >>= (λ xs. give (of_naked xs))
    reference_same d (indirect p subscripts) h =
        let n = neither (has_call_primary p) (has_call_exprs subscripts) h in
        λ j. primary_same d p n.0 j >>= (λ x. named_by (with d c) x >>= (λ v.
        values_same (indirected d) [] subscripts n.1 j >>= (λ xs. give (with_more xs v))))
    reference_same d (extended e name subscripts) h =
        let n = neither (has_call e) (has_call_exprs subscripts) h in
        λ j. value_same d e n.0 j >>= (λ owner. values_same d [] subscripts n.1 j >>=
        (λ xs. give (of_global (record { account = owner; name = name; subscripts = xs }))))

    pub values_same : (d : Depth) → (xs : List Text) (es : ExprsTree) → has_call_exprs es ≡ false → Same d (λ i. values i xs es)
    values_same d xs no_exprs h = refl
    values_same d xs (exprs e rest) h =
        let n = neither (has_call e) (has_call_exprs rest) h in
        λ j. value_same d e n.0 j >>= (λ x. values_same d (xs ++ x ∷ []) rest n.1 j)

    choices_same : (d : Depth) → (s : ChoicesTree) → has_call_choices s ≡ false → Same d (λ i. chosen i s)
    choices_same d no_choices h = refl
    choices_same d (choice k v rest) h =
        let n = neither (has_call k) (has_call v || has_call_choices rest) h in
        let m = neither (has_call v) (has_call_choices rest) n.1 in
        λ j. value_same d k n.0 j >>= (λ x. as_truth x >>= (λ b. cond b (value_same d v m.0 j) (choices_same d rest m.1 j)))

pub calls_alone_differ : CallsAloneDiffer
calls_alone_differ a n d calls e h = value_same a (finds a n) calls (inside a n d).calls d e h
