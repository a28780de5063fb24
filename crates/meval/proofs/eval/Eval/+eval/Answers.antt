-- SPDX-License-Identifier: Apache-2.0
use Rattle.meval.proofs.EvalLaws.{◌≡◌, ◌∙◌, length, [], ◌∷◌, map, refl, sym, ap, arith, nat_tests, nil_from_length, apply, exprs_of, attached, values}
use Rattle.meval.proofs.EvalLaws.{at_local, of_global, resolve, reading, direction_of, residual_is, slice_get, ◌>>=◌, give}
use Rattle.meval.proofs.EvalLaws.{expr_tree, operand_tree, reference_tree, tail_tree, units, read_act, data_act, data_at, get_act, get_from, order_from}
use Rattle.meval.proofs.EvalLaws.{order_behind, pending_view, walk_view, of_local, of_naked, read_or, unwrap_or, decides_subscripts, read_at, List}
use Rattle.meval.proofs.EvalLaws.{computed_outcome, evaluates_regrouped, evaluates_then, evaluates_whole, evaluates_failed, evaluates_gives, evaluates_seen}
use Rattle.meval.proofs.EvalLaws.{evaluates_refused, evaluates_stopped, evaluates_wanting, evaluates_yielded, never_refused, keeps_itself, keeps_on}
use Rattle.meval.proofs.EvalLaws.{node_evaluated, node_failed, variable_told, function_failed, got, let_through, ordered_next, ordered_stopped, walk_through}
use Rattle.meval.proofs.EvalLaws.{walk_refused, step_leads, operand_refused, operator_refused, leads_itself, leads_on, leads_into, of_primary, alone}
use Rattle.meval.proofs.EvalLaws.{in_brackets, bracket_refused, not_free, is_free, evaluates_behind, evaluates_deep, evaluates_unnamed, evaluates_entry}
use Rattle.meval.proofs.EvalLaws.{evaluated, gives_own, node_of, own_failed, own_told, owned, expr_is, operand_is, number_is, text_is, special_is, reference_is}
use Rattle.meval.proofs.EvalLaws.{variable_is, node_is, local_is, global_is, naked_is, indirect_is, extended_is, extrinsic_is, refer_is, referring_is}
use Rattle.meval.proofs.EvalLaws.{bracket_is, call_is, select_is, apply_is, matches_indirect_is, matches_is, matches_not_indirect_is, matches_not_is, raise_is}
use Rattle.meval.proofs.EvalLaws.{charge_failed, uncalled, from_tail, from_end, next_value, value_failed, values_end, next_choice, is_chosen, not_chosen}
use Rattle.meval.proofs.EvalLaws.{none_chosen, name_behind, named_as, named_local, named_stopped, whole_at}
use Rattle.meval.specs.Counters.{increment_by, increment_behind}
use Rattle.meval.specs.Queries.{query_from, query_behind}
use Rattle.meval.proofs.QueryRuns.{queried, query_stopped, search_refused, search_through}
use Rattle.std.proofs.Common.{Ok}
use Rattle.std.specs.Prelude.{not}
use Rattle.mspec.specs.Interpretations.{truth_text}
use Rattle.mmeaning.specs.Expression.{primary_value, matches_text}
use Rattle.meval.proofs.Indirections.{evaluates_within}
use Rattle.mmeaning.specs.Variables.{with_more}
use Rattle.meval.specs.Acts.{one_more}
use Rattle.mspec.specs.Act.{Text}
use Rattle.mtree.specs.Functions.{variable_function_tree}
use Rattle.mtree.specs.Tree.{called_tree}
use Rattle.meval.specs.AtHand.{at_hand_tree}
use Rattle.mvalue.specs.Texts.{kind_text}
use Rattle.meval.proofs.eval.Eval.+eval.Goals as goal

-- ---- operand

pub operand-returns-then-is_empty-clause-does : goal.operand-returns-then-is_empty-clause-does
operand-returns-then-is_empty-clause-does g t c =
    let v = c.args.operand.now.signs in
    let zero : v.len ≡ 0 = grind (arith, nat_tests, c.if-is_empty.ensures) in
    let none : v.items ≡ [] = nil_from_length v.items (omega (arith, v.ok, zero)) in
    rw (operand_is c.args.operand.now, none) (evaluates_whole _ c.primary.ensures.does)

pub operand-returns-in_err-value-clause-does : goal.operand-returns-in_err-value-clause-does
operand-returns-in_err-value-clause-does g t c = rw (operand_is c.args.operand.now) (evaluates_stopped _ c.in_err-value.ensures.does c.from_residual.ensures)

pub operand-returns-clause-does : goal.operand-returns-clause-does
operand-returns-clause-does g t c =
    let signs = rw c.deref.ensures.value at c.unaries.ensures.value in
    rw (operand_is c.args.operand.now) (evaluates_then _ c.in_ok-value.ensures.does (evaluates_yielded signs))

pub operand_into-returns-in-Some-clause-does : goal.operand_into-returns-in-Some-clause-does
operand_into-returns-in-Some-clause-does g t c = rw c.in-Some.ensures (evaluates_whole _ c.fast_value.ensures.does)

pub operand_into-returns-in_err-place-clause-does : goal.operand_into-returns-in_err-place-clause-does
operand_into-returns-in_err-place-clause-does g t c = rw (residual_is _ _ c.from_residual.ensures) (evaluates_refused _ c.in_err-place.ensures.does)

pub operand_into-returns-clause-does : goal.operand_into-returns-clause-does
operand_into-returns-clause-does g t c = evaluates_seen c.in_ok-place.field-0 tt refl c.in_ok-place.ensures.does

-- ---- primary

pub primary-returns-in_err-charge-clause-does : goal.primary-returns-in_err-charge-clause-does
primary-returns-in_err-charge-clause-does g t c = rw (residual_is _ _ c.from_residual.ensures) (charge_failed _ _ c.in_err-charge.ensures.does)

pub primary-returns-in-Number-clause-does : goal.primary-returns-in-Number-clause-does
primary-returns-in-Number-clause-does g t c =
    let k = computed_outcome _ _ c.number.ensures c.computed.ensures.value in
    rw (c.in-Number.is, number_is c.in-Number.literal) (evaluates_then _ c.in_ok-charge.ensures.does (evaluates_yielded k))

pub primary-returns-in_ok-copy-in-Text-clause-does : goal.primary-returns-in_ok-copy-in-Text-clause-does
primary-returns-in_ok-copy-in-Text-clause-does g t c = rw (c.in-Text.is, text_is c.in-Text.text) (evaluates_then _ c.in_ok-charge.ensures.does (evaluates_gives _ _ _ (c.of_text.ensures ∙ c.in_ok-copy-in-Text.ensures)))

pub primary-returns-in_err-copy-in-Text-clause-does : goal.primary-returns-in_err-copy-in-Text-clause-does
primary-returns-in_err-copy-in-Text-clause-does g t c =
    rw (c.in-Text.is, text_is c.in-Text.text) (evaluates_then _ c.in_ok-charge.ensures.does (evaluates_wanting _ _ _ c.from_residual-in_err-copy-in-Text.ensures))

pub primary-returns-in-Bracket-clause-does : goal.primary-returns-in-Bracket-clause-does
primary-returns-in-Bracket-clause-does g t c =
    let k = rw c.deref.ensures at c.eval.ensures.does in
    rw (c.in-Bracket.is, bracket_is c.in-Bracket.inner) (evaluates_then _ c.in_ok-charge.ensures.does k)

pub primary-returns-in-Call-clause-does : goal.primary-returns-in-Call-clause-does
primary-returns-in-Call-clause-does g t c =
    let k = rw c.deref-in-Call.ensures.value at c.called.ensures in
    rw (c.in-Call.is, call_is c.in-Call.word c.in-Call.arguments) (evaluates_then _ c.in_ok-charge.ensures.does k)

pub primary-returns-in-Select-clause-does : goal.primary-returns-in-Select-clause-does
primary-returns-in-Select-clause-does g t c =
    let k = rw c.deref-in-Select.ensures.value at c.chosen.ensures in
    rw (c.in-Select.is, select_is c.in-Select.field-0 c.in-Select.choices) (evaluates_then _ c.in_ok-charge.ensures.does k)

pub primary-returns-in-Special-clause-does : goal.primary-returns-in-Special-clause-does
primary-returns-in-Special-clause-does g t c = rw (c.in-Special.is, special_is c.in-Special.word) (evaluates_then _ c.in_ok-charge.ensures.does c.special.ensures)

pub primary-returns-in-Reference-clause-does : goal.primary-returns-in-Reference-clause-does
primary-returns-in-Reference-clause-does g t c = rw (c.in-Reference.is, reference_is c.in-Reference.reference) (evaluates_then _ c.in_ok-charge.ensures.does c.variable.ensures)

pub primary-returns-in-Refer-clause-does : goal.primary-returns-in-Refer-clause-does
primary-returns-in-Refer-clause-does g t c =
    let k = rw c.deref-in-Refer.ensures at c.referring.ensures in
    rw (c.in-Refer.is, refer_is c.in-Refer.referring, referring_is c.in-Refer.referring.value) (evaluates_then _ c.in_ok-charge.ensures.does k)

pub primary-returns-in-Extrinsic-clause-does : goal.primary-returns-in-Extrinsic-clause-does
primary-returns-in-Extrinsic-clause-does g t c =
    let called = called_tree c.in-Extrinsic.field-0.value in
    rw (c.in-Extrinsic.is, extrinsic_is c.in-Extrinsic.field-0) (evaluates_then _ c.in_ok-charge.ensures.does (uncalled called.0 called.1))

-- ---- variables and functions of values

pub variable-returns-in_err-value-in-Variable : goal.variable-returns-in_err-value-in-Variable
variable-returns-in_err-value-in-Variable g t c =
    let name = c.in-Variable.name in
    rw (residual_is _ _ c.from_residual.ensures, c.in-Variable.is, variable_is name) (variable_told name (evaluates_refused _ c.in_err-value-in-Variable.ensures))

pub variable-returns-in_err-copy-in-Variable : goal.variable-returns-in_err-copy-in-Variable
variable-returns-in_err-copy-in-Variable g t c = evaluates_wanting _ _ _ c.from_residual-in_err-copy-in-Variable.ensures

pub variable-returns-in_ok-copy-in-Variable : goal.variable-returns-in_ok-copy-in-Variable
variable-returns-in_ok-copy-in-Variable g t c =
    let name = c.in-Variable.name in
    rw (c.in-Variable.is, variable_is name) (variable_told name (evaluates_seen c.in_ok-value-in-Variable.value _ (sym c.in_ok-copy-in-Variable.ensures) c.in_ok-value-in-Variable.ensures))

pub variable-returns-in-Node : goal.variable-returns-in-Node
variable-returns-in-Node g t c =
    let k = rw c.deref.ensures at c.fast_node.ensures in
    rw (c.in-Node.is, node_is c.in-Node.name c.in-Node.subscript) k

pub fast_node-returns-in_err-eval_into : goal.fast_node-returns-in_err-eval_into
fast_node-returns-in_err-eval_into g t c =
    evaluates_stopped (λ i v. read_act v) (node_failed c.args.name.now (expr_tree c.args.subscript.now) _ c.in_err-eval_into.ensures.does) c.from_residual.ensures

pub fast_node-returns : goal.fast_node-returns
fast_node-returns g t c =
    evaluates_then (λ i v. read_act v) (node_evaluated c.args.name.now (expr_tree c.args.subscript.now) _ c.in_ok-eval_into.ensures.does) c.fast_read.ensures

pub place_value-returns-in_err-place : goal.place_value-returns-in_err-place
place_value-returns-in_err-place g t c = evaluates_regrouped (λ i. evaluated i (reference_tree c.args.reference.now)) (λ i. resolve reading) (λ i. read_at) (evaluates_stopped (λ i. read_at) c.in_err-place.ensures.does c.from_residual.ensures)

pub place_value-returns : goal.place_value-returns
place_value-returns g t c = evaluates_regrouped (λ i. evaluated i (reference_tree c.args.reference.now)) (λ i. resolve reading) (λ i. read_at) (evaluates_then (λ i. read_at) c.in_ok-place.ensures.does c.read.ensures)

pub called-returns-in_err-values-in-2 : goal.called-returns-in_err-values-in-2
called-returns-in_err-values-in-2 g t c = evaluates_stopped _ c.in_err-values-in-2.ensures c.from_residual.ensures

pub called-returns-in_ok-values-in-2 : goal.called-returns-in_ok-values-in-2
called-returns-in_ok-values-in-2 g t c = evaluates_then _ c.in_ok-values-in-2.ensures (evaluates_yielded c.call.ensures.value)

pub called-returns-in_err-values-in-3 : goal.called-returns-in_err-values-in-3
called-returns-in_err-values-in-3 g t c = evaluates_stopped _ c.in_err-values-in-3.ensures c.from_residual-in_err-values-in-3.ensures

pub called-returns-in_ok-values-in-3 : goal.called-returns-in_ok-values-in-3
called-returns-in_ok-values-in-3 g t c = evaluates_then _ c.in_ok-values-in-3.ensures (evaluates_yielded c.call-in-3.ensures.value)

pub called-returns-in_err-values-in_default : goal.called-returns-in_err-values-in_default
called-returns-in_err-values-in_default g t c = evaluates_stopped _ c.in_err-values-in_default.ensures c.from_residual-in_err-values-in_default.ensures

pub called-returns-in_ok-values-in_default : goal.called-returns-in_ok-values-in_default
called-returns-in_ok-values-in_default g t c =
    let called = rw c.as_slice.ensures at c.call-in_default.ensures.value in
    evaluates_then _ c.in_ok-values-in_default.ensures (evaluates_yielded called)

-- ---- places that are read at once

pub place_to_read-returns-in-Global-clause-does : goal.place_to_read-returns-in-Global-clause-does
place_to_read-returns-in-Global-clause-does g t c =
    let k = rw c.deref.ensures.value at c.fast_own.ensures.does in
    rw (c.in-Global.is, global_is c.in-Global.name c.in-Global.subscripts) k

pub place_to_read-returns-in_err-pending-clause-does : goal.place_to_read-returns-in_err-pending-clause-does
place_to_read-returns-in_err-pending-clause-does g t c = evaluates_stopped (λ i. resolve reading) c.in_err-pending.ensures c.from_residual.ensures

pub place_to_read-returns-clause-does : goal.place_to_read-returns-clause-does
place_to_read-returns-clause-does g t c = evaluates_then (λ i. resolve reading) c.in_ok-pending.ensures c.resolved.ensures.does

pub fast_own-returns-in_err-values-clause-does : goal.fast_own-returns-in_err-values-clause-does
fast_own-returns-in_err-values-clause-does g t c =
    evaluates_stopped (λ i. resolve reading) (own_failed c.args.name.now (λ i. values i [] (exprs_of (map expr_tree c.args.subscripts.now))) (λ xs. xs) c.in_err-values.ensures) c.from_residual.ensures

pub fast_own-returns-clause-does : goal.fast_own-returns-clause-does
fast_own-returns-clause-does g t c =
    evaluates_then (λ i. resolve reading) (own_told c.args.name.now (λ i. values i [] (exprs_of (map expr_tree c.args.subscripts.now))) (λ xs. xs) c.in_ok-values.ensures) c.own_place.ensures.does

-- ---- references

pub evaluated-returns-in-Variable : goal.evaluated-returns-in-Variable
evaluated-returns-in-Variable g t c =
    let name = c.in-Variable.name in
    rw (c.in-Variable.is, variable_is name) (evaluates_gives (of_local name []) pending_view _ (ap (of_local name) c.none.ensures))

pub evaluated-returns-in_err-value-in-Node : goal.evaluated-returns-in_err-value-in-Node
evaluated-returns-in_err-value-in-Node g t c =
    let v = c.in-Node in
    let k = rw c.deref.ensures at c.in_err-value-in-Node.ensures.does in
    rw (residual_is _ _ c.from_residual.ensures, v.is, node_is v.name v.subscript) (evaluates_refused pending_view (node_failed v.name (expr_tree v.subscript.value) _ k))

pub evaluated-returns-in_ok-value-in-Node : goal.evaluated-returns-in_ok-value-in-Node
evaluated-returns-in_ok-value-in-Node g t c =
    let v = c.in-Node in
    let k = rw c.deref.ensures at c.in_ok-value-in-Node.ensures.does in
    rw (v.is, node_is v.name v.subscript) (evaluates_seen _ _ (ap (of_local v.name) (sym c.one.ensures)) (node_evaluated v.name (expr_tree v.subscript.value) _ k))

pub evaluated-returns-in_err-values-in-Local : goal.evaluated-returns-in_err-values-in-Local
evaluated-returns-in_err-values-in-Local g t c =
    let v = c.in-Local in
    let k = rw c.deref-in-Local.ensures.value at c.in_err-values-in-Local.ensures in
    rw (v.is, local_is v.name v.subscripts) (evaluates_stopped (λ i xs. give (of_local v.name xs)) k c.from_residual-in_err-values-in-Local.ensures)

pub evaluated-returns-in_ok-values-in-Local : goal.evaluated-returns-in_ok-values-in-Local
evaluated-returns-in_ok-values-in-Local g t c =
    let v = c.in-Local in
    let k = rw c.deref-in-Local.ensures.value at c.in_ok-values-in-Local.ensures in
    rw (v.is, local_is v.name v.subscripts) (evaluates_then (λ i xs. give (of_local v.name xs)) k (evaluates_gives _ pending_view _ refl))

pub evaluated-returns-in-Global : goal.evaluated-returns-in-Global
evaluated-returns-in-Global g t c =
    let k = rw c.deref-in-Global.ensures.value at c.global.ensures in
    rw (c.in-Global.is, global_is c.in-Global.name c.in-Global.subscripts) k

pub evaluated-returns-in_err-values-in-Naked : goal.evaluated-returns-in_err-values-in-Naked
evaluated-returns-in_err-values-in-Naked g t c =
    let k = rw c.deref-in-Naked.ensures.value at c.in_err-values-in-Naked.ensures in
    rw (c.in-Naked.is, naked_is c.in-Naked.subscripts) (evaluates_stopped (λ i xs. give (of_naked xs)) k c.from_residual-in_err-values-in-Naked.ensures)

pub evaluated-returns-in_ok-values-in-Naked : goal.evaluated-returns-in_ok-values-in-Naked
evaluated-returns-in_ok-values-in-Naked g t c =
    let k = rw c.deref-in-Naked.ensures.value at c.in_ok-values-in-Naked.ensures in
    rw (c.in-Naked.is, naked_is c.in-Naked.subscripts) (evaluates_then (λ i xs. give (of_naked xs)) k (evaluates_gives _ pending_view _ refl))

pub evaluated-returns-in-Indirect : goal.evaluated-returns-in-Indirect
evaluated-returns-in-Indirect g t c =
    let k = rw (c.deref-in-Indirect.ensures, c.deref-in-Indirect-2.ensures.value) at c.named.ensures in
    rw (c.in-Indirect.is, indirect_is c.in-Indirect.operand c.in-Indirect.subscripts) k

pub evaluated-returns-in-Extended : goal.evaluated-returns-in-Extended
evaluated-returns-in-Extended g t c =
    let v = c.in-Extended in
    let k = rw (c.deref-in-Extended.ensures, c.deref-in-Extended-2.ensures.value) at c.extended.ensures in
    rw (v.is, extended_is v.environment v.name v.subscripts) k

pub global-returns-in_err-values : goal.global-returns-in_err-values
global-returns-in_err-values g t c =
    evaluates_stopped (λ i xs. give (of_global (node_of i.account c.args.name.now xs))) c.in_err-values.ensures c.from_residual.ensures

pub global-returns : goal.global-returns
global-returns g t c =
    evaluates_then (λ i xs. give (of_global (node_of i.account c.args.name.now xs))) c.in_ok-values.ensures (gives_own pending_view c.args.name.now _ _ (ap of_global c.own_node-node.ensures))

-- ---- environments

pub extended-returns-in_err-owner : goal.extended-returns-in_err-owner
extended-returns-in_err-owner g t c =
    evaluates_stopped (owned c.args.name.now _) c.in_err-owner.ensures.does c.from_residual.ensures

pub extended-returns-in_err-account : goal.extended-returns-in_err-account
extended-returns-in_err-account g t c =
    evaluates_then (owned c.args.name.now _) c.in_ok-owner.ensures.does (evaluates_wanting _ _ _ c.from_residual-in_err-account.ensures)

pub extended-returns-in_err-subscripts : goal.extended-returns-in_err-subscripts
extended-returns-in_err-subscripts g t c =
    evaluates_then (owned c.args.name.now _) c.in_ok-owner.ensures.does
    (evaluates_stopped (λ i xs. give (of_global (node_of c.in_ok-owner.owner c.args.name.now xs))) c.in_err-subscripts.ensures c.from_residual-in_err-subscripts.ensures)

pub extended-returns : goal.extended-returns
extended-returns g t c =
    let is = rw c.in_ok-account.ensures at c.new-node.ensures in
    evaluates_then (owned c.args.name.now _) c.in_ok-owner.ensures.does
    (evaluates_then (λ i xs. give (of_global (node_of c.in_ok-owner.owner c.args.name.now xs))) c.in_ok-subscripts.ensures (evaluates_gives _ pending_view _ (ap of_global is)))

-- ---- indirection

pub named-returns-in_err-value : goal.named-returns-in_err-value
named-returns-in_err-value g t c =
    evaluates_stopped (λ i x. attached i _ x) c.in_err-value.ensures.does c.from_residual.ensures

pub named-returns : goal.named-returns
named-returns g t c = evaluates_entry _ _ _ c.in_ok-value.ensures.does c.in_ok-value.ensures.spent c.named_by.ensures

pub named_by-returns-in_default : goal.named_by-returns-in_default
named_by-returns-in_default g t c = evaluates_deep _ _ (not_free _ _ c.in_default.is c.indirected.ensures.free)

pub named_by-returns-in_err-text : goal.named_by-returns-in_err-text
named_by-returns-in_err-text g t c = evaluates_wanting _ _ _ c.from_residual.ensures

pub named_by-returns-in_err-reference : goal.named_by-returns-in_err-reference
named_by-returns-in_err-reference g t c =
    let free = is_free _ _ c.in-Some.is c.indirected.ensures.free in
    let none = rw (c.in_ok-text.ensures, c.language.ensures.language) at c.in_err-reference.ensures in
    evaluates_unnamed _ _ free none c.from_residual-in_err-reference.ensures

pub named_by-returns : goal.named_by-returns
named_by-returns g t c =
    let free = is_free _ _ c.in-Some.is c.indirected.ensures.free in
    let deeper = rw c.in-Some.is at c.indirected.ensures.deeper in
    let named = rw (c.in_ok-text.ensures, c.language.ensures.language) at c.in_ok-reference.ensures in
    evaluates_within _ _ reference_tree _ _ free deeper named c.through_given-result.ensures

pub through_given-returns-in-Ok : goal.through_given-returns-in-Ok
through_given-returns-in-Ok g t c = rw (c.in-Ok.ensures.name, variable_is c.in-Ok.name) c.fast_through.ensures

pub through_given-returns-in-Err : goal.through_given-returns-in-Err
through_given-returns-in-Err g t c = rw (sym c.in-Err.ensures.more.1) c.through.ensures

pub fast_through-returns-in_err-values : goal.fast_through-returns-in_err-values
fast_through-returns-in_err-values g t c =
    evaluates_behind _ (of_local c.args.name []) (evaluates_stopped (λ i xs. give (of_local c.args.name xs)) c.in_err-values.ensures c.from_residual.ensures)

pub fast_through-returns : goal.fast_through-returns
fast_through-returns g t c =
    evaluates_behind _ (of_local c.args.name [])
    (evaluates_then (λ i xs. give (of_local c.args.name xs)) c.in_ok-values.ensures (evaluates_gives _ pending_view _ refl))

pub through-returns-in_err-front : goal.through-returns-in_err-front
through-returns-in_err-front g t c =
    evaluates_stopped (λ i v. values (one_more i) [] _ >>= (λ xs. give (with_more xs v))) c.in_err-front.ensures c.from_residual.ensures

pub through-returns-in_err-values : goal.through-returns-in_err-values
through-returns-in_err-values g t c =
    let v = pending_view c.in_ok-front.front in
    evaluates_then (λ i v. values (one_more i) [] _ >>= (λ xs. give (with_more xs v))) c.in_ok-front.ensures
    (evaluates_behind _ v (evaluates_stopped (λ i xs. give (with_more xs v)) c.in_err-values.ensures c.from_residual-in_err-values.ensures))

pub through-returns-in_err-extended : goal.through-returns-in_err-extended
through-returns-in_err-extended g t c =
    let v = pending_view c.in_ok-front.front in
    evaluates_then (λ i v. values (one_more i) [] _ >>= (λ xs. give (with_more xs v))) c.in_ok-front.ensures
    (evaluates_behind _ v
    (evaluates_then (λ i xs. give (with_more xs v)) c.in_ok-values.ensures (evaluates_wanting _ _ _ c.from_residual-in_err-extended.ensures)))

pub through-returns : goal.through-returns
through-returns g t c =
    let v = pending_view c.in_ok-front.front in
    evaluates_then (λ i v. values (one_more i) [] _ >>= (λ xs. give (with_more xs v))) c.in_ok-front.ensures
    (evaluates_behind _ v (evaluates_then (λ i xs. give (with_more xs v)) c.in_ok-values.ensures (evaluates_gives _ pending_view _ c.in_ok-extended.ensures)))

-- ---- functions of a variable

pub referring-returns-in-Node : goal.referring-returns-in-Node
referring-returns-in-Node g t c =
    let k = rw (c.deref.ensures, c.deref-in-Node.ensures.value) at c.fast_referring.ensures in
    rw (c.function-function.ensures.1, c.in-Node.is, node_is c.in-Node.name c.in-Node.subscript) k

pub fast_referring-returns-in_err-eval_into : goal.fast_referring-returns-in_err-eval_into
fast_referring-returns-in_err-eval_into g t c =
    rw (residual_is _ _ c.from_residual.ensures)
    (function_failed (variable_function_tree c.args.function) _ (node_failed c.args.name.now (expr_tree c.args.subscript.now) _ c.in_err-eval_into.ensures.does))

pub fast_referring-returns-in-Data : goal.fast_referring-returns-in-Data
fast_referring-returns-in-Data g t c =
    rw c.in-Data.is (evaluates_then (λ i v. data_act v) (node_evaluated c.args.name.now (expr_tree c.args.subscript.now) _ c.in_ok-eval_into.ensures.does) c.fast_data.ensures)

pub fast_referring-returns-in-Get : goal.fast_referring-returns-in-Get
fast_referring-returns-in-Get g t c =
    rw c.in-Get.is (evaluates_then (get_act _) (node_evaluated c.args.name.now (expr_tree c.args.subscript.now) _ c.in_ok-eval_into.ensures.does) c.fast_get.ensures)

pub fast_referring-returns-in-Increment : goal.fast_referring-returns-in-Increment
fast_referring-returns-in-Increment g t c =
    let node = node_evaluated c.args.name.now (expr_tree c.args.subscript.now) _ c.in_ok-eval_into.ensures.does in
    rw c.in-Increment.is (evaluates_then (increment_behind _) node c.fast_increment.ensures)

pub fast_referring-returns-in-Name : goal.fast_referring-returns-in-Name
fast_referring-returns-in-Name g t c =
    let node = node_evaluated c.args.name.now (expr_tree c.args.subscript.now) _ c.in_ok-eval_into.ensures.does in
    rw c.in-Name.is (evaluates_then (name_behind _) node c.fast_name.ensures)

pub fast_referring-returns-in-Order : goal.fast_referring-returns-in-Order
fast_referring-returns-in-Order g t c =
    rw c.in-Order.is (evaluates_then (order_behind _) (node_evaluated c.args.name.now
    (expr_tree c.args.subscript.now) _ c.in_ok-eval_into.ensures.does) c.fast_order.ensures)

pub fast_referring-returns : goal.fast_referring-returns
fast_referring-returns g t c =
    let node = node_evaluated c.args.name.now (expr_tree c.args.subscript.now) _ c.in_ok-eval_into.ensures.does in
    rw c.in-Query.is (evaluates_then (query_behind _) node c.fast_query.ensures)

pub fast_get-returns-in_err-more : goal.fast_get-returns-in_err-more
fast_get-returns-in_err-more g t c =
    let passed = sym (rw (c.if-not-values_ok.false, c.from_ref-subscripts.ensures.value) at (decides_subscripts _ _ c.values_ok.ensures)) in
    evaluates_then (got _) (let_through c.args.name.now (c.args.subscript.now ∷ []) passed)
    (evaluates_stopped (λ i xs. read_or (unwrap_or (slice_get xs 0) []) (at_local c.args.name.now (c.args.subscript.now ∷ []))) c.in_err-more.ensures c.from_residual.ensures)

pub fast_get-returns : goal.fast_get-returns
fast_get-returns g t c =
    let passed = sym (rw (c.if-not-values_ok.false, c.from_ref-subscripts.ensures.value) at (decides_subscripts _ _ c.values_ok.ensures)) in
    let read = rw c.from_ref-subscripts.ensures.value at c.fast_read_or.ensures in
    evaluates_then (got _) (let_through c.args.name.now (c.args.subscript.now ∷ []) passed)
    (evaluates_then (λ i xs. read_or (unwrap_or (slice_get xs 0) []) (at_local c.args.name.now (c.args.subscript.now ∷ []))) c.in_ok-more.ensures read)

pub referring-returns-in-Data : goal.referring-returns-in-Data
referring-returns-in-Data g t c =
    let is = rw c.in-Data.is at c.function-function.ensures in
    rw is.1 c.data_of.ensures

pub referring-returns-in-Get : goal.referring-returns-in-Get
referring-returns-in-Get g t c =
    let is = rw c.in-Get.is at c.function-function.ensures in
    let k = rw c.deref-in-Get.ensures.value at c.get_of.ensures in
    rw is.1 k

pub referring-returns-in-Increment : goal.referring-returns-in-Increment
referring-returns-in-Increment g t c =
    let is = rw c.in-Increment.is at c.function-function.ensures in
    let k = rw c.deref-in-Increment.ensures.value at c.increment_of.ensures in
    rw is.1 k

pub referring-returns-in-Name : goal.referring-returns-in-Name
referring-returns-in-Name g t c =
    let is = rw c.in-Name.is at c.function-function.ensures in
    let k = rw c.deref-in-Name.ensures.value at c.name_of.ensures in
    rw is.1 k

pub referring-returns-in-Order : goal.referring-returns-in-Order
referring-returns-in-Order g t c =
    let is = rw c.in-Order.is at c.function-function.ensures in
    let k = rw c.deref-in-Order.ensures.value at c.order_of.ensures in
    rw is.1 k

pub referring-returns-in-Query : goal.referring-returns-in-Query
referring-returns-in-Query g t c =
    let is = rw c.in-Query.is at c.function-function.ensures in
    let k = rw c.deref-in-Query.ensures.value at c.query_of.ensures in
    rw is.1 k

pub data_of-returns-in_err-place : goal.data_of-returns-in_err-place
data_of-returns-in_err-place g t c =
    evaluates_regrouped (λ i. evaluated i (reference_tree c.args.reference.now)) (λ i. resolve reading) (λ i. data_at) (evaluates_stopped (λ i. data_at) c.in_err-place.ensures.does c.from_residual.ensures)

pub data_of-returns-in_err-data : goal.data_of-returns-in_err-data
data_of-returns-in_err-data g t c =
    evaluates_regrouped (λ i. evaluated i (reference_tree c.args.reference.now)) (λ i. resolve reading) (λ i. data_at)
    (evaluates_then (λ i. data_at) c.in_ok-place.ensures.does (evaluates_stopped _ c.in_err-data.ensures c.from_residual-in_err-data.ensures))

pub data_of-returns : goal.data_of-returns
data_of-returns g t c =
    evaluates_regrouped (λ i. evaluated i (reference_tree c.args.reference.now)) (λ i. resolve reading) (λ i. data_at)
    (evaluates_then (λ i. data_at) c.in_ok-place.ensures.does (evaluates_then _ c.in_ok-data.ensures (evaluates_gives _ _ _ c.data_value.ensures)))

pub get_of-returns-in_err-place : goal.get_of-returns-in_err-place
get_of-returns-in_err-place g t c =
    evaluates_regrouped (λ i. evaluated i (reference_tree c.args.reference.now)) (λ i. resolve reading) (get_from (exprs_of (map expr_tree c.args.more.now))) (evaluates_stopped (get_from (exprs_of (map expr_tree c.args.more.now))) c.in_err-place.ensures.does c.from_residual.ensures)

pub get_of-returns-in_err-more : goal.get_of-returns-in_err-more
get_of-returns-in_err-more g t c =
    evaluates_regrouped (λ i. evaluated i (reference_tree c.args.reference.now)) (λ i. resolve reading) (get_from (exprs_of (map expr_tree c.args.more.now)))
    (evaluates_then (get_from (exprs_of (map expr_tree c.args.more.now))) c.in_ok-place.ensures.does (evaluates_stopped _ c.in_err-more.ensures c.from_residual-in_err-more.ensures))

pub get_of-returns : goal.get_of-returns
get_of-returns g t c =
    evaluates_regrouped (λ i. evaluated i (reference_tree c.args.reference.now)) (λ i. resolve reading) (get_from (exprs_of (map expr_tree c.args.more.now)))
    (evaluates_then (get_from (exprs_of (map expr_tree c.args.more.now))) c.in_ok-place.ensures.does (evaluates_then _ c.in_ok-more.ensures c.read_or.ensures))

pub most-returns-in_err-values : goal.most-returns-in_err-values
most-returns-in_err-values g t c = evaluates_stopped (λ i xs. whole_at 0 xs) c.in_err-values.ensures c.from_residual.ensures

pub most-returns : goal.most-returns
most-returns g t c =
    let told = rw c.as_slice.ensures at c.whole_at.ensures.whole in
    evaluates_then (λ i xs. whole_at 0 xs) c.in_ok-values.ensures (evaluates_yielded told)

pub fast_name-returns-in_err-most : goal.fast_name-returns-in_err-most
fast_name-returns-in_err-most g t c = named_stopped _ (of_local c.args.name.now (c.args.subscript.now ∷ [])) c.in_err-most.ensures c.from_residual.ensures

pub fast_name-returns-in_err-front : goal.fast_name-returns-in_err-front
fast_name-returns-in_err-front g t c =
    named_as _ (of_local c.args.name.now (c.args.subscript.now ∷ [])) c.in_ok-most.most c.in_ok-most.ensures
    (evaluates_wanting _ _ _ c.from_residual-in_err-front.ensures)

pub fast_name-returns : goal.fast_name-returns
fast_name-returns g t c =
    let named = rw (c.in_ok-front.ensures, c.as_bytes7.ensures.text, c.from_ref.ensures.value) at c.name_text.ensures in
    named_as _ (of_local c.args.name.now (c.args.subscript.now ∷ [])) c.in_ok-most.most c.in_ok-most.ensures
    (named_local c.args.name.now (c.args.subscript.now ∷ []) c.in_ok-most.most named)

-- ---- $INCREMENT

pub increment_of-returns-in_err-pending : goal.increment_of-returns-in_err-pending
increment_of-returns-in_err-pending g t c =
    evaluates_stopped (increment_behind (exprs_of (map expr_tree c.args.more.now))) c.in_err-pending.ensures c.from_residual.ensures

pub increment_of-returns-in_err-values : goal.increment_of-returns-in_err-values
increment_of-returns-in_err-values g t c =
    evaluates_then (increment_behind _) c.in_ok-pending.ensures
    (evaluates_stopped (λ i xs. increment_by xs (pending_view c.in_ok-pending.pending)) c.in_err-values.ensures c.from_residual-in_err-values.ensures)

pub increment_of-returns : goal.increment_of-returns
increment_of-returns g t c =
    let given = rw c.as_slice.ensures at c.increment_found.ensures in
    evaluates_then (increment_behind _) c.in_ok-pending.ensures
    (evaluates_then (λ i xs. increment_by xs (pending_view c.in_ok-pending.pending)) c.in_ok-values.ensures given)

pub fast_increment-returns-in_err-values : goal.fast_increment-returns-in_err-values
fast_increment-returns-in_err-values g t c =
    evaluates_stopped (λ i xs. increment_by xs (of_local c.args.name.now (c.args.subscript.now ∷ []))) c.in_err-values.ensures c.from_residual.ensures

pub fast_increment-returns-in_err-copy : goal.fast_increment-returns-in_err-copy
fast_increment-returns-in_err-copy g t c =
    evaluates_then (λ i xs. increment_by xs (of_local c.args.name.now (c.args.subscript.now ∷ []))) c.in_ok-values.ensures
    (evaluates_wanting _ _ _ c.from_residual-in_err-copy.ensures)

pub fast_increment-returns : goal.fast_increment-returns
fast_increment-returns g t c =
    let given = rw (c.as_slice.ensures, c.one-subscripts.ensures, c.in_ok-copy.ensures) at c.increment_found.ensures in
    evaluates_then (λ i xs. increment_by xs (of_local c.args.name.now (c.args.subscript.now ∷ []))) c.in_ok-values.ensures given

pub name_of-returns-in_err-pending : goal.name_of-returns-in_err-pending
name_of-returns-in_err-pending g t c =
    evaluates_stopped (name_behind (exprs_of (map expr_tree c.args.more.now))) c.in_err-pending.ensures c.from_residual.ensures

pub name_of-returns-in_err-most : goal.name_of-returns-in_err-most
name_of-returns-in_err-most g t c =
    evaluates_then (name_behind _) c.in_ok-pending.ensures
    (named_stopped _ (pending_view c.in_ok-pending.pending) c.in_err-most.ensures c.from_residual-in_err-most.ensures)

pub name_of-returns : goal.name_of-returns
name_of-returns g t c =
    evaluates_then (name_behind _) c.in_ok-pending.ensures
    (named_as _ (pending_view c.in_ok-pending.pending) c.in_ok-most.most c.in_ok-most.ensures c.named_pending.ensures)

pub direction-returns-in_err-values : goal.direction-returns-in_err-values
direction-returns-in_err-values g t c = evaluates_stopped (λ i xs. direction_of (slice_get xs 0)) c.in_err-values.ensures c.from_residual.ensures

pub direction-returns : goal.direction-returns
direction-returns g t c =
    let told = rw c.as_slice.ensures at c.direction.ensures in
    evaluates_then (λ i xs. direction_of (slice_get xs 0)) c.in_ok-values.ensures (evaluates_yielded told)

pub fast_order-returns-in_err-check_walk : goal.fast_order-returns-in_err-check_walk
fast_order-returns-in_err-check_walk g t c =
    let more = exprs_of (map expr_tree c.args.more.now) in
    let name = c.args.name.now in
    let refused = rw c.from_ref-subscripts.ensures.value at c.in_err-check_walk.ensures.checked in
    walk_refused more name (c.args.subscript.now ∷ []) (evaluates_stopped (λ i _. give (at_local name (c.args.subscript.now ∷ [])) >>= order_from more i) (evaluates_yielded refused) c.from_residual.ensures)

pub fast_order-returns-in_err-direction : goal.fast_order-returns-in_err-direction
fast_order-returns-in_err-direction g t c =
    let passed = rw c.from_ref-subscripts.ensures.value at c.in_ok-check_walk.ensures.checked in
    evaluates_then (order_from _) (walk_through c.args.name.now (c.args.subscript.now ∷ []) passed) (ordered_stopped _ (at_local c.args.name.now (c.args.subscript.now ∷ [])) c.in_err-direction.ensures c.from_residual-in_err-direction.ensures)

pub fast_order-returns : goal.fast_order-returns
fast_order-returns g t c =
    let passed = rw c.from_ref-subscripts.ensures.value at c.in_ok-check_walk.ensures.checked in
    let next = rw c.from_ref-subscripts.ensures.value at c.fast_next.ensures in
    evaluates_then (order_from _) (walk_through c.args.name.now (c.args.subscript.now ∷ []) passed) (ordered_next _ (at_local c.args.name.now (c.args.subscript.now ∷ [])) c.in_ok-direction.direction c.in_ok-direction.ensures next)

pub order_of-returns-in_err-pending : goal.order_of-returns-in_err-pending
order_of-returns-in_err-pending g t c = evaluates_stopped (order_behind (exprs_of (map expr_tree c.args.more.now))) c.in_err-pending.ensures c.from_residual.ensures

pub order_of-returns-in_err-walk : goal.order_of-returns-in_err-walk
order_of-returns-in_err-walk g t c =
    evaluates_then (order_behind _) c.in_ok-pending.ensures (evaluates_stopped (order_from _) c.in_err-walk.ensures.does c.from_residual-in_err-walk.ensures)

pub order_of-returns-in_err-direction : goal.order_of-returns-in_err-direction
order_of-returns-in_err-direction g t c =
    evaluates_then (order_behind _) c.in_ok-pending.ensures
    (evaluates_then (order_from _) c.in_ok-walk.ensures.does (ordered_stopped _ (walk_view c.in_ok-walk.walk) c.in_err-direction.ensures c.from_residual-in_err-direction.ensures))

pub order_of-returns : goal.order_of-returns
order_of-returns g t c =
    evaluates_then (order_behind _) c.in_ok-pending.ensures
    (evaluates_then (order_from _) c.in_ok-walk.ensures.does (ordered_next _ (walk_view c.in_ok-walk.walk) c.in_ok-direction.direction c.in_ok-direction.ensures c.next.ensures))

pub fast_query-returns-in_err-check_search : goal.fast_query-returns-in_err-check_search
fast_query-returns-in_err-check_search g t c =
    let more = exprs_of (map expr_tree c.args.more.now) in
    let name = c.args.name.now in
    let refused = rw c.from_ref-subscripts.ensures.value at c.in_err-check_search.ensures.checked in
    search_refused more name (c.args.subscript.now ∷ [])
    (evaluates_stopped (λ i _. give (at_local name (c.args.subscript.now ∷ [])) >>= query_from more i) (evaluates_yielded refused) c.from_residual.ensures)

pub fast_query-returns-in_err-direction : goal.fast_query-returns-in_err-direction
fast_query-returns-in_err-direction g t c =
    let passed = rw c.from_ref-subscripts.ensures.value at c.in_ok-check_search.ensures.checked in
    evaluates_then (query_from _) (search_through c.args.name.now (c.args.subscript.now ∷ []) passed)
    (query_stopped _ (at_local c.args.name.now (c.args.subscript.now ∷ [])) c.in_err-direction.ensures c.from_residual-in_err-direction.ensures)

pub fast_query-returns : goal.fast_query-returns
fast_query-returns g t c =
    let passed = rw c.from_ref-subscripts.ensures.value at c.in_ok-check_search.ensures.checked in
    let found = rw c.from_ref-subscripts.ensures.value at c.local_query.ensures in
    evaluates_then (query_from _) (search_through c.args.name.now (c.args.subscript.now ∷ []) passed)
    (queried _ (at_local c.args.name.now (c.args.subscript.now ∷ [])) c.in_ok-direction.direction c.in_ok-direction.ensures found)

pub query_of-returns-in_err-pending : goal.query_of-returns-in_err-pending
query_of-returns-in_err-pending g t c =
    evaluates_stopped (query_behind (exprs_of (map expr_tree c.args.more.now))) c.in_err-pending.ensures c.from_residual.ensures

pub query_of-returns-in_err-walk : goal.query_of-returns-in_err-walk
query_of-returns-in_err-walk g t c =
    evaluates_then (query_behind _) c.in_ok-pending.ensures (evaluates_stopped (query_from _) c.in_err-walk.ensures.does c.from_residual-in_err-walk.ensures)

pub query_of-returns-in_err-direction : goal.query_of-returns-in_err-direction
query_of-returns-in_err-direction g t c =
    evaluates_then (query_behind _) c.in_ok-pending.ensures
    (evaluates_then (query_from _) c.in_ok-walk.ensures.does
    (query_stopped _ (walk_view c.in_ok-walk.walk) c.in_err-direction.ensures c.from_residual-in_err-direction.ensures))

pub query_of-returns : goal.query_of-returns
query_of-returns g t c =
    evaluates_then (query_behind _) c.in_ok-pending.ensures
    (evaluates_then (query_from _) c.in_ok-walk.ensures.does
    (queried _ (walk_view c.in_ok-walk.walk) c.in_ok-direction.direction c.in_ok-direction.ensures c.query.ensures))

-- ---- steps

pub tail-returns-in_err-operand_into-in-Apply : goal.tail-returns-in_err-operand_into-in-Apply
tail-returns-in_err-operand_into-in-Apply g t c =
    rw (c.in-Apply.is, apply_is c.in-Apply.operator c.in-Apply.operand) (evaluates_stopped _ c.in_err-operand_into-in-Apply.ensures.does c.from_residual.ensures)

pub tail-returns-in_ok-operand_into-in-Apply : goal.tail-returns-in_ok-operand_into-in-Apply
tail-returns-in_ok-operand_into-in-Apply g t c =
    rw (c.in-Apply.is, apply_is c.in-Apply.operator c.in-Apply.operand) (evaluates_then _ c.in_ok-operand_into-in-Apply.ensures.does (evaluates_yielded c.binary.ensures.value))

pub tail-returns-in_err-matches-in-Matches : goal.tail-returns-in_err-matches-in-Matches
tail-returns-in_err-matches-in-Matches g t c =
    let k = rw c.deref.ensures.value at c.in_err-matches-in-Matches.ensures in
    rw (c.in-Matches.is, matches_is c.in-Matches.atoms) (evaluates_stopped _ k c.from_residual-in_err-matches-in-Matches.ensures)

pub tail-returns-in_ok-matches-in-Matches : goal.tail-returns-in_ok-matches-in-Matches
tail-returns-in_ok-matches-in-Matches g t c =
    let k = rw c.deref.ensures.value at c.in_ok-matches-in-Matches.ensures in
    rw (c.in-Matches.is, matches_is c.in-Matches.atoms) (evaluates_then _ k (evaluates_gives _ _ _ c.of_truth.ensures))

pub tail-returns-in_err-matches-in-MatchesNot : goal.tail-returns-in_err-matches-in-MatchesNot
tail-returns-in_err-matches-in-MatchesNot g t c =
    let k = rw c.deref-in-MatchesNot.ensures.value at c.in_err-matches-in-MatchesNot.ensures in
    rw (c.in-MatchesNot.is, matches_not_is c.in-MatchesNot.atoms) (evaluates_stopped _ k c.from_residual-in_err-matches-in-MatchesNot.ensures)

pub tail-returns-in_ok-matches-in-MatchesNot : goal.tail-returns-in_ok-matches-in-MatchesNot
tail-returns-in_ok-matches-in-MatchesNot g t c =
    let k = rw c.deref-in-MatchesNot.ensures.value at c.in_ok-matches-in-MatchesNot.ensures in
    rw (c.in-MatchesNot.is, matches_not_is c.in-MatchesNot.atoms) (evaluates_then _ k (evaluates_gives _ _ _ c.of_truth-in-MatchesNot.ensures))

pub tail-returns-in-Raise : goal.tail-returns-in-Raise
tail-returns-in-Raise g t c = rw (c.in-Raise.is, raise_is c.in-Raise.operand) c.raised.ensures

pub raised-returns-in_err-right : goal.raised-returns-in_err-right
raised-returns-in_err-right g t c = evaluates_stopped _ c.in_err-right.ensures.does c.from_residual.ensures

pub raised-returns : goal.raised-returns
raised-returns g t c = evaluates_then _ c.in_ok-right.ensures.does c.raise.ensures

pub tail-returns-in_err-matches-in-MatchesIndirect : goal.tail-returns-in_err-matches-in-MatchesIndirect
tail-returns-in_err-matches-in-MatchesIndirect g t c =
    let k = rw c.deref-in-MatchesIndirect.ensures at c.in_err-matches-in-MatchesIndirect.ensures in
    rw (c.in-MatchesIndirect.is, matches_indirect_is c.in-MatchesIndirect.operand)
    (evaluates_regrouped (λ i. primary_value i _) (λ i t. matches_text i _ t) (λ i b. give (truth_text b)) (evaluates_stopped (λ i b. give (truth_text b)) k c.from_residual-in_err-matches-in-MatchesIndirect.ensures))

pub tail-returns-in_ok-matches-in-MatchesIndirect : goal.tail-returns-in_ok-matches-in-MatchesIndirect
tail-returns-in_ok-matches-in-MatchesIndirect g t c =
    let k = rw c.deref-in-MatchesIndirect.ensures at c.in_ok-matches-in-MatchesIndirect.ensures in
    rw (c.in-MatchesIndirect.is, matches_indirect_is c.in-MatchesIndirect.operand)
    (evaluates_regrouped (λ i. primary_value i _) (λ i t. matches_text i _ t) (λ i b. give (truth_text b)) (evaluates_then (λ i b. give (truth_text b)) k (evaluates_gives _ _ _ c.of_truth-in-MatchesIndirect.ensures)))

pub tail-returns-in_err-matches-in-MatchesNotIndirect : goal.tail-returns-in_err-matches-in-MatchesNotIndirect
tail-returns-in_err-matches-in-MatchesNotIndirect g t c =
    let k = rw c.deref-in-MatchesNotIndirect.ensures at c.in_err-matches-in-MatchesNotIndirect.ensures in
    rw (c.in-MatchesNotIndirect.is, matches_not_indirect_is c.in-MatchesNotIndirect.operand)
    (evaluates_regrouped (λ i. primary_value i _) (λ i t. matches_text i _ t) (λ i b. give (truth_text (not b))) (evaluates_stopped (λ i b. give (truth_text (not b))) k c.from_residual-in_err-matches-in-MatchesNotIndirect.ensures))

pub tail-returns-in_ok-matches-in-MatchesNotIndirect : goal.tail-returns-in_ok-matches-in-MatchesNotIndirect
tail-returns-in_ok-matches-in-MatchesNotIndirect g t c =
    let k = rw c.deref-in-MatchesNotIndirect.ensures at c.in_ok-matches-in-MatchesNotIndirect.ensures in
    rw (c.in-MatchesNotIndirect.is, matches_not_indirect_is c.in-MatchesNotIndirect.operand)
    (evaluates_regrouped (λ i. primary_value i _) (λ i t. matches_text i _ t) (λ i b. give (truth_text (not b))) (evaluates_then (λ i b. give (truth_text (not b))) k (evaluates_gives _ _ _ c.of_truth-in-MatchesNotIndirect.ensures)))

-- ---- patterns that texts give

pub matches_indirect-returns-in_err-given : goal.matches_indirect-returns-in_err-given
matches_indirect-returns-in_err-given g t c = evaluates_stopped (λ i t. matches_text i c.args.value.now t) c.in_err-given.ensures.does c.from_residual.ensures

pub matches_indirect-returns : goal.matches_indirect-returns
matches_indirect-returns g t c =
    evaluates_then (λ i t. matches_text i c.args.value.now t) c.in_ok-given.ensures.does c.matches_text.ensures

-- ---- expressions

pub eval_into-returns-in_err-operand_into-clause-does : goal.eval_into-returns-in_err-operand_into-clause-does
eval_into-returns-in_err-operand_into-clause-does g t c = rw (expr_is c.args.e.now) (evaluates_stopped _ c.in_err-operand_into.ensures.does c.from_residual.ensures)

pub eval_into-returns-then-is_empty-clause-does : goal.eval_into-returns-then-is_empty-clause-does
eval_into-returns-then-is_empty-clause-does g t c =
    let v = c.args.e.now.rest in
    let zero : v.len ≡ 0 = grind (arith, nat_tests, c.if-is_empty.ensures) in
    let none : v.items ≡ [] = nil_from_length v.items (omega (arith, v.ok, zero)) in
    rw (expr_is c.args.e.now, none) (evaluates_whole (Ok tt) c.in_ok-operand_into.ensures.does)

pub eval_into-returns-clause-does : goal.eval_into-returns-clause-does
eval_into-returns-clause-does g t c =
    let rest = rw c.deref.ensures.value at c.with_rest.ensures in
    rw (expr_is c.args.e.now) (evaluates_then _ c.in_ok-operand_into.ensures.does rest)

pub eval-returns-in_err-eval_into-clause-does : goal.eval-returns-in_err-eval_into-clause-does
eval-returns-in_err-eval_into-clause-does g t c = rw (residual_is _ _ c.from_residual.ensures) (evaluates_refused _ c.in_err-eval_into.ensures.does)

pub eval-returns-clause-does : goal.eval-returns-clause-does
eval-returns-clause-does g t c = evaluates_seen tt _ refl c.in_ok-eval_into.ensures.does

pub eval-returns-in_err-eval_into-clause-steady : goal.eval-returns-in_err-eval_into-clause-steady
eval-returns-in_err-eval_into-clause-steady g t c =
    rw (residual_is _ _ c.from_residual.ensures) (never_refused g.met.S.NodeStore.steady_is_told (evaluates_refused (λ (v : Text). v) c.in_err-eval_into.ensures.does))

-- ---- numbers

pub operand_number-returns-in-Some-clause-does : goal.operand_number-returns-in-Some-clause-does
operand_number-returns-in-Some-clause-does g t c = rw c.in-Some.ensures (of_primary (at_hand_tree c.in-Some.at_hand) c.fast_number.ensures.does)

pub expression_number-returns-then-is_empty-clause-does : goal.expression_number-returns-then-is_empty-clause-does
expression_number-returns-then-is_empty-clause-does g t c =
    let v = c.args.e.now.rest in
    let zero : v.len ≡ 0 = grind (arith, nat_tests, c.if-is_empty.ensures) in
    let none : v.items ≡ [] = nil_from_length v.items (omega (arith, v.ok, zero)) in
    rw (expr_is c.args.e.now, none) (alone (operand_tree c.args.e.now.first) c.operand_number.ensures.does)

pub expression_number-returns-in_err-eval_into-clause-does : goal.expression_number-returns-in_err-eval_into-clause-does
expression_number-returns-in_err-eval_into-clause-does g t c = evaluates_stopped _ c.in_err-eval_into.ensures.does c.from_residual.ensures

pub expression_number-returns-in_err-place-clause-does : goal.expression_number-returns-in_err-place-clause-does
expression_number-returns-in_err-place-clause-does g t c =
    rw (residual_is _ _ c.from_residual-in_err-place.ensures) (evaluates_then _ c.in_ok-eval_into.ensures.does (evaluates_refused _ (evaluates_yielded c.in_err-place.ensures.number)))

pub expression_number-returns-clause-does : goal.expression_number-returns-clause-does
expression_number-returns-clause-does g t c = evaluates_then _ c.in_ok-eval_into.ensures.does (evaluates_seen c.in_ok-place.field-0 tt refl (evaluates_yielded c.in_ok-place.ensures.number))

pub other_number-returns-in_err-charge-clause-does : goal.other_number-returns-in_err-charge-clause-does
other_number-returns-in_err-charge-clause-does g t c =
    rw (residual_is _ _ c.from_residual.ensures, c.in-Some.ensures) (bracket_refused (expr_tree c.in-Some.inner.now) _ c.in_err-charge.ensures.does)

pub other_number-returns-in-Some-clause-does : goal.other_number-returns-in-Some-clause-does
other_number-returns-in-Some-clause-does g t c = rw c.in-Some.ensures (in_brackets (expr_tree c.in-Some.inner.now) c.in_ok-charge.ensures.does c.expression_number.ensures.does)

pub other_number-returns-in_err-value-clause-does : goal.other_number-returns-in_err-value-clause-does
other_number-returns-in_err-value-clause-does g t c = evaluates_stopped _ c.in_err-value.ensures.does c.from_residual-in_err-value.ensures

pub other_number-returns-in_err-place-clause-does : goal.other_number-returns-in_err-place-clause-does
other_number-returns-in_err-place-clause-does g t c =
    rw (residual_is _ _ c.from_residual-in_err-place.ensures) (evaluates_then _ c.in_ok-value.ensures.does (evaluates_refused _ (evaluates_yielded c.in_err-place.ensures.number)))

pub other_number-returns-clause-does : goal.other_number-returns-clause-does
other_number-returns-clause-does g t c = evaluates_then _ c.in_ok-value.ensures.does (evaluates_seen c.in_ok-place.field-0 tt refl (evaluates_yielded c.in_ok-place.ensures.number))

-- ---- a chain

pub with_rest-returns-in_err-count : goal.with_rest-returns-in_err-count
with_rest-returns-in_err-count g t c =
    let same = ap kind_text (sym c.in-Number.is) ∙ c.kind.ensures in
    let stops = rw same at c.in_err-count.ensures.stops in
    rw (residual_is _ _ c.from_residual.ensures) (evaluates_refused _ stops)

pub with_rest-returns : goal.with_rest-returns
with_rest-returns g t c =
    let same = ap kind_text (sym c.in-Number.is) ∙ c.kind.ensures in
    let leads = rw same at c.in_ok-count.ensures.leads in
    let rest = rw (c.of_number.ensures, c.tails_behind.ensures) at c.with_tails-2.ensures in
    leads_into leads rest

pub chain-loop-i-init : goal.chain-loop-i-init
chain-loop-i-init g t c = record {
  keeps = keeps_itself c.args.self.now;
  leads = leads_itself _ c.args.self.now;
}

pub chain-loop-i-preserved : goal.chain-loop-i-preserved
chain-loop-i-preserved g t c = record {
  keeps = keeps_on c.loop-i.invariant.keeps c.in_ok-operand_number.ensures.does.keeps;
  leads =
      leads_on c.loop-i.invariant.leads
      (step_leads c.args.tails.now c.loop-i.i c.index-tails-i.result c.in-Some.operator c.loop-i.left (operand_tree c.in-Apply.operand) (units c.operand_number.new.place) c.calculate.new.left (omega arith) c.index-tails-i.is
      (ap tail_tree c.in-Apply.is ∙ apply_is c.in-Apply.operator c.in-Apply.operand ∙ ap (λ o. apply o (operand_tree c.in-Apply.operand)) (sym c.in-Some.ensures))
      c.in_ok-operand_number.ensures.does c.in_ok-calculate.ensures);
}

pub chain-returns-in_err-operand_number-clause-stops : goal.chain-returns-in_err-operand_number-clause-stops
chain-returns-in_err-operand_number-clause-stops g t c =
    rw (residual_is _ _ c.from_residual.ensures)
    (c.loop-i.invariant.leads.on _ _
    (operand_refused c.args.tails.now c.loop-i.i c.index-tails-i.result c.in-Some.operator c.loop-i.left (operand_tree c.in-Apply.operand) _ (omega arith) c.index-tails-i.is
    (ap tail_tree c.in-Apply.is ∙ apply_is c.in-Apply.operator c.in-Apply.operand ∙ ap (λ o. apply o (operand_tree c.in-Apply.operand)) (sym c.in-Some.ensures))
    c.in_err-operand_number.ensures.does))

pub chain-returns-in_err-calculate-clause-stops : goal.chain-returns-in_err-calculate-clause-stops
chain-returns-in_err-calculate-clause-stops g t c =
    rw (residual_is _ _ c.from_residual-in_err-calculate.ensures)
    (c.loop-i.invariant.leads.on _ _
    (operator_refused c.args.tails.now c.loop-i.i c.index-tails-i.result c.in-Some.operator c.loop-i.left (operand_tree c.in-Apply.operand) (units c.operand_number.new.place) _ (omega arith) c.index-tails-i.is
    (ap tail_tree c.in-Apply.is ∙ apply_is c.in-Apply.operator c.in-Apply.operand ∙ ap (λ o. apply o (operand_tree c.in-Apply.operand)) (sym c.in-Some.ensures))
    c.in_ok-operand_number.ensures.does c.in_err-calculate.ensures))

pub chain-returns-clause-leads : goal.chain-returns-clause-leads
chain-returns-clause-leads g t c =
    let end : c.loop-i.i ≡ length c.args.tails.now = omega arith in
    rw end at c.loop-i.invariant.leads

pub with_tails-loop-tail-init : goal.with_tails-loop-tail-init
with_tails-loop-tail-init g t c = record {
  fewer = omega arith;
  leads = λ f r e k. k;
}

pub with_tails-returns-in_err-tail : goal.with_tails-returns-in_err-tail
with_tails-returns-in_err-tail g t c =
    rw (residual_is _ _ c.from_residual.ensures)
    (c.loop-tail.invariant.leads _ _ _ (from_tail _ c.args.tails.now c.loop-tail.tail-index c.tail-item.result c.loop-tail.value _ c.loop-tail-test.true c.tail-item.is (evaluates_failed _ c.in_err-tail.ensures)))

pub with_tails-loop-tail-preserved : goal.with_tails-loop-tail-preserved
with_tails-loop-tail-preserved g t c = record {
  fewer = omega arith;
  leads = λ f r e k.
      c.loop-tail.invariant.leads f r e
      (from_tail f c.args.tails.now c.loop-tail.tail-index c.tail-item.result c.loop-tail.value r c.loop-tail-test.true c.tail-item.is (evaluates_then _ c.in_ok-tail.ensures k));
}

pub with_tails-returns : goal.with_tails-returns
with_tails-returns g t c = c.loop-tail.invariant.leads _ _ _ (from_end (λ (u : Unit {0}). c.loop-tail.value) c.args.tails.now c.loop-tail.tail-index tt c.loop-tail-test.false)

-- ---- arguments

pub values-returns-in_err-value : goal.values-returns-in_err-value
values-returns-in_err-value g t c =
    rw (residual_is _ _ c.from_residual.ensures) (value_failed (λ (v : List Text). v) c.args.exprs.now 0 c.e-item.result [] _ (omega (arith, c.in-len1.len_at_least)) c.e-item.is c.in_err-value.ensures.does)

pub values-returns-in-len1 : goal.values-returns-in-len1
values-returns-in-len1 g t c =
    let end = values_end (λ (v : List Text). v) c.args.exprs.now 1 (c.in_ok-value.value ∷ []) (omega (arith, c.in-len1.len_below)) in
    rw c.one.ensures (next_value (λ (v : List Text). v) c.args.exprs.now 0 c.e-item.result [] _ _ (omega (arith, c.in-len1.len_at_least)) c.e-item.is c.in_ok-value.ensures.does end)

pub values-loop-e-init : goal.values-loop-e-init
values-loop-e-init g t c = record {
  fewer = omega arith;
  leads = λ r e k. rw c.in_ok-values.ensures.items at k;
}

pub values-returns-in_err-value-2 : goal.values-returns-in_err-value-2
values-returns-in_err-value-2 g t c =
    rw (residual_is _ _ c.from_residual-in_err-value-2.ensures)
    (c.loop-e.invariant.leads _ _ (value_failed (λ (v : List Text). v) c.args.exprs.now c.loop-e.e-index c.e-item-in-loop-e.result _ _ c.loop-e-test.true c.e-item-in-loop-e.is c.in_err-value-2.ensures.does))

pub values-returns-in_err-push : goal.values-returns-in_err-push
values-returns-in_err-push g t c =
    c.loop-e.invariant.leads _ _
    (next_value (λ (v : List Text). v) c.args.exprs.now c.loop-e.e-index c.e-item-in-loop-e.result _ _ _ c.loop-e-test.true c.e-item-in-loop-e.is c.in_ok-value-2.ensures.does
    (evaluates_wanting _ _ _ c.from_residual-in_err-push.ensures))

pub values-loop-e-preserved : goal.values-loop-e-preserved
values-loop-e-preserved g t c = record {
  fewer = omega arith;
  leads = λ r e k.
      let k = rw c.in_ok-push.ensures.items at k in
      c.loop-e.invariant.leads r e
      (next_value (λ (v : List Text). v) c.args.exprs.now c.loop-e.e-index c.e-item-in-loop-e.result _ _ r c.loop-e-test.true c.e-item-in-loop-e.is c.in_ok-value-2.ensures.does k);
}

pub values-returns : goal.values-returns
values-returns g t c = rw c.of_vec.ensures (c.loop-e.invariant.leads _ _ (values_end (λ (v : List Text). v) c.args.exprs.now c.loop-e.e-index c.loop-e.values.items c.loop-e-test.false))

-- ---- two and three values

pub fast_two-returns-in_err-first : goal.fast_two-returns-in_err-first
fast_two-returns-in_err-first g t c =
    rw (residual_is _ _ c.from_residual.ensures)
    (value_failed (λ (v : List Text). v) c.args.exprs.now 0 c.index-exprs-0.result [] _ (omega (arith, c.requires)) c.index-exprs-0.is c.in_err-first.ensures.does)

pub fast_two-returns-in_err-second : goal.fast_two-returns-in_err-second
fast_two-returns-in_err-second g t c =
    rw (residual_is _ _ c.from_residual-in_err-second.ensures)
    (next_value (λ (v : List Text). v) c.args.exprs.now 0 c.index-exprs-0.result [] _ _ (omega (arith, c.requires)) c.index-exprs-0.is c.in_ok-first.ensures.does
    (value_failed (λ (v : List Text). v) c.args.exprs.now 1 c.index-exprs-1.result (c.in_ok-first.first ∷ []) _ (omega (arith, c.requires)) c.index-exprs-1.is c.in_err-second.ensures.does))

pub fast_two-returns : goal.fast_two-returns
fast_two-returns g t c =
    (next_value (λ (v : List Text). v) c.args.exprs.now 0 c.index-exprs-0.result [] _ _ (omega (arith, c.requires)) c.index-exprs-0.is c.in_ok-first.ensures.does
    (next_value (λ (v : List Text). v) c.args.exprs.now 1 c.index-exprs-1.result (c.in_ok-first.first ∷ []) _ _ (omega (arith, c.requires)) c.index-exprs-1.is c.in_ok-second.ensures.does
    (values_end (λ (v : List Text). v) c.args.exprs.now 2 (c.in_ok-first.first ∷ c.in_ok-second.second ∷ []) (omega (arith, c.requires)))))

pub fast_three-returns-in_err-first : goal.fast_three-returns-in_err-first
fast_three-returns-in_err-first g t c =
    rw (residual_is _ _ c.from_residual.ensures)
    (value_failed (λ (v : List Text). v) c.args.exprs.now 0 c.index-exprs-0.result [] _ (omega (arith, c.requires)) c.index-exprs-0.is c.in_err-first.ensures.does)

pub fast_three-returns-in_err-second : goal.fast_three-returns-in_err-second
fast_three-returns-in_err-second g t c =
    rw (residual_is _ _ c.from_residual-in_err-second.ensures)
    (next_value (λ (v : List Text). v) c.args.exprs.now 0 c.index-exprs-0.result [] _ _ (omega (arith, c.requires)) c.index-exprs-0.is c.in_ok-first.ensures.does
    (value_failed (λ (v : List Text). v) c.args.exprs.now 1 c.index-exprs-1.result (c.in_ok-first.first ∷ []) _ (omega (arith, c.requires)) c.index-exprs-1.is c.in_err-second.ensures.does))

pub fast_three-returns-in_err-third : goal.fast_three-returns-in_err-third
fast_three-returns-in_err-third g t c =
    rw (residual_is _ _ c.from_residual-in_err-third.ensures)
    (next_value (λ (v : List Text). v) c.args.exprs.now 0 c.index-exprs-0.result [] _ _ (omega (arith, c.requires)) c.index-exprs-0.is c.in_ok-first.ensures.does
    (next_value (λ (v : List Text). v) c.args.exprs.now 1 c.index-exprs-1.result (c.in_ok-first.first ∷ []) _ _ (omega (arith, c.requires)) c.index-exprs-1.is c.in_ok-second.ensures.does
    (value_failed (λ (v : List Text). v) c.args.exprs.now 2 c.index-exprs-2.result (c.in_ok-first.first ∷ c.in_ok-second.second ∷ []) _ (omega (arith, c.requires)) c.index-exprs-2.is c.in_err-third.ensures.does)))

pub fast_three-returns : goal.fast_three-returns
fast_three-returns g t c =
    (next_value (λ (v : List Text). v) c.args.exprs.now 0 c.index-exprs-0.result [] _ _ (omega (arith, c.requires)) c.index-exprs-0.is c.in_ok-first.ensures.does
    (next_value (λ (v : List Text). v) c.args.exprs.now 1 c.index-exprs-1.result (c.in_ok-first.first ∷ []) _ _ (omega (arith, c.requires)) c.index-exprs-1.is c.in_ok-second.ensures.does
    (next_value (λ (v : List Text). v) c.args.exprs.now 2 c.index-exprs-2.result (c.in_ok-first.first ∷ c.in_ok-second.second ∷ []) _ _ (omega (arith, c.requires)) c.index-exprs-2.is c.in_ok-third.ensures.does
    (values_end (λ (v : List Text). v) c.args.exprs.now 3 (c.in_ok-first.first ∷ c.in_ok-second.second ∷ c.in_ok-third.third ∷ []) (omega (arith, c.requires))))))

-- ---- choices

pub chosen-loop-choice-init : goal.chosen-loop-choice-init
chosen-loop-choice-init g t c = record {
  fewer = omega arith;
  leads = λ r e k. k;
}

pub chosen-returns-in_err-condition : goal.chosen-returns-in_err-condition
chosen-returns-in_err-condition g t c =
    rw (residual_is _ _ c.from_residual.ensures)
    (c.loop-choice.invariant.leads _ _ (next_choice c.args.choices.now c.loop-choice.choice-index c.choice-item.result _ c.loop-choice-test.true c.choice-item.is (evaluates_failed _ c.in_err-condition.ensures.does)))

pub chosen-returns-in_err-truth_of : goal.chosen-returns-in_err-truth_of
chosen-returns-in_err-truth_of g t c =
    rw (residual_is _ _ c.from_residual-in_err-truth_of.ensures)
    (c.loop-choice.invariant.leads _ _
    (next_choice c.args.choices.now c.loop-choice.choice-index c.choice-item.result _ c.loop-choice-test.true c.choice-item.is
    (evaluates_then _ c.in_ok-condition.ensures.does (evaluates_failed _ (evaluates_yielded c.in_err-truth_of.ensures.truth)))))

pub chosen-returns-then-branch : goal.chosen-returns-then-branch
chosen-returns-then-branch g t c =
    c.loop-choice.invariant.leads _ _
    (next_choice c.args.choices.now c.loop-choice.choice-index c.choice-item.result _ c.loop-choice-test.true c.choice-item.is
    (evaluates_then _ c.in_ok-condition.ensures.does
    (evaluates_then _ (evaluates_yielded c.in_ok-truth_of.ensures.truth) (is_chosen c.in_ok-truth_of.field-0 _ _ c.if-branch.true c.eval-then-branch.ensures.does))))

pub chosen-loop-choice-preserved : goal.chosen-loop-choice-preserved
chosen-loop-choice-preserved g t c = record {
  fewer = omega arith;
  leads = λ r e k.
      c.loop-choice.invariant.leads r e
      (next_choice c.args.choices.now c.loop-choice.choice-index c.choice-item.result r c.loop-choice-test.true c.choice-item.is
      (evaluates_then _ c.in_ok-condition.ensures.does (evaluates_then _ (evaluates_yielded c.in_ok-truth_of.ensures.truth) (not_chosen c.in_ok-truth_of.field-0 _ _ c.if-branch.false k))));
}

pub chosen-returns : goal.chosen-returns
chosen-returns g t c = c.loop-choice.invariant.leads _ _ (none_chosen c.args.choices.now c.loop-choice.choice-index c.loop-choice-test.false)
