-- SPDX-License-Identifier: Apache-2.0
use Rattle.mstore.proofs.Words.{refl, arith, ◌≡◌, ◌≤◌, ◌∷◌, ◌++◌, ◌∙◌, [], Some, None, Err, sym, ap, subst, rules, option_copied, significant_digits, Each, sql}
use Rattle.mstore.proofs.Words.{state, doubt_of, Stays}
use Rattle.sqlite.specs.Given.{Advances, row_if}
use Rattle.mstore.proofs.Doubting.{clean_if, open_if, order, failed_query_open, rises_on, sure_before, unchanged_open}
use Rattle.mstore.proofs.States.{failed_query_stays}
use Rattle.mstore.proofs.Reading.{SoFar, all_begun, begun_open, given_other, kept_open, kept_stays, none_yet, one_further, read_nodes, read_numbered}
use Rattle.mstore.proofs.Reading.{twice_stays}
use Rattle.sqlite.proofs.Callers.{unchanged_then}
use Rattle.mstore.specs.declared.open_fault.OpenFault.TheVariants.{BadKey}
use Rattle.mstore.proofs.opening.test_nodes.Goals as goal

pub returns-in-Err-clause-order : goal.returns-in-Err-clause-order
returns-in-Err-clause-order g c =
    let old = state g.S.Store c.args.conn.now in
    let new = state g.S.Store c.query.follows.lender-at-none in
    let held = rw c.in-Err.is at c.query.follows.holds-at-none in
    order old new held.survives.clean (λ clean. failed_query_open old new (sql Each) [] c.in-Err.error (held.err clean))

pub returns-in-Err-clause-stays : goal.returns-in-Err-clause-stays
returns-in-Err-clause-stays g c sure calm =
    let old = state g.S.Store c.args.conn.now in
    let new = state g.S.Store c.query.follows.lender-at-none in
    let held = rw c.in-Err.is at c.query.follows.holds-at-none in
    failed_query_stays old new calm.idle (open_if new sure) (sql Each) [] c.in-Err.error (held.err (clean_if new sure))

pub rows-init : goal.rows-init
rows-init g c =
    let old = c.args.conn.now in
    let new = c.in-Ok.rows.conn.now in
    let made = c.in-Ok.ensures in
    record {
      lender = refl;
      order = order (state g.S.Store old) (state g.S.Store new) made.survives.clean (λ clean. begun_open g.S.Store (sql Each) [] old new (made.begun clean));
      read = λ sure calm.
          let begun = all_begun g.S.Store old new calm (made.begun (clean_if (state g.S.Store new) sure)) in
          (begun.1, [], begun.0, none_yet significant_digits);
    }

pub returns-in-Err-advance-clause-order : goal.returns-in-Err-advance-clause-order
returns-in-Err-advance-clause-order g c =
    let was = c.rows.rows.conn.now in
    let now = c.advance.new.self.conn.now in
    let falls : doubt_of g.S.Store was ≤ doubt_of g.S.Store now =
    order (state g.S.Store was) (state g.S.Store now) c.advance.ensures.survives.clean
    (λ clean. kept_open (state g.S.Store was) (state g.S.Store now) c.in-Err-advance.error (c.in-Err-advance.ensures.kept clean)) in
    let done : doubt_of g.S.Store c.args.conn.now ≤ doubt_of g.S.Store now = rises_on c.rows.invariant.order falls in
    search rules

pub returns-in-Err-advance-clause-stays : goal.returns-in-Err-advance-clause-stays
returns-in-Err-advance-clause-stays g c sure calm =
    let was = c.rows.rows.conn.now in
    let now = c.advance.new.self.conn.now in
    let late : doubt_of g.S.Store now ≡ 0 = search rules in
    let falls : doubt_of g.S.Store was ≤ doubt_of g.S.Store now =
    order (state g.S.Store was) (state g.S.Store now) c.advance.ensures.survives.clean
    (λ clean. kept_open (state g.S.Store was) (state g.S.Store now) c.in-Err-advance.error (c.in-Err-advance.ensures.kept clean)) in
    let read = c.rows.invariant.read (sure_before late falls) calm in
    let done : Stays (state g.S.Store c.args.conn.now) (state g.S.Store now) =
    kept_stays (state g.S.Store c.args.conn.now) (state g.S.Store was) (state g.S.Store now) c.in-Err-advance.error calm read.0
    (open_if (state g.S.Store now) late)
    (c.in-Err-advance.ensures.kept (clean_if (state g.S.Store now) late)) in
    search rules

pub returns-in_default-clause-order : goal.returns-in_default-clause-order
returns-in_default-clause-order g c =
    let was = c.rows.rows.conn.now in
    let now = c.advance.new.self.conn.now in
    let falls : doubt_of g.S.Store was ≤ doubt_of g.S.Store now =
    order (state g.S.Store was) (state g.S.Store now) c.advance.ensures.survives.clean (λ clean. unchanged_open _ _ (c.in-Ok-advance.ensures.same clean)) in
    let done : doubt_of g.S.Store c.args.conn.now ≤ doubt_of g.S.Store now = rises_on c.rows.invariant.order falls in
    search rules

pub returns-in_default-clause-stays : goal.returns-in_default-clause-stays
returns-in_default-clause-stays g c sure calm =
    let was = c.rows.rows.conn.now in
    let now = c.advance.new.self.conn.now in
    let late : doubt_of g.S.Store now ≡ 0 = search rules in
    let falls : doubt_of g.S.Store was ≤ doubt_of g.S.Store now =
    order (state g.S.Store was) (state g.S.Store now) c.advance.ensures.survives.clean (λ clean. unchanged_open _ _ (c.in-Ok-advance.ensures.same clean)) in
    let read = c.rows.invariant.read (sure_before late falls) calm in
    let done : Stays (state g.S.Store c.args.conn.now) (state g.S.Store now) =
    twice_stays (state g.S.Store c.args.conn.now) (state g.S.Store was) (state g.S.Store now) calm read.0
    (c.in-Ok-advance.ensures.same (clean_if (state g.S.Store now) late)) in
    search rules

pub returns-in_default-clause-numbered : goal.returns-in_default-clause-numbered
returns-in_default-clause-numbered g c sure calm =
    let old = state g.S.Store c.args.conn.now in
    let was = c.rows.rows.conn.now in
    let now = c.advance.new.self.conn.now in
    let late : doubt_of g.S.Store now ≡ 0 = search rules in
    let clean = clean_if (state g.S.Store now) late in
    let falls : doubt_of g.S.Store was ≤ doubt_of g.S.Store now =
    order (state g.S.Store was) (state g.S.Store now) c.advance.ensures.survives.clean (λ sound. unchanged_open _ _ (c.in-Ok-advance.ensures.same sound)) in
    let read = c.rows.invariant.read (sure_before late falls) calm in
    let none : row_if c.advance.new.self.has_row now ≡ None = sym c.get.ensures ∙ ap option_copied c.in_default.is in
    let shown = subst (λ r. Advances g.S.Store was now r) none (c.in-Ok-advance.ensures.ok clean) (sql Each) [] read.1 read.2 in
    read_numbered significant_digits old (state g.S.Store was) calm read.0 (state g.S.Store now) read.1 c.rows.last read.3 shown

pub returns-in_default-clause-nodes : goal.returns-in_default-clause-nodes
returns-in_default-clause-nodes g c sure calm =
    let old = state g.S.Store c.args.conn.now in
    let was = c.rows.rows.conn.now in
    let now = c.advance.new.self.conn.now in
    let late : doubt_of g.S.Store now ≡ 0 = search rules in
    let clean = clean_if (state g.S.Store now) late in
    let falls : doubt_of g.S.Store was ≤ doubt_of g.S.Store now =
    order (state g.S.Store was) (state g.S.Store now) c.advance.ensures.survives.clean (λ sound. unchanged_open _ _ (c.in-Ok-advance.ensures.same sound)) in
    let read = c.rows.invariant.read (sure_before late falls) calm in
    let none : row_if c.advance.new.self.has_row now ≡ None = sym c.get.ensures ∙ ap option_copied c.in_default.is in
    let shown = subst (λ r. Advances g.S.Store was now r) none (c.in-Ok-advance.ensures.ok clean) (sql Each) [] read.1 read.2 in
    read_nodes significant_digits old (state g.S.Store was) calm read.0 (state g.S.Store now) read.1 c.rows.last read.3 shown

pub returns-in_err-test_row-clause-order : goal.returns-in_err-test_row-clause-order
returns-in_err-test_row-clause-order g c =
    let was = c.rows.rows.conn.now in
    let now = c.advance.new.self.conn.now in
    let falls : doubt_of g.S.Store was ≤ doubt_of g.S.Store now =
    order (state g.S.Store was) (state g.S.Store now) c.advance.ensures.survives.clean (λ clean. unchanged_open _ _ (c.in-Ok-advance.ensures.same clean)) in
    let done : doubt_of g.S.Store c.args.conn.now ≤ doubt_of g.S.Store now = rises_on c.rows.invariant.order falls in
    search rules

pub returns-in_err-test_row-clause-stays : goal.returns-in_err-test_row-clause-stays
returns-in_err-test_row-clause-stays g c sure calm =
    let was = c.rows.rows.conn.now in
    let now = c.advance.new.self.conn.now in
    let late : doubt_of g.S.Store now ≡ 0 = search rules in
    let falls : doubt_of g.S.Store was ≤ doubt_of g.S.Store now =
    order (state g.S.Store was) (state g.S.Store now) c.advance.ensures.survives.clean (λ clean. unchanged_open _ _ (c.in-Ok-advance.ensures.same clean)) in
    let read = c.rows.invariant.read (sure_before late falls) calm in
    let done : Stays (state g.S.Store c.args.conn.now) (state g.S.Store now) =
    twice_stays (state g.S.Store c.args.conn.now) (state g.S.Store was) (state g.S.Store now) calm read.0
    (c.in-Ok-advance.ensures.same (clean_if (state g.S.Store now) late)) in
    search rules

pub returns-in_err-test_row-clause-key : goal.returns-in_err-test_row-clause-key
returns-in_err-test_row-clause-key g c sure calm bad =
    let old = state g.S.Store c.args.conn.now in
    let was = c.rows.rows.conn.now in
    let now = c.advance.new.self.conn.now in
    let late : doubt_of g.S.Store now ≡ 0 = search rules in
    let clean = clean_if (state g.S.Store now) late in
    let falls : doubt_of g.S.Store was ≤ doubt_of g.S.Store now =
    order (state g.S.Store was) (state g.S.Store now) c.advance.ensures.survives.clean (λ sound. unchanged_open _ _ (c.in-Ok-advance.ensures.same sound)) in
    let read = c.rows.invariant.read (sure_before late falls) calm in
    let some : row_if c.advance.new.self.has_row now ≡ Some c.in-Some.row.now = sym c.get.ensures ∙ ap option_copied c.in-Some.is in
    let given = subst (λ r. Advances g.S.Store was now r) some (c.in-Ok-advance.ensures.ok clean) (sql Each) [] read.1 read.2 in
    let refused : c.test_row.result ≡ Err BadKey = grind arith in
    given_other g.S.Store significant_digits old now read.1 c.in-Some.row.now calm
    (unchanged_then old (state g.S.Store was) (state g.S.Store now) read.0 (c.in-Ok-advance.ensures.same clean)) given
    (c.test_row.ensures.key refused)

pub rows-preserved : goal.rows-preserved
rows-preserved g c =
    let old = state g.S.Store c.args.conn.now in
    let was = c.rows.rows.conn.now in
    let now = c.advance.new.self.conn.now in
    let falls : doubt_of g.S.Store was ≤ doubt_of g.S.Store now =
    order (state g.S.Store was) (state g.S.Store now) c.advance.ensures.survives.clean (λ sound. unchanged_open _ _ (c.in-Ok-advance.ensures.same sound)) in
    let some : row_if c.advance.new.self.has_row now ≡ Some c.in-Some.row.now = sym c.get.ensures ∙ ap option_copied c.in-Some.is in
    let row = c.in-Some.row.now in
    let tested = c.in_ok-test_row.ensures in
    record {
      lender = c.advance.ensures.same_reference ∙ c.rows.invariant.lender;
      order = rises_on c.rows.invariant.order falls;
      read = λ late calm.
          let clean = clean_if (state g.S.Store now) late in
          let read = c.rows.invariant.read (sure_before late falls) calm in
          let given = subst (λ r. Advances g.S.Store was now r) some (c.in-Ok-advance.ensures.ok clean) (sql Each) [] read.1 read.2 in
          let further : SoFar significant_digits (read.1 ++ row ∷ []) (Some c.in_ok-test_row.field-0) =
          one_further significant_digits read.1 c.rows.last row c.in_ok-test_row.field-0 read.3 tested.number.0 tested.number.1 tested.node in (
            unchanged_then old (state g.S.Store was) (state g.S.Store now) read.0 (c.in-Ok-advance.ensures.same clean),
            read.1 ++ row ∷ [],
            given,
            search rules,
          );
    }
