-- SPDX-License-Identifier: Apache-2.0
use Rattle.mexec.proofs.ExecLaws.{Some, List, Option, refl, sym, map, ◌>>=◌, ◌>>◌, Act, Text, Target, Level, deeper, target, Context, context, closed}
use Rattle.mexec.proofs.ExecLaws.{closing_of, in_level, depth_of, entry_tree, position_of, Position, Completion, runs_as, runs_then, runs_stopped, at_any}
use Rattle.mexec.proofs.ExecLaws.{is_within, target_entered, lines_opened}
use Rattle.mspec.specs.Scopes.{Binding}
use Rattle.mmeaning.proofs.Calls.{assoc}
use Rattle.mgrammar.specs.Grammar.{ActualsTree}
use Rattle.mlocal.specs.Bindings.{binding_of}
use Rattle.mmeaning.specs.Levels.{Closing}
use Rattle.mmeaning.specs.Parameters.{formals_of_target, formals_for, with_formals}
use Rattle.mmeaning.specs.Programs.{listed}
use Rattle.mmeaning.specs.LineMeaning.{lines_called}
use Rattle.mcommand.specs.Targets.{target_view}
use Rattle.mexec.specs.Entering.{so_deep}
use Rattle.mexec.proofs.entering.entering.Goals as goal

-- once the formal parameters are known
abbrev opened : Context → Closing → Target → Option (List (Text × Binding)) → Act Completion
opened x c t formals = in_level x (record { copy = t.copy; next = Some t.line; dots = 0 }) c (with_formals formals) lines_called

-- once the line is
abbrev found : Context → Closing → ActualsTree → List Binding → Target → Act Completion
found x c xs bs t = formals_of_target t >>= (λ names. formals_for xs names bs >>= opened x c t)

pub returns-in_err-depth-clause-does : goal.returns-in_err-depth-clause-does
returns-in_err-depth-clause-does g c =
    let p = so_deep (depth_of c.args.opening.depth) (position_of c.args.position.now) in
    let o = c.args.opening in
    runs_stopped (λ a n _. target p.level.copy 0 (entry_tree o.entry.now) >>= found (context a n p) (closing_of o.closing) (listed o.is_listed) (map binding_of o.bindings.items)) c.in_err-depth.ensures.does c.from_residual.ensures

pub returns-in_err-target-clause-does : goal.returns-in_err-target-clause-does
returns-in_err-target-clause-does g c =
    let p = so_deep (depth_of c.args.opening.depth) (position_of c.args.position.now) in
    let o = c.args.opening in
    let bs = map binding_of o.bindings.items in
    runs_then (λ a n _. target p.level.copy 0 (entry_tree o.entry.now) >>= found (context a n p) (closing_of o.closing) (listed o.is_listed) bs) c.in_ok-depth.ensures.does
    (runs_stopped (λ a n. found (context a n p) (closing_of o.closing) (listed o.is_listed) bs) (at_any c.in_err-target.ensures.does) c.from_residual-in_err-target.ensures)

pub returns-in_err-formals-clause-does : goal.returns-in_err-formals-clause-does
returns-in_err-formals-clause-does g c =
    let p = so_deep (depth_of c.args.opening.depth) (position_of c.args.position.now) in
    let o = c.args.opening in
    let k = closing_of o.closing in
    let xs = listed o.is_listed in
    let bs = map binding_of o.bindings.items in
    let t = target_view c.in_ok-target.target in
    runs_then (λ a n _. target p.level.copy 0 (entry_tree o.entry.now) >>= found (context a n p) k xs bs) c.in_ok-depth.ensures.does
    (runs_then (λ a n. found (context a n p) k xs bs) (at_any c.in_ok-target.ensures.does)
    (runs_as (λ a n. sym (assoc (formals_of_target t) (λ names. formals_for xs names bs) (opened (context a n p) k t)))
    (runs_stopped (λ a n. opened (context a n p) k t) c.in_err-formals.ensures c.from_residual-in_err-formals.ensures)))

pub returns-in_err-open_with-clause-does : goal.returns-in_err-open_with-clause-does
returns-in_err-open_with-clause-does g c =
    let p = so_deep (depth_of c.args.opening.depth) (position_of c.args.position.now) in
    let o = c.args.opening in
    let k = closing_of o.closing in
    let xs = listed o.is_listed in
    let bs = map binding_of o.bindings.items in
    let t = target_view c.in_ok-target.target in
    let l : Level = record { copy = t.copy; next = Some t.line; dots = 0 } in
    runs_then (λ a n _. target p.level.copy 0 (entry_tree o.entry.now) >>= found (context a n p) k xs bs) c.in_ok-depth.ensures.does
    (runs_then (λ a n. found (context a n p) k xs bs) (at_any c.in_ok-target.ensures.does)
    (runs_as (λ a n. sym (assoc (formals_of_target t) (λ names. formals_for xs names bs) (opened (context a n p) k t)))
    (runs_then (λ a n. opened (context a n p) k t) c.in_ok-formals.ensures
    (runs_stopped (λ a n _. lines_called (context a n (deeper k p l)) >>= closed k) c.in_err-open_with.ensures c.from_residual-in_err-open_with.ensures))))

pub returns-clause-does : goal.returns-clause-does
returns-clause-does g c =
    let p = so_deep (depth_of c.args.opening.depth) (position_of c.args.position.now) in
    let o = c.args.opening in
    let k = closing_of o.closing in
    let xs = listed o.is_listed in
    let bs = map binding_of o.bindings.items in
    let t = target_view c.in_ok-target.target in
    let l : Level = record { copy = t.copy; next = Some t.line; dots = 0 } in
    let inner : Position = record { depth = depth_of c.in_ok-depth.depth; level = l } in
    let deep = rw c.wants_value.ensures at c.in_ok-depth.ensures.deeper in
    runs_then (λ a n _. target p.level.copy 0 (entry_tree o.entry.now) >>= found (context a n p) k xs bs) c.in_ok-depth.ensures.does
    (runs_then (λ a n. found (context a n p) k xs bs) (at_any c.in_ok-target.ensures.does)
    (runs_as (λ a n. sym (assoc (formals_of_target t) (λ names. formals_for xs names bs) (opened (context a n p) k t)))
    (runs_then (λ a n. opened (context a n p) k t) c.in_ok-formals.ensures
    (runs_then (λ a n _. lines_called (context a n (deeper k p l)) >>= closed k) c.in_ok-open_with.ensures
    (lines_opened p (depth_of c.in_ok-depth.depth) k deep l
    (runs_as (λ a n. target_entered a n inner k _ 0 t.line refl c.in_ok-target.ensures.stands) c.enter_line.ensures.does))))))

pub formals_of_target-requires : goal.formals_of_target-requires
formals_of_target-requires g c = is_within _ 0 c.in_ok-target.target.line c.in_ok-target.target.copy.value.items c.in_ok-target.ensures.stands

pub enter_line-requires : goal.enter_line-requires
enter_line-requires g c = is_within _ 0 c.in_ok-target.target.line c.in_ok-target.target.copy.value.items c.in_ok-target.ensures.stands
